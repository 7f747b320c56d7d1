use Rattle.std.specs.Prelude.{Bool, true, false, ◌==◌}
use Rattle.std.proofs.lemmas.Bool.{eqb-true}
use Rattle.std.proofs.Common.{◌≡◌, zero, suc, ℕ, ◌+◌, ◌-◌, ◌*◌, ◌/◌, ◌<◌, ◌≤◌, ◌++◌, List, [], ◌∷◌, length, take, drop, refl, arith, ap, sym, ◌∙◌, subst, append_assoc, length-append}
use Rattle.std.proofs.lemmas.List.{take_all}
use Rattle.site_disk.specs.ImagesLaws.{begins}
use Rattle.site_disk.specs.CallsLaws.{uses_nothing, on_ok}
use Rattle.block_chain.specs.Blocks.{ascending}
use Rattle.object_volume.specs.Objects.{place_of, bytes_at, Spares}
use Rattle.object_volume.specs.ObjectsLaws.{spares_none, places-nil, bytes_at-nil}
use Rattle.object_volume.specs.Taking.{Takes}
use Rattle.object_volume.proofs.OutsideLemmas.{writes_again}
use Rattle.object_volume.proofs.TakingLemmas.{takes_again, taken_below}
use Rattle.object_volume.proofs.PuttingLemmas.{neighbours_more, places-single, flushed_crash, flushed_uses, flushed_bound, flushed_grown, flushed_ends, flushed_spares, flushed_stands, length-flushed, putting_at, put_all, puts_nothing}
use Rattle.object_volume.proofs.writing.write_blocks.Goals as goal
use Rattle.object_volume.proofs.writing.write_blocks.Goals.{then-place-start+in_ok-write_run, else-place-start}

not_empty : (n : ℕ) (b : Bool) → b ≡ (n == 0) → b ≡ false → 0 < n
not_empty zero b is other = cc
not_empty (suc n) b is other = omega arith

pub loop-at-init : goal.loop-at-init
loop-at-init g c =
    let file = g.D.Disk.bytes c.args.disk.now in
    let block = c.take_block.result in
    let takes = c.take_block.ensures.takes in
    let below = taken_below c.args.chains.now c.take_block.new.chains c.args.list.now c.take_block.new.list block takes in
    record {
      done = [];
      run = block ∷ [];
      takes = takes;
      first = refl;
      upto = refl;
      some = omega arith;
      within = omega (arith, not_empty (length c.args.piece.now) c.is_empty.result c.is_empty.ensures c.if-is_empty.false, c.requires.whole);
      low = omega arith;
      before_end = omega (arith, c.place_of-start.ensures, below);
      neighbours = places-single block ∙ ap (λ (k : ℕ). ascending k 4096) (sym c.place_of-start.ensures);
      stands = λ tells. ap (bytes_at file) places-nil ∙ bytes_at-nil file;
      spared = λ tells. spares_none [] (length file) file;
      crash = λ tells. begins (Spares c.args.chains.now.free (length file)) (Spares c.args.chains.now.free (length file)) c.args.era.now.number
          (g.D.Disk.image c.args.disk.now) (g.D.Disk.image c.args.disk.now) (g.D.Disk.image c.args.disk.now) (λ b. spares_none c.args.chains.now.free (length file) b);
      uses = writes_again (uses_nothing c.requires.era) (uses_nothing c.requires.era) (omega arith);
      reaches = c.requires.reached;
      grown = λ tells. omega arith;
      ends = λ tells. omega arith;
    }

pub returns-in_err-write_run-clause-crash : goal.returns-in_err-write_run-clause-crash
returns-in_err-write_run-clause-crash g c tells =
    let slice = take (c.loop-at.at - c.loop-at.from) (drop c.loop-at.from c.args.piece.now) in
    flushed_crash c.loop-at.invariant c.write_run.new.disk slice refl tells c.write_run.ensures.crash

pub returns-in_err-write_run-clause-ledger : goal.returns-in_err-write_run-clause-ledger
returns-in_err-write_run-clause-ledger g c =
    let so_far = c.loop-at.invariant in
    let slice = take (c.loop-at.at - c.loop-at.from) (drop c.loop-at.from c.args.piece.now) in
    flushed_uses so_far c.write_run.new.disk slice refl (length c.args.piece.now / 4096) (omega (arith, so_far.upto, so_far.within)) c.write_run.ensures.ledger

pub loop-at-preserved : goal.loop-at-preserved
loop-at-preserved g c =
    let so_far = c.loop-at.invariant in
    let piece = c.args.piece.now in
    let start = c.loop-at.start in
    let from = c.loop-at.from in
    let at = c.loop-at.at in
    let old = c.args.chains.now in
    let block = c.take_block-in-loop-at.result in
    let place = c.place_of-place.ensures in
    let one = c.take_block-in-loop-at.ensures.takes in
    let below = taken_below c.loop-at.chains c.take_block-in-loop-at.new.chains c.loop-at.list c.take_block-in-loop-at.new.list block one in
    let same = so_far.takes.blocks in
    let end : place_of block + 4096 ≤ place_of old.blocks = omega (arith, below, same) in
    let more = takes_again old c.loop-at.chains c.take_block-in-loop-at.new.chains c.args.list.now c.loop-at.list c.take_block-in-loop-at.new.list
    (so_far.done ++ so_far.run) (block ∷ []) so_far.takes one in
    let all : at + 4096 ≤ length piece = omega (arith, so_far.upto, c.loop-at-test.true, c.requires.whole) in
    elim c.if-place-start.branch [
      | then-place-start+in_ok-write_run w ↦
          let new = w.write_run.new.disk in
          let slice = take (at - from) (drop from piece) in
          let both = length-flushed so_far new slice refl in
          putting_at c.if-place-start.start c.if-place-start.from c.if-place-start.reached c.if-place-start.disk w.start-is w.from-is w.reached-is w.disk-is (record {
            done = so_far.done ++ so_far.run;
            run = block ∷ [];
            takes = more;
            first = omega (arith, so_far.upto, both);
            upto = omega (arith, so_far.upto, both);
            some = omega arith;
            within = all;
            low = omega (arith, place);
            before_end = omega (arith, place, end);
            neighbours = places-single block ∙ ap (λ (k : ℕ). ascending k 4096) (sym place) ∙ ap (ascending c.place_of-place.result) (one_block at);
            stands = λ tells. flushed_stands so_far new slice refl tells w.in_ok-write_run.ensures.bytes;
            spared = λ tells. flushed_spares so_far new slice refl tells w.in_ok-write_run.ensures.bytes;
            crash = λ tells. flushed_crash so_far new slice refl tells w.write_run.ensures.crash;
            uses = flushed_uses so_far new slice refl (length (so_far.done ++ so_far.run)) (omega (arith, both)) w.write_run.ensures.ledger;
            reaches = w.in_ok-write_run.ensures.reached;
            grown = λ tells. flushed_grown so_far new slice refl tells (w.in_ok-write_run.ensures.bytes tells) (w.write_run.ensures.spent tells);
            ends = λ tells. flushed_ends so_far new slice refl tells (w.in_ok-write_run.ensures.bytes tells);
          })
      | else-place-start w ↦
          let next : place_of block ≡ start + (at - from) = sym place ∙ w.if-place-start.false in
          putting_at c.if-place-start.start c.if-place-start.from c.if-place-start.reached c.if-place-start.disk w.start-is w.from-is w.reached-is w.disk-is (record {
            done = so_far.done;
            run = so_far.run ++ block ∷ [];
            takes = subst (Takes old c.take_block-in-loop-at.new.chains c.args.list.now c.take_block-in-loop-at.new.list) (append_assoc so_far.done so_far.run (block ∷ [])) more;
            first = so_far.first;
            upto = omega (arith, so_far.upto, length-append so_far.run (block ∷ []));
            some = omega (arith, length-append so_far.run (block ∷ []));
            within = all;
            low = so_far.low;
            before_end = omega (arith, next, end, so_far.first, so_far.upto);
            neighbours = neighbours_more so_far.run block start (at - from) so_far.neighbours next ∙ ap (ascending start) (longer at from (length so_far.done) (length so_far.run) so_far.first so_far.upto);
            stands = so_far.stands;
            spared = so_far.spared;
            crash = so_far.crash;
            uses = so_far.uses;
            reaches = so_far.reaches;
            grown = so_far.grown;
            ends = so_far.ends;
          })
    ]
  where
    one_block : (at : ℕ) → 4096 ≡ at + 4096 - at
    one_block at = omega arith

    longer : (at from done run : ℕ) → from ≡ 4096 * done → at ≡ 4096 * (done + run) → at - from + 4096 ≡ at + 4096 - from
    longer at from done run first upto = omega (arith, first, upto)

-- the last run of the piece
last_run : (at from : ℕ) (piece : List ℕ) → at ≤ length piece → length piece ≤ at → take (length piece - from) (drop from piece) ≡ take (at - from) (drop from piece)
last_run at from piece within past =
    let all : length piece - from ≡ at - from = omega arith in
    ap (λ (k : ℕ). take k (drop from piece)) all

pub returns-clause-put : goal.returns-clause-put
returns-clause-put g c =
    let so_far = c.loop-at.invariant in
    let piece = c.args.piece.now in
    let cut = last_run c.loop-at.at c.loop-at.from piece so_far.within (omega (arith, c.loop-at-test.false)) in
    let new = c.write_run-2.new.disk in
    let slice = take (length piece - c.loop-at.from) (drop c.loop-at.from piece) in
    let both = length-flushed so_far new slice cut in
    let whole : take c.loop-at.at piece ≡ piece = take_all c.loop-at.at piece (omega (arith, c.loop-at-test.false)) in
    put_all c.write_run-2.result g.D.Disk.is_modelled (so_far.done ++ so_far.run) so_far.takes (omega (arith, so_far.upto, both, so_far.within, c.loop-at-test.false))
    (λ tells wrote. flushed_stands so_far new slice cut tells (λ t. wrote) ∙ whole) (λ tells wrote. flushed_spares so_far new slice cut tells (λ t. wrote)) c.write_run-2.ensures.bytes

pub returns-clause-crash : goal.returns-clause-crash
returns-clause-crash g c tells =
    let cut = last_run c.loop-at.at c.loop-at.from c.args.piece.now c.loop-at.invariant.within (omega (arith, c.loop-at-test.false)) in
    flushed_crash c.loop-at.invariant c.write_run-2.new.disk (take (length c.args.piece.now - c.loop-at.from) (drop c.loop-at.from c.args.piece.now)) cut tells c.write_run-2.ensures.crash

pub returns-in_err-write_run-clause-bound : goal.returns-in_err-write_run-clause-bound
returns-in_err-write_run-clause-bound g c tells =
    let so_far = c.loop-at.invariant in
    let slice = take (c.loop-at.at - c.loop-at.from) (drop c.loop-at.from c.args.piece.now) in
    let bound = flushed_bound so_far c.write_run.new.disk slice refl tells (c.write_run.ensures.spent tells) in
    omega (arith, bound, so_far.within)

pub returns-clause-bound : goal.returns-clause-bound
returns-clause-bound g c tells =
    let so_far = c.loop-at.invariant in
    let cut = last_run c.loop-at.at c.loop-at.from c.args.piece.now so_far.within (omega (arith, c.loop-at-test.false)) in
    let slice = take (length c.args.piece.now - c.loop-at.from) (drop c.loop-at.from c.args.piece.now) in
    let bound = flushed_bound so_far c.write_run-2.new.disk slice cut tells (c.write_run-2.ensures.spent tells) in
    omega (arith, bound, so_far.within)

pub returns-clause-grown : goal.returns-clause-grown
returns-clause-grown g c tells =
    let so_far = c.loop-at.invariant in
    let cut = last_run c.loop-at.at c.loop-at.from c.args.piece.now so_far.within (omega (arith, c.loop-at-test.false)) in
    let new = c.write_run-2.new.disk in
    let slice = take (length c.args.piece.now - c.loop-at.from) (drop c.loop-at.from c.args.piece.now) in
    on_ok c.write_run-2.result
    (λ wrote. let grown = flushed_grown so_far new slice cut tells wrote (c.write_run-2.ensures.spent tells) in omega (arith, grown, so_far.within))
    (c.write_run-2.ensures.bytes tells)

pub returns-clause-ledger : goal.returns-clause-ledger
returns-clause-ledger g c =
    let so_far = c.loop-at.invariant in
    let cut = last_run c.loop-at.at c.loop-at.from c.args.piece.now c.loop-at.invariant.within (omega (arith, c.loop-at-test.false)) in
    flushed_uses so_far c.write_run-2.new.disk (take (length c.args.piece.now - c.loop-at.from) (drop c.loop-at.from c.args.piece.now)) cut (length c.args.piece.now / 4096) (omega (arith, so_far.upto, so_far.within)) c.write_run-2.ensures.ledger

empty : (piece : List ℕ) (b : Bool) → b ≡ (length piece == 0) → b ≡ true → piece ≡ []
empty piece b is holds = nothing piece (eqb-true (length piece) 0 (sym is ∙ holds))
  where
    nothing : (l : List ℕ) → length l ≡ 0 → l ≡ []
    nothing [] none = refl
    nothing (x ∷ xs) none = absurd (omega (arith, none))

pub returns-then-is_empty-clause-put : goal.returns-then-is_empty-clause-put
returns-then-is_empty-clause-put g c =
    puts_nothing g.D.Disk.is_modelled (g.D.Disk.bytes c.args.disk.now) c.args.chains.now c.args.list.now c.args.piece.now c.requires.own
    (empty c.args.piece.now c.is_empty.result c.is_empty.ensures c.if-is_empty.true)
