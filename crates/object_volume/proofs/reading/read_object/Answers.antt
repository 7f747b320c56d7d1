use Rattle.std.proofs.Common.{◌≡◌, ℕ, ◌+◌, ◌-◌, ◌*◌, ◌<◌, ◌≤◌, ◌++◌, ◌⊎◌, List, min, length, take, drop, refl, arith, ap, sym, ◌∙◌, get_or, append_assoc, inl, inr, subst, Result, Ok, Err, OnErr}
use Rattle.std.proofs.lemmas.List.{append-nil}
use Rattle.site_disk.specs.Bytes.{extent}
use Rattle.site_disk.specs.CallsLaws.{unchanged_again, uses_nothing, uses_again}
use Rattle.block_chain.specs.Blocks.{blocks_of_runs}
use Rattle.object_volume.specs.Cursors.{StandsIn}
use Rattle.object_volume.specs.Objects.{place_of, places, bytes_at, object_part}
use Rattle.object_volume.proofs.ReadingLemmas.{passes_run, ends_run, moves_within, part_places, run_places, skips_run, reads_run, ends_in_run, nothing_left, count_found, kept_behind}
use Rattle.object_volume.proofs.reading.read_object.Goals as goal
use Rattle.object_volume.proofs.reading.read_object.Goals.{then-got-n-via-then-got-n, then-got-n-via-else-got-n+then-done-wanted}

pub loop-next-init : goal.loop-next-init
loop-next-init g c =
    let least : c.min-wanted.result ≡ min (c.args.size - c.args.cursor.now.offset) (length c.args.into.now) = omega arith in
    let all : c.min-wanted.result ≡ c.min-wanted.result - 0 = omega arith in
    let ps : List ℕ = places (blocks_of_runs c.args.runs.now) in
    record {
      within = omega arith;
      least = least;
      room = refl;
      rest = refl;
      stands = λ tells. ap (bytes_at (g.D.Disk.bytes c.args.disk.now)) (part_places c.args.cursor.now.offset c.args.size (length c.args.into.now) c.min-wanted.result ps least
          ∙ ap (λ (k : ℕ). take k (drop c.args.cursor.now.offset ps)) all ∙ ap (take (c.min-wanted.result - 0)) (sym c.requires.stands.left));
      still = refl;
      here = c.requires.stands;
      moved = omega arith;
      content = refl;
      images = record { forth = λ f b is. is; back = λ f b is. is };
      uses = uses_nothing c.requires.era;
    }

pub loop-next-preserved-then-len-next : goal.loop-next-preserved-then-len-next
loop-next-preserved-then-len-next g c =
    let so_far = c.loop-next.invariant in
    let runs = c.args.runs.now in
    let index = c.loop-next.next.run in
    let len : ℕ = 4096 * c.from-len.result in
    let first : ℕ = place_of (get_or runs index (record { first = 0; count = 0 })).first in
    let left = run_places runs index first c.from-len.result (record { first = 0; count = 0 }) c.loop-next-test.true refl c.from-len.ensures in
    record {
      within = so_far.within;
      least = so_far.least;
      room = so_far.room;
      rest = so_far.rest;
      stands = λ tells. so_far.stands tells ∙ ap (λ (l : List ℕ). take c.loop-next.done c.loop-next.into ++ l)
          (skips_run (g.D.Disk.bytes c.args.disk.now) (c.min-wanted.result - c.loop-next.done) first len c.loop-next.next.skip
          (places (blocks_of_runs (drop index runs))) (places (blocks_of_runs (drop (index + 1) runs))) left c.if-len-next.true);
      still = so_far.still;
      here = passes_run runs c.loop-next.next so_far.here first len left c.if-len-next.true;
      moved = so_far.moved;
      content = so_far.content;
      images = so_far.images;
      uses = so_far.uses;
    }

pub loop-next-preserved : goal.loop-next-preserved
loop-next-preserved g c =
    let so_far = c.loop-next.invariant in
    let read = c.in_ok-got.ensures in
    let runs = c.args.runs.now in
    let index = c.loop-next.next.run in
    let len : ℕ = 4096 * c.from-len.result in
    let file = g.D.Disk.bytes c.args.disk.now in
    let n = c.min-n.result in
    let done = c.loop-next.done in
    let room : ℕ = c.min-wanted.result - done in
    let left = run_places runs index c.place_of.result c.from-len.result (record { first = 0; count = 0 }) c.loop-next-test.true c.place_of.ensures c.from-len.ensures in
    let behind : List ℕ = places (blocks_of_runs (drop (index + 1) runs)) in
    let bound : c.in_ok-got.got ≤ n = read.bound in
    let least : n ≡ min (len - c.loop-next.next.skip) room = c.min-n.ensures in
    let few : n ≤ room = omega (arith, least) in
    let got : c.in_ok-got.got ≡ n = omega (arith, bound, c.if-got-n.false) in
    let less : room - n ≡ c.min-wanted.result - (done + c.in_ok-got.got) = omega (arith, got) in
    record {
      within = omega (arith, so_far.within, few, got);
      least = so_far.least;
      room = omega (arith, so_far.room);
      rest = kept_behind done c.in_ok-got.got c.read_piece.new.into c.loop-next.into c.args.into.now read.rest so_far.rest;
      stands = λ tells.
          let found = read.found tells in
          let whole = read.count tells in
          so_far.stands tells
          ∙ ap (λ (l : List ℕ). take done c.loop-next.into ++ l)
          (reads_run file room c.place_of.result len c.loop-next.next.skip n (places (blocks_of_runs (drop index runs))) behind left (omega (arith, c.if-len-next.false)) least
          (ap (λ (b : List ℕ). length (extent (c.place_of.result + c.loop-next.next.skip) n b)) (sym so_far.content) ∙ sym whole ∙ got))
          ∙ sym (append_assoc (take done c.loop-next.into) (extent (c.place_of.result + c.loop-next.next.skip) n file) (bytes_at file (take (room - n) behind)))
          ∙ ap (λ (l : List ℕ). l ++ bytes_at file (take (room - n) behind))
          (sym (found ∙ ap (λ (b : List ℕ). take done c.loop-next.into ++ extent (c.place_of.result + c.loop-next.next.skip) n b) so_far.content))
          ∙ ap (λ (k : ℕ). take (done + c.in_ok-got.got) c.read_piece.new.into ++ bytes_at file (take k behind)) less;
      still = so_far.still;
      here = ends_run runs c.loop-next.next so_far.here c.place_of.result len left c.in_ok-got.got (omega (arith, got, least, c.if-len-next.false, c.if-done-wanted.false));
      moved = omega (arith, so_far.moved);
      content = read.bytes ∙ so_far.content;
      images = unchanged_again so_far.images read.images;
      uses = uses_again so_far.uses read.ledger (omega (arith, got));
    }

pub returns-clause-found : goal.returns-clause-found
returns-clause-found g c tells =
    let so_far = c.loop-next.invariant in
    let file = g.D.Disk.bytes c.args.disk.now in
    sym (so_far.stands tells ∙ ap (λ (l : List ℕ). take c.loop-next.done c.loop-next.into ++ l)
    (nothing_left file (c.min-wanted.result - c.loop-next.done) c.loop-next.next.skip c.loop-next.next.run c.args.runs.now (omega (arith, c.loop-next-test.false)))
    ∙ append-nil (take c.loop-next.done c.loop-next.into))

pub returns-clause-count : goal.returns-clause-count
returns-clause-count g c tells =
    let so_far = c.loop-next.invariant in
    count_found c.loop-next.done c.loop-next.into (object_part c.args.runs.now c.args.size c.args.cursor.now.offset (length c.args.into.now) (g.D.Disk.bytes c.args.disk.now))
    (omega (arith, so_far.within, so_far.least, so_far.room)) (returns-clause-found g c tells)

pub returns-then-got-n-clause-found : goal.returns-then-got-n-clause-found
returns-then-got-n-clause-found g c tells =
    let so_far = c.loop-next.invariant in
    let read = c.in_ok-got.ensures in
    let runs = c.args.runs.now in
    let index = c.loop-next.next.run in
    let file = g.D.Disk.bytes c.args.disk.now in
    let n = c.min-n.result in
    let done = c.loop-next.done in
    let from : ℕ = c.place_of.result + c.loop-next.next.skip in
    let left = run_places runs index c.place_of.result c.from-len.result (record { first = 0; count = 0 }) c.loop-next-test.true c.place_of.ensures c.from-len.ensures in
    let long : length (extent from n file) ≡ c.in_ok-got.got = ap (λ (b : List ℕ). length (extent from n b)) (sym so_far.content) ∙ sym (read.count tells) in
    let bound : c.in_ok-got.got ≤ n = read.bound in
    let last : (length (extent from n file) < n) ⊎ ((length (extent from n file) ≡ n) × (c.min-wanted.result - done ≡ n)) = elim c.then-got-n.branch [
      | then-got-n-via-then-got-n w ↦ inl (omega (arith, long, w.if-got-n.true))
      | then-got-n-via-else-got-n+then-done-wanted w ↦ inr (omega (arith, long, bound, w.if-got-n.false), omega (arith, bound, w.if-got-n.false, w.if-done-wanted.true))
    ] in
    read.found tells
    ∙ ap (λ (b : List ℕ). take done c.loop-next.into ++ extent from n b) so_far.content
    ∙ sym (so_far.stands tells ∙ ap (λ (l : List ℕ). take done c.loop-next.into ++ l)
    (ends_in_run file (c.min-wanted.result - done) c.place_of.result (4096 * c.from-len.result) c.loop-next.next.skip n (places (blocks_of_runs (drop index runs)))
    (places (blocks_of_runs (drop (index + 1) runs))) left (omega (arith, c.if-len-next.false)) c.min-n.ensures last))

pub returns-then-got-n-clause-count : goal.returns-then-got-n-clause-count
returns-then-got-n-clause-count g c tells =
    let so_far = c.loop-next.invariant in
    let bound : c.in_ok-got.got ≤ c.min-n.result = c.in_ok-got.ensures.bound in
    count_found (c.loop-next.done + c.in_ok-got.got) c.read_piece.new.into (object_part c.args.runs.now c.args.size c.args.cursor.now.offset (length c.args.into.now) (g.D.Disk.bytes c.args.disk.now))
    (omega (arith, so_far.within, so_far.least, so_far.room, bound)) (returns-then-got-n-clause-found g c tells)

pub returns-then-got-n-clause-rest : goal.returns-then-got-n-clause-rest
returns-then-got-n-clause-rest g c =
    kept_behind c.loop-next.done c.in_ok-got.got c.read_piece.new.into c.loop-next.into c.args.into.now c.in_ok-got.ensures.rest c.loop-next.invariant.rest

pub returns-then-got-n-clause-stands : goal.returns-then-got-n-clause-stands
returns-then-got-n-clause-stands g c = moves_within c.args.runs.now c.loop-next.next c.loop-next.invariant.here c.in_ok-got.got

pub returns-then-got-n-clause-moved : goal.returns-then-got-n-clause-moved
returns-then-got-n-clause-moved g c = omega (arith, c.loop-next.invariant.moved)

pub returns-clause-moved : goal.returns-clause-moved
returns-clause-moved g c = c.loop-next.invariant.moved

pub returns-in_err-got-clause-stands : goal.returns-in_err-got-clause-stands
returns-in_err-got-clause-stands g c = subst (StandsIn c.args.runs.now) (sym c.loop-next.invariant.still) c.requires.stands

pub returns-in_err-got-clause-stays : goal.returns-in_err-got-clause-stays
returns-in_err-got-clause-stays g c = on_err c.from_residual.result c.loop-next.invariant.still
  where
    on_err : {T E P : Type 0} (result : Result T E) → P → OnErr result P
    on_err (Ok x) is = tt
    on_err (Err e) is = is
