use Rattle.std.proofs.Common.{◌≡◌, ◌+◌, ◌<◌, ◌≤◌, ◌⊎◌, length, take, arith, sym, ◌∙◌, refl, inl, inr, ⊎_elim}
use Rattle.std.proofs.lemmas.List.{length-take-le}
use Rattle.gated_slots.specs.SlotsLaws.{used_of-nil}
use Rattle.gated_slots.proofs.Counting.{count_more}
use Rattle.site_disk.specs.CallsLaws.{unchanged_again, uses_nothing, uses_again}
use Rattle.gated_slots.proofs.reading.count_used.Goals as goal
use Rattle.gated_slots.proofs.reading.count_used.Goals.{then-found-gt0, else-found-gt0}

pub loop-at-init : goal.loop-at-init
loop-at-init g c = record {
  begun = omega arith;
  within = omega arith;
  count = λ tells. sym used_of-nil;
  content = refl;
  images = record { forth = λ f b is. is; back = λ f b is. is };
  uses = uses_nothing c.requires.era;
}

pub loop-at-preserved : goal.loop-at-preserved
loop-at-preserved g c =
    let so_far = c.loop-at.invariant in
    let read = c.in_ok-found.ensures in
    let at = c.loop-at.at in
    let n = c.min-n.result in
    let long : length (take n c.loop-at.buffer) ≡ n = length-take-le n c.loop-at.buffer (omega arith) in
    let choice : ((0 < c.in_ok-found.found) × (c.if-found-gt0.used ≡ at + c.in_ok-found.found)) ⊎ ((c.in_ok-found.found ≤ 0) × (c.if-found-gt0.used ≡ c.loop-at.used)) = elim c.if-found-gt0.branch [
      | then-found-gt0 w ↦ inl (w.if-found-gt0.true, w.used-is)
      | else-found-gt0 w ↦ inr (w.if-found-gt0.false, w.used-is)
    ] in record {
      begun = omega arith;
      within = ⊎_elim (λ some. omega (arith, some.1, read.within, long)) (λ none. omega (arith, none.1, so_far.within)) choice;
      count = λ tells. count_more c.args.gates at n (length (take n c.loop-at.buffer)) c.loop-at.used c.if-found-gt0.used c.in_ok-found.found
          (g.D.Disk.bytes c.args.disk.now) (g.D.Disk.bytes c.loop-at.disk) long so_far.content (so_far.count tells) (read.used tells) choice;
      content = read.bytes ∙ so_far.content;
      images = unchanged_again so_far.images read.images;
      uses = uses_again so_far.uses read.ledger (omega (arith, long));
    }
