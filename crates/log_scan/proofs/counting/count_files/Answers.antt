use Rattle.std.proofs.Common.{◌≡◌, ◌≤◌, ◌+◌, ◌-◌, ◌*◌, ◌%◌, ◌++◌, ◌∷◌, [], ℕ, List, length, arith, ap, sym, ◌∙◌, subst, length-append}
use Rattle.std.specs.List.{AllByRecursion}
use Rattle.gated_slots.specs.Slots.{used, used_of}
use Rattle.site_disk.specs.Bytes.{extent}
use Rattle.site_disk.specs.CallsLaws.{unchanged_again, uses_again}
use Rattle.log_files.specs.Ring.{area_of}
use Rattle.log_scan.specs.Fronts.{counts_from}
use Rattle.log_scan.proofs.CountLemmas.{counts_more, each_more}
use Rattle.log_scan.proofs.counting.count_files.Goals as goal

pub loop-file-preserved : goal.loop-file-preserved
loop-file-preserved g c =
    let was = c.loop-file.invariant in
    let call = c.in_ok-count.ensures in
    let oldest = c.args.oldest in
    let bytes = g.D.Disk.bytes c.args.disk.now in
    let file = c.loop-file.file in
    let at : oldest + (file - oldest) ≡ file = omega (arith, was.within) in
    let next : file + 1 - oldest ≡ (file - oldest) + 1 = omega (arith, was.within) in
    let items = c.push_reserved.ensures.items in record {
      within = omega (arith, was.within);
      upto = omega (arith, c.loop-file-test.true);
      count = omega (arith, ap (λ (l : List ℕ). length l) items, length-append c.loop-file.counts.items (c.in_ok-count.count ∷ []), was.count, was.within);
      len = omega (arith, c.push_reserved.ensures.len, was.len, was.within);
      room = c.push_reserved.ensures.capacity ∙ was.room;
      each = subst (AllByRecursion (λ count. count ≤ 256)) (sym items) (each_more (λ count. count ≤ 256) c.loop-file.counts.items c.in_ok-count.count was.each call.few);
      used = λ tells.
          let here : c.in_ok-count.count ≡ used (area_of (oldest + (file - oldest))) bytes =
          call.used tells ∙ ap (λ (k : ℕ). used_of (extent (8192 + 33024 * k) 256 (g.D.Disk.bytes c.loop-file.disk))) (c.place_of.ensures ∙ ap (λ (k : ℕ). k % 8) (sym at))
          ∙ ap (used (area_of (oldest + (file - oldest)))) was.read.bytes in
          items ∙ ap (λ (l : List ℕ). l ++ c.in_ok-count.count ∷ []) (was.used tells) ∙ ap (λ (n : ℕ). counts_from oldest (file - oldest) bytes ++ n ∷ []) here
          ∙ sym (counts_more oldest (file - oldest) bytes) ∙ ap (λ (n : ℕ). counts_from oldest n bytes) (sym next);
      read = record {
        bytes = call.bytes ∙ was.read.bytes;
        images = unchanged_again was.read.images call.images;
        uses = uses_again was.read.uses call.ledger (omega (arith, next));
      };
    }
