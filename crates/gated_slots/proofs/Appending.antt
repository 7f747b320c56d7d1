-- A batch behind the slots used, as `append` writes it.
use Rattle.std.proofs.Common.{◌≡◌, ℕ, zero, suc, ◌+◌, ◌-◌, ◌*◌, ◌/◌, ◌%◌, ◌<◌, ◌≤◌, List, length, arith, ap, subst, sym, ◌∙◌}
use Rattle.site_disk.specs.Bytes.{filled}
use Rattle.site_disk.specs.BytesLaws.{filled_there, length-filled}
use Rattle.site_disk.specs.Images.{Seen, Leaves}
use Rattle.site_disk.specs.ImagesLaws.{weaker}
use Rattle.gated_slots.specs.Slots.{SlotsView, IsSlots, place_of, used, Gains, MayGain, Agrees, Reaches}
use Rattle.gated_slots.specs.Writes.{with_batch, MayAdd}
use Rattle.gated_slots.specs.SlotsLaws.{BatchFits, gains, may_gain, used-filled}

some_slots : (size n long : ℕ) → long ≡ size * n → 0 < long → 1 ≤ n
some_slots size zero long is some = absurd (omega (arith, is, some))
some_slots size (suc n) long is some = omega arith

module _ (view : SlotsView) (batch : List ℕ) (is : IsSlots view) (whole : length batch % view.area.size ≡ 0) (some : 0 < length batch)
    (room : view.used + length batch / view.area.size ≤ view.area.capacity) (gate : ℕ) (at_gate : gate ≡ view.area.gates + view.used + length batch / view.area.size - 1) where
  abbrev count : ℕ
  count = length batch / view.area.size

  abbrev last : ℕ
  last = view.used + count - 1

  long : length batch ≡ view.area.size * count
  long = omega (arith, whole, is.size)

  positive : 1 ≤ count
  positive = some_slots view.area.size count (length batch) long some

  fits : BatchFits view.area view.used count batch
  fits = record { apart = is.gates; some = positive; room = room; long = long }

  last_is : last + 1 ≡ view.used + count
  last_is = omega (arith, positive)

  gate_is : gate ≡ view.area.gates + last
  gate_is = omega (arith, at_gate, positive)

  pub gained : (old new : List ℕ) → used view.area old ≡ view.used → Reaches view old
      → new ≡ with_batch (place_of view.area view.used) batch gate (filled (place_of view.area view.used) old) → Gains view.area count batch old new
  gained old new counts reaches written =
      subst (Gains view.area count batch old)
      (sym (written ∙ ap (with_batch (place_of view.area view.used) batch gate) (filled_there (place_of view.area view.used) old reaches)
      ∙ ap (λ (g : ℕ). with_batch (place_of view.area view.used) batch g old) gate_is))
      (gains view.area view.used count batch fits old counts reaches last last_is)

  -- also where the disk didn't reach the place
  pub used_after : (old new : List ℕ) → used view.area old ≡ view.used
      → new ≡ with_batch (place_of view.area view.used) batch gate (filled (place_of view.area view.used) old) → used view.area new ≡ view.used + count
  used_after old new counts written =
      let place = place_of view.area view.used in
      let from = filled place old in
      let same : used view.area from ≡ view.used = used-filled view.area place old ∙ counts in
      let reaches : place ≤ length from = omega (arith, length-filled place old) in
      (gained from new same reaches (written ∙ ap (with_batch place batch gate) (sym (filled_there place from reaches)))).used ∙ ap (λ (k : ℕ). k + count) same

  pub crash : (e : ℕ) (disk : Seen) (new : ℕ → List ℕ → Type 0) → disk.last ≤ e → Agrees view disk
      → Leaves e (MayAdd (place_of view.area view.used) batch gate) disk.images new → Leaves e (MayGain view.area count batch) disk.images new
  crash e disk new le agrees leaves =
      weaker (MayGain view.area count batch) (MayAdd (place_of view.area view.used) batch gate) e disk.images disk.images new leaves
      (λ f d c lt image may. may_gain view.area view.used count batch fits d (agrees.later f d (omega arith) image) last last_is c
      (subst (λ (g : ℕ). MayAdd (place_of view.area view.used) batch g d c) gate_is may))
