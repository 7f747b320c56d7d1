-- A record stored, as the value over the region does it.
use Rattle.std.proofs.Common.{◌≡◌, ℕ, ◌+◌, ◌-◌, ◌*◌, ◌≤◌, List, ◌∷◌, length, arith, ap, subst, sym, ◌∙◌}
use Rattle.std.specs.Prelude.{Some}
use Rattle.site_disk.specs.Bytes.{extent, written, filled, Torn}
use Rattle.site_disk.specs.BytesLaws.{extent-written, torn_whole, filled_there, length-filled}
use Rattle.site_disk.specs.Images.{Seen, Leaves}
use Rattle.site_disk.specs.ImagesLaws.{weaker}
use Rattle.twin_mark.specs.Marks.{next, current, record_at, record_of, formatted, MarkView, IsMark, Knows, Agrees, Stores, MayStore}
use Rattle.twin_mark.specs.MarksLaws.{may_store, stored_slot, stores, reaches_other, length-formatted, current-formatted, record_of-formatted}
use Rattle.twin_mark.specs.Replacing.{replaced, MayReplace}

module _ (view : MarkView) (is : IsMark view) (content : List ℕ) (long : length content ≡ 255) where
  abbrev slot : ℕ
  slot = 1 - view.slot

  abbrev gate : ℕ
  gate = view.base + slot

  abbrev place : ℕ
  place = view.base + 256 * (slot + 1)

  abbrev piece : List ℕ
  piece = next view.sequence ∷ content

  pub within : (bytes : List ℕ) → Knows view bytes → place ≤ length bytes
  within bytes knows = reaches_other view.base view.slot view.sequence is.slot is.sequence content bytes long knows

  pub crash : (e : ℕ) (disk : Seen) (new : ℕ → List ℕ → Type 0) → disk.last ≤ e → Agrees view disk
      → Leaves e (MayReplace gate place piece) disk.images new → Leaves e (MayStore view.base content) disk.images new
  crash e disk new le agrees leaves =
      weaker (MayStore view.base content) (MayReplace gate place piece) e disk.images disk.images new leaves
      (λ f d c lt image may. may_store view.base view.slot view.sequence is.slot is.sequence content d long (agrees.later f d (omega arith) image) c may)

  module _ (old new : List ℕ) (knows : Knows view old) (done : new ≡ replaced gate place piece (filled place old)) where
    is_replaced : new ≡ replaced gate place piece old
    is_replaced = done ∙ ap (replaced gate place piece) (filled_there place old (within old knows))

    pub stored : Stores view.base content old new
    stored = stores view.base view.slot view.sequence is.slot is.sequence content old long knows new is_replaced

    pub knows_stored : Knows (record { base = view.base; slot = slot; sequence = next view.sequence }) new
    knows_stored = stored_slot view.base view.slot view.sequence is.slot is.sequence content old long knows new is_replaced

module _ (base : ℕ) (content old new : List ℕ) (long : length content ≡ 255) (done : new ≡ written base (formatted content) (filled base old)) where
  region_is : extent base 1024 new ≡ formatted content
  region_is =
      ap (λ (l : List ℕ). extent base 1024 l) done
      ∙ ap (λ (n : ℕ). extent base n (written base (formatted content) (filled base old))) (sym (length-formatted content long))
      ∙ extent-written base (formatted content) (filled base old) (omega (arith, length-filled base old))

  pub knows_formatted : Knows (record { base = base; slot = 0; sequence = 0 }) new
  knows_formatted = ap current region_is ∙ current-formatted content long

  pub record_formatted : record_at base new ≡ Some content
  record_formatted = ap record_of region_is ∙ record_of-formatted content long

  pub stored_formatted : base ≤ length old → Stores base content old new
  stored_formatted within =
      let whole = torn_whole base (formatted content) old within in
      let torn : Torn base 1024 old new =
      subst (λ (l : List ℕ). Torn base 1024 old l) (sym (done ∙ ap (written base (formatted content)) (filled_there base old within)))
      (subst (λ (n : ℕ). Torn base n old (written base (formatted content) old)) (length-formatted content long) whole) in
      record { stored = record_formatted; elsewhere = torn.elsewhere; no_shorter = torn.no_shorter }
