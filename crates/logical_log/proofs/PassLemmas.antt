-- What stops within the calls leave.
use Rattle.std.proofs.Common.{◌≡◌, ◌⊎◌, ℕ, ◌+◌, ◌-◌, ◌<◌, ◌≤◌, List, [], ◌∷◌, length, Some, refl, arith, ap, sym, subst, ◌∙◌, inl, inr, ⊎_elim}
use Rattle.site_disk.specs.Bytes.{Torn}
use Rattle.site_disk.specs.Images.{Seen, Leaves, OnlyAfter, IsSynced}
use Rattle.site_disk.specs.ImagesLaws.{weaker}
use Rattle.site_disk.specs.CallsLaws.{from_known}
use Rattle.gated_slots.specs.Slots.{Area, first_zero, end_of_gates, MayGain}
use Rattle.std.specs.List.{flat_map}
use Rattle.log_record.specs.Layout.{spelling}
use Rattle.twin_mark.specs.Marks.{MayStore}
use Rattle.log_mark.specs.declared.mark.LogMark.{LogMark}
use Rattle.log_mark.specs.Layout.{spelling as mark_spelling}
use Rattle.log_history.specs.History.{History}
use Rattle.log_files.specs.Files.{LogFiles, AreFiles, current_id, mark_of, appended}
use Rattle.log_files.specs.Ring.{area_of, HoldsFile, HoldFiles, HoldsRing, HoldsOneOf, MayPass}
use Rattle.log_files.specs.RingLaws.{ring_by_mark, ring_cleared, ring_kept, ring_gained}

-- one step

pub store_either : (site : ℕ) (files next : LogFiles) (mark : LogMark) (old new : List ℕ) → HoldsRing site files old → AreFiles next → HoldFiles next.oldest next.past old
    → HoldsFile (current_id next) next.current old → mark ≡ mark_of next → MayStore 4096 (mark_spelling mark) old new → HoldsRing site files new ⊎ HoldsRing site next new
store_either site files next mark old new holds fits past current is may = ⊎_elim
    (λ same. inl (ring_by_mark site files files old new may.elsewhere may.no_shorter holds holds.fits holds.past holds.current (same ∙ holds.mark)))
    (λ stored. inr (ring_by_mark site files next old new may.elsewhere may.no_shorter holds fits past current (stored ∙ ap (λ (m : LogMark). Some (mark_spelling m)) is)))
    may.mark

pub gain_either : (site : ℕ) (files : LogFiles) (batch : History) (n : ℕ) (bytes old new : List ℕ) (area : Area) → HoldsRing site files old → AreFiles (appended files batch) → mark_of files ≡ mark_of (appended files batch)
    → n ≡ length batch → 1 ≤ length batch → area ≡ area_of (current_id files) → bytes ≡ flat_map spelling batch → MayGain area n bytes old new
    → HoldsRing site files new ⊎ HoldsRing site (appended files batch) new
gain_either site files batch n bytes old new area holds fits marks count some is spelled may =
    let here : MayGain (area_of (current_id files)) n (flat_map spelling batch) old new =
    subst (λ (l : List ℕ). MayGain (area_of (current_id files)) n l old new) spelled (subst (λ (a : Area). MayGain a n bytes old new) is may) in
    ⊎_elim (λ keeps. inl (ring_kept site files old new holds keeps)) (λ gains. inr (ring_gained site files batch n old new holds fits marks count some gains)) here.slots

-- as what a stop leaves

module _ (site : ℕ) (files next : LogFiles) where
  pub one_of : (c : List ℕ) → HoldsRing site files c ⊎ HoldsRing site next c → HoldsOneOf site (files ∷ next ∷ []) c
  one_of c either = ⊎_elim (λ was. inl was) (λ is. inr (inl is)) either

  pub store_passes : (mark : LogMark) (e : ℕ) (old new : ℕ → List ℕ → Type 0) → AreFiles next
      → ((d : List ℕ) → HoldsRing site files d → HoldFiles next.oldest next.past d × HoldsFile (current_id next) next.current d) → mark ≡ mark_of next
      → Leaves e (MayStore 4096 (mark_spelling mark)) old new → Leaves e (MayPass site files (next ∷ [])) old new
  store_passes mark e old new fits keeps is call =
      weaker (MayPass site files (next ∷ [])) (MayStore 4096 (mark_spelling mark)) e old old new call
      (λ f d c lt image may holds. one_of c (store_either site files next mark d c holds fits (keeps d holds).0 (keeps d holds).1 is may))

  pub clear_passes : (area : Area) (disk : Seen) (e : ℕ) (new : ℕ → List ℕ → Type 0) → disk.last ≤ e → IsSynced disk → HoldsRing site files disk.bytes → length files.past ≤ 6
      → area ≡ area_of (current_id files + 1) → Leaves e (Torn (first_zero area disk.bytes) (end_of_gates area - first_zero area disk.bytes)) disk.images new
      → Leaves e (MayPass site files (next ∷ [])) disk.images new
  clear_passes area disk e new le synced holds room is call =
      weaker (MayPass site files (next ∷ [])) (Torn (first_zero area disk.bytes) (end_of_gates area - first_zero area disk.bytes)) e disk.images disk.images new call
      (λ f d c lt image torn was. inl (by_bytes c (subst (λ (b : List ℕ). Torn (first_zero area disk.bytes) (end_of_gates area - first_zero area disk.bytes) b c) (synced f d (omega (arith, le, lt)) image) torn)))
    where
      by_bytes : (c : List ℕ) → Torn (first_zero area disk.bytes) (end_of_gates area - first_zero area disk.bytes) disk.bytes c → HoldsRing site files c
      by_bytes c torn =
          let here = subst (λ (a : Area). Torn (first_zero a disk.bytes) (end_of_gates a - first_zero a disk.bytes) disk.bytes c) is torn in
          ring_cleared site files (current_id files + 1) disk.bytes c holds refl room here.elsewhere here.no_shorter

  -- and then the mark
  pub then_store_passes : (mark : LogMark) (e : ℕ) (first bytes : List ℕ) (old mid new : ℕ → List ℕ → Type 0) → Leaves e (MayPass site files (next ∷ [])) old mid → OnlyAfter e bytes mid
      → ((f : ℕ) → e < f → old f first) → HoldsRing site files bytes → AreFiles next → HoldFiles next.oldest next.past bytes → HoldsFile (current_id next) next.current bytes → mark ≡ mark_of next
      → Leaves e (MayStore 4096 (mark_spelling mark)) mid new → Leaves e (MayPass site files (next ∷ [])) old new
  then_store_passes mark e first bytes old mid new before only was holds fits past current is call =
      from_known (MayPass site files (next ∷ [])) (MayStore 4096 (mark_spelling mark)) e first bytes old mid new before only was call
      (λ c may start. one_of c (store_either site files next mark bytes c holds fits past current is may))

  pub gain_passes : (batch : History) → next ≡ appended files batch → (n : ℕ) (bytes : List ℕ) (area : Area) (e : ℕ) (old new : ℕ → List ℕ → Type 0) → AreFiles (appended files batch)
      → mark_of files ≡ mark_of (appended files batch) → n ≡ length batch → 1 ≤ length batch → area ≡ area_of (current_id files) → bytes ≡ flat_map spelling batch
      → Leaves e (MayGain area n bytes) old new → Leaves e (MayPass site files (next ∷ [])) old new
  gain_passes batch same n bytes area e old new fits marks count some is spelled call =
      weaker (MayPass site files (next ∷ [])) (MayGain area n bytes) e old old new call
      (λ f d c lt image may holds. one_of c (⊎_elim (λ was. inl was) (λ now. inr (subst (λ (k : LogFiles). HoldsRing site k c) (sym same) now))
      (gain_either site files batch n bytes d c area holds fits marks count some is spelled may)))

-- nothing yet
pub pass_none : (site : ℕ) (files : LogFiles) (passed : List LogFiles) (c : List ℕ) → MayPass site files passed c c
pass_none site files passed c holds = inl holds

-- a call that passes less
pub pass_less : (site : ℕ) (files : LogFiles) (some all : List LogFiles) (e : ℕ) (old new : ℕ → List ℕ → Type 0) → ((c : List ℕ) → HoldsOneOf site (files ∷ some) c → HoldsOneOf site (files ∷ all) c)
    → Leaves e (MayPass site files some) old new → Leaves e (MayPass site files all) old new
pass_less site files some all e old new more call =
    weaker (MayPass site files all) (MayPass site files some) e old old new call (λ f d c lt image may holds. more c (may holds))

-- one call after another, which begins with other files
pub pass_on : (site : ℕ) (files mid : LogFiles) (all more : List LogFiles) (e : ℕ) (first bytes : List ℕ) (old between new : ℕ → List ℕ → Type 0)
    → Leaves e (MayPass site files all) old between → OnlyAfter e bytes between → ((f : ℕ) → e < f → old f first) → HoldsRing site mid bytes
    → ((c : List ℕ) → HoldsOneOf site (mid ∷ more) c → HoldsOneOf site (files ∷ all) c) → Leaves e (MayPass site mid more) between new → Leaves e (MayPass site files all) old new
pass_on site files mid all more e first bytes old between new before only was holds among call =
    from_known (MayPass site files all) (MayPass site mid more) e first bytes old between new before only was call (λ c may start. among c (may holds))
