-- What was found on the log's disk.
use Rattle.std.specs.Prelude.{IfSome, IfNone, IfOk}
use Rattle.std.proofs.Common.{◌≡◌, ℕ, zero, suc, ◌+◌, ◌-◌, ◌*◌, ◌%◌, ◌<◌, ◌≤◌, List, [], ◌∷◌, ◌++◌, length, map, get_or, Bool, IsTrue, Option, Some, None, Result, Ok, Err, refl, arith, ap, sym, subst, ◌∙◌}
use Rattle.std.proofs.lemmas.List.{map-append, length-map}
use Rattle.std.specs.List.{AllByRecursion}
use Rattle.gated_slots.specs.Slots.{SlotsView}
use Rattle.log_history.specs.History.{History}
use Rattle.gated_slots.specs.Slots.{used, end_of_gates}
use Rattle.twin_mark.specs.Marks.{Knows, record_at}
use Rattle.log_mark.specs.declared.mark.LogMark.{LogMark}
use Rattle.log_mark.specs.Layout.{IsMark, mark_at, spelling as mark_spelling}
use Rattle.log_mark.proofs.LayoutLemmas.{mark_at-spelling}
use Rattle.log_files.specs.Files.{current_id, total}
use Rattle.log_files.specs.Ring.{area_of}
use Rattle.log_files.specs.RingLaws.{length-spellings}
use Rattle.log_files.specs.declared.faults.LogFault.{LogFault}
use Rattle.log_files.specs.declared.faults.LogFault.TheVariants.{BadRecord}
use Rattle.site_headers.specs.Headers.{HasHeader, log_tail}
use Rattle.log_scan.specs.declared.reading.Found.{Found}
use Rattle.log_scan.specs.Fronts.{Names, HasFront, counts_on}
use Rattle.log_scan.specs.Filing.{HasFiles, IsStopped}
use Rattle.log_scan.specs.Refusals.{IsBadFront, IsBadSlot}
use Rattle.log_scan.specs.Scans.{IsCounted, FoundOf, IsBehind, IsFoundOn}
use Rattle.log_scan.proofs.CountLemmas.{last_pushed}
use Rattle.log_scan.proofs.FilesLemmas.{count_at, spell_past, hold_spelled, hold_past}

-- of an answer

pub at_some : {X : Type 0} (P : X → Type 0) (o : Option X) (x : X) → o ≡ Some x → IfSome o P → P x
at_some {X} P (Some y) x is holds = subst P (one y x is) holds
  where
    one : (a b : X) → Some a ≡ Some b → a ≡ b
    one a b same = cc same
at_some {X} P None x is holds = absurd (cc is)

pub at_pair : {X Y : Type 0} (P : X → Y → Type 0) (o : Option (X × Y)) (x : X) (y : Y) → o ≡ Some (x, y) → IfSome o (λ p. P p.0 p.1) → P x y
at_pair {X} {Y} P o x y is holds = at_some (λ (p : X × Y). P p.0 p.1) o (x, y) is holds

pub at_none : {X : Type 0} (o : Option X) (P : Type 0) → o ≡ None → IfNone o P → P
at_none None P is holds = holds
at_none (Some x) P is holds = absurd (cc is)

pub one_number : {T : Type 0} (a b : ℕ) → ◌≡◌ {A = Result T LogFault} (Err (BadRecord a)) (Err (BadRecord b)) → a ≡ b
one_number a b is = cc is

-- each record in the mark has one spelling

pub one_mark : (a b : LogMark) → IsMark a → IsMark b → mark_spelling a ≡ mark_spelling b → a ≡ b
one_mark a b oa ob same = sym (mark_at-spelling a oa) ∙ ap mark_at same ∙ mark_at-spelling b ob

pub one_stands : (a b : LogMark) (stands : Option (List ℕ)) → IsMark a → IsMark b → stands ≡ Some (mark_spelling a) → stands ≡ Some (mark_spelling b) → a ≡ b
one_stands a b stands oa ob sa sb = one_mark a b oa ob (one (mark_spelling a) (mark_spelling b) (sym sa ∙ sb))
  where
    one : (x y : List ℕ) → Some x ≡ Some y → x ≡ y
    one x y same = cc same

-- a mark that doesn't name files with the counts of the disk is no front
pub bad_front : (mark : LogMark) (bytes : List ℕ) → IsMark mark → record_at 4096 bytes ≡ Some (mark_spelling mark)
    → (Names mark (counts_on mark bytes) → end_of_gates (area_of mark.current) ≤ length bytes → ⊥) → IsBadFront bytes 4294967295
bad_front mark bytes ok stands none = record {
  number_is = refl;
  none = λ other front.
      let same = one_stands other mark (record_at 4096 bytes) front.fits ok front.stands stands in
      let here : HasFront mark bytes = subst (λ (m : LogMark). HasFront m bytes) same front in none here.names here.reaches;
}

-- a slot that stops the reading is a bad one
pub bad_slot : (mark : LogMark) (bytes : List ℕ) (number : ℕ) → HasFront mark bytes → IsStopped mark bytes number → IsBadSlot bytes number
bad_slot mark bytes number front stopped = record {
  mark = mark;
  front = front;
  file = stopped.file;
  slot = stopped.slot;
  number_is = stopped.number_is;
  first = stopped.first;
}

-- files with few records each take few bytes
pub total_bounded : (counts : List ℕ) → AllByRecursion (λ count. count ≤ 256) counts → total counts ≤ 256 * length counts
total_bounded [] each = omega arith
total_bounded (n ∷ counts) each = omega (arith, total_bounded counts each.1, each.0)

pub few_slots : (mark : LogMark) (counts : List ℕ) (slots : SlotsView) → IsMark mark → IsCounted mark counts slots → 128 * total counts ≤ 262144
few_slots mark counts slots ok counted = omega (arith, total_bounded counts counted.each, counted.names.held, ok.few)

get_or-front : (xs : List ℕ) (y i : ℕ) → i < length xs → get_or (xs ++ y ∷ []) i 0 ≡ get_or xs i 0
get_or-front [] y i lt = absurd (omega (arith, lt))
get_or-front (x ∷ xs) y zero lt = refl
get_or-front (x ∷ xs) y (suc i) lt = get_or-front xs y i (omega (arith, lt))

-- all files were read

module _ (tells : Bool) (mark : LogMark) (counts bytes : List ℕ) (found : Found) (base : found.mark.base ≡ 4096) (counted : IsCounted mark counts found.slots) (has : HasFiles tells mark counts bytes found.held) where
  abbrev lens : List ℕ
  lens = map (λ (x : History). length x) has.files.past

  split : counts ≡ lens ++ length has.files.current ∷ []
  split = sym has.counted ∙ map-append (λ (x : History). length x) has.files.past (has.files.current ∷ [])

  length-lens : length lens ≡ length has.files.past
  length-lens = length-map has.files.past (λ (x : History). length x)

  current_is : current_id has.files ≡ mark.current
  current_is = ap (λ (m : LogMark). m.current) has.named

  oldest_is : has.files.oldest ≡ mark.oldest
  oldest_is = ap (λ (m : LogMark). m.oldest) has.named

  last_count : (i : ℕ) → i ≡ length has.files.past → get_or counts i 0 ≡ length has.files.current
  last_count i is = ap (λ (l : List ℕ). get_or l i 0) split ∙ last_pushed lens (length has.files.current) i (length-lens ∙ sym is)

  pub found_of : FoundOf has.files found
  found_of = record {
    base = base;
    fits = has.fits;
    tells = has.told;
    area = counted.area ∙ ap area_of (sym current_is);
    used = counted.used ∙ last_count (mark.current - mark.oldest) (omega (arith, current_is, oldest_is));
  }

  module _ (told : IsTrue tells) (knows : Knows found.mark bytes) (stands : record_at 4096 bytes ≡ Some (mark_spelling mark)) (counts_are : counts ≡ counts_on mark bytes)
      (reaches : end_of_gates (area_of mark.current) ≤ length bytes) where
    used_at : (i : ℕ) → i ≤ length has.files.past → used (area_of (has.files.oldest + i)) bytes ≡ get_or counts i 0
    used_at i le =
        ap (λ (k : ℕ). used (area_of (k + i)) bytes) oldest_is
        ∙ sym (ap (λ (l : List ℕ). get_or l i 0) counts_are ∙ count_at mark.oldest (mark.current + 1 - mark.oldest) bytes i (omega (arith, le, current_is, oldest_is)))

    pub behind_of : IsBehind bytes found
    behind_of =
        let parts = spell_past has.files.oldest has.files.past has.files.current bytes (has.spelled told) in record {
          files = has.files;
          told = found_of;
          knows = knows;
          mark = stands ∙ ap (λ (m : LogMark). Some (mark_spelling m)) (sym has.named);
          past = hold_past has.files.oldest has.files.first has.files.past bytes has.fits.past parts.0
              (λ i lt. used_at i (omega (arith, lt)) ∙ ap (λ (l : List ℕ). get_or l i 0) split ∙ get_or-front lens (length has.files.current) i (omega (arith, lt, length-lens)));
          current = hold_spelled (current_id has.files) has.files.current bytes parts.1 (used_at (length has.files.past) (omega arith) ∙ last_count (length has.files.past) refl)
              (length-spellings has.files.current has.fits.current.records) (λ none. subst (λ (k : ℕ). 8448 + 33024 * (k % 8) ≤ length bytes) (sym current_is) (omega (arith, reaches)));
        }

-- behind a header
pub found_on : {E : Type 0} (site : ℕ) (bytes mid : List ℕ) (result : Result Found E) → HasHeader (log_tail site) bytes → mid ≡ bytes → IfOk result (IsBehind mid) → IfOk result (IsFoundOn site bytes)
found_on site bytes mid (Ok found) header same behind =
    let is = subst (λ (b : List ℕ). IsBehind b found) same behind in record {
      files = is.files;
      told = is.told;
      knows = is.knows;
      holds = record { fits = is.told.fits; header = header; mark = is.mark; past = is.past; current = is.current };
    }
found_on site bytes mid (Err fault) header same behind = tt
