-- Records in the slots of a file.
use Rattle.std.proofs.Common.{◌≡◌, ℕ, zero, suc, ◌+◌, ◌*◌, ◌%◌, ◌<◌, List, [], ◌∷◌, ◌++◌, length, take, drop, false, refl, arith, ap, sym, ◌∙◌, length-append, length-take, length-drop}
use Rattle.std.specs.List.{AllByRecursion, flat_map}
use Rattle.std.proofs.lemmas.List.{take_at, drop_at, drop-drop, append-nil}
use Rattle.std.proofs.lemmas.Grind.{flat_map-append}
use Rattle.log_history.specs.History.{LogEntry, History}
use Rattle.log_record.specs.Layout.{IsRecord, spelling}
use Rattle.log_record.specs.LayoutLaws.{length-spelling, one_spelling_of}
use Rattle.site_disk.specs.Bytes.{extent}
use Rattle.site_disk.specs.BytesLaws.{extent-extent, extent-add}
use Rattle.log_files.specs.Files.{FitFile, is_reset}
use Rattle.log_files.specs.FilesLaws.{fit_file_append}
use Rattle.log_files.specs.Ring.{area_of}
use Rattle.log_scan.specs.Slots.{MayStand, SlotStands, StopsIn}
use Rattle.log_scan.specs.Runs.{StopsAt}

-- a slot that isn't whole spells nothing
pub short_slot : (bytes : List ℕ) (slot : ℕ) (entry : LogEntry) → length bytes < 128 * slot + 128 → IsRecord entry → extent (128 * slot) 128 bytes ≡ spelling entry → ⊥
short_slot bytes slot entry short ok spelled =
    absurd (omega (arith, short, length-spelling entry ok, ap (λ (l : List ℕ). length l) spelled, length-take 128 (drop (128 * slot) bytes), length-drop (128 * slot) bytes))

-- one record more

pub fit_more : (first : ℕ) (entries : History) (slot : ℕ) (entry : LogEntry) → FitFile first entries → length entries ≡ slot → slot < 256 → IsRecord entry → MayStand first slot entry
    → FitFile first (entries ++ entry ∷ [])
fit_more first [] zero entry fits is few ok may = record { few = omega arith; records = (ok, tt); leads = (may, tt) }
fit_more first [] (suc slot) entry fits is few ok may = absurd (omega (arith, is))
fit_more first (x ∷ entries) zero entry fits is few ok may = absurd (omega (arith, is))
fit_more first (x ∷ entries) (suc slot) entry fits is few ok may =
    fit_file_append first (x ∷ entries) (entry ∷ []) fits (omega (arith, is, few)) (ok, tt) (may, tt)

pub spelled_more : (bytes : List ℕ) (slot : ℕ) (entries : History) (entry : LogEntry) → take (128 * slot) bytes ≡ flat_map spelling entries → extent (128 * slot) 128 bytes ≡ spelling entry
    → take (128 * (slot + 1)) bytes ≡ flat_map spelling (entries ++ entry ∷ [])
spelled_more bytes slot entries entry before here =
    ap (λ (n : ℕ). take n bytes) (let n : 128 * (slot + 1) ≡ 128 * slot + 128 = omega arith in n)
    ∙ extent-add 0 (128 * slot) 128 bytes
    ∙ ap (λ (n : ℕ). take (128 * slot) bytes ++ extent n 128 bytes) (let n : 0 + 128 * slot ≡ 128 * slot = omega arith in n)
    ∙ ap (λ (l : List ℕ). l ++ extent (128 * slot) 128 bytes) before
    ∙ ap (λ (l : List ℕ). flat_map spelling entries ++ l) (here ∙ sym (append-nil (spelling entry)))
    ∙ sym (flat_map-append spelling entries (entry ∷ []))

-- each record in its slot

pub record SpellsOne (P : LogEntry → Type 0) (bytes : List ℕ) (slot : ℕ) : Type 0 where
  pub entry : LogEntry
  pub fits : IsRecord entry
  pub is : P entry
  pub spelled : extent (128 * slot) 128 bytes ≡ spelling entry

first_slot : (entry : LogEntry) (rest : List ℕ) → IsRecord entry → extent (128 * 0) 128 (spelling entry ++ rest) ≡ spelling entry
first_slot entry rest ok = take_at (spelling entry) rest 128 (length-spelling entry ok)

later_slot : (entry : LogEntry) (rest : List ℕ) (slot : ℕ) → IsRecord entry → extent (128 * suc slot) 128 (spelling entry ++ rest) ≡ extent (128 * slot) 128 rest
later_slot entry rest slot ok =
    ap (λ (k : ℕ). take 128 (drop k (spelling entry ++ rest))) (let k : 128 * suc slot ≡ 128 + 128 * slot = omega arith in k)
    ∙ ap (λ (l : List ℕ). take 128 l) (sym (drop-drop (128 * slot) 128 (spelling entry ++ rest)))
    ∙ ap (λ (l : List ℕ). take 128 (drop (128 * slot) l)) (drop_at (spelling entry) rest 128 (length-spelling entry ok))

pub spells_each : (P : LogEntry → Type 0) (entries : History) (slot : ℕ) → AllByRecursion IsRecord entries → AllByRecursion P entries → slot < length entries
    → SpellsOne P (flat_map spelling entries) slot
spells_each P [] slot fits all lt = absurd (omega (arith, lt))
spells_each P (entry ∷ entries) zero fits all lt = record {
  entry = entry;
  fits = fits.0;
  is = all.0;
  spelled = first_slot entry (flat_map spelling entries) fits.0;
}
spells_each P (entry ∷ entries) (suc slot) fits all lt =
    let rest = spells_each P entries slot fits.1 all.1 (omega (arith, lt)) in record {
      entry = rest.entry;
      fits = rest.fits;
      is = rest.is;
      spelled = later_slot entry (flat_map spelling entries) slot fits.0 ∙ rest.spelled;
    }

-- in the slots of a file
module _ (first file : ℕ) (bytes : List ℕ) where
  abbrev slots : ℕ
  slots = (area_of file).slots

  slot_is : (entries : History) (slot : ℕ) → extent slots (128 * length entries) bytes ≡ flat_map spelling entries → slot < length entries
      → extent (slots + 128 * slot) 128 bytes ≡ extent (128 * slot) 128 (flat_map spelling entries)
  slot_is entries slot spelled lt =
      sym (extent-extent (128 * slot) 128 slots (128 * length entries) bytes (omega (arith, lt))) ∙ ap (extent (128 * slot) 128) spelled

  pub stands_each : (entries : History) (slot : ℕ) → FitFile first entries → extent slots (128 * length entries) bytes ≡ flat_map spelling entries → slot < length entries
      → SlotStands first file slot bytes
  stands_each [] slot fits spelled lt = absurd (omega (arith, lt))
  stands_each (entry ∷ entries) zero fits spelled lt = record {
    entry = entry;
    fits = fits.records.0;
    may = fits.leads.0;
    spelled = slot_is (entry ∷ entries) 0 spelled lt ∙ first_slot entry (flat_map spelling entries) fits.records.0;
  }
  stands_each (entry ∷ entries) (suc slot) fits spelled lt =
      let one = spells_each (λ other. is_reset other ≡ false) entries slot fits.records.1 fits.leads.1 (omega (arith, lt)) in record {
        entry = one.entry;
        fits = one.fits;
        may = one.is;
        spelled = slot_is (entry ∷ entries) (suc slot) spelled lt ∙ later_slot entry (flat_map spelling entries) slot fits.records.0 ∙ one.spelled;
      }

  -- a run of slots that was read stops at one
  pub stops_in : (count number : ℕ) (run : List ℕ) → run ≡ extent slots (128 * count) bytes → StopsAt (file % 8) first count run number → StopsIn first file count bytes number
  stops_in count number run is stops =
      let n = length stops.entries in
      let front : extent slots (128 * n) bytes ≡ flat_map spelling stops.entries =
      ap (λ (k : ℕ). extent k (128 * n) bytes) (let k : slots ≡ slots + 0 = omega arith in k)
      ∙ sym (extent-extent 0 (128 * n) slots (128 * count) bytes (omega (arith, stops.within))) ∙ ap (λ (l : List ℕ). take (128 * n) l) (sym is) ∙ stops.spelled in record {
        slot = n;
        number_is = stops.number_is;
        within = stops.within;
        before = λ earlier lt. stands_each stops.entries earlier stops.fits front lt;
        bad = λ stands. stops.bad stands.entry stands.fits stands.may
            (ap (extent (128 * n) 128) is ∙ extent-extent (128 * n) 128 slots (128 * count) bytes (omega (arith, stops.within)) ∙ stands.spelled);
      }

-- two lists of records with the same bytes are the same
pub one_history : (a b : History) → AllByRecursion IsRecord a → AllByRecursion IsRecord b → flat_map spelling a ≡ flat_map spelling b → a ≡ b
one_history [] [] fa fb same = refl
one_history [] (y ∷ ys) fa fb same =
    absurd (omega (arith, ap (λ (l : List ℕ). length l) same, length-append (spelling y) (flat_map spelling ys), length-spelling y fb.0))
one_history (x ∷ xs) [] fa fb same =
    absurd (omega (arith, ap (λ (l : List ℕ). length l) same, length-append (spelling x) (flat_map spelling xs), length-spelling x fa.0))
one_history (x ∷ xs) (y ∷ ys) fa fb same =
    let first : spelling x ≡ spelling y =
    sym (take_at (spelling x) (flat_map spelling xs) 128 (length-spelling x fa.0)) ∙ ap (λ (l : List ℕ). take 128 l) same ∙ take_at (spelling y) (flat_map spelling ys) 128 (length-spelling y fb.0) in
    let rest : flat_map spelling xs ≡ flat_map spelling ys =
    sym (drop_at (spelling x) (flat_map spelling xs) 128 (length-spelling x fa.0)) ∙ ap (λ (l : List ℕ). drop 128 l) same ∙ drop_at (spelling y) (flat_map spelling ys) 128 (length-spelling y fb.0) in
    let heads : x ≡ y = one_spelling_of x y fa.0 fb.0 first in
    let tails : xs ≡ ys = one_history xs ys fa.1 fb.1 rest in
    rw (heads, tails) refl
