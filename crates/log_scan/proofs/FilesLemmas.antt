-- Files that follow one another: their first positions by place, and their slots.
use Rattle.std.proofs.Common.{◌≡◌, ℕ, zero, suc, ◌+◌, ◌*◌, ◌%◌, ◌<◌, ◌≤◌, List, [], ◌∷◌, ◌++◌, length, map, take, drop, replicate, get_or, refl, arith, ap, sym, subst, ◌∙◌, length-take, length-drop}
use Rattle.std.specs.Prelude.{slice_set}
use Rattle.std.specs.List.{flat_map}
use Rattle.std.proofs.lemmas.List.{get_or-set_same, get_or-set_other, length-set}
use Rattle.log_history.specs.History.{History}
use Rattle.log_record.specs.Layout.{spelling}
use Rattle.gated_slots.specs.Slots.{used}
use Rattle.site_disk.specs.Bytes.{extent}
use Rattle.log_files.specs.Files.{LogFiles, AreFiles, FitFile, FitPast, count_in, total, laid, firsts_by}
use Rattle.log_files.specs.Ring.{area_of, HoldsFile, HoldFiles}
use Rattle.log_files.specs.RingLaws.{length-spellings}
use Rattle.log_files.proofs.HeldLemmas.{other_place}
use Rattle.log_mark.specs.declared.mark.LogMark.{LogMark}
use Rattle.log_scan.specs.Fronts.{counts_from, first_at}
use Rattle.log_scan.specs.Filing.{SpellsFile, SpellFiles}
use Rattle.log_scan.specs.Slots.{SlotStands}
use Rattle.log_scan.proofs.SlotLemmas.{stands_each}

-- first positions by place

-- what later files lay leaves the places of earlier ones
laid_other : (firsts : List ℕ) (file first : ℕ) (counts : List ℕ) (earlier : ℕ) → earlier < file → file + length counts ≤ earlier + 8
    → get_or (laid firsts file first counts) (earlier % 8) 0 ≡ get_or firsts (earlier % 8) 0
laid_other firsts file first [] earlier lt few = refl
laid_other firsts file first (n ∷ counts) earlier lt few =
    laid_other (slice_set firsts (file % 8) first) (file + 1) (first + n) counts earlier (omega (arith, lt)) (omega (arith, few))
    ∙ get_or-set_other firsts (file % 8) (earlier % 8) first 0 (λ same. other_place earlier file lt (omega (arith, few)) (sym same))

pub laid_at : (firsts : List ℕ) (file first : ℕ) (counts : List ℕ) (i : ℕ) → length firsts ≡ 8 → i < length counts → length counts ≤ 8
    → get_or (laid firsts file first counts) ((file + i) % 8) 0 ≡ first + total (take i counts)
laid_at firsts file first [] i places lt few = absurd (omega (arith, lt))
laid_at firsts file first (n ∷ counts) zero places lt few =
    ap (λ (k : ℕ). get_or (laid firsts file first (n ∷ counts)) (k % 8) 0) (let e : file + 0 ≡ file = omega arith in e)
    ∙ laid_other (slice_set firsts (file % 8) first) (file + 1) (first + n) counts file (omega arith) (omega (arith, few))
    ∙ get_or-set_same firsts (file % 8) first 0 (omega (arith, places)) ∙ omega arith
laid_at firsts file first (n ∷ counts) (suc i) places lt few =
    ap (λ (k : ℕ). get_or (laid firsts file first (n ∷ counts)) (k % 8) 0) (let e : file + suc i ≡ file + 1 + i = omega arith in e)
    ∙ laid_at (slice_set firsts (file % 8) first) (file + 1) (first + n) counts i (length-set firsts (file % 8) first ∙ places) (omega (arith, lt)) (omega (arith, few)) ∙ omega arith

pub first_by : (mark : LogMark) (first : ℕ) (counts : List ℕ) (i : ℕ) → mark.firsts ≡ firsts_by mark.oldest first counts → i < length counts → length counts ≤ 8
    → first_at mark (mark.oldest + i) ≡ first + total (take i counts)
first_by mark first counts i is lt few =
    ap (λ (l : List ℕ). get_or l ((mark.oldest + i) % 8) 0) is ∙ laid_at (replicate 8 0) mark.oldest first counts i refl lt few

pub take-map-lengths : (i : ℕ) (xs : List History) → total (take i (map (λ (x : History). length x) xs)) ≡ count_in (take i xs)
take-map-lengths zero xs = refl
take-map-lengths (suc i) [] = refl
take-map-lengths (suc i) (x ∷ xs) = ap (λ (k : ℕ). length x + k) (take-map-lengths i xs)

-- counts

pub length-counts_from : (file n : ℕ) (bytes : List ℕ) → length (counts_from file n bytes) ≡ n
length-counts_from file zero bytes = refl
length-counts_from file (suc n) bytes = ap suc (length-counts_from (file + 1) n bytes)

pub count_at : (file n : ℕ) (bytes : List ℕ) (i : ℕ) → i < n → get_or (counts_from file n bytes) i 0 ≡ used (area_of (file + i)) bytes
count_at file zero bytes i lt = absurd (omega (arith, lt))
count_at file (suc n) bytes zero lt = ap (λ (k : ℕ). used (area_of k) bytes) (let e : file ≡ file + 0 = omega arith in e)
count_at file (suc n) bytes (suc i) lt =
    count_at (file + 1) n bytes i (omega (arith, lt)) ∙ ap (λ (k : ℕ). used (area_of k) bytes) (let e : file + 1 + i ≡ file + suc i = omega arith in e)

-- records

-- each file's records may stand in a file with its first position
abbrev pub FitAll : ℕ → List History → Type 0
FitAll first [] = Unit {0}
FitAll first (entries ∷ files) = FitFile first entries × FitAll (first + length entries) files

fit_all_append : (first : ℕ) (past : List History) (current : History) → FitPast first past → FitFile (first + count_in past) current → FitAll first (past ++ current ∷ [])
fit_all_append first [] current past fit = (subst (λ (n : ℕ). FitFile n current) (omega arith) fit, tt)
fit_all_append first (x ∷ past) current fits fit =
    (fits.0, fit_all_append (first + length x) past current fits.1.1 (subst (λ (n : ℕ). FitFile n current) (omega arith) fit))

pub fit_all : (files : LogFiles) → AreFiles files → FitAll files.first (files.past ++ files.current ∷ [])
fit_all files fits = fit_all_append files.first files.past files.current fits.past fits.current

pub spell_append : (file : ℕ) (xs : List History) (y : History) (bytes : List ℕ) → SpellFiles file xs bytes → SpellsFile (file + length xs) y bytes → SpellFiles file (xs ++ y ∷ []) bytes
spell_append file [] y bytes all last = (subst (λ (k : ℕ). SpellsFile k y bytes) (omega arith) last, tt)
spell_append file (x ∷ xs) y bytes all last = (all.0, spell_append (file + 1) xs y bytes all.1 (subst (λ (k : ℕ). SpellsFile k y bytes) (omega arith) last))

pub spell_past : (file : ℕ) (xs : List History) (y : History) (bytes : List ℕ) → SpellFiles file (xs ++ y ∷ []) bytes → SpellFiles file xs bytes × SpellsFile (file + length xs) y bytes
spell_past file [] y bytes all = (tt, subst (λ (k : ℕ). SpellsFile k y bytes) (omega arith) all.0)
spell_past file (x ∷ xs) y bytes all =
    let rest = spell_past (file + 1) xs y bytes all.1 in ((all.0, rest.0), subst (λ (k : ℕ). SpellsFile k y bytes) (omega arith) rest.1)

-- so each slot of them stands
pub stand_at : (file first : ℕ) (xs : List History) (bytes : List ℕ) (i s : ℕ) → FitAll first xs → SpellFiles file xs bytes → i < length xs
    → s < get_or (map (λ (x : History). length x) xs) i 0 → SlotStands (first + count_in (take i xs)) (file + i) s bytes
stand_at file first [] bytes i s fits spelled lt within = absurd (omega (arith, lt))
stand_at file first (x ∷ xs) bytes zero s fits spelled lt within =
    subst (λ (k : ℕ). SlotStands k (file + 0) s bytes) (omega arith) (subst (λ (k : ℕ). SlotStands first k s bytes) (omega arith) (stands_each first file bytes x s fits.0 spelled.0 within))
stand_at file first (x ∷ xs) bytes (suc i) s fits spelled lt within =
    subst (λ (k : ℕ). SlotStands k (file + suc i) s bytes) (omega arith)
    (subst (λ (k : ℕ). SlotStands (first + length x + count_in (take i xs)) k s bytes) (omega arith) (stand_at (file + 1) (first + length x) xs bytes i s fits.1 spelled.1 (omega (arith, lt)) within))

-- files with records in all of their slots used are held

within_by_length : (at n : ℕ) (bytes : List ℕ) → 1 ≤ n → length (extent at n bytes) ≡ n → at + n ≤ length bytes
within_by_length at n bytes some is = omega (arith, some, is, length-take n (drop at bytes), length-drop at bytes)

pub hold_spelled : (file : ℕ) (entries : History) (bytes : List ℕ) → SpellsFile file entries bytes → used (area_of file) bytes ≡ length entries → length (flat_map spelling entries) ≡ 128 * length entries
    → (length entries ≡ 0 → 8448 + 33024 * (file % 8) ≤ length bytes) → HoldsFile file entries bytes
hold_spelled file entries bytes spelled count size long = record {
  used = count;
  slots = ap (λ (k : ℕ). extent (area_of file).slots (128 * k) bytes) count ∙ spelled;
  reaches = by entries refl;
}
  where
    by : (all : History) → entries ≡ all → 8448 + 33024 * (file % 8) + 128 * length entries ≤ length bytes
    by [] is = let none : length entries ≡ 0 = ap (λ (l : History). length l) is in omega (arith, none, long none)
    by (x ∷ all) is =
        let some : length entries ≡ suc (length all) = ap (λ (l : History). length l) is in
        within_by_length (8448 + 33024 * (file % 8)) (128 * length entries) bytes (omega (arith, some)) (ap (λ (l : List ℕ). length l) spelled ∙ size)

pub hold_past : (file first : ℕ) (xs : List History) (bytes : List ℕ) → FitPast first xs → SpellFiles file xs bytes
    → ((i : ℕ) → i < length xs → used (area_of (file + i)) bytes ≡ get_or (map (λ (x : History). length x) xs) i 0) → HoldFiles file xs bytes
hold_past file first [] bytes fits spelled counted = tt
hold_past file first (x ∷ xs) bytes fits spelled counted = (
  hold_spelled file x bytes spelled.0 (ap (λ (k : ℕ). used (area_of k) bytes) (let e : file ≡ file + 0 = omega arith in e) ∙ counted 0 (omega arith))
      (length-spellings x fits.0.records) (λ none. absurd (omega (arith, none, fits.1.0))),
  hold_past (file + 1) (first + length x) xs bytes fits.1.1 spelled.1
      (λ i lt. ap (λ (k : ℕ). used (area_of k) bytes) (let e : file + 1 + i ≡ file + suc i = omega arith in e) ∙ counted (suc i) (omega (arith, lt))),
)
