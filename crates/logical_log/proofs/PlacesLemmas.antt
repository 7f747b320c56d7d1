-- A held file's records among those of all.
use Rattle.std.proofs.Common.{◌≡◌, ◌≢◌, ◌⊎◌, ℕ, zero, suc, ◌+◌, ◌-◌, ◌*◌, ◌%◌, ◌<◌, ◌≤◌, List, [], ◌∷◌, ◌++◌, length, map, take, get_or, Bool, true, false, if◌then◌else◌, ◌==◌, refl, arith, ap, sym, subst, ◌∙◌, length-append, inl, inr}
use Rattle.std.proofs.lemmas.Bool.Decides.{nat_tests}
use Rattle.std.proofs.lemmas.List.{take_all}
use Rattle.log_history.specs.History.{History}
use Rattle.log_mark.specs.declared.mark.LogMark.{LogMark}
use Rattle.log_files.specs.Files.{LogFiles, AreFiles, count_in, current_id, next_of, counts_of, mark_of, records_from, records_of}
use Rattle.log_files.specs.FilesLaws.{count_in-one}
use Rattle.log_files.specs.Held.{Tells}
use Rattle.log_files.specs.declared.held.HeldFiles.{HeldFiles}
use Rattle.log_scan.specs.Fronts.{first_at}
use Rattle.log_scan.proofs.FilesLemmas.{first_by, take-map-lengths}
use Rattle.log_scan.proofs.PartwayLemmas.{length-counts}
use Rattle.logical_log.specs.Records.{IsFirstOf}

eq_true : (a b : ℕ) → a ≡ b → (a == b) ≡ true
eq_true a b is = grind (arith, nat_tests)

eq_false : (a b : ℕ) → a < b → (a == b) ≡ false
eq_false a b lt = grind (arith, nat_tests)

ne_false : (a b : ℕ) → b < a → (a == b) ≡ false
ne_false a b lt = grind (arith, nat_tests)

pub records_at : (id : ℕ) (xs : List History) (i : ℕ) → i < length xs → records_from id xs (id + i) ≡ get_or xs i []
records_at id [] i lt = absurd (omega (arith, lt))
records_at id (x ∷ xs) zero lt = ap (λ (b : Bool). if b then x else records_from (id + 1) xs (id + 0)) (eq_true id (id + 0) (omega arith))
records_at id (x ∷ xs) (suc i) lt =
    ap (λ (b : Bool). if b then x else records_from (id + 1) xs (id + suc i)) (eq_false id (id + suc i) (omega arith))
    ∙ ap (records_from (id + 1) xs) (let e : id + suc i ≡ id + 1 + i = omega arith in e) ∙ records_at (id + 1) xs i (omega (arith, lt))

pub records_none : (id : ℕ) (xs : List History) (file : ℕ) → (file < id) ⊎ (id + length xs ≤ file) → records_from id xs file ≡ []
records_none id [] file out = refl
records_none id (x ∷ xs) file out = elim out [
  | inl before ↦ ap (λ (b : Bool). if b then x else records_from (id + 1) xs file) (ne_false id file before) ∙ records_none (id + 1) xs file (inl (omega (arith, before)))
  | inr behind ↦ ap (λ (b : Bool). if b then x else records_from (id + 1) xs file) (eq_false id file (omega (arith, behind))) ∙ records_none (id + 1) xs file (inr (omega (arith, behind)))
]

count_more : (xs : List History) (i : ℕ) → i < length xs → count_in (take (i + 1) xs) ≡ count_in (take i xs) + length (get_or xs i [])
count_more [] i lt = absurd (omega (arith, lt))
count_more (x ∷ xs) zero lt = omega arith
count_more (x ∷ xs) (suc i) lt =
    ap (λ (n : ℕ). count_in (take n (x ∷ xs))) (let e : suc i + 1 ≡ suc (i + 1) = omega arith in e) ∙ omega (arith, count_more xs i (omega (arith, lt)))

module _ (files : LogFiles) (fits : AreFiles files) where
  abbrev xs : List History
  xs = files.past ++ files.current ∷ []

  length-xs : length xs ≡ length files.past + 1
  length-xs = length-append files.past (files.current ∷ [])

  pub first_of : (f : ℕ) → files.oldest ≤ f → f ≤ current_id files → first_at (mark_of files) f ≡ files.first + count_in (take (f - files.oldest) xs)
  first_of f oldest current =
      let i : ℕ = f - files.oldest in
      ap (first_at (mark_of files)) (let e : f ≡ files.oldest + i = omega (arith, oldest) in e)
      ∙ first_by (mark_of files) files.first (counts_of files) i refl (omega (arith, oldest, current, length-counts files)) (omega (arith, length-counts files, fits.few))
      ∙ ap (λ (k : ℕ). files.first + k) (take-map-lengths i xs)

  records_is : (f : ℕ) → files.oldest ≤ f → f ≤ current_id files → records_of files f ≡ get_or xs (f - files.oldest) []
  records_is f oldest current =
      ap (records_from files.oldest xs) (let e : f ≡ files.oldest + (f - files.oldest) = omega (arith, oldest) in e)
      ∙ records_at files.oldest xs (f - files.oldest) (omega (arith, oldest, current, length-xs))

  pub behind_file : (f first : ℕ) → IsFirstOf files f first → files.first + count_in (take (f - files.oldest + 1) xs) ≡ first + length (records_of files f)
  behind_file f first begins =
      omega (
        arith,
        begins.first_is,
        count_more xs (f - files.oldest) (omega (arith, begins.oldest, begins.current, length-xs)),
        ap (λ (l : History). length l) (records_is f begins.oldest begins.current),
      )

  pub behind_last : (f first : ℕ) → f ≡ current_id files → IsFirstOf files f first → next_of files ≡ first + length (records_of files f)
  behind_last f first last begins =
      let all : take (f - files.oldest + 1) xs ≡ xs = take_all (f - files.oldest + 1) xs (omega (arith, last, length-xs)) in
      omega (arith, count_in-one files.past files.current, ap count_in all, behind_file f first begins)

  pub behind_other : (f first : ℕ) → f < current_id files → IsFirstOf files f first → first_at (mark_of files) (f + 1) ≡ first + length (records_of files f)
  behind_other f first lt begins =
      first_of (f + 1) (omega (arith, begins.oldest)) (omega (arith, lt))
      ∙ ap (λ (k : ℕ). files.first + count_in (take k xs)) (let e : f + 1 - files.oldest ≡ f - files.oldest + 1 = omega (arith, begins.oldest) in e) ∙ behind_file f first begins

-- as a value tells
pub begins_at : (files : LogFiles) (held : HeldFiles) (file place : ℕ) → AreFiles files → Tells files held → place ≡ file % 8 → held.mark.oldest ≤ file → file ≤ held.mark.current
    → IsFirstOf files file (get_or held.mark.firsts place 0)
begins_at files held file place fits tells at oldest current =
    let low : files.oldest ≤ file = omega (arith, oldest, ap (λ (m : LogMark). m.oldest) tells.mark) in
    let high : file ≤ current_id files = omega (arith, current, ap (λ (m : LogMark). m.current) tells.mark) in record {
      oldest = low;
      current = high;
      first_is = ap (λ (m : LogMark). get_or m.firsts place 0) tells.mark ∙ ap (λ (k : ℕ). get_or (mark_of files).firsts k 0) at ∙ first_of files fits file low high;
    }
