-- The slots used, as gates say.
use Rattle.std.proofs.Common.{◌≡◌, ◌≢◌, ℕ, zero, suc, ◌+◌, ◌<◌, List, [], ◌∷◌, ◌++◌, length, take, get_or, refl, arith, ap, sym, ◌∙◌}
use Rattle.std.proofs.lemmas.List.{take_more, length-take-le}
use Rattle.std.specs.List.{AllByRecursion}
use Rattle.gated_slots.specs.Slots.{used, used_of, with_gate}
use Rattle.gated_slots.specs.SlotsLaws.{used_of-nil, used_of-cons, used_of-append_closed, used_of-append_open}
use Rattle.log_files.specs.Ring.{area_of}
use Rattle.log_scan.specs.Fronts.{counts_from}

-- one gate more, open
pub open_more : (gates : List ℕ) (i : ℕ) → i < length gates → get_or gates i 0 ≢ 0 → i + 1 ≡ used_of (take (i + 1) gates)
open_more gates i lt some = sym (ap used_of (take_more gates i 0 lt) ∙ by (get_or gates i 0) some)
  where
    by : (gate : ℕ) → gate ≢ 0 → used_of (take i gates ++ gate ∷ []) ≡ i + 1
    by zero none = absurd (none refl)
    by (suc gate) some =
        let one : used_of (suc gate ∷ []) ≡ 1 = used_of-cons (suc gate) [] ∙ ap (with_gate (suc gate)) used_of-nil in
        used_of-append_open (take i gates) (suc gate ∷ []) (omega (arith, one)) ∙ omega (arith, one, length-take-le i gates (omega arith))

-- and closed
pub closed_more : (gates : List ℕ) (i : ℕ) → i < length gates → get_or gates i 0 ≡ 0 → used_of (take i gates) ≡ used_of (take (i + 1) gates)
closed_more gates i lt none =
    let shut : used_of (get_or gates i 0 ∷ []) ≡ 0 = used_of-cons (get_or gates i 0) [] ∙ ap (with_gate (get_or gates i 0)) used_of-nil ∙ ap (λ (g : ℕ). with_gate g 0) none in
    sym (ap used_of (take_more gates i 0 lt) ∙ used_of-append_closed (take i gates) (get_or gates i 0 ∷ []) shut)

-- files that follow one another, one more
pub counts_more : (file n : ℕ) (bytes : List ℕ) → counts_from file (n + 1) bytes ≡ counts_from file n bytes ++ used (area_of (file + n)) bytes ∷ []
counts_more file zero bytes = ap (λ (k : ℕ). used (area_of k) bytes ∷ []) (let e : file ≡ file + 0 = omega arith in e)
counts_more file (suc n) bytes =
    ap (λ (k : ℕ). counts_from file k bytes) (let e : suc n + 1 ≡ suc (n + 1) = omega arith in e)
    ∙ ap (λ (l : List ℕ). used (area_of file) bytes ∷ l) (counts_more (file + 1) n bytes)
    ∙ ap (λ (k : ℕ). used (area_of file) bytes ∷ counts_from (file + 1) n bytes ++ used (area_of k) bytes ∷ []) (let e : file + 1 + n ≡ file + suc n = omega arith in e)

pub each_more : (P : ℕ → Type 0) (xs : List ℕ) (x : ℕ) → AllByRecursion P xs → P x → AllByRecursion P (xs ++ x ∷ [])
each_more P [] x each is = (is, tt)
each_more P (y ∷ xs) x each is = (each.0, each_more P xs x each.1 is)

pub last_pushed : (xs : List ℕ) (x n : ℕ) → length xs ≡ n → get_or (xs ++ x ∷ []) n 0 ≡ x
last_pushed [] x zero is = refl
last_pushed [] x (suc n) is = absurd (omega (arith, is))
last_pushed (y ∷ xs) x zero is = absurd (omega (arith, is))
last_pushed (y ∷ xs) x (suc n) is = last_pushed xs x n (omega (arith, is))
