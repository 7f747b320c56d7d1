-- Lemmas of rows.
use Rattle.std.proofs.Common.{◌≡◌, ℕ, suc, ◌+◌, ◌-◌, ◌*◌, ◌<◌, ◌≤◌, List, [], ◌++◌, take, drop, refl, ap, sym, ◌∙◌, arith, append_assoc}
use Rattle.std.proofs.lemmas.List.{drop-drop, append-nil}
use Rattle.page_texts.specs.Texts.{row, rows}

pub rows_step : (i : ℕ) (payload : List ℕ) → i < 255
    → rows (255 - i) (16 * i) (drop (16 * i) payload) ≡ row (16 * i) (take 16 (drop (16 * i) payload)) ++ rows (255 - (i + 1)) (16 * (i + 1)) (drop (16 * (i + 1)) payload)
unfolding rows
rows_step i payload lt =
    let here = drop (16 * i) payload in
    let left : 255 - i ≡ suc (255 - (i + 1)) = omega arith in
    let place : 16 * i + 16 ≡ 16 * (i + 1) = omega arith in
    let behind : drop 16 here ≡ drop (16 * (i + 1)) payload = drop-drop 16 (16 * i) payload ∙ ap (λ (k : ℕ). drop k payload) place in
    ap (λ (k : ℕ). rows k (16 * i) here) left
    ∙ ap (λ (t : List ℕ). row (16 * i) (take 16 here) ++ t)
    (ap (λ (k : ℕ). rows (255 - (i + 1)) k (drop 16 here)) place ∙ ap (λ (bytes : List ℕ). rows (255 - (i + 1)) (16 * (i + 1)) bytes) behind)

pub no_rows : (offset : ℕ) (bytes : List ℕ) → rows 0 offset bytes ≡ []
unfolding rows
no_rows offset bytes = refl

-- one row more
pub rows_added : (i : ℕ) (payload text now all : List ℕ) → i < 255 → now ≡ text ++ row (16 * i) (take (16 * i + 16 - 16 * i) (drop (16 * i) payload))
    → text ++ rows (255 - i) (16 * i) (drop (16 * i) payload) ≡ all
    → now ++ rows (255 - (i + 1)) (16 * (i + 1)) (drop (16 * (i + 1)) payload) ≡ all
rows_added i payload text now all lt added before =
    let width : 16 * i + 16 - 16 * i ≡ 16 = omega arith in
    let others = rows (255 - (i + 1)) (16 * (i + 1)) (drop (16 * (i + 1)) payload) in
    ap (λ (t : List ℕ). t ++ others) (added ∙ ap (λ (k : ℕ). text ++ row (16 * i) (take k (drop (16 * i) payload))) width)
    ∙ append_assoc text (row (16 * i) (take 16 (drop (16 * i) payload))) others
    ∙ ap (λ (t : List ℕ). text ++ t) (sym (rows_step i payload lt))
    ∙ before

-- all rows
pub rows_ended : (i : ℕ) (payload text all : List ℕ) → 255 ≤ i → i ≤ 255
    → text ++ rows (255 - i) (16 * i) (drop (16 * i) payload) ≡ all → text ≡ all
rows_ended i payload text all from to before =
    let none : 255 - i ≡ 0 = omega arith in
    sym (append-nil text)
    ∙ ap (λ (t : List ℕ). text ++ t) (sym (ap (λ (k : ℕ). rows k (16 * i) (drop (16 * i) payload)) none ∙ no_rows (16 * i) (drop (16 * i) payload)))
    ∙ before
