-- Laws of runs in slots.
use Rattle.std.specs.Prelude.{◌≡◌, ℕ, ◌-◌, ◌*◌, ◌≤◌, List, [], ◌∷◌, ◌++◌, length, take, drop, replicate, zero, suc, refl}
use Rattle.std.specs.List.{AllByRecursion, flat_map}
use Rattle.std.specs.Int.{to_be_bytes, w32}
use Rattle.std.proofs.Common.{sym, ap, ◌∙◌, arith}
use Rattle.std.proofs.lemmas.List.{length-append, length-replicate, take_at, drop_at, take-append-drop, length-take-le}
use Rattle.std.proofs.lemmas.List.Concat.{flat_map-append}
use Rattle.byte_fields.proofs.FieldLemmas.{same_number}
use Rattle.block_chain.specs.Blocks.{AreMaximal, FitsRun}
use Rattle.block_chain.specs.declared.runs.Run.{Run}
use Rattle.catalogue_slots.specs.Layout.{run_bytes, runs_in_place}

pub length-run_bytes : (run : Run) → length (run_bytes run) ≡ 8
unfolding run_bytes
length-run_bytes run = refl

take-run_bytes : (run : Run) → take 4 (run_bytes run) ≡ to_be_bytes w32 run.first
unfolding run_bytes
take-run_bytes run = refl

drop-run_bytes : (run : Run) → drop 4 (run_bytes run) ≡ to_be_bytes w32 run.count
unfolding run_bytes
drop-run_bytes run = refl

abbrev run_with : ℕ → ℕ → Run
run_with first count = record { first = first; count = count }

-- the bytes of a run are no other's
pub same_run : (a b : Run) → FitsRun a → FitsRun b → run_bytes a ≡ run_bytes b → a ≡ b
same_run a b is_a is_b e =
    let firsts : a.first ≡ b.first = same_number w32 a.first b.first (omega arith) is_a.first is_b.first (sym (take-run_bytes a) ∙ ap (take 4) e ∙ take-run_bytes b) in
    let counts : a.count ≡ b.count = same_number w32 a.count b.count (omega arith) is_a.count is_b.count (sym (drop-run_bytes a) ∙ ap (drop 4) e ∙ drop-run_bytes b) in
    ap (λ (n : ℕ). run_with n a.count) firsts ∙ ap (λ (n : ℕ). run_with b.first n) counts

pub length-runs : (runs : List Run) → length (flat_map run_bytes runs) ≡ 8 * length runs
length-runs [] = refl
length-runs (run ∷ runs) = omega (arith, length-append (run_bytes run) (flat_map run_bytes runs), length-run_bytes run, length-runs runs)

-- the bytes of so many runs are no others'
pub same_runs : (xs ys : List Run) → AllByRecursion FitsRun xs → AllByRecursion FitsRun ys → length xs ≡ length ys
    → flat_map run_bytes xs ≡ flat_map run_bytes ys → xs ≡ ys
same_runs [] [] each_x each_y lengths e = refl
same_runs [] (y ∷ ys) each_x each_y lengths e = absurd (omega arith)
same_runs (x ∷ xs) [] each_x each_y lengths e = absurd (omega arith)
same_runs (x ∷ xs) (y ∷ ys) each_x each_y lengths e =
    let first : run_bytes x ≡ run_bytes y =
    sym (take_at (run_bytes x) (flat_map run_bytes xs) 8 (length-run_bytes x)) ∙ ap (take 8) e
    ∙ take_at (run_bytes y) (flat_map run_bytes ys) 8 (length-run_bytes y) in
    let others : flat_map run_bytes xs ≡ flat_map run_bytes ys =
    sym (drop_at (run_bytes x) (flat_map run_bytes xs) 8 (length-run_bytes x)) ∙ ap (drop 8) e
    ∙ drop_at (run_bytes y) (flat_map run_bytes ys) 8 (length-run_bytes y) in
    let same : x ≡ y = same_run x y each_x.0 each_y.0 first in
    let rest : xs ≡ ys = same_runs xs ys each_x.1 each_y.1 (omega arith) others in
    ap (λ (z : Run). z ∷ xs) same ∙ ap (λ (zs : List Run). y ∷ zs) rest

-- the first so many of some runs
pub flat_map-take : (n : ℕ) (runs : List Run) → n ≤ length runs → take (8 * n) (flat_map run_bytes runs) ≡ flat_map run_bytes (take n runs)
flat_map-take n runs within =
    let parts : flat_map run_bytes runs ≡ flat_map run_bytes (take n runs) ++ flat_map run_bytes (drop n runs) =
    ap (flat_map run_bytes) (sym (take-append-drop n runs)) ∙ flat_map-append run_bytes (take n runs) (drop n runs) in
    ap (take (8 * n)) parts
    ∙ take_at (flat_map run_bytes (take n runs)) (flat_map run_bytes (drop n runs)) (8 * n)
    (length-runs (take n runs) ∙ ap (λ (k : ℕ). 8 * k) (length-take-le n runs within))

pub fit-take : (n : ℕ) (runs : List Run) → AllByRecursion FitsRun runs → AllByRecursion FitsRun (take n runs)
fit-take zero runs fit = tt
fit-take (suc n) [] fit = tt
fit-take (suc n) (x ∷ xs) fit = (fit.0, fit-take n xs fit.1)

pub maximal-take : (n : ℕ) (runs : List Run) → AreMaximal runs → AreMaximal (take n runs)
maximal-take zero runs are = tt
maximal-take (suc n) [] are = tt
maximal-take (suc zero) (x ∷ xs) are = (are.0, tt, tt)
maximal-take (suc (suc n)) (x ∷ []) are = (are.0, tt, tt)
maximal-take (suc (suc n)) (x ∷ y ∷ ys) are = (are.0, are.1, maximal-take (suc n) (y ∷ ys) are.2)

pub length-runs_in_place : (room : ℕ) (runs : List Run) → length runs ≤ room → length (runs_in_place room runs) ≡ 8 * room
unfolding runs_in_place
length-runs_in_place room runs few =
    omega (arith, length-append (flat_map run_bytes runs) (replicate {A = ℕ} (8 * (room - length runs)) 0), length-runs runs, length-replicate {A = ℕ} (8 * (room - length runs)) 0)
