-- Laws of runs: how many blocks they have, and that a list of blocks has one list of maximal runs.
use Rattle.std.proofs.Common.{◌≡◌, ℕ, zero, suc, ◌+◌, ◌-◌, ◌^◌, ◌<◌, ◌≤◌, List, [], ◌∷◌, ◌++◌, length, drop, refl, sym, ap, ◌∙◌, subst, arith, ⊎_elim, length-append, append_assoc}
use Rattle.std.specs.List.{AllByRecursion}
use Rattle.std.proofs.lemmas.List.{drop_at}
use Rattle.std.proofs.lemmas.List.Sums.{sum_by-cons}
use Rattle.std.proofs.lemmas.Bool.{cases_lt}
use Rattle.block_chain.specs.Blocks.{times, ascending, blocks_of_runs, AreSound, BeginsElsewhere, AreMaximal, FitsRun, blocks_in}
use Rattle.block_chain.specs.BlocksLaws.{times-append, times_within, length-ascending, ascending-append}
use Rattle.block_chain.specs.declared.runs.Run.{Run}

pub length-blocks_of_runs : (runs : List Run) → length (blocks_of_runs runs) ≡ blocks_in runs
length-blocks_of_runs [] = refl
length-blocks_of_runs (run ∷ runs) =
    length-append (ascending run.first run.count) (blocks_of_runs runs)
    ∙ omega (arith, length-ascending run.first run.count, length-blocks_of_runs runs, sum_by-cons (λ (r : Run). r.count) run runs)

-- runs that aren't empty begin with their first block
first_block : (run : Run) (runs : List Run) → 0 < run.count
    → blocks_of_runs (run ∷ runs) ≡ run.first ∷ (ascending (suc run.first) (run.count - 1) ++ blocks_of_runs runs)
unfolding ascending
first_block run runs some =
    let count : run.count ≡ suc (run.count - 1) = omega (arith, some) in
    ap (λ (n : ℕ). ascending run.first n ++ blocks_of_runs runs) count

same_head : (x y : ℕ) (xs ys : List ℕ) → x ∷ xs ≡ y ∷ ys → x ≡ y
same_head x y xs ys e = cc

-- what stands behind the blocks of a run
behind_run : (first n k : ℕ) (xs rest : List ℕ) → ascending first n ++ xs ≡ ascending first (n + k) ++ rest → xs ≡ ascending (first + n) k ++ rest
behind_run first n k xs rest e =
    let cut : ascending first (n + k) ++ rest ≡ ascending first n ++ (ascending (first + n) k ++ rest) =
    ap (λ (l : List ℕ). l ++ rest) (ascending-append first n k) ∙ append_assoc (ascending first n) (ascending (first + n) k) rest in
    sym (drop_at (ascending first n) xs n (length-ascending first n)) ∙ ap (drop n) (e ∙ cut)
    ∙ drop_at (ascending first n) (ascending (first + n) k ++ rest) n (length-ascending first n)

-- behind a run no other begins with the block that comes next
not_next : (block k : ℕ) (runs : List Run) (rest : List ℕ) → BeginsElsewhere block runs → AreMaximal runs → blocks_of_runs runs ≡ ascending block (suc k) ++ rest → ⊥
unfolding ascending
not_next block k [] rest elsewhere are e = cc
not_next block k (run ∷ runs) rest elsewhere are e =
    elsewhere (same_head run.first block (ascending (suc run.first) (run.count - 1) ++ blocks_of_runs runs) (ascending (suc block) k ++ rest)
    (sym (first_block run runs are.0) ∙ e))

-- of two lists of maximal runs of the same blocks, neither has a longer first run
no_longer : (first n m : ℕ) (runs : List Run) (rest : List ℕ) → BeginsElsewhere (first + n) runs → AreMaximal runs
    → ascending first n ++ blocks_of_runs runs ≡ ascending first m ++ rest → m ≤ n
no_longer first n m runs rest elsewhere are e = ⊎_elim
    (λ (longer : n < m).
    let more : m ≡ n + suc (m - n - 1) = omega arith in
    absurd (not_next (first + n) (m - n - 1) runs rest elsewhere are
    (behind_run first n (suc (m - n - 1)) (blocks_of_runs runs) rest (e ∙ ap (λ (k : ℕ). ascending first k ++ rest) more))))
    (λ (le : m ≤ n). le)
    (cases_lt n m)

abbrev run_with : ℕ → ℕ → Run
run_with first count = record { first = first; count = count }

-- a list of blocks has one list of maximal runs
pub maximal_once : (xs ys : List Run) → AreMaximal xs → AreMaximal ys → blocks_of_runs xs ≡ blocks_of_runs ys → xs ≡ ys
maximal_once [] [] are_x are_y e = refl
maximal_once [] (y ∷ ys) are_x are_y e = absurd (omega (arith, are_y.0, ap length e, ap length (first_block y ys are_y.0)))
maximal_once (x ∷ xs) [] are_x are_y e = absurd (omega (arith, are_x.0, ap length e, ap length (first_block x xs are_x.0)))
maximal_once (x ∷ xs) (y ∷ ys) are_x are_y e =
    let firsts : x.first ≡ y.first = same_head x.first y.first _ _ (sym (first_block x xs are_x.0) ∙ e ∙ first_block y ys are_y.0) in
    let from_x : ascending x.first x.count ++ blocks_of_runs xs ≡ ascending x.first y.count ++ blocks_of_runs ys =
    e ∙ ap (λ (n : ℕ). ascending n y.count ++ blocks_of_runs ys) (sym firsts) in
    let x_most : y.count ≤ x.count = no_longer x.first x.count y.count xs (blocks_of_runs ys) are_x.1 are_x.2 from_x in
    let y_begins : BeginsElsewhere (x.first + y.count) ys = subst (λ (n : ℕ). BeginsElsewhere (n + y.count) ys) (sym firsts) are_y.1 in
    let y_most : x.count ≤ y.count = no_longer x.first y.count x.count ys (blocks_of_runs xs) y_begins are_y.2 (sym from_x) in
    let counts : x.count ≡ y.count = omega arith in
    let others : blocks_of_runs xs ≡ blocks_of_runs ys =
    sym (drop_at (ascending x.first x.count) (blocks_of_runs xs) x.count (length-ascending x.first x.count)) ∙ ap (drop x.count) from_x
    ∙ drop_at (ascending x.first y.count) (blocks_of_runs ys) x.count (length-ascending x.first y.count ∙ sym counts) in
    let same : xs ≡ ys = maximal_once xs ys are_x.2 are_y.2 others in
    ap (λ (n : ℕ). run_with n x.count ∷ xs) firsts ∙ ap (λ (n : ℕ). run_with y.first n ∷ xs) counts ∙ ap (λ (l : List Run). y ∷ l) same

-- a run of blocks below a number ends there at the latest
pub run_fits : (blocks first count : ℕ) (before behind : List ℕ) → AreSound blocks (before ++ (ascending first count ++ behind)) → 0 < count → first + count ≤ blocks
run_fits blocks first zero before behind sound some = omega arith
run_fits blocks first (suc n) before behind sound some =
    let stands : times (first + n) (ascending first (suc n)) ≡ 1 = times_within (first + n) first (suc n) (omega arith) (omega arith) in
    let below : first + n < blocks = sound.below (first + n) (omega (arith, stands, times-append (first + n) before (ascending first (suc n) ++ behind), times-append (first + n) (ascending first (suc n)) behind)) in
    omega arith

-- maximal runs of the blocks of a table fit
pub sound_runs_fit : (blocks : ℕ) (runs : List Run) → blocks < 2 ^ 32 → AreSound blocks (blocks_of_runs runs) → AreMaximal runs → AllByRecursion FitsRun runs
sound_runs_fit blocks runs limit sound are = each [] runs sound are
  where
    each : (before : List ℕ) (runs : List Run) → AreSound blocks (before ++ blocks_of_runs runs) → AreMaximal runs → AllByRecursion FitsRun runs
    each before [] sound are = tt
    each before (run ∷ runs) sound are =
        let below : run.first + run.count ≤ blocks = run_fits blocks run.first run.count before (blocks_of_runs runs) sound are.0 in (
          record { first = omega (arith, below, are.0, limit); count = omega (arith, below, limit) },
          each (before ++ ascending run.first run.count) runs
              (subst (AreSound blocks) (sym (append_assoc before (ascending run.first run.count) (blocks_of_runs runs))) sound) are.2,
        )
