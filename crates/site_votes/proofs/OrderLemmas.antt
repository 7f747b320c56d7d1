-- Where an object comes to stand.
use Rattle.std.proofs.Common.{◌≡◌, ℕ, zero, suc, ◌+◌, ◌<◌, ◌≤◌, Bool, true, false, List, [], ◌∷◌, ◌++◌, length, take, drop, refl, sym, ap, ◌∙◌, subst, arith, zero-add}
use Rattle.std.proofs.lemmas.Bool.Decides.{nat_tests}
use Rattle.std.specs.List.{AllByRecursion}
use Rattle.std.specs.Prelude.{◌==◌, ◌&&◌, nat_lt, filter, slice_get, Option, None, Some, if◌then◌else◌}
use Rattle.site_disk.specs.declared.disk.Disk.{Ghosts}
use Rattle.block_chain.specs.Blocks.{times, ascending, blocks_for, blocks_of_runs, AreMaximal, BeginsElsewhere}
use Rattle.block_chain.specs.declared.runs.Run.{Run}
use Rattle.block_chain.proofs.RunLemmas.{ascending-snoc}
use Rattle.catalogue_slots.specs.Records.{Object}
use Rattle.catalogue_replay.specs.Contents.{Contents}
use Rattle.object_volume.specs.Volumes.{free_of, blocks_in}
use Rattle.object_volume.specs.declared.volume.Volume.{Volume}
use Rattle.object_store.specs.Holdings.{blocks_of_all}
use Rattle.object_store.specs.declared.store.Store.{Store}
use Rattle.opening_laws.proofs.ShownLemmas.{same_blocks}
use Rattle.store_opening.specs.Opening.{live_on}
use Rattle.store_opening.specs.Standing.{Agrees, FreeInOrder}
use Rattle.site_worlds.specs.Worlds.{Site}
use Rattle.site_worlds.specs.Objects.{numbers, blocks_on}
use Rattle.site_courses.specs.NewObjects.{free_blocks, with_block, runs_of, new_runs}
use Rattle.site_layouts.specs.Stores.{contents_of}
use Rattle.lane_ways.specs.ListLaws.{filter_all, filter_and}

-- runs are the longest ones of their own blocks

alone : (first : ℕ) (runs : List Run) → BeginsElsewhere (suc first) runs → with_block first runs ≡ record { first = first; count = 1 } ∷ runs
alone first [] away = refl
alone first (run ∷ runs) away = by (run.first == suc first) refl
  where
    by : (b : Bool) → (run.first == suc first) ≡ b
        → (if b then record { first = first; count = suc run.count } ∷ runs else record { first = first; count = 1 } ∷ run ∷ runs)
        ≡ record { first = first; count = 1 } ∷ run ∷ runs
    by true is = let same : run.first ≡ suc first = grind (arith, nat_tests, is) in absurd (away same)
    by false is = refl

longer : (first count : ℕ) (runs : List Run) → with_block first (record { first = suc first; count = count } ∷ runs) ≡ record { first = first; count = suc count } ∷ runs
longer first count runs =
    ap (λ (b : Bool). if b then record { first = first; count = suc count } ∷ runs else record { first = first; count = 1 } ∷ record { first = suc first; count = count } ∷ runs) same
  where
    same : (suc first == suc first) ≡ true
    same = grind (arith, nat_tests)

run_before : (count first : ℕ) (rest : List ℕ) (runs : List Run) → runs_of rest ≡ runs → BeginsElsewhere (first + suc count) runs
    → runs_of (ascending first (suc count) ++ rest) ≡ record { first = first; count = suc count } ∷ runs
unfolding ascending
run_before zero first rest runs is away =
    ap (with_block first) is ∙ alone first runs (let next : first + 1 ≡ suc first = omega arith in subst (λ (n : ℕ). BeginsElsewhere n runs) next away)
run_before (suc count) first rest runs is away =
    ap (with_block first)
    (run_before count (suc first) rest runs is (let next : first + suc (suc count) ≡ suc first + suc count = omega arith in subst (λ (n : ℕ). BeginsElsewhere n runs) next away))
    ∙ longer first (suc count) runs

counted : (count first : ℕ) (rest : List ℕ) (runs : List Run) → 0 < count → runs_of rest ≡ runs → BeginsElsewhere (first + count) runs
    → runs_of (ascending first count ++ rest) ≡ record { first = first; count = count } ∷ runs
counted zero first rest runs some is away = absurd (omega (arith, some))
counted (suc count) first rest runs some is away = run_before count first rest runs is away

pub runs_again : (runs : List Run) → AreMaximal runs → runs_of (blocks_of_runs runs) ≡ runs
runs_again [] are = refl
runs_again (run ∷ runs) are = counted run.count run.first (blocks_of_runs runs) runs are.0 (runs_again runs are.2) are.1

-- the runs of a new object

module _ (site : Site) (volume size : ℕ) where
  abbrev by_room : Bool → Option (List Run)
  by_room full = if full then None else Some (runs_of (take (blocks_for size) (free_blocks site volume)))

  pub new_runs_some : (runs : List Run) → blocks_for size ≤ length (free_blocks site volume) → AreMaximal runs
      → blocks_of_runs runs ≡ take (blocks_for size) (free_blocks site volume) → new_runs site volume size ≡ Some runs
  new_runs_some runs room are stands =
      ap by_room (fits (length (free_blocks site volume)) (blocks_for size) room)
      ∙ ap (λ (l : List Run). Some l) (ap runs_of (sym stands) ∙ runs_again runs are)
    where
      fits : (a b : ℕ) → b ≤ a → nat_lt a b ≡ false
      fits a b le = grind (arith, nat_tests, le)

  pub new_runs_none : length (free_blocks site volume) < blocks_for size → new_runs site volume size ≡ None
  new_runs_none lacks = ap by_room (lacking (length (free_blocks site volume)) (blocks_for size) lacks)
    where
      lacking : (a b : ℕ) → a < b → nat_lt a b ≡ true
      lacking a b lt = grind (arith, nat_tests, lt)

-- the blocks that aren't among the live ones
abbrev pub by_blocks : List ℕ → ℕ → List ℕ
by_blocks live count = filter (λ block. times block live == 0) (ascending 0 count)

numbers_are : (n : ℕ) → ascending 0 n ≡ numbers n
unfolding ascending
numbers_are zero = refl
numbers_are (suc n) =
    ascending-snoc 0 n ∙ ap (λ (k : ℕ). ascending 0 n ++ k ∷ []) (zero-add n) ∙ ap (λ (l : List ℕ). l ++ n ∷ []) (numbers_are n)

-- the free blocks of a volume, by the site
pub free_is : {D : Type 0} (disk : Ghosts D) (from : ℕ) (store : Store D) (site : Site) (number : ℕ) (volume : Volume D)
    → Agrees disk from store (contents_of site.store) site.store.used site.head → FreeInOrder store → slice_get store.volumes.items number ≡ Some volume
    → free_of volume ≡ free_blocks site number
free_is disk from store site number volume agrees order there =
    order number volume there
    ∙ ap (λ (objects : List Object). by_blocks (blocks_of_all (live_on number objects)) (blocks_in volume)) (ap (λ (c : Contents). c.objects) agrees.contents_are)
    ∙ ap (λ (live : List ℕ). by_blocks live (blocks_in volume)) (same_blocks number site.store.kept)
    ∙ ap (by_blocks (blocks_on number site.store.kept)) (agrees.blocks number volume there)
    ∙ ap (λ (l : List ℕ). filter (λ block. times block (blocks_on number site.store.kept) == 0) l) (numbers_are site.head.blocks)

-- what is left of free blocks

filter_as : (p q : ℕ → Bool) (xs : List ℕ) → ((x : ℕ) → p x ≡ q x) → filter p xs ≡ filter q xs
filter_as p q [] same = refl
filter_as p q (x ∷ xs) same =
    ap (λ (b : Bool). if b then x ∷ filter p xs else filter p xs) (same x)
    ∙ ap (λ (l : List ℕ). if q x then x ∷ l else l) (filter_as p q xs same)

-- of a list no block stands in any more, each passes
filter_of : (p q : ℕ → Bool) (xs : List ℕ) → ((x : ℕ) → 0 < times x xs → p x ≡ q x) → filter p xs ≡ filter q xs
filter_of p q [] same = refl
filter_of p q (x ∷ xs) same =
    ap (λ (b : Bool). if b then x ∷ filter p xs else filter p xs) (same x (omega (arith, here x xs)))
    ∙ ap (λ (l : List ℕ). if q x then x ∷ l else l) (filter_of p q xs (λ y some. same y (omega (arith, some, more y x xs))))
  where
    here : (y : ℕ) (ys : List ℕ) → 1 ≤ times y (y ∷ ys)
    here y ys = let same_one : (y == y) ≡ true = grind (arith, nat_tests) in
        subst (λ (b : Bool). 1 ≤ (if b then 1 else 0) + times y ys) (sym same_one) (omega arith)

    more : (y z : ℕ) (ys : List ℕ) → times y ys ≤ times y (z ∷ ys)
    more y z ys = omega arith

pub left_of : (n : ℕ) (xs : List ℕ) → ((block : ℕ) → times block xs ≤ 1) → filter (λ block. times block (take n xs) == 0) xs ≡ drop n xs
left_of zero xs once = filter_all (λ (block : ℕ). true) xs (all_pass xs)
  where
    all_pass : (list : List ℕ) → AllByRecursion (λ block. true ≡ true) list
    all_pass [] = tt
    all_pass (x ∷ list) = (refl, all_pass list)
left_of (suc n) [] once = refl
left_of (suc n) (x ∷ xs) once =
    ap (λ (b : Bool). if b then x ∷ filter taken xs else filter taken xs) out
    ∙ filter_of taken (λ block. times block (take n xs) == 0) xs apart
    ∙ left_of n xs (λ block. let all = once block in omega (arith, all))
  where
    taken : ℕ → Bool
    taken block = times block (x ∷ take n xs) == 0

    same_one : (x == x) ≡ true
    same_one = grind (arith, nat_tests)

    no_zero : (k : ℕ) → (1 + k == 0) ≡ false
    no_zero k = grind (arith, nat_tests)

    out : taken x ≡ false
    out = ap (λ (b : Bool). (if b then 1 else 0) + times x (take n xs) == 0) same_one ∙ no_zero (times x (take n xs))

    none_more : times x xs ≡ 0
    none_more = let all = subst (λ (b : Bool). (if b then 1 else 0) + times x xs ≤ 1) same_one (once x) in omega (arith, all)

    apart : (block : ℕ) → 0 < times block xs → taken block ≡ (times block (take n xs) == 0)
    apart block some = by (x == block) refl
      where
        by : (b : Bool) → (x == block) ≡ b → ((if b then 1 else 0) + times block (take n xs) == 0) ≡ (times block (take n xs) == 0)
        by true is = let same : x ≡ block = grind (arith, nat_tests, is) in
            absurd (omega (arith, some, subst (λ (k : ℕ). times k xs ≡ 0) same none_more))
        by false is = ap (λ (k : ℕ). k == 0) (zero-add (times block (take n xs)))

-- the blocks of one object more are taken out
pub order_behind : (live more taken : List ℕ) (n count : ℕ) → ((block : ℕ) → times block more ≡ times block live + times block taken)
    → taken ≡ take n (by_blocks live count) → ((block : ℕ) → times block (by_blocks live count) ≤ 1) → by_blocks more count ≡ drop n (by_blocks live count)
order_behind live more taken n count adds is once =
    filter_as (λ block. times block more == 0) (λ block. (times block live == 0) && (times block (take n (by_blocks live count)) == 0)) (ascending 0 count)
    (λ block. both (times block live) (times block taken) (times block more) (adds block)
    ∙ ap (λ (l : List ℕ). (times block live == 0) && (times block l == 0)) is)
    ∙ sym (filter_and (λ block. times block live == 0) (λ block. times block (take n (by_blocks live count)) == 0) (ascending 0 count))
    ∙ left_of n (by_blocks live count) once
  where
    both : (a b c : ℕ) → c ≡ a + b → (c == 0) ≡ ((a == 0) && (b == 0))
    both zero b c sum = ap (λ (k : ℕ). k == 0) (let s : c ≡ b = omega (arith, sum) in s)
    both (suc a) b c sum = let some : c ≡ suc (a + b) = omega (arith, sum) in
        ap (λ (k : ℕ). k == 0) some ∙ never (a + b) ∙ sym (ap (λ (t : Bool). t && (b == 0)) (never a))
      where
        never : (k : ℕ) → (suc k == 0) ≡ false
        never k = grind (arith, nat_tests)
