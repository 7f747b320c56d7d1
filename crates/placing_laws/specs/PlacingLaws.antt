-- Where a new object comes to stand: in blocks that no live object has.
use Rattle.std.specs.Prelude.{◌≡◌, ℕ, zero, suc, ◌+◌, ◌==◌, ◌<◌, ◌≤◌, ◌^◌, List, [], ◌∷◌, ◌++◌, length, take, filter, Bool, true, false, not, nat_lt, if◌then◌else◌, None, Some}
use Rattle.std.specs.List.{AllByRecursion}
use Rattle.std.proofs.Common.{arith, refl, sym, ap, subst, ◌∙◌, ⊎_elim, append_assoc, length-take}
use Rattle.std.proofs.lemmas.Bool.{cases_lt, false≢true}
use Rattle.std.proofs.lemmas.Bool.Decides.{nat_tests}
use Rattle.std.proofs.lemmas.Grind.{flat_map-append}
use Rattle.std.proofs.lemmas.List.{append-nil}
use Rattle.std.proofs.lemmas.List.Sums.{sum_by-cons}
use Rattle.block_chain.specs.Blocks.{times, ascending, blocks_of_runs, blocks_in, blocks_for, AreSound, BeginsElsewhere, AreMaximal, FitsRun}
use Rattle.block_chain.specs.BlocksLaws.{times-append, length_of_distinct}
use Rattle.block_chain.specs.RunLaws.{length-blocks_of_runs, run_fits}
use Rattle.block_chain.specs.declared.runs.Run.{Run}
use Rattle.catalogue_slots.specs.Records.{AreRuns}
use Rattle.site_worlds.specs.Worlds.{Kept, Site}
use Rattle.site_worlds.specs.Objects.{numbers, blocks_on}
use Rattle.site_worlds.specs.Moves.{is_among, kept_after}
use Rattle.site_courses.specs.NewObjects.{free_blocks, with_block, runs_of, new_runs}

-- runs of blocks

blocks_with : (block : ℕ) (runs : List Run) → blocks_of_runs (with_block block runs) ≡ block ∷ blocks_of_runs runs
unfolding ascending
blocks_with block [] = refl
blocks_with block (run ∷ runs) = by (run.first == suc block) refl
  where
    by : (b : Bool) → (run.first == suc block) ≡ b
        → blocks_of_runs (if b then record { first = block; count = suc run.count } ∷ runs else record { first = block; count = 1 } ∷ run ∷ runs)
        ≡ block ∷ blocks_of_runs (run ∷ runs)
    by true is = let next : suc block ≡ run.first = grind (arith, nat_tests, is) in
        ap (λ (n : ℕ). block ∷ (ascending n run.count ++ blocks_of_runs runs)) next
    by false is = refl

-- the runs of blocks have these blocks, in order
pub blocks_of_new : (blocks : List ℕ) → blocks_of_runs (runs_of blocks) ≡ blocks
blocks_of_new [] = refl
blocks_of_new (block ∷ blocks) = blocks_with block (runs_of blocks) ∙ ap (λ (l : List ℕ). block ∷ l) (blocks_of_new blocks)

maximal_with : (block : ℕ) (runs : List Run) → AreMaximal runs → AreMaximal (with_block block runs)
maximal_with block [] are = (omega arith, tt, tt)
maximal_with block (run ∷ runs) are = by (run.first == suc block) refl
  where
    by : (b : Bool) → (run.first == suc block) ≡ b
        → AreMaximal (if b then record { first = block; count = suc run.count } ∷ runs else record { first = block; count = 1 } ∷ run ∷ runs)
    by true is = let end : run.first + run.count ≡ block + suc run.count = grind (arith, nat_tests, is) in
        (omega arith, subst (λ (n : ℕ). BeginsElsewhere n runs) end are.1, are.2)
    by false is = (omega arith, (λ next. false≢true (sym is ∙ here next)), are)
      where
        here : run.first ≡ block + 1 → (run.first == suc block) ≡ true
        here next = grind (arith, nat_tests, next)

maximal_new : (blocks : List ℕ) → AreMaximal (runs_of blocks)
maximal_new [] = tt
maximal_new (block ∷ blocks) = maximal_with block (runs_of blocks) (maximal_new blocks)

each_fits : (n : ℕ) (before : List ℕ) (runs : List Run) → n < 2 ^ 32 → AreMaximal runs → AreSound n (before ++ blocks_of_runs runs) → AllByRecursion FitsRun runs
each_fits n before [] few are sound = tt
each_fits n before (run ∷ runs) few are sound =
    let within : run.first + run.count ≤ n = run_fits n run.first run.count before (blocks_of_runs runs) sound are.0 in (
      record { first = omega (arith, within, few, are.0); count = omega (arith, within, few) },
      each_fits n (before ++ ascending run.first run.count) runs few are.2
          (subst (AreSound n) (sym (append_assoc before (ascending run.first run.count) (blocks_of_runs runs))) sound),
    )

runs_few : (runs : List Run) → AreMaximal runs → length runs ≤ blocks_in runs
runs_few [] are = omega arith
runs_few (run ∷ runs) are = omega (arith, are.0, runs_few runs are.2, sum_by-cons (λ (r : Run). r.count) run runs)

-- blocks in lists

times_take : (block n : ℕ) (xs : List ℕ) → times block (take n xs) ≤ times block xs
times_take block zero xs = omega arith
times_take block (suc n) [] = omega arith
times_take block (suc n) (x ∷ xs) = omega (arith, times_take block n xs)

times_filter : (test : ℕ → Bool) (block : ℕ) (xs : List ℕ) → times block (filter test xs) ≤ times block xs
times_filter test block [] = omega arith
times_filter test block (x ∷ xs) = by (test x) (times_filter test block xs)
  where
    by : (b : Bool) → times block (filter test xs) ≤ times block xs → times block (if b then x ∷ filter test xs else filter test xs) ≤ times block (x ∷ xs)
    by true le = omega (arith, le)
    by false le = omega (arith, le)

passes : (test : ℕ → Bool) (block : ℕ) (xs : List ℕ) → 0 < times block (filter test xs) → test block ≡ true
passes test block [] some = absurd (omega (arith, some))
passes test block (x ∷ xs) some = by (test x) refl some (passes test block xs)
  where
    here : (c : Bool) → (x == block) ≡ c → test x ≡ true → 0 < (if c then 1 else 0) + times block (filter test xs)
        → (0 < times block (filter test xs) → test block ≡ true) → test block ≡ true
    here true same is more later = let e : x ≡ block = grind (arith, nat_tests, same) in subst (λ (n : ℕ). test n ≡ true) e is
    here false same is more later = later (omega (arith, more))

    by : (b : Bool) → test x ≡ b → 0 < times block (if b then x ∷ filter test xs else filter test xs)
        → (0 < times block (filter test xs) → test block ≡ true) → test block ≡ true
    by true is more later = here (x == block) refl is more later
    by false is more later = later more

one_time : (block n : ℕ) → times block (n ∷ []) ≤ 1
one_time block n = by (n == block)
  where
    by : (b : Bool) → (if b then 1 else 0) + 0 ≤ 1
    by true = omega arith
    by false = omega arith

same_block : (block n : ℕ) → 0 < times block (n ∷ []) → n ≡ block
same_block block n some = by (n == block) refl some
  where
    by : (b : Bool) → (n == block) ≡ b → 0 < (if b then 1 else 0) + 0 → n ≡ block
    by true is more = grind (arith, nat_tests, is)
    by false is more = absurd (omega (arith, more))

numbers_below : (n block : ℕ) → 0 < times block (numbers n) → block < n
numbers_below zero block some = absurd (omega (arith, some))
numbers_below (suc n) block some = ⊎_elim
    (λ early. omega (arith, numbers_below n block early))
    (λ none. omega (arith, same_block block n (omega (arith, some, times-append block (numbers n) (n ∷ []), none))))
    (cases_lt 0 (times block (numbers n)))

numbers_once : (n block : ℕ) → times block (numbers n) ≤ 1
numbers_once zero block = omega arith
numbers_once (suc n) block = ⊎_elim
    (λ early. let before : block < n = numbers_below n block early in ⊎_elim
    (λ again. absurd (omega (arith, before, same_block block n again)))
    (λ none. omega (arith, numbers_once n block, times-append block (numbers n) (n ∷ []), none))
    (cases_lt 0 (times block (n ∷ []))))
    (λ none. omega (arith, one_time block n, times-append block (numbers n) (n ∷ []), none))
    (cases_lt 0 (times block (numbers n)))

-- the blocks that an object of this size takes on a volume
abbrev taken : Site → ℕ → ℕ → List ℕ
taken site volume size = take (blocks_for size) (free_blocks site volume)

taken_sound : (site : Site) (volume size : ℕ) → AreSound site.head.blocks (taken site volume size)
taken_sound site volume size = record {
  once = λ block. omega (arith, from block, numbers_once site.head.blocks block);
  below = λ block some. numbers_below site.head.blocks block (omega (arith, some, from block));
}
  where
    from : (block : ℕ) → times block (taken site volume size) ≤ times block (numbers site.head.blocks)
    from block = omega (
      arith,
      times_take block (blocks_for size) (free_blocks site volume),
      times_filter (λ b. times b (blocks_on volume site.store.kept) == 0) block (numbers site.head.blocks),
    )

taken_free : (site : Site) (volume size block : ℕ) → 0 < times block (taken site volume size) → times block (blocks_on volume site.store.kept) ≡ 0
taken_free site volume size block some =
    let free : (times block (blocks_on volume site.store.kept) == 0) ≡ true = passes (λ b. times b (blocks_on volume site.store.kept) == 0) block (numbers site.head.blocks)
    (omega (arith, some, times_take block (blocks_for size) (free_blocks site volume))) in
    grind (arith, nat_tests, free)

-- blocks that are apart, within the volume, and none of them in use
pub record CanStand (blocks : ℕ) (used new : List ℕ) : Type 0 where
  pub once : (block : ℕ) → times block new ≤ 1
  pub below : (block : ℕ) → 0 < times block new → block < blocks
  pub free : (block : ℕ) → 0 < times block new → times block used ≡ 0

pub none_stand : (blocks : ℕ) (used : List ℕ) → CanStand blocks used []
none_stand blocks used = record {
  once = λ block. omega arith;
  below = λ block some. absurd (omega (arith, some));
  free = λ block some. absurd (omega (arith, some));
}

-- Runs in which an object of this size finds its blocks: as many as it takes, none of which is in use.
pub record AreNewRuns (site : Site) (volume size : ℕ) (runs : List Run) : Type 0 where
  pub blocks : blocks_of_runs runs ≡ taken site volume size
  pub maximal : AreMaximal runs
  pub long : blocks_in runs ≡ blocks_for size
  pub within : blocks_for size ≤ site.head.blocks

some_of : (b : Bool) (some runs : List Run) → (if b then None else Some some) ≡ Some runs → (b ≡ false) × (runs ≡ some)
some_of true some runs is = absurd cc
some_of false some runs is = (refl, cc)

pub new_runs_are : (site : Site) (volume size : ℕ) (runs : List Run) → new_runs site volume size ≡ Some runs → AreNewRuns site volume size runs
new_runs_are site volume size runs is = record {
  blocks = ap blocks_of_runs parts.1 ∙ blocks_of_new (taken site volume size);
  maximal = subst AreMaximal (sym parts.1) (maximal_new (taken site volume size));
  long = sym (length-blocks_of_runs runs) ∙ ap length (ap blocks_of_runs parts.1 ∙ blocks_of_new (taken site volume size)) ∙ count;
  within = omega (arith, sym count, length_of_distinct site.head.blocks (taken site volume size) (taken_sound site volume size).once (taken_sound site volume size).below);
}
  where
    parts : (nat_lt (length (free_blocks site volume)) (blocks_for size) ≡ false) × (runs ≡ runs_of (taken site volume size))
    parts = some_of (nat_lt (length (free_blocks site volume)) (blocks_for size)) (runs_of (taken site volume size)) runs is

    room : blocks_for size ≤ length (free_blocks site volume)
    room = grind (arith, nat_tests, parts.0)

    count : length (taken site volume size) ≡ blocks_for size
    count = omega (arith, length-take (blocks_for size) (free_blocks site volume), room)

module _ (site : Site) (volume size : ℕ) (runs : List Run) (new : AreNewRuns site volume size runs) where
  pub new_sound : AreSound site.head.blocks (blocks_of_runs runs)
  new_sound = subst (AreSound site.head.blocks) (sym new.blocks) (taken_sound site volume size)

  pub new_free : (block : ℕ) → 0 < times block (blocks_of_runs runs) → times block (blocks_on volume site.store.kept) ≡ 0
  new_free block some = taken_free site volume size block (subst (λ (l : List ℕ). 0 < times block l) new.blocks some)

  pub new_stands : CanStand site.head.blocks (blocks_on volume site.store.kept) (blocks_of_runs runs)
  new_stands = record { once = new_sound.once; below = new_sound.below; free = new_free }

  pub new_fit : site.head.blocks ≤ 1048576 → AreRuns runs
  new_fit few = record { fit = each_fits site.head.blocks [] runs (omega (arith, few)) new.maximal new_sound; maximal = new.maximal }

  pub new_few : site.head.blocks ≤ 1048576 → length runs < 2 ^ 32
  new_few few = omega (arith, runs_few runs new.maximal, new.long, new.within, few)

  pub new_size : site.head.blocks ≤ 1048576 → size < 2 ^ 64
  new_size few = omega (arith, new.within, few)

-- the blocks of live objects behind a transaction

-- of live objects those that stay have no more blocks
pub fewer_blocks : (test : Kept → Bool) (volume block : ℕ) (kept : List Kept) → times block (blocks_on volume (filter test kept)) ≤ times block (blocks_on volume kept)
fewer_blocks test volume block [] = omega arith
fewer_blocks test volume block (k ∷ kept) = by (test k) (fewer_blocks test volume block kept)
  where
    own : List ℕ
    own = if k.object.volume == volume then blocks_of_runs k.object.runs else []

    by : (b : Bool) → times block (blocks_on volume (filter test kept)) ≤ times block (blocks_on volume kept)
        → times block (blocks_on volume (if b then k ∷ filter test kept else filter test kept)) ≤ times block (blocks_on volume (k ∷ kept))
    by true le = omega (arith, le, times-append block own (blocks_on volume (filter test kept)), times-append block own (blocks_on volume kept))
    by false le = omega (arith, le, times-append block own (blocks_on volume kept))

-- an object whose blocks may stand on its volume may stand on each
pub one_stands : (blocks : ℕ) (kept : List Kept) (one : Kept) → CanStand blocks (blocks_on one.object.volume kept) (blocks_of_runs one.object.runs)
    → (volume : ℕ) → CanStand blocks (blocks_on volume kept) (blocks_on volume (one ∷ []))
one_stands blocks kept one stand volume = by (one.object.volume == volume) refl
  where
    here : one.object.volume ≡ volume → CanStand blocks (blocks_on volume kept) (blocks_of_runs one.object.runs ++ [])
    here same = subst (λ (l : List ℕ). CanStand blocks (blocks_on volume kept) l) (sym (append-nil (blocks_of_runs one.object.runs)))
        (subst (λ (v : ℕ). CanStand blocks (blocks_on v kept) (blocks_of_runs one.object.runs)) same stand)

    by : (b : Bool) → (one.object.volume == volume) ≡ b → CanStand blocks (blocks_on volume kept) ((if b then blocks_of_runs one.object.runs else []) ++ [])
    by true is = here (grind (arith, nat_tests, is))
    by false is = none_stand blocks (blocks_on volume kept)

module _ (blocks : ℕ) (kept : List Kept) where
  pub sound_behind : (added : List Kept) (deleted : List ℕ) (volume : ℕ) → AreSound blocks (blocks_on volume kept) → CanStand blocks (blocks_on volume kept) (blocks_on volume added)
      → AreSound blocks (blocks_on volume (kept_after added deleted kept))
  sound_behind added deleted volume sound stand = record {
    once = λ block. ⊎_elim
        (λ some. omega (arith, sum block, stand.once block, stand.free block some, le block))
        (λ none. omega (arith, sum block, none, sound.once block, le block))
        (cases_lt 0 (times block (blocks_on volume added)));
    below = λ block some. ⊎_elim
        (λ more. stand.below block more)
        (λ none. sound.below block (omega (arith, some, sum block, none, le block)))
        (cases_lt 0 (times block (blocks_on volume added)));
  }
    where
      stays : Kept → Bool
      stays k = not (is_among deleted k.object.copy)

      le : (block : ℕ) → times block (blocks_on volume (filter stays kept)) ≤ times block (blocks_on volume kept)
      le block = fewer_blocks stays volume block kept

      sum : (block : ℕ) → times block (blocks_on volume (kept_after added deleted kept))
          ≡ times block (blocks_on volume (filter stays kept)) + times block (blocks_on volume added)
      sum block = ap (times block) (flat_map-append (λ k. if k.object.volume == volume then blocks_of_runs k.object.runs else []) (filter stays kept) added)
          ∙ times-append block (blocks_on volume (filter stays kept)) (blocks_on volume added)
