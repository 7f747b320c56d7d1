-- Laws of the changes in effect at a position, and of the way of a lane.
use Rattle.std.specs.Prelude.{◌≡◌, ℕ, zero, suc, ◌<◌, ◌≤◌, ◌&&◌, ◌==◌, List, [], ◌∷◌, ◌++◌, length, map, filter, Bool, true, false, nat_le, nat_lt, if◌then◌else◌}
use Rattle.std.specs.List.{AllByRecursion, flat_map}
use Rattle.std.proofs.Common.{arith, refl, sym, ap, subst, ◌∙◌}
use Rattle.std.proofs.lemmas.List.{append-nil}
use Rattle.std.proofs.lemmas.List.Concat.{flat_map-append}
use Rattle.std.proofs.lemmas.List.Elements.{filter-append}
use Rattle.log_history.specs.History.{Patch, History, entry_at, positions}
use Rattle.log_history.specs.Live.{live, reset_points}
use Rattle.log_history.specs.Effects.{Change, change_by, changes, effective, is_commit}
use Rattle.history_laws.specs.LiveLaws.{live_within}
use Rattle.history_laws.specs.PagesLaws.{effect, changes_above, changes_along}
use Rattle.lane_ways.specs.Ways.{IsPlace, changes_behind, changes_up_to, laid_at, lane_changes}
use Rattle.lane_ways.specs.ListLaws.{Rises, all_append, all_filter, all_means, behind_all, both_parts, count_of_first_within, filter_swap, passes_all, rises_append, rises_filter, up_to_all, up_to_none}

-- all changes of a history, whatever is in effect
abbrev pub all_changes : History → List Change
all_changes history = flat_map (effect history) (positions (length history))

-- whether a position has a Commit that is live at n
abbrev pub counts : History → ℕ → ℕ → Bool
counts history n x = is_commit (entry_at history x) && live history n x

-- the changes of one position, by a test of it
by_test : (p : ℕ → Bool) (c : ℕ) (patches : List Patch)
    → filter (λ (change : Change). p change.commit) (map (change_by c) patches) ≡ (if p c then map (change_by c) patches else [])
by_test p c patches = by (p c) refl
  where
    yes : (list : List Patch) → p c ≡ true → filter (λ (change : Change). p change.commit) (map (change_by c) list) ≡ map (change_by c) list
    yes [] is = refl
    yes (patch ∷ list) is =
        ap (λ (b : Bool). if b then change_by c patch ∷ filter (λ (change : Change). p change.commit) (map (change_by c) list) else filter (λ (change : Change). p change.commit) (map (change_by c) list)) is
        ∙ ap (λ (l : List Change). change_by c patch ∷ l) (yes list is)

    no : (list : List Patch) → p c ≡ false → filter (λ (change : Change). p change.commit) (map (change_by c) list) ≡ []
    no [] is = refl
    no (patch ∷ list) is =
        ap (λ (b : Bool). if b then change_by c patch ∷ filter (λ (change : Change). p change.commit) (map (change_by c) list) else filter (λ (change : Change). p change.commit) (map (change_by c) list)) is
        ∙ no list is

    by : (b : Bool) → p c ≡ b → filter (λ (change : Change). p change.commit) (map (change_by c) patches) ≡ (if b then map (change_by c) patches else [])
    by true is = yes patches is
    by false is = no patches is

-- the changes of the positions that pass a test are those whose commit passes it
pub effects_filter : (history : History) (p : ℕ → Bool) (xs : List ℕ)
    → flat_map (effect history) (filter p xs) ≡ filter (λ (change : Change). p change.commit) (flat_map (effect history) xs)
effects_filter history p [] = refl
effects_filter history p (x ∷ xs) =
    by (p x) (effects_filter history p xs)
    ∙ ap (λ (l : List Change). l ++ filter test (flat_map (effect history) xs)) (sym (by_test p x _))
    ∙ sym (filter-append test (effect history x) (flat_map (effect history) xs))
  where
    test : Change → Bool
    test change = p change.commit

    by : (b : Bool) → flat_map (effect history) (filter p xs) ≡ filter (λ (change : Change). p change.commit) (flat_map (effect history) xs)
        → flat_map (effect history) (if b then x ∷ filter p xs else filter p xs)
        ≡ (if b then effect history x else []) ++ filter (λ (change : Change). p change.commit) (flat_map (effect history) xs)
    by true rest = ap (λ (l : List Change). effect history x ++ l) rest
    by false rest = rest

-- the changes at a position are those of all whose Commit is live there
pub changes_is : (history : History) (n : ℕ) → changes history n ≡ filter (λ (change : Change). counts history n change.commit) (all_changes history)
changes_is history n = effects_filter history (counts history n) (positions (length history))

-- each change in effect is of a Commit that is live
pub changes_count : (history : History) (n : ℕ) → AllByRecursion (λ (change : Change). counts history n change.commit ≡ true) (changes history n)
changes_count history n =
    subst (AllByRecursion (λ (change : Change). counts history n change.commit ≡ true)) (sym (changes_is history n))
    (passes_all (λ (change : Change). counts history n change.commit) (all_changes history))

second : (a b : Bool) → (a && b) ≡ true → b ≡ true
second true b is = is
second false b is = grind (arith, is)

-- and so at most the position
pub changes_within : (history : History) (n : ℕ) → AllByRecursion (λ (change : Change). change.commit ≤ n) (changes history n)
changes_within history n = all_means (λ (change : Change). counts history n change.commit ≡ true) (λ (change : Change). change.commit ≤ n) (changes history n)
    (λ change is. live_within (reset_points history) n change.commit (second (is_commit (entry_at history change.commit)) (live history n change.commit) is)) (changes_count history n)

-- commits rise

effect_rises : (c : ℕ) (patches : List Patch) → Rises c (map (change_by c) patches)
effect_rises c [] = tt
effect_rises c (patch ∷ patches) = (omega arith, effect_rises c patches)

effect_within : (c n : ℕ) (patches : List Patch) → c ≤ n → AllByRecursion (λ (change : Change). change.commit ≤ n) (map (change_by c) patches)
effect_within c n [] le = tt
effect_within c n (patch ∷ patches) le = (le, effect_within c n patches le)

all_rise : (history : History) (n : ℕ) → Rises 0 (flat_map (effect history) (positions n)) × AllByRecursion (λ (change : Change). change.commit ≤ n) (flat_map (effect history) (positions n))
all_rise history zero = (tt, tt)
all_rise history (suc n) =
    let before = all_rise history n in
    let is : flat_map (effect history) (positions (suc n)) ≡ flat_map (effect history) (positions n) ++ effect history (suc n) =
    flat_map-append (effect history) (positions n) (suc n ∷ []) ∙ ap (λ (l : List Change). flat_map (effect history) (positions n) ++ l) (append-nil (effect history (suc n))) in (
      subst (Rises 0) (sym is) (rises_append 0 (suc n) (flat_map (effect history) (positions n)) (effect history (suc n)) (omega arith) before.0
          (later before.1) (effect_rises (suc n) _)),
      subst (AllByRecursion (λ (change : Change). change.commit ≤ suc n)) (sym is)
          (all_append (λ (change : Change). change.commit ≤ suc n) (flat_map (effect history) (positions n)) (effect history (suc n)) (later before.1) (effect_within (suc n) (suc n) _ (omega arith))),
    )
  where
    later : AllByRecursion (λ (change : Change). change.commit ≤ n) (flat_map (effect history) (positions n))
        → AllByRecursion (λ (change : Change). change.commit ≤ suc n) (flat_map (effect history) (positions n))
    later all = all_means (λ (change : Change). change.commit ≤ n) (λ (change : Change). change.commit ≤ suc n) (flat_map (effect history) (positions n)) (λ change le. omega (arith, le)) all

pub changes_rise : (history : History) (n : ℕ) → Rises 0 (changes history n)
changes_rise history n = subst (Rises 0) (sym (changes_is history n))
    (rises_filter (λ (change : Change). counts history n change.commit) 0 (all_changes history) (all_rise history (length history)).0)

-- the way of a lane

pub way_rises : (history : History) (n space : ℕ) → Rises 0 (lane_changes history n space)
way_rises history n space = rises_filter (λ change. change.patch.space == space) 0 (changes history n) (changes_rise history n)

pub way_within : (history : History) (n space : ℕ) → AllByRecursion (λ (change : Change). change.commit ≤ n) (lane_changes history n space)
way_within history n space = all_filter (λ (change : Change). change.commit ≤ n) (λ change. change.patch.space == space) (changes history n) (changes_within history n)

pub way_counts : (history : History) (n space : ℕ) → AllByRecursion (λ (change : Change). counts history n change.commit ≡ true) (lane_changes history n space)
way_counts history n space = all_filter (λ (change : Change). counts history n change.commit ≡ true) (λ change. change.patch.space == space) (changes history n) (changes_count history n)

-- From a live position on the way is the way to it, and the changes of commits behind it.
pub way_along : (history : History) (q a space : ℕ) → live history q a ≡ true
    → lane_changes history q space ≡ lane_changes history a space ++ changes_behind a (lane_changes history q space)
way_along history q a space is =
    ap (filter in_space) (changes_along history q a is)
    ∙ filter-append in_space (changes history a) (changes_above history q a)
    ∙ ap (λ (l : List Change). lane_changes history a space ++ l)
    (ap (filter in_space) (effects_filter history (nat_lt a) (effective history q)) ∙ filter_swap (λ (change : Change). nat_lt a change.commit) in_space (changes history q))
  where
    in_space : Change → Bool
    in_space change = change.patch.space == space

-- the changes up to a position before a live one are those of the way to that
pub up_to_along : (history : History) (q a upto space : ℕ) → live history q a ≡ true → upto ≤ a
    → changes_up_to upto (lane_changes history q space) ≡ changes_up_to upto (lane_changes history a space)
up_to_along history q a upto space is le =
    ap (changes_up_to upto) (way_along history q a space is)
    ∙ filter-append (λ (change : Change). nat_le change.commit upto) (lane_changes history a space) (changes_behind a (lane_changes history q space))
    ∙ ap (λ (l : List Change). changes_up_to upto (lane_changes history a space) ++ l)
    (up_to_none upto (changes_behind a (lane_changes history q space))
    (all_means (λ (change : Change). a < change.commit) (λ (change : Change). upto < change.commit) (changes_behind a (lane_changes history q space)) (λ change lt. omega (arith, le, lt))
    (behind_all a (lane_changes history q space))))
    ∙ append-nil (changes_up_to upto (lane_changes history a space))

-- the changes up to a live position are the way to it
pub way_at_live : (history : History) (q a space : ℕ) → live history q a ≡ true → changes_up_to a (lane_changes history q space) ≡ lane_changes history a space
way_at_live history q a space is = up_to_along history q a a space is (omega arith) ∙ up_to_all a (lane_changes history a space) (way_within history a space)

-- at a place no more is laid than the way has
pub laid_within : (history : History) (n space upto part : ℕ) → IsPlace history n space upto part
    → laid_at (lane_changes history n space) upto part ≤ length (lane_changes history n space)
laid_within history n space upto part place =
    omega (arith, place.within, count_of_first_within (changes_behind upto (lane_changes history n space)), both_parts upto (lane_changes history n space))
