-- Laws of steps.
use Rattle.std.specs.Prelude.{◌≡◌, ◌⊎◌, ℕ, suc, ◌+◌, ◌<◌, ◌≤◌, ◌||◌, List, [], ◌∷◌, ◌++◌, length, take, drop, fold, Bool, true, false, nat_eq, nat_lt, if◌then◌else◌}
use Rattle.std.specs.List.{AllByRecursion}
use mathlib.Core.Logic.{inl, inr}
use Rattle.std.proofs.Common.{arith, refl, sym, ap, ◌∙◌, ⊎_elim, length-append, length-drop}
use Rattle.std.proofs.lemmas.Bool.Decides.{nat_tests}
use Rattle.log_history.specs.Effects.{Change, Page, with_change}
use Rattle.before_images.specs.Saved.{is_among, are_distinct, are_below}
use Rattle.lane_ways.specs.Steps.{Taken, and_more, and_one, taken_from, step_of, step_pages, laid_behind}

-- lists of pages

among_pushed : (page last : ℕ) (pages : List ℕ) → is_among page (pages ++ last ∷ []) ≡ (is_among page pages || nat_eq page last)
unfolding is_among
among_pushed page last [] = grind (arith, nat_tests)
among_pushed page last (other ∷ pages) = let rest : is_among page (pages ++ last ∷ []) ≡ (is_among page pages || nat_eq page last) = among_pushed page last pages in grind (arith, nat_tests, rest)

distinct_pushed : (last : ℕ) (pages : List ℕ) → are_distinct pages ≡ true → is_among last pages ≡ false → are_distinct (pages ++ last ∷ []) ≡ true
unfolding is_among are_distinct
distinct_pushed last [] distinct other = refl
distinct_pushed last (page ∷ pages) distinct other =
    let rest : are_distinct pages ≡ true → is_among last pages ≡ false → are_distinct (pages ++ last ∷ []) ≡ true = distinct_pushed last pages in
    let pushed : is_among page (pages ++ last ∷ []) ≡ (is_among page pages || nat_eq page last) = among_pushed page last pages in
    grind (arith, nat_tests, rest, pushed, distinct, other)

below_pushed : (limit last : ℕ) (pages : List ℕ) → are_below limit pages ≡ true → last < limit → are_below limit (pages ++ last ∷ []) ≡ true
unfolding are_below
below_pushed limit last [] below lt = grind (arith, nat_tests, lt)
below_pushed limit last (page ∷ pages) below lt =
    let rest : are_below limit pages ≡ true → are_below limit (pages ++ last ∷ []) ≡ true = λ is. below_pushed limit last pages is lt in
    grind (arith, nat_tests, rest, below)

among_none : (page : ℕ) → is_among page [] ≡ false
unfolding is_among
among_none page = refl

none_distinct : are_distinct [] ≡ true
unfolding are_distinct
none_distinct = refl

none_below : (limit : ℕ) → are_below limit [] ≡ true
unfolding are_below
none_below limit = refl

-- what a step takes

-- what is said of a step, and the ways in which a change is met
module _ (limit : ℕ) (P : List ℕ → List Change → Taken → Type 0)
    (none : (pages : List ℕ) → P pages [] (record { count = 0; pages = pages }))
    (known : (pages : List ℕ) (change : Change) (rest : List Change) (taken : Taken) → is_among change.patch.page pages ≡ true → P pages rest taken → P pages (change ∷ rest) (and_one taken))
    (fresh : (pages : List ℕ) (change : Change) (rest : List Change) (taken : Taken) → is_among change.patch.page pages ≡ false → length pages < limit
    → P (pages ++ change.patch.page ∷ []) rest taken → P pages (change ∷ rest) (and_one taken))
    (full : (pages : List ℕ) (change : Change) (rest : List Change) → is_among change.patch.page pages ≡ false → limit ≤ length pages → P pages (change ∷ rest) (record { count = 0; pages = pages })) where
  by_cases : (pages : List ℕ) (left : List Change) → P pages left (taken_from limit pages left)
  by_cases pages [] = none pages
  by_cases pages (change ∷ rest) = by (is_among change.patch.page pages) (nat_lt (length pages) limit) refl refl (by_cases pages rest) (by_cases (pages ++ change.patch.page ∷ []) rest)
    where
      by : (among room : Bool) → is_among change.patch.page pages ≡ among → nat_lt (length pages) limit ≡ room
          → P pages rest (taken_from limit pages rest) → P (pages ++ change.patch.page ∷ []) rest (taken_from limit (pages ++ change.patch.page ∷ []) rest)
          → P pages (change ∷ rest) (if among then and_one (taken_from limit pages rest)
          else (if room then and_one (taken_from limit (pages ++ change.patch.page ∷ []) rest) else record { count = 0; pages = pages }))
      by true room is fits same more = known pages change rest (taken_from limit pages rest) is same
      by false true is fits same more = fresh pages change rest (taken_from limit (pages ++ change.patch.page ∷ []) rest) is (grind (arith, nat_tests, fits)) more
      by false false is fits same more = full pages change rest is (grind (arith, nat_tests, fits))

-- what holds of a step whose pages so far are distinct and no more than the limit
pub record IsStep (limit : ℕ) (left : List Change) (taken : Taken) : Type 0 where
  pub within : taken.count ≤ length left
  pub few : length taken.pages ≤ limit
  pub distinct : are_distinct taken.pages ≡ true
  pub among : AllByRecursion (λ (change : Change). is_among change.patch.page taken.pages ≡ true) (take taken.count left)
  pub all_or_full : (taken.count ≡ length left) ⊎ (length taken.pages ≡ limit)

-- pages that are taken stay among those of the step
abbrev Keeps : ℕ → List ℕ → List Change → Taken → Type 0
Keeps limit pages left taken = (page : ℕ) → is_among page pages ≡ true → is_among page taken.pages ≡ true

last_among : (last : ℕ) (pages : List ℕ) → is_among last (pages ++ last ∷ []) ≡ true
last_among last pages = among_pushed last last pages ∙ grind (arith, nat_tests)

steps_with : (limit : ℕ) (pages : List ℕ) (left : List Change)
    → (are_distinct pages ≡ true → length pages ≤ limit → IsStep limit left (taken_from limit pages left)) × Keeps limit pages left (taken_from limit pages left)
steps_with limit = by_cases limit (λ pages left taken. (are_distinct pages ≡ true → length pages ≤ limit → IsStep limit left taken) × Keeps limit pages left taken)
    (λ pages. ((λ distinct few. record { within = omega arith; few = few; distinct = distinct; among = tt; all_or_full = inl refl }), λ page is. is))
    (λ pages change rest taken is more. (
      (λ distinct few. let step : IsStep limit rest taken = more.0 distinct few in record {
        within = omega (arith, step.within);
        few = step.few;
        distinct = step.distinct;
        among = (more.1 change.patch.page is, step.among);
        all_or_full = ⊎_elim (λ all. inl (ap suc all)) (λ full. inr full) step.all_or_full;
      }),
      more.1,
    ))
    (λ pages change rest taken is lt more. (
      (λ distinct few. let step : IsStep limit rest taken = more.0 (distinct_pushed change.patch.page pages distinct is) (omega (arith, lt, length-append pages (change.patch.page ∷ []))) in record {
        within = omega (arith, step.within);
        few = step.few;
        distinct = step.distinct;
        among = (more.1 change.patch.page (last_among change.patch.page pages), step.among);
        all_or_full = ⊎_elim (λ all. inl (ap suc all)) (λ full. inr full) step.all_or_full;
      }),
      λ page has. more.1 page (among_pushed page change.patch.page pages ∙ grind (arith, has)),
    ))
    (λ pages change rest is le. (
      (λ distinct few. record { within = omega arith; few = few; distinct = distinct; among = tt; all_or_full = inr (omega (arith, le, few)) }),
      λ page has. has,
    ))

-- A step takes changes at the front of what is left, of at most so many distinct pages; either all are taken or there are so many pages.
pub is_step : (limit : ℕ) (left : List Change) → IsStep limit left (taken_from limit [] left)
is_step limit left = (steps_with limit [] left).0 none_distinct (omega arith)

-- It takes at least one where any is left.
pub step_some : (limit : ℕ) (left : List Change) → 1 ≤ limit → 1 ≤ length left → 1 ≤ step_of limit left
step_some limit [] some any = absurd (omega (arith, any))
step_some limit (change ∷ rest) some any = by (nat_lt 0 limit) (grind (arith, nat_tests, some)) (is_among change.patch.page []) (among_none change.patch.page)
  where
    by : (room : Bool) → room ≡ true → (among : Bool) → among ≡ false
        → 1 ≤ (if among then and_one (taken_from limit [] rest) else (if room then and_one (taken_from limit (change.patch.page ∷ []) rest) else record { count = 0; pages = [] })).count
    by true is false other = omega arith
    by true is true other = omega arith
    by false is among other = absurd cc

-- Its pages are below the limit of a space where its changes are.
abbrev BelowOf : ℕ → List ℕ → List Change → Taken → Type 0
BelowOf end pages left taken = are_below end pages ≡ true → AllByRecursion (λ (change : Change). change.patch.page < end) left → are_below end taken.pages ≡ true

pub step_below : (limit end : ℕ) (left : List Change) → AllByRecursion (λ (change : Change). change.patch.page < end) left → are_below end (step_pages limit left) ≡ true
step_below limit end left = by_cases limit (BelowOf end) (λ pages below all. below) (λ pages change rest taken is more below all. more below all.1)
    (λ pages change rest taken is lt more below all. more (below_pushed end change.patch.page pages below all.0) all.1)
    (λ pages change rest is le below all. below) [] left (none_below end)

-- walking along: behind a front that is taken whole the step goes on with the pages so far
pub taken_append : (limit : ℕ) (pages : List ℕ) (front rest : List Change) → (taken_from limit pages front).count ≡ length front
    → taken_from limit pages (front ++ rest) ≡ and_more (length front) (taken_from limit (taken_from limit pages front).pages rest)
taken_append limit pages [] rest whole =
    let more : (taken_from limit pages rest).count ≡ 0 + (taken_from limit pages rest).count = omega arith in
    ap (counted (taken_from limit pages rest)) more
  where
    counted : Taken → ℕ → Taken
    counted taken n = record { count = n; pages = taken.pages }
taken_append limit pages (change ∷ front) rest whole =
    by (is_among change.patch.page pages) (nat_lt (length pages) limit) whole (taken_append limit pages front rest) (taken_append limit (pages ++ change.patch.page ∷ []) front rest)
  where
    counted : (n : ℕ) (taken : Taken) → and_one (and_more n taken) ≡ and_more (suc n) taken
    counted n taken = ap with_count (one_more n)
      where
        with_count : ℕ → Taken
        with_count m = record { count = m; pages = taken.pages }

        one_more : (m : ℕ) → suc (m + taken.count) ≡ suc m + taken.count
        one_more m = omega arith

    step : Bool → Bool → List Change → Taken
    step among room list = if among then and_one (taken_from limit pages list)
        else (if room then and_one (taken_from limit (pages ++ change.patch.page ∷ []) list) else record { count = 0; pages = pages })

    by : (among room : Bool) → (step among room front).count ≡ suc (length front)
        → ((taken_from limit pages front).count ≡ length front
        → taken_from limit pages (front ++ rest) ≡ and_more (length front) (taken_from limit (taken_from limit pages front).pages rest))
        → ((taken_from limit (pages ++ change.patch.page ∷ []) front).count ≡ length front
        → taken_from limit (pages ++ change.patch.page ∷ []) (front ++ rest) ≡ and_more (length front) (taken_from limit (taken_from limit (pages ++ change.patch.page ∷ []) front).pages rest))
        → step among room (front ++ rest) ≡ and_more (suc (length front)) (taken_from limit (step among room front).pages rest)
    by true room all same more = ap and_one (same (omega (arith, all))) ∙ counted (length front) (taken_from limit (taken_from limit pages front).pages rest)
    by false true all same more = ap and_one (more (omega (arith, all))) ∙ counted (length front) (taken_from limit (taken_from limit (pages ++ change.patch.page ∷ []) front).pages rest)
    by false false all same more = absurd (omega (arith, all))

-- Pages that aren't among those of changes are as they were.
pub page_apart : (space number : ℕ) (pages : List ℕ) (page : Page) (list : List Change) → is_among number pages ≡ false
    → AllByRecursion (λ (change : Change). is_among change.patch.page pages ≡ true) list → fold (with_change space number) page list ≡ page
page_apart space number pages page [] other all = refl
page_apart space number pages page (change ∷ list) other all =
    ap (λ (p : Page). fold (with_change space number) p list) (one (λ same. different (sym (ap (λ (n : ℕ). is_among n pages) same) ∙ all.0)))
    ∙ page_apart space number pages page list other all.1
  where
    different : is_among number pages ≡ true → ⊥
    different is = cc

    one : (change.patch.page ≡ number → ⊥) → with_change space number page change ≡ page
    one apart = grind (arith, nat_tests, apart)

-- the way and a step

-- Behind a step no more is laid than the way has, and more than before it where any is left.
pub laid_behind_within : (limit : ℕ) (way : List Change) (laid : ℕ) → laid ≤ length way → laid_behind limit way laid ≤ length way
laid_behind_within limit way laid le = omega (arith, le, (is_step limit (drop laid way)).within, length-drop laid way)

pub laid_behind_more : (limit : ℕ) (way : List Change) (laid : ℕ) → 1 ≤ limit → laid < length way → laid < laid_behind limit way laid
laid_behind_more limit way laid some lt = omega (arith, step_some limit (drop laid way) some (omega (arith, lt, length-drop laid way)))

-- A step that doesn't touch as many pages as it may leaves nothing.
pub laid_behind_all : (limit : ℕ) (way : List Change) (laid : ℕ) → laid ≤ length way → length (step_pages limit (drop laid way)) < limit → laid_behind limit way laid ≡ length way
laid_behind_all limit way laid le few = ⊎_elim
    (λ all. omega (arith, le, all, length-drop laid way))
    (λ full. absurd (omega (arith, full, few)))
    (is_step limit (drop laid way)).all_or_full
