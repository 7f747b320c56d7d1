-- Laws of what a step takes.
use Rattle.std.specs.Prelude.{◌≡◌, ℕ, zero, suc, ◌<◌, ◌≤◌, List, [], ◌∷◌, ◌++◌, length, take, drop, Bool, true, false, nat_lt, if◌then◌else◌}
use Rattle.std.proofs.Common.{arith, refl, sym, ap, ◌∙◌, subst, length-append}
use Rattle.std.proofs.lemmas.Bool.Decides.{nat_tests}
use Rattle.std.proofs.lemmas.List.{append-nil, take_at, drop_at}
use Rattle.std.proofs.lemmas.List.Elements.{filter-append}
use Rattle.log_history.specs.Effects.{Change}
use Rattle.std.specs.List.{AllByRecursion}
use Rattle.before_images.specs.Saved.{are_below, are_distinct, is_among}
use Rattle.space_pages.specs.Pages.{LieWithin}
use Rattle.lane_steps.specs.Moves.{Lays}
use Rattle.before_images.specs.ListLaws.{is_among-none}
use Rattle.lane_ways.specs.Steps.{Taken, and_more, and_one, taken_from, step_of, step_pages}
use Rattle.lane_ways.specs.StepLaws.{is_step, step_below, step_some, taken_append}
use Rattle.lane_steps.specs.Choices.{Chooses, is_own, own}

-- a front of the changes is taken whole, and these are its pages
pub record TakesAll (space count : ℕ) (front : List Change) (pages : List ℕ) : Type 0 where
  pub whole : (taken_from 16 [] (own space count front)).count ≡ length (own space count front)
  pub listed : (taken_from 16 [] (own space count front)).pages ≡ pages

-- behind such a front the step goes on
goes_on : (space count : ℕ) (front : List Change) (pages : List ℕ) → TakesAll space count front pages → (rest : List Change)
    → taken_from 16 [] (own space count front ++ rest) ≡ and_more (length (own space count front)) (taken_from 16 pages rest)
goes_on space count front pages all rest =
    taken_append 16 [] (own space count front) rest all.whole
    ∙ ap (λ (p : List ℕ). and_more (length (own space count front)) (taken_from 16 p rest)) all.listed

pub takes_none : (space count : ℕ) → TakesAll space count [] []
takes_none space count = record { whole = refl; listed = refl }

-- one change more
one_more : (space count : ℕ) (front : List Change) (pages more : List ℕ) (change : Change) → TakesAll space count front pages → is_own space count change ≡ true
    → taken_from 16 pages (change ∷ []) ≡ record { count = 1; pages = more } → TakesAll space count (front ++ change ∷ []) more
one_more space count front pages more change all is takes =
    let mine : own space count (change ∷ []) ≡ change ∷ [] = ap (λ (b : Bool). if b then change ∷ [] else []) is in
    let list : own space count (front ++ change ∷ []) ≡ own space count front ++ change ∷ [] =
    filter-append (λ (change : Change). is_own space count change) front (change ∷ []) ∙ ap (λ (l : List Change). own space count front ++ l) mine in
    let now : taken_from 16 [] (own space count (front ++ change ∷ [])) ≡ and_more (length (own space count front)) (record { count = 1; pages = more }) =
    ap (taken_from 16 []) list ∙ goes_on space count front pages all (change ∷ []) ∙ ap (and_more (length (own space count front))) takes in
    record {
      whole = ap (λ (t : Taken). t.count) now ∙ omega (arith, ap (λ (l : List Change). length l) list, length-append (own space count front) (change ∷ []));
      listed = ap (λ (t : Taken). t.pages) now;
    }

module _ (space count : ℕ) (front : List Change) (pages : List ℕ) (change : Change) (all : TakesAll space count front pages) where
  pub passes_over : is_own space count change ≡ false → TakesAll space count (front ++ change ∷ []) pages
  passes_over not =
      let none : own space count (change ∷ []) ≡ [] = ap (λ (b : Bool). if b then change ∷ [] else []) not in
      let list : own space count (front ++ change ∷ []) ≡ own space count front =
      filter-append (λ (change : Change). is_own space count change) front (change ∷ []) ∙ ap (λ (l : List Change). own space count front ++ l) none
      ∙ append-nil (own space count front) in
      record {
        whole = subst (λ (l : List Change). (taken_from 16 [] l).count ≡ length l) (sym list) all.whole;
        listed = ap (λ (l : List Change). (taken_from 16 [] l).pages) list ∙ all.listed;
      }

  pub takes_known : is_own space count change ≡ true → is_among change.patch.page pages ≡ true → TakesAll space count (front ++ change ∷ []) pages
  takes_known is among =
      let nothing : Taken = record { count = 0; pages = pages } in
      let room : Taken = if nat_lt (length pages) 16 then and_one (record { count = 0; pages = pages ++ change.patch.page ∷ [] }) else nothing in
      one_more space count front pages pages change all is (ap (λ (b : Bool). if b then and_one nothing else room) among)

  pub takes_fresh : is_own space count change ≡ true → is_among change.patch.page pages ≡ false → length pages < 16 → TakesAll space count (front ++ change ∷ []) (pages ++ change.patch.page ∷ [])
  takes_fresh is other fits =
      let nothing : Taken = record { count = 0; pages = pages } in
      let more : Taken = record { count = 0; pages = pages ++ change.patch.page ∷ [] } in
      let yes : nat_lt (length pages) 16 ≡ true = grind (arith, nat_tests, fits) in
      one_more space count front pages (pages ++ change.patch.page ∷ []) change all is
      (ap (λ (b : Bool). if b then and_one nothing else (if nat_lt (length pages) 16 then and_one more else nothing)) other
      ∙ ap (λ (b : Bool). if b then and_one more else nothing) yes)

-- the list is a front, and what lies behind it
module _ (space count : ℕ) (list front rest : List Change) (pages : List ℕ) (parts : list ≡ front ++ rest) (all : TakesAll space count front pages) where
  own_parts : own space count list ≡ own space count front ++ own space count rest
  own_parts = ap (own space count) parts ∙ filter-append (λ (change : Change). is_own space count change) front rest

  by_taken : taken_from 16 pages (own space count rest) ≡ record { count = 0; pages = pages } → Chooses space count list (length front) pages
  by_taken none =
      let n : ℕ = length (own space count front) in
      let step : taken_from 16 [] (own space count list) ≡ and_more n (record { count = 0; pages = pages }) =
      ap (taken_from 16 []) own_parts ∙ goes_on space count front pages all (own space count rest) ∙ ap (and_more n) none in
      let counts : n ≡ step_of 16 (own space count list) = omega (arith, ap (λ (t : Taken). t.count) step) in
      record {
        taken = ap (own space count) (ap (take (length front)) parts ∙ take_at front rest (length front) refl)
            ∙ sym (take_at (own space count front) (own space count rest) n refl) ∙ ap (take n) (sym own_parts)
            ∙ ap (λ (k : ℕ). take k (own space count list)) counts;
        left = ap (own space count) (ap (drop (length front)) parts ∙ drop_at front rest (length front) refl)
            ∙ sym (drop_at (own space count front) (own space count rest) n refl) ∙ ap (drop n) (sym own_parts)
            ∙ ap (λ (k : ℕ). drop k (own space count list)) counts;
        listed = sym (ap (λ (t : Taken). t.pages) step);
      }

-- All of them are taken, or there is no room for the page of the next one.
pub chooses_all : (space count : ℕ) (list : List Change) (pages : List ℕ) → TakesAll space count list pages → Chooses space count list (length list) pages
chooses_all space count list pages all = by_taken space count list list [] pages (sym (append-nil list)) all refl

pub chooses_front : (space count : ℕ) (list front rest : List Change) (pages : List ℕ) (change : Change) → list ≡ front ++ change ∷ rest → TakesAll space count front pages
    → is_own space count change ≡ true → is_among change.patch.page pages ≡ false → length pages ≡ 16 → Chooses space count list (length front) pages
chooses_front space count list front rest pages change parts all is other full =
    let nothing : Taken = record { count = 0; pages = pages } in
    let no : nat_lt (length pages) 16 ≡ false = grind (arith, nat_tests, full) in
    let more : Taken = taken_from 16 (pages ++ change.patch.page ∷ []) (own space count rest) in
    by_taken space count list front (change ∷ rest) pages parts all
    (ap (λ (b : Bool). taken_from 16 pages (if b then change ∷ own space count rest else own space count rest)) is
    ∙ ap (λ (b : Bool). if b then and_one (taken_from 16 pages (own space count rest)) else (if nat_lt (length pages) 16 then and_one more else nothing)) other
    ∙ ap (λ (b : Bool). if b then and_one more else nothing) no)

-- what holds of such a choice

-- each of the space's own changes is of a page that it has
own_below : (space count : ℕ) (list : List Change) → AllByRecursion (λ (change : Change). change.patch.page < count) (own space count list)
own_below space count [] = tt
own_below space count (change ∷ list) = by (is_own space count change) refl (own_below space count list)
  where
    by : (mine : Bool) → is_own space count change ≡ mine → AllByRecursion (λ (one : Change). one.patch.page < count) (own space count list)
        → AllByRecursion (λ (one : Change). one.patch.page < count) (if mine then change ∷ own space count list else own space count list)
    by true is rest = (grind (arith, nat_tests, is), rest)
    by false is rest = rest

-- what is said of the own changes is said of each change that is own
for_own : (space count : ℕ) (P : Change → Type 0) (list : List Change) → AllByRecursion P (own space count list)
    → AllByRecursion (λ (change : Change). is_own space count change ≡ true → P change) list
for_own space count P [] all = tt
for_own space count P (change ∷ list) all = by (is_own space count change) refl all (λ (rest : AllByRecursion P (own space count list)). for_own space count P list rest)
  where
    different : is_own space count change ≡ true → is_own space count change ≡ false → ⊥
    different one other = cc

    by : (mine : Bool) → is_own space count change ≡ mine → AllByRecursion P (if mine then change ∷ own space count list else own space count list)
        → (AllByRecursion P (own space count list) → AllByRecursion (λ (one : Change). is_own space count one ≡ true → P one) list)
        → AllByRecursion (λ (one : Change). is_own space count one ≡ true → P one) (change ∷ list)
    by true is each more = (λ own_one. each.0, more each.1)
    by false is each more = (λ own_one. absurd (different own_one is), more each)

front_lies : (n : ℕ) (list : List Change) → LieWithin list → LieWithin (take n list)
front_lies zero list all = tt
front_lies (suc n) [] all = tt
front_lies (suc n) (change ∷ list) all = (all.0, front_lies n list all.1)

module _ (space count front : ℕ) (list : List Change) (pages : List ℕ) (chooses : Chooses space count list front pages) where
  pub chosen_distinct : are_distinct pages ≡ true
  chosen_distinct = ap are_distinct chooses.listed ∙ (is_step 16 (own space count list)).distinct

  pub chosen_below : are_below count pages ≡ true
  chosen_below = ap (are_below count) chooses.listed ∙ step_below 16 count (own space count list) (own_below space count list)

  pub chosen_lays : LieWithin list → Lays space count pages (take front list)
  chosen_lays lie = record {
    lie = front_lies front list lie;
    among = for_own space count (λ (change : Change). is_among change.patch.page pages ≡ true) (take front list)
        (subst (λ (p : List ℕ). AllByRecursion (λ (change : Change). is_among change.patch.page p ≡ true) (own space count (take front list))) (sym chooses.listed)
        (subst (λ (l : List Change). AllByRecursion (λ (change : Change). is_among change.patch.page (step_pages 16 (own space count list)) ≡ true) l) (sym chooses.taken)
        (is_step 16 (own space count list)).among));
  }

  pub chosen_none : pages ≡ [] → own space count list ≡ []
  chosen_none none = by (own space count list) refl
    where
      by : (all : List Change) → own space count list ≡ all → own space count list ≡ []
      by [] is = is
      by (change ∷ rest) is = absurd (different first_among)
        where
          no_pages : step_pages 16 (change ∷ rest) ≡ []
          no_pages = ap (step_pages 16) (sym is) ∙ sym chooses.listed ∙ none

          first_of : (n : ℕ) → 1 ≤ n → AllByRecursion (λ (one : Change). is_among one.patch.page (step_pages 16 (change ∷ rest)) ≡ true) (take n (change ∷ rest))
              → is_among change.patch.page (step_pages 16 (change ∷ rest)) ≡ true
          first_of zero le all = absurd (omega (arith, le))
          first_of (suc n) le all = all.0

          first_among : is_among change.patch.page [] ≡ true
          first_among = ap (is_among change.patch.page) (sym no_pages)
              ∙ first_of (step_of 16 (change ∷ rest)) (step_some 16 (change ∷ rest) (omega arith) (omega arith)) (is_step 16 (change ∷ rest)).among

          different : is_among change.patch.page [] ≡ true → ⊥
          different found = let empty : is_among change.patch.page [] ≡ false = is_among-none change.patch.page in cc
