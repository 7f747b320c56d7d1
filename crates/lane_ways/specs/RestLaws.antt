-- Laws of the rest of a way: what is handed to a lane that goes on from a place, and where its steps end.
use Rattle.std.specs.Prelude.{◌≡◌, ◌⊎◌, ℕ, zero, suc, ◌+◌, ◌-◌, ◌<◌, ◌≤◌, ◌==◌, List, [], ◌∷◌, ◌++◌, length, fold, take, drop, Bool, true, false, nat_le, nat_lt, if◌then◌else◌}
use Rattle.std.specs.List.{AllByRecursion}
use mathlib.Core.Logic.{inl, inr}
use Rattle.std.proofs.Common.{arith, refl, sym, ap, subst, ◌∙◌, length-drop, take-append-drop}
use Rattle.std.proofs.lemmas.Bool.{cases_lt}
use Rattle.std.proofs.lemmas.Bool.Decides.{nat_tests}
use Rattle.std.proofs.lemmas.List.{length-take-le}
use Rattle.std.proofs.lemmas.List.Elements.{filter-append}
use Rattle.std.proofs.lemmas.List.Sums.{fold-append}
use Rattle.log_history.specs.History.{History}
use Rattle.log_history.specs.Effects.{Change, empty_page, with_change}
use Rattle.space_pages.specs.Pages.{brought, empty_pages}
use Rattle.space_pages.specs.PagesLaws.{brought-append}
use Rattle.lane_ways.specs.Ways.{IsNotBefore, IsPlace, Place, changes_before, changes_behind, changes_by, changes_up_to, cut, cut_by, laid_at, lane_changes, last_commit, page_with, pages_with}
use Rattle.lane_ways.specs.ListLaws.{Rises, all_behind, all_filter, all_means, behind_all, filter_none, passes_all, rises_from, up_to_none}
use Rattle.lane_ways.specs.ChangesLaws.{way_rises, way_within}
use Rattle.lane_ways.specs.CutLaws.{cut_differs, cut_is_not_before, cut_is_place, cut_lays, last_append, last_means, last_same, next_is_behind}
use Rattle.lane_ways.specs.Steps.{laid_behind, place_behind}
use Rattle.lane_ways.specs.StepLaws.{laid_behind_more, laid_behind_within}

-- the two parts of a way

behind_kept : (a : ℕ) (list : List Change) → AllByRecursion (λ (change : Change). a < change.commit) list → changes_behind a list ≡ list
behind_kept a [] all = refl
behind_kept a (x ∷ list) all =
    let lt : a < x.commit = all.0 in
    let yes : nat_lt a x.commit ≡ true = grind (arith, nat_tests, lt) in
    ap (λ (b : Bool). if b then x ∷ changes_behind a list else changes_behind a list) yes ∙ ap (λ (l : List Change). x ∷ l) (behind_kept a list all.1)

-- The changes up to a position stand before those behind it.
pub two_parts : (a low : ℕ) (list : List Change) → Rises low list → list ≡ changes_up_to a list ++ changes_behind a list
two_parts a low [] rises = refl
two_parts a low (x ∷ list) rises = by (cases_lt a x.commit) (two_parts a x.commit list rises.1)
  where
    by : (a < x.commit) ⊎ (x.commit ≤ a) → list ≡ changes_up_to a list ++ changes_behind a list → x ∷ list ≡ changes_up_to a (x ∷ list) ++ changes_behind a (x ∷ list)
    by (inl lt) rest =
        let later : AllByRecursion (λ (change : Change). a < change.commit) (x ∷ list) =
        (lt, all_means (λ (change : Change). x.commit ≤ change.commit) (λ (change : Change). a < change.commit) list (λ change le. omega (arith, lt, le)) (rises_from x.commit list rises.1)) in
        sym (ap (λ (l : List Change). l ++ changes_behind a (x ∷ list)) (up_to_none a (x ∷ list) later) ∙ behind_kept a (x ∷ list) later)
    by (inr le) rest =
        let yes : nat_le x.commit a ≡ true = grind (arith, nat_tests, le) in
        let no : nat_lt a x.commit ≡ false = grind (arith, nat_tests, le) in
        ap (λ (l : List Change). x ∷ l) rest
        ∙ sym (ap (λ (b : Bool). (if b then x ∷ changes_up_to a list else changes_up_to a list) ++ changes_behind a (x ∷ list)) yes
        ∙ ap (λ (b : Bool). (x ∷ changes_up_to a list) ++ (if b then x ∷ changes_behind a list else changes_behind a list)) no)

take_on : (front rest : List Change) (k : ℕ) → take (length front + k) (front ++ rest) ≡ front ++ take k rest
take_on [] rest k = ap (λ (n : ℕ). take n rest) (omega arith)
take_on (x ∷ front) rest k = ap (λ (n : ℕ). take n (x ∷ (front ++ rest))) (next (length front)) ∙ ap (λ (l : List Change). x ∷ l) (take_on front rest k)
  where
    next : (n : ℕ) → suc n + k ≡ suc (n + k)
    next n = omega arith

drop_on : (front rest : List Change) (k : ℕ) → drop (length front + k) (front ++ rest) ≡ drop k rest
drop_on [] rest k = ap (λ (n : ℕ). drop n rest) (omega arith)
drop_on (x ∷ front) rest k = ap (λ (n : ℕ). drop n (x ∷ (front ++ rest))) (next (length front)) ∙ drop_on front rest k
  where
    next : (n : ℕ) → suc n + k ≡ suc (n + k)
    next n = omega arith

-- What a way still has behind a place is what is handed over of it, but for the Writes that are laid.
pub rest_is : (history : History) (n space upto part : ℕ)
    → drop (laid_at (lane_changes history n space) upto part) (lane_changes history n space) ≡ drop part (changes_behind upto (lane_changes history n space))
rest_is history n space upto part =
    ap (drop (laid_at (lane_changes history n space) upto part)) (two_parts upto 0 (lane_changes history n space) (way_rises history n space))
    ∙ drop_on (changes_up_to upto (lane_changes history n space)) (changes_behind upto (lane_changes history n space)) part

by_apart : (c upto : ℕ) (list : List Change) → upto < c → AllByRecursion (λ (change : Change). change.commit ≤ upto) list → changes_by c list ≡ []
by_apart c upto list lt all = filter_none (λ change. change.commit == c) list
    (all_means (λ (change : Change). change.commit ≤ upto) (λ change. (change.commit == c) ≡ false) list (λ change le. grind (arith, nat_tests, le, lt)) all)

last_apart : (c upto : ℕ) (front laid : List Change) → AllByRecursion (λ (change : Change). change.commit ≤ upto) front
    → last_commit upto (changes_before c (front ++ laid)) ≡ last_commit upto (changes_before c laid)
last_apart c upto front laid before =
    ap (last_commit upto) (filter-append (λ (change : Change). nat_lt change.commit c) front laid)
    ∙ last_append upto (changes_before c front) (changes_before c laid)
    ∙ ap (λ (k : ℕ). last_commit k (changes_before c laid))
    (last_same upto (changes_before c front) (all_filter (λ (change : Change). change.commit ≤ upto) (λ (change : Change). nat_lt change.commit c) front before))

cut_apart : (to upto : ℕ) (front laid rest : List Change) → AllByRecursion (λ (change : Change). change.commit ≤ upto) front → AllByRecursion (λ (change : Change). upto < change.commit) rest
    → cut_by upto to (front ++ laid) rest ≡ cut_by upto to laid rest
cut_apart to upto front laid [] before behind = refl
cut_apart to upto front laid (next ∷ rest) before behind =
    ap (λ (list : List Change). record { upto = last_commit upto (changes_before next.commit (front ++ laid)); part = length list })
    (filter-append (λ (change : Change). change.commit == next.commit) front laid
    ∙ ap (λ (list : List Change). list ++ changes_by next.commit laid) (by_apart next.commit upto front behind.0 before))
    ∙ ap (λ (k : ℕ). record { upto = k; part = length (changes_by next.commit laid) }) (last_apart next.commit upto front laid before)

-- A cut of the way is the cut of what is handed over: the changes behind a place.
pub cut_of_rest : (history : History) (n space upto count : ℕ)
    → cut upto (lane_changes history n space) n (laid_at (lane_changes history n space) upto count) ≡ cut upto (changes_behind upto (lane_changes history n space)) n count
cut_of_rest history n space upto count =
    ap (λ (way : List Change). cut upto way n (length front + count)) (two_parts upto 0 (lane_changes history n space) (way_rises history n space))
    ∙ ap (λ (list : List Change). cut_by upto n list (drop (length front + count) (front ++ rest))) (take_on front rest count)
    ∙ ap (cut_by upto n (front ++ take count rest)) (drop_on front rest count)
    ∙ cut_apart n upto front (take count rest) (drop count rest)
    (all_means (λ (change : Change). nat_le change.commit upto ≡ true) (λ (change : Change). change.commit ≤ upto) front (λ change is. grind (arith, nat_tests, is))
    (passes_all (λ (change : Change). nat_le change.commit upto) (lane_changes history n space)))
    (all_behind (λ (change : Change). upto < change.commit) (take count rest) (drop count rest)
    (subst (AllByRecursion (λ (change : Change). upto < change.commit)) (sym (take-append-drop count rest)) (behind_all upto (lane_changes history n space))))
  where
    front : List Change
    front = changes_up_to upto (lane_changes history n space)

    rest : List Change
    rest = changes_behind upto (lane_changes history n space)

-- the end of the way

cut_at_nothing : (from : ℕ) (way : List Change) (to count : ℕ) → length way ≤ count → cut from way to count ≡ record { upto = to; part = 0 }
cut_at_nothing from way to count le = by (drop count way) (omega (arith, le, length-drop count way))
  where
    by : (rest : List Change) → length rest ≡ 0 → cut_by from to (take count way) rest ≡ record { upto = to; part = 0 }
    by [] none = refl
    by (next ∷ rest) some = absurd (omega (arith, some))

-- With all laid the cut is the position that the way leads to;
pub cut_at_end : (history : History) (n space from count : ℕ) → length (lane_changes history n space) ≤ count
    → cut from (lane_changes history n space) n count ≡ record { upto = n; part = 0 }
cut_at_end history n space from count le = cut_at_nothing from (lane_changes history n space) n count le

-- and before that it stands before that position.
pub cut_before_end : (history : History) (n space from count : ℕ) → laid_at (lane_changes history n space) from 0 ≤ count → count < length (lane_changes history n space)
    → (cut from (lane_changes history n space) n count).upto < n
cut_before_end history n space from count le lt =
    by (drop count (lane_changes history n space)) (sym (take-append-drop count (lane_changes history n space))) (omega (arith, lt, length-drop count (lane_changes history n space)))
    (all_behind (λ (change : Change). change.commit ≤ n) (take count (lane_changes history n space)) (drop count (lane_changes history n space))
    (subst (AllByRecursion (λ (change : Change). change.commit ≤ n)) (sym (take-append-drop count (lane_changes history n space))) (way_within history n space)))
  where
    front : List Change
    front = take count (lane_changes history n space)

    by : (rest : List Change) → lane_changes history n space ≡ front ++ rest → 1 ≤ length rest → AllByRecursion (λ (change : Change). change.commit ≤ n) rest
        → (cut_by from n front rest).upto < n
    by [] is some within = absurd (omega (arith, some))
    by (next ∷ rest) is some within =
        let from_lt : from < next.commit =
        next_is_behind from 0 front next rest (subst (Rises 0) is (way_rises history n space))
        (subst (λ (way : List Change). laid_at way from 0 ≤ length front) is (omega (arith, le, lt, length-take-le count (lane_changes history n space) (omega (arith, lt))))) in
        let last_lt : last_commit from (changes_before next.commit front) < next.commit =
        last_means (λ (k : ℕ). k < next.commit) from (changes_before next.commit front) from_lt
        (all_means (λ (change : Change). nat_lt change.commit next.commit ≡ true) (λ (change : Change). change.commit < next.commit) (changes_before next.commit front)
        (λ change is. grind (arith, nat_tests, is)) (passes_all (λ (change : Change). nat_lt change.commit next.commit) front)) in
        omega (arith, within.0, last_lt)

-- a step

take_add : (a b : ℕ) (way : List Change) → take (a + b) way ≡ take a way ++ take b (drop a way)
take_add zero b way = ap (λ (n : ℕ). take n way) (omega arith)
take_add (suc a) b [] = ap (λ (n : ℕ). take n []) (next a) ∙ sym (none b)
  where
    next : (n : ℕ) → suc n + b ≡ suc (n + b)
    next n = omega arith

    none : (k : ℕ) → take {A = Change} k [] ≡ []
    none zero = refl
    none (suc k) = refl
take_add (suc a) b (x ∷ way) = ap (λ (n : ℕ). take n (x ∷ way)) (next a) ∙ ap (λ (l : List Change). x ∷ l) (take_add a b way)
  where
    next : (n : ℕ) → suc n + b ≡ suc (n + b)
    next n = omega arith

-- Changes that are laid behind others bring the pages further.
pub page_further_on : (way : List Change) (laid more space number : ℕ)
    → page_with way (laid + more) space number ≡ fold (with_change space number) (page_with way laid space number) (take more (drop laid way))
page_further_on way laid more space number =
    ap (fold (with_change space number) empty_page) (take_add laid more way) ∙ fold-append (with_change space number) empty_page (take laid way) (take more (drop laid way))

pub pages_further_on : (way : List Change) (laid more space pages : ℕ)
    → pages_with way (laid + more) space pages ≡ brought space 0 (take more (drop laid way)) (pages_with way laid space pages)
pages_further_on way laid more space pages =
    ap (λ (list : List Change). brought space 0 list (empty_pages pages)) (take_add laid more way)
    ∙ brought-append space 0 (take laid way) (take more (drop laid way)) (empty_pages pages)

-- where the mark stands behind a step from a place
pub record IsBehindStep (history : History) (n space limit upto part : ℕ) (place : Place) : Type 0 where
  pub is_place : IsPlace history n space place.upto place.part
  pub lays : laid_at (lane_changes history n space) place.upto place.part ≡ laid_behind limit (lane_changes history n space) (laid_at (lane_changes history n space) upto part)
  pub not_before : IsNotBefore upto part place.upto place.part
  pub differs : laid_at (lane_changes history n space) upto part < length (lane_changes history n space) → place.upto ≡ upto → place.part ≡ part → ⊥

-- Behind a step stands a place that lays what the step laid, isn't before the old one, and where any change was left is another.
pub step_place : (history : History) (n space limit upto part : ℕ) → 1 ≤ limit → laid_at (lane_changes history n space) upto part ≤ length (lane_changes history n space) → IsPlace history n space upto part
    → IsBehindStep history n space limit upto part (place_behind upto limit (lane_changes history n space) n (laid_at (lane_changes history n space) upto part))
step_place history n space limit upto part some le place =
    let within : laid_behind limit (lane_changes history n space) laid ≤ length (lane_changes history n space) = laid_behind_within limit (lane_changes history n space) laid le in
    record {
      is_place = cut_is_place history n space upto (laid_behind limit (lane_changes history n space) laid) place.is_live (omega arith);
      lays = cut_lays history n space upto (laid_behind limit (lane_changes history n space) laid) place.is_live (omega arith) within;
      not_before = cut_is_not_before history n space upto part (laid_behind limit (lane_changes history n space) laid) place (omega arith) within;
      differs = λ lt. cut_differs history n space upto upto part (laid_behind limit (lane_changes history n space) laid) place.is_live (omega arith)
          (laid_behind_more limit (lane_changes history n space) laid some lt) within;
    }
  where
    laid : ℕ
    laid = laid_at (lane_changes history n space) upto part
