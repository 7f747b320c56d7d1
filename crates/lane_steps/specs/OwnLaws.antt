-- Laws of the changes of a space's own pages.
use Rattle.std.specs.Prelude.{◌≡◌, ℕ, ◌+◌, ◌<◌, ◌≤◌, List, [], ◌∷◌, ◌++◌, length, take, drop, fold, filter, Bool, true, false, ◌==◌, nat_lt, if◌then◌else◌}
use Rattle.std.specs.List.{AllByRecursion}
use Rattle.std.proofs.Common.{arith, refl, sym, ap, ◌∙◌}
use Rattle.std.proofs.lemmas.Bool.Decides.{nat_tests}
use Rattle.std.proofs.lemmas.List.{drop-drop, length-replicate}
use Rattle.std.proofs.Math.Seq.{take-add}
use Rattle.log_history.specs.Effects.{Change, Page, empty_page, with_change}
use Rattle.space_pages.specs.Pages.{brought, empty_pages}
use Rattle.lane_ways.specs.Ways.{pages_with}
use Rattle.lane_ways.specs.Steps.{laid_behind, step_of}
use Rattle.lane_ways.specs.RestLaws.{pages_further_on}
use Rattle.lane_steps.specs.Choices.{Chooses, is_own, own}

-- a change that is passed over leaves a page of the space
leaves : (space count number : ℕ) (page : Page) (change : Change) → number < count → is_own space count change ≡ false → with_change space number page change ≡ page
leaves space count number page change lt not = by (change.patch.space == space) refl (change.patch.page == number) refl
  where
    mine_there : (change.patch.space == space) ≡ true → (change.patch.page == number) ≡ true → ⊥
    mine_there mine here =
        let at : change.patch.page ≡ number = grind (arith, nat_tests, here) in
        let below : nat_lt change.patch.page count ≡ true = grind (arith, nat_tests, at, lt) in
        let own_so : is_own space count change ≡ true = grind (arith, mine, below) in
        cc

    by : (mine : Bool) → (change.patch.space == space) ≡ mine → (here : Bool) → (change.patch.page == number) ≡ here → with_change space number page change ≡ page
    by true is true at = absurd (mine_there is at)
    by true is false at = grind (arith, is, at)
    by false is here at = grind (arith, is, at)

fold_own : (space count number : ℕ) (page : Page) (changes : List Change) → number < count → fold (with_change space number) page changes ≡ fold (with_change space number) page (own space count changes)
fold_own space count number page [] lt = refl
fold_own space count number page (change ∷ changes) lt = by (is_own space count change) refl (λ (p : Page). fold_own space count number p changes lt)
  where
    by : (mine : Bool) → is_own space count change ≡ mine → ((p : Page) → fold (with_change space number) p changes ≡ fold (with_change space number) p (own space count changes))
        → fold (with_change space number) (with_change space number page change) changes ≡ fold (with_change space number) page (if mine then change ∷ own space count changes else own space count changes)
    by true is more = more (with_change space number page change)
    by false is more = ap (λ (p : Page). fold (with_change space number) p changes) (leaves space count number page change lt is) ∙ more page

brought_within : (space first count : ℕ) (changes : List Change) (pages : List Page) → first + length pages ≤ count → brought space first changes pages ≡ brought space first (own space count changes) pages
brought_within space first count changes [] le = refl
brought_within space first count changes (page ∷ pages) le =
    ap (λ (one : Page). one ∷ brought space (first + 1) changes pages) (fold_own space count first page changes (omega (arith, le)))
    ∙ ap (λ (rest : List Page). fold (with_change space first) page (own space count changes) ∷ rest) (brought_within space (first + 1) count changes pages (omega (arith, le)))

pub brought_own : (space : ℕ) (changes : List Change) (pages : List Page) → brought space 0 changes pages ≡ brought space 0 (own space (length pages) changes) pages
brought_own space changes pages = brought_within space 0 (length pages) changes pages (omega arith)

pub own_all : (space count : ℕ) (changes : List Change) → AllByRecursion (λ (change : Change). change.patch.page < count) changes
    → own space count changes ≡ filter (λ change. change.patch.space == space) changes
own_all space count [] all = refl
own_all space count (change ∷ changes) all = by (change.patch.space == space) refl (own_all space count changes all.1)
  where
    below : nat_lt change.patch.page count ≡ true
    below = let lt : change.patch.page < count = all.0 in grind (arith, nat_tests, lt)

    by : (mine : Bool) → (change.patch.space == space) ≡ mine → own space count changes ≡ filter (λ one. one.patch.space == space) changes
        → own space count (change ∷ changes) ≡ (if mine then change ∷ filter (λ one. one.patch.space == space) changes else filter (λ one. one.patch.space == space) changes)
    by true is rest =
        let own_so : is_own space count change ≡ true = grind (arith, is, below) in
        ap (λ (b : Bool). if b then change ∷ own space count changes else own space count changes) own_so ∙ ap (λ (l : List Change). change ∷ l) rest
    by false is rest =
        let not_own : is_own space count change ≡ false = grind (arith, is) in
        ap (λ (b : Bool). if b then change ∷ own space count changes else own space count changes) not_own ∙ rest

-- along a way

pub length-brought : (space number : ℕ) (changes : List Change) (pages : List Page) → length (brought space number changes pages) ≡ length pages
length-brought space number changes [] = refl
length-brought space number changes (page ∷ pages) = omega (arith, length-brought space (number + 1) changes pages)

-- A step of so many changes at the front of a list, where so many changes of the way are laid and the list has the others: behind it those up
-- to the place behind the step are laid, the list has the others still, and the pages are those of that place.
pub record IsAlong (way : List Change) (space count laid : ℕ) (list : List Change) (front : ℕ) : Type 0 where
  pub laid_then : take laid way ++ own space count (take front list) ≡ take (laid_behind 16 way laid) way
  pub left_then : own space count (drop front list) ≡ drop (laid_behind 16 way laid) way
  pub pages_then : brought space 0 (take front list) (pages_with way laid space count) ≡ pages_with way (laid_behind 16 way laid) space count

pub step_along : (way : List Change) (space count laid : ℕ) (list : List Change) (front : ℕ) (pages : List ℕ) → own space count list ≡ drop laid way → Chooses space count list front pages
    → IsAlong way space count laid list front
step_along way space count laid list front pages rest chooses = record {
  laid_then = ap (λ (l : List Change). take laid way ++ l) taken ∙ sym (take-add laid more way);
  left_then = chooses.left ∙ ap (λ (l : List Change). drop (step_of 16 l) l) rest ∙ drop-drop more laid way;
  pages_then =
      brought_own space (take front list) (pages_with way laid space count)
      ∙ ap (λ (n : ℕ). brought space 0 (own space n (take front list)) (pages_with way laid space count)) size
      ∙ ap (λ (l : List Change). brought space 0 l (pages_with way laid space count)) taken
      ∙ sym (pages_further_on way laid more space count);
}
  where
    more : ℕ
    more = step_of 16 (drop laid way)

    taken : own space count (take front list) ≡ take (step_of 16 (drop laid way)) (drop laid way)
    taken = chooses.taken ∙ ap (λ (l : List Change). take (step_of 16 l) l) rest

    size : length (pages_with way laid space count) ≡ count
    size = length-brought space 0 (take laid way) (empty_pages count) ∙ length-replicate count empty_page
