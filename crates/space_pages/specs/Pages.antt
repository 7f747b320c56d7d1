-- The pages of a space, brought forward by changes.
use Rattle.std.specs.Prelude.{◌≡◌, ℕ, zero, suc, ◌+◌, ◌++◌, List, [], ◌∷◌, fold, count_by, nat_lt, replicate, length, ◌≤◌}
use Rattle.std.specs.List.{AllByRecursion}
use Rattle.log_history.specs.History.{Patch, History}
use Rattle.log_history.specs.Effects.{Change, Page, empty_page, page_at, patched, with_change}

-- what a caller sees: pages of a space, the number of the first one, and the pages in order
pub record PagesView : Type 0 where
  pub space : ℕ
  pub first : ℕ
  pub pages : List Page

abbrev pub pages_view : ℕ → ℕ → List Page → PagesView
pages_view space first pages = record { space = space; first = first; pages = pages }

-- the pages with changes laid into them in order; those of other spaces and pages are passed over
abbrev pub brought : ℕ → ℕ → List Change → List Page → List Page
brought space first changes [] = []
brought space first changes (page ∷ pages) =
    fold (with_change space first) page changes ∷ brought space (first + 1) changes pages

-- so many pages that were never written
abbrev pub empty_pages : ℕ → List Page
empty_pages count = replicate count empty_page

-- how many pages were written
abbrev pub used : List Page → ℕ
used pages = count_by (λ page. nat_lt 0 page.stamp) pages

-- so many pages of a space at position n, from a number on
abbrev pub pages_of : History → ℕ → ℕ → ℕ → ℕ → List Page
pages_of history n space first zero = []
pages_of history n space first (suc count) = page_at history n space first ∷ pages_of history n space (first + 1) count

-- the page with a change's bytes and stamp
abbrev pub changed : Change → Page → Page
changed change page = record { stamp = change.commit; payload = patched change.patch page.payload }

-- a view with changes laid into its pages
abbrev pub forward : PagesView → List Change → PagesView
forward view changes = record view { pages = brought view.space view.first changes view.pages }

-- a front of the changes was laid into the pages
pub record BroughtInPart (old : PagesView) (changes : List Change) (new : PagesView) : Type 0 where
  pub front : List Change
  pub rest : List Change
  pub parts : changes ≡ front ++ rest
  pub laid : new ≡ forward old front

-- a patch's bytes lie within the payload of a page
abbrev pub LiesInPage : Patch → Type 0
LiesInPage patch = patch.offset + length patch.bytes ≤ 4080

-- those of each change do
abbrev pub LieWithin : List Change → Type 0
LieWithin changes = AllByRecursion (λ change. LiesInPage change.patch) changes
