-- How pages are brought forward, and the pages of a history.
use Rattle.std.specs.Prelude.{◌≡◌, ℕ, zero, suc, ◌+◌, List, [], ◌∷◌, ◌++◌, fold}
use Rattle.std.proofs.Common.{refl, ap, ◌∙◌}
use Rattle.std.proofs.lemmas.List.Sums.{fold-append}
use Rattle.log_history.specs.History.{History}
use Rattle.log_history.specs.Effects.{Change, Page, changes, page_at, with_change}
use Rattle.space_pages.specs.Pages.{brought, empty_pages, pages_of}

pub brought-nil : (space first : ℕ) (pages : List Page) → brought space first [] pages ≡ pages
brought-nil space first [] = refl
brought-nil space first (page ∷ pages) = ap (λ (rest : List Page). page ∷ rest) (brought-nil space (first + 1) pages)

-- changes behind others
pub brought-append : (space first : ℕ) (earlier later : List Change) (pages : List Page)
    → brought space first (earlier ++ later) pages ≡ brought space first later (brought space first earlier pages)
brought-append space first earlier later [] = refl
brought-append space first earlier later (page ∷ pages) =
    let ih : brought space (first + 1) (earlier ++ later) pages ≡ brought space (first + 1) later (brought space (first + 1) earlier pages) =
    brought-append space (first + 1) earlier later pages in
    ap (λ (one : Page). one ∷ brought space (first + 1) (earlier ++ later) pages) (fold-append (with_change space first) page earlier later)
    ∙ ap (λ (rest : List Page). fold (with_change space first) (fold (with_change space first) page earlier) later ∷ rest) ih

-- the changes at a position make the pages at that position
pub changes_make_pages : (history : History) (n space first count : ℕ)
    → brought space first (changes history n) (empty_pages count) ≡ pages_of history n space first count
changes_make_pages history n space first zero = refl
changes_make_pages history n space first (suc count) =
    ap (λ (rest : List Page). page_at history n space first ∷ rest) (changes_make_pages history n space (first + 1) count)
