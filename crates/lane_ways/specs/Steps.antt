-- A step along a way: as many changes as lie in so many distinct pages.
use Rattle.std.specs.Prelude.{ℕ, suc, ◌+◌, ◌++◌, List, [], ◌∷◌, length, drop, nat_lt, if◌then◌else◌}
use Rattle.log_history.specs.Effects.{Change}
use Rattle.before_images.specs.Saved.{is_among}
use Rattle.lane_ways.specs.Ways.{Place, cut}

-- What a step takes of changes, where some pages are taken already: each change of one of these pages, and that of another page while
-- there is room for it.
pub record Taken : Type 0 where
  pub count : ℕ
  pub pages : List ℕ

-- one change more
abbrev pub and_one : Taken → Taken
and_one taken = record { count = suc taken.count; pages = taken.pages }

-- and so many more at the front
abbrev pub and_more : ℕ → Taken → Taken
and_more count taken = record { count = count + taken.count; pages = taken.pages }

abbrev pub taken_from : ℕ → List ℕ → List Change → Taken
taken_from limit pages [] = record { count = 0; pages = pages }
taken_from limit pages (change ∷ rest) =
    if is_among change.patch.page pages then and_one (taken_from limit pages rest)
    else (if nat_lt (length pages) limit then and_one (taken_from limit (pages ++ change.patch.page ∷ []) rest) else record { count = 0; pages = pages })

-- how many changes a step takes of those that are left, and their pages, each once, in the order of their first changes
abbrev pub step_of : ℕ → List Change → ℕ
step_of limit left = (taken_from limit [] left).count

abbrev pub step_pages : ℕ → List Change → List ℕ
step_pages limit left = (taken_from limit [] left).pages

-- how many changes of a way are laid behind a step, and the place of the mark that stands behind it where the work goes on from a position
abbrev pub laid_behind : ℕ → List Change → ℕ → ℕ
laid_behind limit way laid = laid + step_of limit (drop laid way)

abbrev pub place_behind : (from limit : ℕ) → List Change → (to laid : ℕ) → Place
place_behind from limit way to laid = cut from way to (laid_behind limit way laid)
