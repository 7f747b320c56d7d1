-- The way of a lane, and the places on it.
use Rattle.std.specs.Prelude.{◌≡◌, ℕ, suc, ◌+◌, ◌==◌, ◌≤◌, max, List, [], ◌∷◌, length, filter, fold, take, drop, true, nat_le, nat_lt, if◌then◌else◌}
use Rattle.log_history.specs.History.{History}
use Rattle.log_history.specs.Live.{live}
use Rattle.log_history.specs.Effects.{Change, Page, changes, empty_page, with_change}
use Rattle.space_pages.specs.Pages.{brought, empty_pages}

-- the way: the changes of a space that are in effect at a position, in order
abbrev pub lane_changes : History → ℕ → ℕ → List Change
lane_changes history n space = filter (λ change. change.patch.space == space) (changes history n)

-- those of commits up to a position, and those of commits behind it
abbrev pub changes_up_to : ℕ → List Change → List Change
changes_up_to upto list = filter (λ change. nat_le change.commit upto) list

abbrev pub changes_behind : ℕ → List Change → List Change
changes_behind upto list = filter (λ change. nat_lt upto change.commit) list

-- those of commits before a position
abbrev pub changes_before : ℕ → List Change → List Change
changes_before commit list = filter (λ change. nat_lt change.commit commit) list

-- those of one commit
abbrev pub changes_by : ℕ → List Change → List Change
changes_by commit list = filter (λ change. change.commit == commit) list

-- how many changes at the front of a list are of a commit
abbrev pub count_of : ℕ → List Change → ℕ
count_of commit [] = 0
count_of commit (change ∷ list) = if change.commit == commit then suc (count_of commit list) else 0

-- how many are of the first commit that any is of; 0 where there is none
abbrev pub count_of_first : List Change → ℕ
count_of_first [] = 0
count_of_first (change ∷ list) = suc (count_of change.commit list)

-- A place on the way to n: all commits in effect up to a position that is live at n, and of the next commit that writes into the space
-- at most as many Writes as it has there.
pub record IsPlace (history : History) (n space upto part : ℕ) : Type 0 where
  pub is_live : live history n upto ≡ true
  pub within : part ≤ count_of_first (changes_behind upto (lane_changes history n space))

-- how many changes of a way are laid at a place
abbrev pub laid_at : List Change → ℕ → ℕ → ℕ
laid_at way upto part = length (changes_up_to upto way) + part

-- a page of a space with the first changes of a way
abbrev pub page_with : List Change → ℕ → ℕ → ℕ → Page
page_with way count space number = fold (with_change space number) empty_page (take count way)

-- so many pages of it, from the first one on
abbrev pub pages_with : List Change → ℕ → ℕ → ℕ → List Page
pages_with way count space pages = brought space 0 (take count way) (empty_pages pages)

-- what a lane on its way to n has at a place: a page, and all of its pages
abbrev pub lane_page : History → (n space upto part number : ℕ) → Page
lane_page history n space upto part number = page_with (lane_changes history n space) (laid_at (lane_changes history n space) upto part) space number

abbrev pub lane_pages : History → (n space upto part pages : ℕ) → List Page
lane_pages history n space upto part pages = pages_with (lane_changes history n space) (laid_at (lane_changes history n space) upto part) space pages

-- a place by its numbers
pub record Place : Type 0 where
  pub upto : ℕ
  pub part : ℕ

-- the last commit that any of them is of, or a position where none is behind it
abbrev pub last_commit : ℕ → List Change → ℕ
last_commit from [] = from
last_commit from (change ∷ list) = last_commit (max from change.commit) list

-- Where the work is cut that goes on from a position: at the last commit that is laid whole, but never before that position, and of the
-- next commit's Writes those that are laid; at the end of the way the position that it leads to.
abbrev pub cut_by : (from to : ℕ) → List Change → List Change → Place
cut_by from to laid [] = record { upto = to; part = 0 }
cut_by from to laid (next ∷ rest) = record { upto = last_commit from (changes_before next.commit laid); part = length (changes_by next.commit laid) }

-- the cut behind the first changes of a way
abbrev pub cut : (from : ℕ) → List Change → (to count : ℕ) → Place
cut from way to count = cut_by from to (take count way) (drop count way)

-- a place isn't before another: the one position is behind the other's, or they are the same and so many more Writes are laid
abbrev pub IsNotBefore : (upto part further more : ℕ) → Type 0
IsNotBefore upto part further more = (upto ≤ further) × (upto ≡ further → part ≤ more)
