-- A lane that is brought forward along its way.
use Rattle.std.specs.Prelude.{◌≡◌, ◌⊎◌, ℕ, ◌<◌, ◌≤◌, ◌^◌, List, length, take, drop}
use Rattle.log_history.specs.History.{History}
use Rattle.log_history.specs.Effects.{Change}
use Rattle.space_pages.specs.Pages.{LieWithin, brought}
use Rattle.backup_lines.specs.declared.lanes.LaneState.{LaneState}
use Rattle.lane_ways.specs.Pictures.{Shows}
use Rattle.lane_ways.specs.Ways.{IsNotBefore, IsPlace, changes_behind, laid_at, lane_changes, lane_pages}
use Rattle.lane_ways.specs.ListLaws.{Rises}
use Rattle.lane_steps.specs.Choices.{own}
use Rattle.lane_steps.specs.Runs.{IsRun}
use Rattle.lane_advance.specs.Places.{picture_at}
use Rattle.lane_advance.specs.declared.progress.Progress.{Progress}

-- Changes of all spaces that lead a lane from a place to a position: behind the place they have, of the space's own pages, what its way
-- still has. Those of commits up to the place may stand before them. Commits rise, and the bytes of each change lie within a page.
pub record Leads (history : History) (n space count to upto part : ℕ) (list : List Change) : Type 0 where
  pub is_to : n ≡ to
  pub place : IsPlace history n space upto part
  pub handed : changes_behind upto (own space count list) ≡ changes_behind upto (lane_changes history n space)
  pub rises : Rises 0 list
  pub lie : LieWithin list
  pub few : length list < 2 ^ 32

-- what a stop leaves: a place on the way that isn't before the one from which the work began, with its pages
pub record MayAdvance (history : History) (n space count : ℕ) (state : LaneState) (upto part : ℕ) (bytes old new : List ℕ) : Type 0 where
  pub further : ℕ
  pub more : ℕ
  pub place : IsPlace history n space further more
  pub not_before : IsNotBefore upto part further more
  pub shows : Shows (picture_at history n space count state further more bytes) new

-- The work is under way: so many of the changes behind the place from which it began are laid, the mark stands at a place that lays as many
-- of the way, and the list has the others behind those that are taken.
pub record IsUnderWay (history : History) (n space count upto part : ℕ) (list : List Change) (progress : Progress) : Type 0 where
  pub laid : ℕ
  pub more : part ≤ laid
  pub left : own space count (drop progress.taken list) ≡ drop laid (changes_behind upto (lane_changes history n space))
  pub run : IsRun upto progress.run.commit progress.run.count progress.run.whole (take laid (changes_behind upto (lane_changes history n space)))
  pub rises : Rises progress.run.commit (drop progress.taken list)
  pub place : IsPlace history n space progress.upto progress.part
  pub not_before : IsNotBefore upto part progress.upto progress.part
  pub lays : laid_at (lane_changes history n space) progress.upto progress.part ≡ laid_at (lane_changes history n space) upto laid

-- a step of the work takes so many changes more: it leads to another place, which has these changes in its pages
pub record GoesOn (history : History) (n space count upto part : ℕ) (list : List Change) (front : ℕ) (old new : Progress) : Type 0 where
  pub under_way : IsUnderWay history n space count upto part list new
  pub pages : brought space 0 (take front (drop old.taken list)) (lane_pages history n space old.upto old.part count) ≡ lane_pages history n space new.upto new.part count
  pub other : new.upto ≡ old.upto → new.part ≡ old.part → ⊥

-- One step came to the position, or to another place; that isn't before the first one, and the changes lead on from it.
pub record GoesTo (history : History) (n space count to upto part : ℕ) (list : List Change) (further more : ℕ) : Type 0 where
  pub leads : Leads history n space count to further more list
  pub not_before : IsNotBefore upto part further more
  pub goes : ((further ≡ to) × (more ≡ 0)) ⊎ (further ≡ upto → more ≡ part → ⊥)
