-- A restore from its first command on: the log is saved, the restore begins, and goes on as a restart does.
use Rattle.std.specs.Prelude.{◌≡◌, ◌⊎◌, ℕ, suc, ◌≤◌, List, [], ◌∷◌, length, take}
use Rattle.std.specs.List.{AllByRecursion}
use Rattle.log_history.specs.Effects.{page_at}
use Rattle.site_worlds.specs.Worlds.{Site, stands}
use Rattle.site_worlds.specs.Fitness.{IsFitSite}
use Rattle.site_worlds.specs.Moves.{Move, close_file, mark_backed, commit_objects, append_lines, begin_restore, site_after}
use Rattle.site_worlds.specs.Allowed.{CanMove}
use Rattle.site_stories.specs.Restarts.{IsRestart, IsUnderway, IsRestored}

-- what is done before a restore begins: the current file is closed, and files of the log are backed up
abbrev pub IsSaving : Move → Type 0
IsSaving close_file = Unit {0}
IsSaving (mark_backed file) = Unit {0}
IsSaving (commit_objects added deleted) = Unit {0}
IsSaving (append_lines more) = Unit {0}
IsSaving move = ⊥

-- The moves of a restore to a position, as many as it makes before it is stopped, refused or done.
abbrev pub IsRestore : ℕ → List Move → Site → Type 0
IsRestore to [] site = Unit {0}
IsRestore to (begin_restore point position ∷ moves) site =
    (position ≡ to) × CanMove (begin_restore point position) site × IsRestart moves (site_after (begin_restore point position) site)
IsRestore to (move ∷ moves) site = IsSaving move × CanMove move site × IsRestore to moves (site_after move site)

-- How far such a restore has come: it hasn't begun, and the log has the same records; or it is under way or done, back to that position of
-- that log.
pub data HasCome (to : ℕ) (site other : Site) : Type 0 where
  not_begun : (fit : IsFitSite other) (history : other.history ≡ site.history) (number : other.number ≡ site.number) → HasCome to site other
  begun : (within : to ≤ length site.history)
      (is : IsUnderway (suc site.number) (take to site.history) other ⊎ IsRestored (suc site.number) (take to site.history) other)
      → HasCome to site other

-- Each chunk stands at the end of the log, where all pages are those at a position of a site's log.
pub record IsBackAt (to : ℕ) (site last : Site) : Type 0 where
  pub lanes : AllByRecursion (λ lane. lane ≡ stands (length last.history) 0) last.lanes
  pub pages : (space page : ℕ) → page_at last.history (length last.history) space page ≡ page_at site.history to space page
