-- Restores that are restarted: what a restart does, by what is there, and when a restore is under way and done.
use Rattle.std.specs.Prelude.{◌≡◌, ◌⊎◌, ℕ, suc, ◌+◌, ◌≤◌, List, [], ◌∷◌, ◌++◌, length, true, false, Some, None}
use Rattle.std.specs.List.{AllByRecursion}
use Rattle.log_history.specs.History.{History, reset, entry_at}
use Rattle.backup_lines.specs.Lines.{Line, gone}
use Rattle.walks.specs.Courses.{IsOnWay}
use Rattle.backup_lines.specs.Spans.{Active}
use Rattle.site_worlds.specs.Worlds.{LaneState, Site, stands, blank, replays}
use Rattle.site_worlds.specs.Files.{EndsInReset}
use Rattle.site_worlds.specs.Lanes.{EachLane}
use Rattle.site_worlds.specs.Fitness.{IsFitSite}
use Rattle.site_worlds.specs.Moves.{Move, append_reset, drop_oldest, next_file, format_log, commit_objects, append_lines, set_prepared, end_restore, move_lanes, site_after, site_rules}
use Rattle.site_worlds.specs.Allowed.{HasRing, planned, GoesOnBy, CanMove}
use Rattle.world_laws.specs.KeptLaws.{CanAll}
use Rattle.site_stories.specs.Events.{IsDamaged, Befalls}

-- what holds of each lane and its goal, by the number of its space from one on
abbrev pub EachGoal : (ℕ → LaneState → LaneState → Type 0) → ℕ → (lanes goals : List LaneState) → Type 0
EachGoal P space [] [] = Unit {0}
EachGoal P space (lane ∷ lanes) (goal ∷ goals) = P space lane goal × EachGoal P (suc space) lanes goals
EachGoal P space lanes goals = ⊥

-- each lane goes on by the chain that is planned for it now
abbrev pub GoOnByPlan : Active → Site → Type 0
GoOnByPlan under site = EachLane (λ space lane. GoesOnBy under.number (planned site space under.to) lane) 0 site.lanes

-- each lane has come to the restore's position by that chain
abbrev pub HaveComeByPlan : Active → Site → Type 0
HaveComeByPlan under site = EachLane (λ space lane. lane ≡ replays under.number (planned site space under.to) under.to 0) 0 site.lanes

-- A phase of a restore, in which all lanes go on: those that don't go on by their plan are emptied, and others may be; each comes to the
-- restore's position; each ends at the Reset.
pub data IsPhase (under : Active) (site : Site) (goals : List LaneState) : Type 0 where
  prepares : (unprepared : under.prepared ≡ false) (has : HasRing site)
      (each : EachGoal (λ space lane goal. (goal ≡ blank under.number) ⊎ ((goal ≡ lane) × GoesOnBy under.number (planned site space under.to) lane)) 0 site.lanes goals)
      → IsPhase under site goals
  brings : (prepared : under.prepared ≡ true)
      (each : EachGoal (λ space lane goal. goal ≡ replays under.number (planned site space under.to) under.to 0) 0 site.lanes goals)
      → IsPhase under site goals
  finishes : (ends : EndsInReset site.history under) (each : EachGoal (λ space lane goal. goal ≡ stands (length site.history) 0) 0 site.lanes goals)
      → IsPhase under site goals

-- The Reset is to be written now.
pub record IsBeforeReset (under : Active) (site : Site) : Type 0 where
  pub prepared : under.prepared ≡ true
  pub before : EndsInReset site.history under → ⊥
  pub come : HaveComeByPlan under site

-- The next move of a restore, by what is there: each is made where it isn't made yet. A lost log is formatted; lanes are emptied and the
-- restore marked as prepared, or as not, where some chain isn't the planned one; lanes are brought to the position; room is made for the
-- Reset, and it is written; lanes are brought to it, and the restore ends.
abbrev pub IsNextMove : Move → Active → Site → Type 0
IsNextMove format_log under site = Unit {0}
IsNextMove (set_prepared true) under site = (under.prepared ≡ false) × HasRing site × GoOnByPlan under site
IsNextMove (set_prepared false) under site = (under.prepared ≡ true) × (GoOnByPlan under site → ⊥)
IsNextMove (move_lanes goals) under site = (goals ≡ site.lanes → ⊥) × IsPhase under site goals
IsNextMove drop_oldest under site = IsBeforeReset under site × ((has : HasRing site) → has.ring.oldest + 8 ≤ suc (length site.starts))
IsNextMove next_file under site = IsBeforeReset under site
IsNextMove (append_reset restore target time) under site = HaveComeByPlan under site
IsNextMove end_restore under site = AllByRecursion (λ lane. lane ≡ stands (length site.history) 0) site.lanes
IsNextMove move under site = ⊥

pub record MayRestart (move : Move) (site : Site) : Type 0 where
  pub under : Active
  pub is : site.active ≡ Some under
  pub next : IsNextMove move under site
  pub can : CanMove move site

-- The moves of a restart, as many as it makes before it is stopped, refused or done.
abbrev pub IsRestart : List Move → Site → Type 0
IsRestart [] site = Unit {0}
IsRestart (move ∷ moves) site = MayRestart move site × IsRestart moves (site_after move site)

-- A restore of this number is under way, back to the end of a history.
pub record IsUnderway (number : ℕ) (past : History) (site : Site) : Type 0 where
  pub fit : IsFitSite site
  pub under : Active
  pub is : site.active ≡ Some under
  pub same : under.number ≡ number
  pub to : under.to ≡ length past
  pub later : History
  pub holds : site.history ≡ past ++ later

-- It is done: its Reset is the last record, and each lane stands there.
pub record IsRestored (number : ℕ) (past : History) (site : Site) : Type 0 where
  pub fit : IsFitSite site
  pub none : site.active ≡ None
  pub time : ℕ
  pub ends : entry_at site.history (length site.history) ≡ Some (reset number (length past) time)
  pub later : History
  pub holds : site.history ≡ past ++ later
  pub lanes : AllByRecursion (λ lane. lane ≡ stands (length site.history) 0) site.lanes

abbrev pub IsGone : Line → Type 0
IsGone (gone copy) = Unit {0}
IsGone line = ⊥

-- what commands that a restore under way doesn't refuse do: objects are added and deleted, copies that are gone get lines
abbrev pub IsAside : Move → Type 0
IsAside (commit_objects added deleted) = Unit {0}
IsAside (append_lines more) = AllByRecursion IsGone more
IsAside move = ⊥

-- From one site to the next while a restore is restarted: a restart ends or stops; another command does; volumes are damaged; and while the
-- restore is under way anything else befalls the site.
pub data IsTurn (site next : Site) : Type 0 where
  restarts : (moves : List Move) (is : IsRestart moves site) (stops : IsOnWay site_rules moves site next) → IsTurn site next
  goes_aside : (moves : List Move) (can : CanAll moves site) (each : AllByRecursion IsAside moves) (stops : IsOnWay site_rules moves site next) → IsTurn site next
  is_damaged : (damage : IsDamaged site next) → IsTurn site next
  is_befallen : (under : Active) (is : site.active ≡ Some under) (befalls : Befalls site next) → IsTurn site next

-- one turn after another, by the sites that they lead to
abbrev pub AreTurns : List Site → Site → Site → Type 0
AreTurns [] site last = last ≡ site
AreTurns (next ∷ sites) site last = IsTurn site next × AreTurns sites next last
