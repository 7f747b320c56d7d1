-- When a move may be made. A command makes a move only where this holds; each then leads from a fit site to a fit site.
use Rattle.std.specs.Prelude.{◌≡◌, ℕ, suc, ◌+◌, ◌^◌, ◌<◌, ◌≤◌, List, [], ◌∷◌, ◌++◌, length, map, Bool, true, false, None, Some, Contains}
use Rattle.std.specs.List.{AllByRecursion}
use Rattle.log_history.specs.History.{LogEntry, reset}
use Rattle.log_history.specs.Live.{reset_points}
use Rattle.log_history.specs.Transactions.{InOrder, last_time, low}
use Rattle.block_chain.specs.Blocks.{times, AreSound}
use Rattle.backup_lines.specs.Lines.{Span, Line, logged, live_archives}
use Rattle.backup_lines.specs.Chains.{chain_of}
use Rattle.backup_lines.specs.Spans.{Active}
use Rattle.site_worlds.specs.Worlds.{Kept, Ring, LaneState, Site, stands, blank, merges, replays, lost}
use Rattle.site_worlds.specs.Files.{first_of_file, HasRecords, IsEmptyAtEnd, IsLogged, last_logged, IsSaved, EndsInReset}
use Rattle.site_worlds.specs.Objects.{IsKept, blocks_on}
use Rattle.site_worlds.specs.Lanes.{IsAtEnd, IsReplayed, IsOnTheWay}
use Rattle.site_worlds.specs.Fitness.{IsWithin, FitLine, copies_in}
use Rattle.site_worlds.specs.Moves.{Move, append_batch, append_reset, close_file, drop_oldest, next_file, mark_backed, format_log, commit_objects, append_lines, begin_restore, set_prepared, end_restore, move_lanes, kept_after}

abbrev pub IsNoReset : LogEntry → Type 0
IsNoReset (reset restore target time) = ⊥
IsNoReset entry = Unit {0}

-- the log is there
pub record HasRing (site : Site) : Type 0 where
  pub ring : Ring
  pub is : site.ring ≡ Some ring

-- With no restore under way, records in order that are no Resets go into the open file, as far as that takes them.
pub record CanAppend (records : List LogEntry) (site : Site) : Type 0 where
  pub none : site.active ≡ None
  pub has : HasRing site
  pub open_file : has.ring.is_open ≡ true
  pub order : InOrder (site.history ++ records)
  pub within : AllByRecursion (IsWithin site.head.spaces) records
  pub plain : AllByRecursion IsNoReset records
  pub few : length site.history + length records ≤ 2 ^ 48
  pub small : length site.history + length records < first_of_file site.starts site.history (length site.starts) + 256

-- A restore whose lanes are prepared, and each of them lost or at its position, writes its Reset at the head of the open file, once.
pub record CanReset (restore target time : ℕ) (site : Site) : Type 0 where
  pub under : Active
  pub is : site.active ≡ Some under
  pub prepared : under.prepared ≡ true
  pub same : restore ≡ under.number
  pub goes_back : target ≡ under.to
  pub has : HasRing site
  pub open_file : has.ring.is_open ≡ true
  pub empty : IsEmptyAtEnd site.starts site.history
  pub first : EndsInReset site.history under → ⊥
  pub few : length site.history < 2 ^ 48
  pub in_time : last_time site.history ≤ time
  pub replayed : AllByRecursion (IsReplayed under) site.lanes

-- the current file has records
pub record CanClose (site : Site) : Type 0 where
  pub has : HasRing site
  pub filled : HasRecords site.starts site.history (length site.starts)

-- The oldest file isn't the current one, and is backed up; with no restore under way no open transaction and no lane needs it.
pub record CanDrop (site : Site) : Type 0 where
  pub has : HasRing site
  pub not_last : has.ring.oldest < length site.starts
  pub saved : has.ring.oldest ≤ has.ring.backed
  pub not_open : site.active ≡ None → first_of_file site.starts site.history (suc has.ring.oldest) ≤ low site.history
  pub not_needed : site.active ≡ None → AllByRecursion (IsAtEnd (length site.history)) site.lanes

-- the current file has records, there is a place for the next file and a position for its first record
pub record CanOpenNext (site : Site) : Type 0 where
  pub has : HasRing site
  pub filled : HasRecords site.starts site.history (length site.starts)
  pub few : length site.history < 2 ^ 48
  pub room : suc (length site.starts) < has.ring.oldest + 8

-- the next file to be backed up has a line
pub record CanMark (file : ℕ) (site : Site) : Type 0 where
  pub has : HasRing site
  pub next : file ≡ suc has.ring.backed
  pub is_logged : IsLogged site.lines file

-- The log is lost, a restore is under way whose lanes aren't prepared, and there is a position for the first record.
pub record CanFormatLog (site : Site) : Type 0 where
  pub is_lost : site.ring ≡ None
  pub under : Active
  pub is : site.active ≡ Some under
  pub unprepared : under.prepared ≡ false
  pub few : length site.history < 2 ^ 48

-- copy ids follow one another behind one
abbrev pub FollowFrom : ℕ → List Kept → Type 0
FollowFrom last [] = Unit {0}
FollowFrom last (kept ∷ added) = (kept.object.copy ≡ suc last) × FollowFrom (suc last) added

-- the added objects have the next copy ids, and on each volume the blocks of those that then live lie apart, within it
pub record CanCommit (added : List Kept) (deleted : List ℕ) (site : Site) : Type 0 where
  pub follow : FollowFrom site.store.last added
  pub each : AllByRecursion IsKept added
  pub apart : (volume : ℕ) → AreSound site.head.blocks (blocks_on volume (kept_after added deleted site.store.kept))

-- Each line fits, its copy id is new, and a log file is the next one to be marked as backed up, and closed.
pub record CanAddLines (more : List Line) (site : Site) : Type 0 where
  pub each : AllByRecursion (FitLine site.head site.history site.starts site.store (site.lines ++ more)) more
  pub once : (copy : ℕ) → times copy (copies_in (site.lines ++ more)) ≤ 1
  pub files : (span : Span) → Contains more (logged span)
      → (has : HasRing site) × (span.file ≡ suc has.ring.backed) × (has.ring.is_open ≡ true → span.file < length site.starts)

-- what the log holds is saved, and log files with lines reach the position
pub record CanBegin (to : ℕ) (site : Site) : Type 0 where
  pub reached : to ≤ last_logged site.lines
  pub saved : (ring : Ring) → site.ring ≡ Some ring → IsSaved site.history site.starts ring

-- before the Reset of the restore under way; with the log there it is marked as prepared only where each lane is
pub record CanSetPrepared (prepared : Bool) (site : Site) : Type 0 where
  pub under : Active
  pub is : site.active ≡ Some under
  pub before : EndsInReset site.history under → ⊥
  pub lanes : prepared ≡ true → (ring : Ring) → site.ring ≡ Some ring → AllByRecursion (IsOnTheWay under.number) site.lanes

-- the last record is the restore's Reset, and each lane is lost or there
pub record CanEnd (site : Site) : Type 0 where
  pub under : Active
  pub is : site.active ≡ Some under
  pub ends : EndsInReset site.history under
  pub lanes : AllByRecursion (IsAtEnd (length site.history)) site.lanes

-- the copy ids of the chain of a space for a position
abbrev pub planned : Site → ℕ → ℕ → List ℕ
planned site space to = map (λ archive. archive.copy) (chain_of (live_archives site.lines) (reset_points site.history) space to)

-- a lane of a restore that goes on by a chain: emptied, or among the archives of that chain or behind them
abbrev pub GoesOnBy : ℕ → List ℕ → LaneState → Type 0
GoesOnBy number chain (blank restore) = restore ≡ number
GoesOnBy number chain (merges restore other archive entries) = (restore ≡ number) × (other ≡ chain)
GoesOnBy number chain (replays restore other upto part) = (restore ≡ number) × (other ≡ chain)
GoesOnBy number chain first = ⊥

-- to the end of the log, with no restore under way
pub record CanAdvance (site : Site) (first goal : LaneState) : Type 0 where
  pub none : site.active ≡ None
  pub has : HasRing site
  pub upto : ℕ
  pub part : ℕ
  pub from : first ≡ stands upto part
  pub to : goal ≡ stands (length site.history) 0

-- a restore whose lanes aren't prepared empties the lane
pub record CanPrepare (site : Site) (goal : LaneState) : Type 0 where
  pub under : Active
  pub is : site.active ≡ Some under
  pub unprepared : under.prepared ≡ false
  pub to : goal ≡ blank under.number

-- a restore whose lanes are prepared brings the lane to its position, by the chain that is planned for it
pub record CanRestore (site : Site) (space : ℕ) (first goal : LaneState) : Type 0 where
  pub under : Active
  pub is : site.active ≡ Some under
  pub prepared : under.prepared ≡ true
  pub has : HasRing site
  pub before : EndsInReset site.history under → ⊥
  pub some : 1 ≤ length (planned site space under.to)
  pub from : GoesOnBy under.number (planned site space under.to) first
  pub to : goal ≡ replays under.number (planned site space under.to) under.to 0

-- behind its Reset a restore ends the lane there
pub record CanFinish (site : Site) (first goal : LaneState) : Type 0 where
  pub under : Active
  pub is : site.active ≡ Some under
  pub has : HasRing site
  pub ends : EndsInReset site.history under
  pub chain : List ℕ
  pub from : first ≡ replays under.number chain under.to 0
  pub to : goal ≡ stands (length site.history) 0

-- what a lane may do in a phase: nothing, lose its header, or go on
pub data CanLane (site : Site) (space : ℕ) (first goal : LaneState) : Type 0 where
  stays : (same : goal ≡ first) → CanLane site space first goal
  closes : (is : goal ≡ lost) → CanLane site space first goal
  advances : (can : CanAdvance site first goal) → CanLane site space first goal
  prepares : (can : CanPrepare site goal) → CanLane site space first goal
  restores : (can : CanRestore site space first goal) → CanLane site space first goal
  finishes : (can : CanFinish site first goal) → CanLane site space first goal

abbrev pub EachCan : Site → ℕ → (lanes goals : List LaneState) → Type 0
EachCan site space [] [] = Unit {0}
EachCan site space (lane ∷ lanes) (goal ∷ goals) = CanLane site space lane goal × EachCan site (suc space) lanes goals
EachCan site space lanes goals = ⊥

-- when a move may be made
abbrev pub CanMove : Move → Site → Type 0
CanMove (append_batch records) site = CanAppend records site
CanMove (append_reset restore target time) site = CanReset restore target time site
CanMove close_file site = CanClose site
CanMove drop_oldest site = CanDrop site
CanMove next_file site = CanOpenNext site
CanMove (mark_backed file) site = CanMark file site
CanMove format_log site = CanFormatLog site
CanMove (commit_objects added deleted) site = CanCommit added deleted site
CanMove (append_lines more) site = CanAddLines more site
CanMove (begin_restore point to) site = CanBegin to site
CanMove (set_prepared prepared) site = CanSetPrepared prepared site
CanMove end_restore site = CanEnd site
CanMove (move_lanes goals) site = EachCan site 0 site.lanes goals
