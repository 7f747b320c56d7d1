-- The lanes: where each may be, by the history and the restore that is under way.
use Rattle.std.specs.Prelude.{◌≡◌, ℕ, suc, ◌-◌, ◌<◌, ◌≤◌, List, [], ◌∷◌, length, slice_get, slice_index, Option, None, Some, Contains}
use Rattle.log_history.specs.History.{History}
use Rattle.lane_ways.specs.Ways.{IsPlace}
use Rattle.onbar_grammar.specs.Script.{Space}
use Rattle.backup_lines.specs.Lines.{Archive, Line, archived}
use Rattle.backup_lines.specs.Spans.{Active}
use Rattle.site_worlds.specs.Worlds.{LaneState, stands, blank, merges, replays, stale, lost}
use Rattle.site_worlds.specs.Files.{low_at}
use Rattle.site_worlds.specs.Objects.{entries_in}

-- a line is of an archive of this space with this copy id
pub record IsArchived (lines : List Line) (space copy : ℕ) (archive : Archive) : Type 0 where
  pub line : Contains lines (archived archive)
  pub same_space : archive.space ≡ space
  pub same_copy : archive.copy ≡ copy

-- a chain has one to three archives of the space, each with a line
pub record IsChain (lines : List Line) (space : ℕ) (chain : List ℕ) : Type 0 where
  pub some : 1 ≤ length chain
  pub few : length chain ≤ 3
  pub each : (k : ℕ) → k < length chain → (archive : Archive) × IsArchived lines space (slice_index chain k) archive

-- the copy id of the last archive of a chain
abbrev pub last_of_chain : List ℕ → ℕ
last_of_chain chain = slice_index chain (length chain - 1)

-- the number of pages of a space
abbrev pub pages_of_option : Option Space → ℕ
pages_of_option None = 0
pages_of_option (Some space) = space.pages

abbrev pub pages_of_space : List Space → ℕ → ℕ
pages_of_space spaces space = pages_of_option (slice_get spaces space)

-- the restore of this number is under way
pub record IsUnder (active : Option Active) (number : ℕ) : Type 0 where
  pub restore : Active
  pub is : active ≡ Some restore
  pub same : restore.number ≡ number

-- a lane in the midst of an archive: that is one of its chain, and has at least so many entries
pub record FitMerge (spaces : List Space) (history : History) (lines : List Line) (active : Option Active) (space number : ℕ) (chain : List ℕ)
    (archive entries : ℕ) : Type 0 where
  pub under : IsUnder active number
  pub is_chain : IsChain lines space chain
  pub in_chain : archive < length chain
  pub merged : Archive
  pub is_merged : IsArchived lines space (slice_index chain archive) merged
  pub within : entries ≤ entries_in history (pages_of_space spaces space) merged

-- a lane on its way from the last archive of its chain to the restore's position
pub record FitReplay (history : History) (lines : List Line) (active : Option Active) (space number : ℕ) (chain : List ℕ) (upto part : ℕ) : Type 0 where
  pub under : IsUnder active number
  pub is_chain : IsChain lines space chain
  pub place : (restore : Active) → active ≡ Some restore → IsPlace history restore.to space upto part
  pub last : Archive
  pub is_last : IsArchived lines space (last_of_chain chain) last
  pub behind : last.at ≤ upto

-- what holds of a lane's state: it is a place on a way, and names no restore but the one that is under way
abbrev pub FitLane : List Space → History → List Line → Option Active → ℕ → LaneState → Type 0
FitLane spaces history lines active space (stands upto part) = IsPlace history (length history) space upto part
FitLane spaces history lines active space (blank number) = IsUnder active number
FitLane spaces history lines active space (merges number chain archive entries) = FitMerge spaces history lines active space number chain archive entries
FitLane spaces history lines active space (replays number chain upto part) = FitReplay history lines active space number chain upto part
FitLane spaces history lines active space stale = Unit {0}
FitLane spaces history lines active space lost = Unit {0}

-- With no restore under way a lane is lost, or stands where the log that it still needs is held.
abbrev pub IsAtRest : History → ℕ → LaneState → Type 0
IsAtRest history held (stands upto part) = held ≤ low_at history upto
IsAtRest history held lost = Unit {0}
IsAtRest history held lane = ⊥

-- in a restore whose lanes are prepared, before its Reset: lost, or in a state of this restore
abbrev pub IsOnTheWay : ℕ → LaneState → Type 0
IsOnTheWay number (blank restore) = restore ≡ number
IsOnTheWay number (merges restore chain archive entries) = restore ≡ number
IsOnTheWay number (replays restore chain upto part) = restore ≡ number
IsOnTheWay number lost = Unit {0}
IsOnTheWay number lane = ⊥

-- lost, or brought to the restore's position
abbrev pub IsReplayed : Active → LaneState → Type 0
IsReplayed restore (replays number chain upto part) = (number ≡ restore.number) × (upto ≡ restore.to) × (part ≡ 0)
IsReplayed restore lost = Unit {0}
IsReplayed restore lane = ⊥

-- lost, or at the end of the log
abbrev pub IsAtEnd : ℕ → LaneState → Type 0
IsAtEnd end (stands upto part) = (upto ≡ end) × (part ≡ 0)
IsAtEnd end lost = Unit {0}
IsAtEnd end lane = ⊥

-- what holds of each lane and its space's number, from a number on
abbrev pub EachLane : (ℕ → LaneState → Type 0) → ℕ → List LaneState → Type 0
EachLane P space [] = Unit {0}
EachLane P space (lane ∷ lanes) = P space lane × EachLane P (suc space) lanes
