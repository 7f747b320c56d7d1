-- Fit worlds: those that the product's own commands lead to, whatever was stopped, lost or damaged on the way. By parts, each over what
-- it speaks of.
use Rattle.std.specs.Prelude.{◌≡◌, ◌⊎◌, ℕ, zero, suc, ◌+◌, ◌^◌, ◌<◌, ◌≤◌, List, [], ◌∷◌, length, reverse, true, false, slice_get, Option, None, Some, Contains}
use Rattle.std.specs.List.{AllByRecursion, filter_map}
use Rattle.log_history.specs.History.{LogEntry, History, write, reset, entry_at}
use Rattle.log_history.specs.Live.{live}
use Rattle.log_history.specs.Transactions.{InOrder, OpenTxn, table_back, low}
use Rattle.onbar_grammar.specs.Script.{Space}
use Rattle.site_headers.specs.Heads.{Head, IsHead}
use Rattle.block_chain.specs.Blocks.{times, AreSound}
use Rattle.backup_lines.specs.Lines.{Archive, Span, Line, archived, logged, gone}
use Rattle.backup_lines.specs.Spans.{Active}
use Rattle.site_worlds.specs.Worlds.{Kept, Store, Ring, LaneState, Site, World, unformatted, formatted}
use Rattle.site_worlds.specs.Files.{first_of_file, HasRecords, low_at, Agrees, IsLogged, last_logged, IsSaved, EndsInReset}
use Rattle.site_worlds.specs.Objects.{archive_bytes, log_bytes, IsKept, blocks_on, Holds}
use Rattle.site_worlds.specs.Lanes.{pages_of_space, FitLane, IsAtRest, IsOnTheWay, IsReplayed, IsAtEnd, EachLane}

-- a Write is into a space of the site and a page that it has
abbrev pub IsWithin : List Space → LogEntry → Type 0
IsWithin spaces (write txn patch) = (space : Space) × (slice_get spaces patch.space ≡ Some space) × (patch.page < space.pages)
IsWithin spaces entry = Unit {0}

-- The history and its files: records in order, at most 2^48; files of at most 256 records that follow one another from position 1 on, of
-- which only the last may have none; a Reset is the first record of its file.
pub record FitHistory (spaces : List Space) (history : History) (starts : List ℕ) : Type 0 where
  pub order : InOrder history
  pub within : AllByRecursion (IsWithin spaces) history
  pub few : length history ≤ 2 ^ 48
  pub begins : first_of_file starts history 1 ≡ 1
  pub rising : (file : ℕ) → 1 ≤ file → file < length starts → HasRecords starts history file
  pub inside : (file : ℕ) → first_of_file starts history file ≤ suc (length history)
  pub small : (file : ℕ) → 1 ≤ file → file ≤ length starts → first_of_file starts history (file + 1) ≤ first_of_file starts history file + 256
  pub resets : (x restore target time : ℕ) → entry_at history x ≡ Some (reset restore target time)
      → (file : ℕ) × (1 ≤ file) × (file ≤ length starts) × (first_of_file starts history file ≡ x)

-- no open transaction has 2^32 or more records of its own, its Begin among them
abbrev pub AreBrief : List OpenTxn → Type 0
AreBrief table = AllByRecursion (λ open_txn. suc (length open_txn.patches) < 2 ^ 32) table

abbrev pub IsBriefBack : List LogEntry → Type 0
IsBriefBack [] = Unit {0}
IsBriefBack (entry ∷ past) = AreBrief (table_back (entry ∷ past)) × IsBriefBack past

-- The files that the disk of the log holds: at most eight, the last of them current. Each that isn't held, and each up to some held one,
-- has a line; a line is of a closed file, and at most of the one behind those. A closed current file has records.
pub record FitRing (history : History) (starts : List ℕ) (lines : List Line) (ring : Ring) : Type 0 where
  pub oldest : 1 ≤ ring.oldest
  pub held : ring.oldest ≤ length starts
  pub few : length starts < ring.oldest + 8
  pub dropped : ring.oldest ≤ suc ring.backed
  pub backed : ring.backed ≤ length starts
  pub saved : (file : ℕ) → 1 ≤ file → file ≤ ring.backed → IsLogged lines file
  pub next : (span : Span) → Contains lines (logged span) → span.file ≤ suc ring.backed
  pub closed : (span : Span) → Contains lines (logged span) → ring.is_open ≡ true → span.file < length starts
  pub filled : ring.is_open ≡ false → HasRecords starts history (length starts)

-- With the log lost the history ends where the last line of a log file does, and each file has a line.
pub record FitLost (history : History) (starts : List ℕ) (lines : List Line) : Type 0 where
  pub ends : length history ≡ last_logged lines
  pub saved : (file : ℕ) → 1 ≤ file → file ≤ length starts → IsLogged lines file

abbrev pub FitFiles : History → List ℕ → List Line → Option Ring → Type 0
FitFiles history starts lines None = FitLost history starts lines
FitFiles history starts lines (Some ring) = FitRing history starts lines ring

-- copy ids ascend behind one, up to another
abbrev pub AscendWithin : ℕ → ℕ → List Kept → Type 0
AscendWithin before last [] = before ≤ last
AscendWithin before last (kept ∷ others) = (before < kept.object.copy) × AscendWithin kept.object.copy last others

-- The store of volumes with so many blocks: copy ids ascend up to the last one, and on each volume the objects' blocks lie apart, within it.
pub record FitStore (blocks : ℕ) (store : Store) : Type 0 where
  pub ascend : AscendWithin 0 store.last store.kept
  pub each : AllByRecursion IsKept store.kept
  pub apart : (volume : ℕ) → AreSound blocks (blocks_on volume store.kept)
  pub damaged : AllByRecursion (λ copy. copy ≤ store.last) store.damaged

-- the archive that another builds on: a line is of it, it is of the same space and of the level below, and its position is live at the other's
pub record FitBase (history : History) (lines : List Line) (archive : Archive) : Type 0 where
  pub base : Archive
  pub line : Contains lines (archived base)
  pub same_copy : base.copy ≡ archive.base_copy
  pub same_space : base.space ≡ archive.space
  pub below : suc base.level ≡ archive.level
  pub same_base : base.at ≡ archive.base
  pub is_live : live history archive.at archive.base ≡ true

-- a level 0 builds on none, any other on one of the level below
abbrev pub FitLevel : History → List Line → Archive → ℕ → Type 0
FitLevel history lines archive zero = (archive.base ≡ 0) × (archive.base_copy ≡ 0)
FitLevel history lines archive (suc level) = FitBase history lines archive

-- An archive: of a space of the site, of level 0, 1 or 2, at a position that log files with lines reach; its object, if live, has its bytes
-- and stands on the volume of its space.
pub record FitArchive (head : Head) (history : History) (store : Store) (lines : List Line) (archive : Archive) : Type 0 where
  pub space : archive.space < length head.spaces
  pub level : archive.level ≤ 2
  pub reached : archive.at ≤ last_logged lines
  pub low : archive.low ≡ low_at history archive.at
  pub builds : FitLevel history lines archive archive.level
  pub copy : archive.copy ≤ store.last
  pub holds : Holds store archive.copy archive.space (archive_bytes head.site history (pages_of_space head.spaces archive.space) archive)

-- a log file: as the history has it; its object, if live, has its bytes and stands on volume 16
pub record FitSpan (head : Head) (history : History) (starts : List ℕ) (store : Store) (span : Span) : Type 0 where
  pub agrees : Agrees history starts span
  pub copy : span.copy ≤ store.last
  pub holds : Holds store span.copy 16 (log_bytes head.site history span)

abbrev pub FitLine : Head → History → List ℕ → Store → List Line → Line → Type 0
FitLine head history starts store lines (archived archive) = FitArchive head history store lines archive
FitLine head history starts store lines (logged span) = FitSpan head history starts store span
FitLine head history starts store lines (gone copy) = copy ≤ store.last

abbrev pub copy_in : Line → Option ℕ
copy_in (archived archive) = Some archive.copy
copy_in (logged span) = Some span.copy
copy_in (gone copy) = None

-- the copy ids of archives and log files
abbrev pub copies_in : List Line → List ℕ
copies_in lines = filter_map copy_in lines

-- no two archives or log files have the same copy id
pub record FitLines (head : Head) (history : History) (starts : List ℕ) (store : Store) (lines : List Line) : Type 0 where
  pub each : AllByRecursion (FitLine head history starts store lines) lines
  pub once : (copy : ℕ) → times copy (copies_in lines) ≤ 1

-- what is there is saved before a restore begins, and only its own Reset comes behind that
abbrev pub FitSaved : History → List ℕ → Option Ring → Active → Type 0
FitSaved history starts None restore = Unit {0}
FitSaved history starts (Some ring) restore = IsSaved history starts ring ⊎ EndsInReset history restore

-- The restore under way: it has the last number, log files with lines reach its position, and a Reset of its number is the last record,
-- goes to its position, and came with all lanes prepared.
pub record FitActive (history : History) (starts : List ℕ) (lines : List Line) (ring : Option Ring) (number : ℕ) (restore : Active) : Type 0 where
  pub same : restore.number ≡ number
  pub some : 1 ≤ number
  pub reached : restore.to ≤ last_logged lines
  pub saved : FitSaved history starts ring restore
  pub own : (x target time : ℕ) → entry_at history x ≡ Some (reset restore.number target time)
      → (x ≡ length history) × (target ≡ restore.to) × (restore.prepared ≡ true)

-- each Reset is of a restore up to the last number
pub record FitRestore (history : History) (starts : List ℕ) (lines : List Line) (ring : Option Ring) (number : ℕ) (active : Option Active) : Type 0 where
  pub resets : (x restore target time : ℕ) → entry_at history x ≡ Some (reset restore target time) → restore ≤ number
  pub fits : (restore : Active) → active ≡ Some restore → FitActive history starts lines ring number restore

-- with no restore under way: what open transactions and lanes need of the log is held
pub record AreAtRest (history : History) (starts : List ℕ) (ring : Ring) (lanes : List LaneState) : Type 0 where
  pub low : first_of_file starts history ring.oldest ≤ low history
  pub each : AllByRecursion (IsAtRest history (first_of_file starts history ring.oldest)) lanes

-- lost, at the Reset, or still at the restore's position
abbrev pub IsFinishing : History → Active → LaneState → Type 0
IsFinishing history restore lane = IsAtEnd (length history) lane ⊎ IsReplayed restore lane

-- in a restore whose lanes are prepared: before its Reset all are on their way, from then on all are there
abbrev pub AreInStep : History → Active → List LaneState → Type 0
AreInStep history restore lanes =
    ((EndsInReset history restore → ⊥) × AllByRecursion (IsOnTheWay restore.number) lanes)
    ⊎ (EndsInReset history restore × AllByRecursion (IsFinishing history restore) lanes)

-- how the lanes are together, with the log there
abbrev pub FitStep : History → List ℕ → Option Ring → Option Active → List LaneState → Type 0
FitStep history starts None active lanes = Unit {0}
FitStep history starts (Some ring) None lanes = AreAtRest history starts ring lanes
FitStep history starts (Some ring) (Some restore) lanes = restore.prepared ≡ true → AreInStep history restore lanes

pub record FitLanes (spaces : List Space) (history : History) (starts : List ℕ) (lines : List Line) (ring : Option Ring) (active : Option Active)
    (lanes : List LaneState) : Type 0 where
  pub count : length lanes ≡ length spaces
  pub each : EachLane (FitLane spaces history lines active) 0 lanes
  pub step : FitStep history starts ring active lanes

pub record IsFitSite (site : Site) : Type 0 where
  pub head : IsHead site.head
  pub history : FitHistory site.head.spaces site.history site.starts
  pub brief : IsBriefBack (reverse site.history)
  pub files : FitFiles site.history site.starts site.lines site.ring
  pub store : FitStore site.head.blocks site.store
  pub lines : FitLines site.head site.history site.starts site.store site.lines
  pub restore : FitRestore site.history site.starts site.lines site.ring site.number site.active
  pub lanes : FitLanes site.head.spaces site.history site.starts site.lines site.ring site.active site.lanes

abbrev pub IsFit : World → Type 0
IsFit unformatted = Unit {0}
IsFit (formatted site) = IsFitSite site
