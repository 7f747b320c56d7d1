-- The worlds of a site: what its disks stand for.
use Rattle.std.specs.Prelude.{ℕ, List, [], ◌∷◌, map, Bool, true, Option, Some, None}
use Rattle.log_history.specs.History.{History}
use Rattle.site_headers.specs.Heads.{Head}
use Rattle.catalogue_slots.specs.Records.{Object}
use Rattle.backup_lines.specs.Lines.{Line}
use Rattle.backup_lines.specs.Spans.{Active}

-- a live object of the store, and the bytes that were sent for it
pub record Kept : Type 0 where
  pub object : Object
  pub bytes : List ℕ

-- The store, as its ended transactions leave it: the last copy id, the live objects in order of copy id, how many slots of the
-- catalogue are used, and the copy ids of the damaged objects.
pub record Store : Type 0 where
  pub last : ℕ
  pub kept : List Kept
  pub used : ℕ
  pub damaged : List ℕ

-- What the log's disk holds: the files from the oldest held one to the last one, which is the current one. That one may be open, and
-- the files up to some are backed up.
pub record Ring : Type 0 where
  pub oldest : ℕ
  pub is_open : Bool
  pub backed : ℕ

-- How far the chunk of a space is:
--   with the commits in effect up to a position, and of the next one that writes into the space the first so many Writes;
--   emptied for a restore;
--   on its way through the archives of a chain, given by their copy ids: those before one are merged, and of that one so many entries;
--   behind the archives, as in the first case, but on the way to the restore's position;
--   with any pages, and a mark that names neither the active restore nor a later one;
--   without a valid header.
pub data LaneState : Type 0 where
  stands : (upto part : ℕ) → LaneState
  blank : (restore : ℕ) → LaneState
  merges : (restore : ℕ) (chain : List ℕ) (archive entries : ℕ) → LaneState
  replays : (restore : ℕ) (chain : List ℕ) (upto part : ℕ) → LaneState
  stale : LaneState
  lost : LaneState

-- A formatted site: its head; all records that its log ever held, but for those that were lost with it, and the first position of each
-- file; the store; the boot file's lines; the number of the last restore, and the one that is under way; the log's disk, unless it is
-- lost; the lanes in order of their spaces.
pub record Site : Type 0 where
  pub head : Head
  pub history : History
  pub starts : List ℕ
  pub store : Store
  pub lines : List Line
  pub number : ℕ
  pub active : Option Active
  pub ring : Option Ring
  pub lanes : List LaneState

pub data World : Type 0 where
  unformatted : World
  formatted : (site : Site) → World

abbrev pub new_store : Store
new_store = record { last = 0; kept = []; used = 0; damaged = [] }

abbrev pub new_ring : Ring
new_ring = record { oldest = 1; is_open = true; backed = 0 }

-- a site as it is formatted: file 1 is open, and all else is empty
abbrev pub new_site : Head → Site
new_site head = record {
  head = head;
  history = [];
  starts = 1 ∷ [];
  store = new_store;
  lines = [];
  number = 0;
  active = None;
  ring = Some new_ring;
  lanes = map (λ space. stands 0 0) head.spaces;
}
