-- What stops within the calls of a lane leave.
use Rattle.std.specs.Prelude.{◌≡◌, ◌⊎◌, ℕ, ◌≤◌, List, length, drop, Some, None}
use Rattle.site_disk.specs.Bytes.{extent}
use Rattle.gated_slots.specs.Header.{IsHeader, IsClosed}
use Rattle.twin_mark.specs.Marks.{record_at}
use Rattle.before_images.specs.Saved.{MayPutBack, saved_at}
use Rattle.space_pages.specs.Pages.{empty_pages}
use Rattle.backup_lines.specs.declared.lanes.LaneState.{LaneState}
use Rattle.backup_lines.specs.declared.lanes.LaneState.TheVariants.{At, Blank, Image, Replay}
use Rattle.lane_ways.specs.Pictures.{Stand, images_at, mark_at, pages_at}
use Rattle.lane_mark.specs.Layout.{spelling}
use Rattle.space_lane.specs.Chunks.{HasMark, HoldsState, KeepsNone, SamePages}

-- the header is the one from before, and nothing behind its gate has changed
pub record KeepsHeader (old new : List ℕ) : Type 0 where
  pub header : IsHeader old
  pub same : drop 1 new ≡ drop 1 old

-- no header, or that
pub record MayLose (old new : List ℕ) : Type 0 where
  pub header : IsHeader new → KeepsHeader old new

-- a closed header stays closed
abbrev pub StaysClosed : List ℕ → List ℕ → Type 0
StaysClosed old new = IsClosed old → IsClosed new

-- within the opening

-- with what is kept for the place of the state put back it is as it was so before
abbrev pub MaySettle : LaneState → ℕ → List ℕ → List ℕ → Type 0
MaySettle (At upto part) count old new = MayPutBack images_at pages_at count upto part old new
MaySettle (Blank restore) count old new = new ≡ old
MaySettle (Image restore chain image entries) count old new = new ≡ old
MaySettle (Replay restore chain upto part) count old new = MayPutBack images_at pages_at count upto part old new

-- and that for the state that the mark has
pub record MayRestore (count : ℕ) (old new : List ℕ) : Type 0 where
  pub settles : (state : LaneState) → HasMark state old → MaySettle state count old new

-- within the setting of a state

-- The mark has the record from before, or the new one and nothing is kept. What is kept is as before or nothing, and nothing else has changed.
pub record Sets (record_there old new : List ℕ) : Type 0 where
  pub mark : (record_at mark_at new ≡ record_at mark_at old) ⊎ ((record_at mark_at new ≡ Some record_there) × (saved_at images_at new ≡ None))
  pub kept : (saved_at images_at new ≡ saved_at images_at old) ⊎ (saved_at images_at new ≡ None)
  pub header : extent 0 4096 new ≡ extent 0 4096 old
  pub pages : SamePages old new
  pub no_shorter : length old ≤ length new

-- the mark has the new record, nothing is kept, and nothing else has changed
pub record IsSet (record_there old new : List ℕ) : Type 0 where
  pub stored : record_at mark_at new ≡ Some record_there
  pub none : KeepsNone new
  pub header : extent 0 4096 new ≡ extent 0 4096 old
  pub pages : SamePages old new
  pub no_shorter : length old ≤ length new

-- all is as before, or that of what a read gave
abbrev pub MaySet : LaneState → List ℕ → List ℕ → List ℕ → Type 0
MaySet state bytes old new = (new ≡ old) ⊎ Sets (spelling state) bytes new

-- within the reopening and the formatting

-- the state stands with nothing kept, over the same pages
pub record Reopens (site space count : ℕ) (state : LaneState) (old new : List ℕ) : Type 0 where
  pub holds : HoldsState site space count state new
  pub none : KeepsNone new
  pub pages : SamePages old new

-- no header, or that over what a read gave
pub record MayReopen (site space count : ℕ) (state : LaneState) (bytes old new : List ℕ) : Type 0 where
  pub header : IsHeader new → Reopens site space count state bytes new

-- the state stands with nothing kept, over empty pages
pub record IsFormatted (site space count : ℕ) (state : LaneState) (bytes : List ℕ) : Type 0 where
  pub holds : HoldsState site space count state bytes
  pub none : KeepsNone bytes
  pub pages : Stand space 0 (empty_pages count) bytes

-- no header, the one from before with nothing changed behind its gate, or the new chunk whole
pub record MayFormat (site space count : ℕ) (state : LaneState) (old new : List ℕ) : Type 0 where
  pub header : IsHeader new → IsFormatted site space count state new ⊎ KeepsHeader old new
