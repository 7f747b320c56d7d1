-- Where a step among the images leads, and what stops within it leave.
use Rattle.std.specs.Prelude.{◌⊎◌, ℕ, ◌+◌, List, nat_lt, nat_le, if◌then◌else◌}
use Rattle.backup_lines.specs.declared.lanes.Chain.{Chain}
use Rattle.backup_lines.specs.declared.lanes.LaneState.{LaneState}
use Rattle.backup_lines.specs.declared.lanes.LaneState.TheVariants.{At, Blank, Image, Replay}
use Rattle.site_disk.specs.Images.{Seen}
use Rattle.level_archive.specs.Image.{Entry}
use Rattle.space_lane.specs.declared.lane.Lane.{Lane}
use Rattle.space_lane.specs.Lanes.{Stands, space_of, state_of}
use Rattle.lane_restore.specs.declared.job.ImageJob.{ImageJob}
use Rattle.lane_restore.specs.Images.{HasImage, entries_in, step_len}
use Rattle.lane_restore.specs.Merging.{HoldsMerged, entries_of}

-- behind a whole image: amid the next one, or behind the last at its position
abbrev pub behind_image : (restore : ℕ) → Chain → (level at : ℕ) → LaneState
behind_image restore chain level at = if nat_lt (level + 1) chain.len then Image restore chain (level + 1) 0 else Replay restore chain at 0

-- behind a step that begins behind so many entries of an image
abbrev pub behind_step : (restore : ℕ) → Chain → ImageJob → (entries : ℕ) → LaneState
behind_step restore chain image entries =
    if nat_le (entries_in image.size) (entries + step_len image.size entries) then behind_image restore chain image.head.level image.head.at
    else Image restore chain image.head.level (entries + step_len image.size entries)

-- where a step begins: an emptied lane is amid the first image before anything is merged
abbrev pub begun : LaneState → Chain → LaneState
begun (At upto part) chain = At upto part
begun (Blank restore) chain = Image restore chain 0 0
begun (Image restore other image entries) chain = Image restore other image entries
begun (Replay restore other upto part) chain = Replay restore other upto part

-- whatever it was before, a chunk shows the state before a step, where it begins, or behind it
abbrev pub MayMerge : (site space count : ℕ) → List (List Entry) → (before next : LaneState) → Chain → List ℕ → List ℕ → Type 0
MayMerge site space count images before next chain old new =
    HoldsMerged site space count images before new ⊎ (HoldsMerged site space count images (begun before chain) new ⊎ HoldsMerged site space count images next new)

-- A lane stands on its way among the images of its chain, and the one that is merged next is on the volume, with its entries.
pub record IsReady {D : Type 0} (site count : ℕ) (images : List (List Entry)) (image : ImageJob) (volume : List ℕ) (disk : Seen) (lane : Lane D) : Type 0 where
  pub stands : Stands site count (state_of lane) disk lane
  pub merged : HoldsMerged site (space_of lane) count images (state_of lane) disk.bytes
  pub next : HasImage count image (entries_of images image.head.level) volume
