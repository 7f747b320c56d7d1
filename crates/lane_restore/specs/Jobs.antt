-- What contracts see of a lane's job.
use Rattle.std.specs.Prelude.{◌≡◌, ◌≢◌, ℕ, ◌<◌, ◌≤◌, ◌^◌, ◌==◌, List, [], ◌∷◌, length, if◌then◌else◌, Option, None, Some, IsSome, slice_index_or}
use Rattle.std.specs.List.{AllByRecursion}
use Rattle.site_disk.specs.Causes.{Rose}
use Rattle.backup_lines.specs.declared.lanes.Chain.{Chain}
use Rattle.backup_lines.specs.declared.lanes.LaneState.{LaneState}
use Rattle.backup_lines.specs.declared.lanes.LaneState.TheVariants.{At, Blank, Image, Replay}
use Rattle.lane_mark.specs.Layout.{FitsChain, FitsRestore}
use Rattle.space_lane.specs.Lanes.{space_of}
use Rattle.lane_restore.specs.declared.job.ImageJob.{ImageJob}
use Rattle.lane_restore.specs.declared.job.LaneJob.{LaneJob}
use Rattle.lane_restore.specs.declared.job.LaneEnd.{LaneEnd}
use Rattle.lane_restore.specs.declared.job.LaneEnd.TheVariants.{Done, ChunkFailed, VolumeFailed, Unsound}

-- where a lane is on its way

-- which archive of the chain is merged next, and how many of its entries are merged
pub record Amid : Type 0 where
  pub image : ℕ
  pub entries : ℕ

abbrev pub amid : (image entries : ℕ) → Amid
amid image entries = record { image = image; entries = entries }

-- a lane that is emptied has the first before it, and one behind the images has none
abbrev pub amid_of : LaneState → Option Amid
amid_of (At upto part) = None
amid_of (Blank restore) = Some (amid 0 0)
amid_of (Image restore chain image entries) = Some (amid image entries)
amid_of (Replay restore chain upto part) = None

-- a state is one of this restore, by this chain
abbrev pub IsOf : ℕ → Chain → LaneState → Type 0
IsOf restore chain (At upto part) = ⊥
IsOf restore chain (Blank number) = number ≡ restore
IsOf restore chain (Image number other image entries) = (number ≡ restore) × (other ≡ chain)
IsOf restore chain (Replay number other upto part) = (number ≡ restore) × (other ≡ chain)

-- all images are merged
abbrev pub IsReplaying : ℕ → Chain → LaneState → Type 0
IsReplaying restore chain (At upto part) = ⊥
IsReplaying restore chain (Blank number) = ⊥
IsReplaying restore chain (Image number other image entries) = ⊥
IsReplaying restore chain (Replay number other upto part) = (number ≡ restore) × (other ≡ chain)

-- the images of a job

-- the first of a level
abbrev pub image_of : ℕ → List ImageJob → Option ImageJob
image_of level [] = None
image_of level (image ∷ images) = if image.head.level == level then Some image else image_of level images

-- none is of a level; or one is, and stands first at this place
abbrev pub HasNone : ℕ → List ImageJob → Type 0
HasNone level images = (k : ℕ) (d : ImageJob) → k < length images → (slice_index_or images k d).head.level ≢ level

abbrev pub IsFirstAt : ℕ → List ImageJob → ℕ → Type 0
IsFirstAt level images place =
    (place < length images) × ((d : ImageJob) → (slice_index_or images place d).head.level ≡ level)
    × ((k : ℕ) (d : ImageJob) → k < place → (slice_index_or images k d).head.level ≢ level)

-- there is one for each archive of the chain that isn't merged whole
abbrev pub HasImages : Chain → LaneState → List ImageJob → Type 0
HasImages chain state images =
    (place : Amid) → amid_of state ≡ Some place → (level : ℕ) → place.image ≤ level → level < chain.len → IsSome (image_of level images)

-- the next one, and how many of its entries are merged
pub record IsNext (state : LaneState) (images : List ImageJob) (level entries : ℕ) (image : ImageJob) : Type 0 where
  pub place : amid_of state ≡ Some (amid level entries)
  pub chosen : image_of level images ≡ Some image

-- a job

module _ {D : Type 0} where
  -- what a mark may have, and images of the lane's space, at positions that a mark may have
  pub record IsJob (job : LaneJob D) : Type 0 where
    pub restore : FitsRestore job.restore
    pub chain : FitsChain job.chain
    pub to : job.to ≤ 2 ^ 48
    pub images : AllByRecursion (λ image. (image.head.space ≡ space_of job.lane) × (image.head.at ≤ 2 ^ 48)) job.images.items

-- why the work ends

-- work on a chunk alone: it failed only where its count of faults rose
abbrev pub FailsBy : (before now : ℕ) → LaneEnd → Type 0
FailsBy before now Done = ⊥
FailsBy before now ChunkFailed = Rose before now
FailsBy before now VolumeFailed = ⊥
FailsBy before now (Unsound image) = ⊥

-- a read of this image: the volume failed only where its count of faults rose
abbrev pub EndsReading : (before now level : ℕ) → LaneEnd → Type 0
EndsReading before now level Done = ⊥
EndsReading before now level ChunkFailed = ⊥
EndsReading before now level VolumeFailed = Rose before now
EndsReading before now level (Unsound image) = image ≡ level

-- both
abbrev pub EndsMerging : (chunk_before chunk_now volume_before volume_now level : ℕ) → LaneEnd → Type 0
EndsMerging chunk_before chunk_now volume_before volume_now level Done = ⊥
EndsMerging chunk_before chunk_now volume_before volume_now level ChunkFailed = Rose chunk_before chunk_now
EndsMerging chunk_before chunk_now volume_before volume_now level VolumeFailed = Rose volume_before volume_now
EndsMerging chunk_before chunk_now volume_before volume_now level (Unsound image) = image ≡ level

-- a replay, and the last mark: done, or the chunk failed
abbrev pub EndsReplaying : (before now : ℕ) → LaneEnd → Type 0
EndsReplaying before now Done = Unit {0}
EndsReplaying before now ChunkFailed = Rose before now
EndsReplaying before now VolumeFailed = ⊥
EndsReplaying before now (Unsound image) = ⊥

-- the work goes on, or is done
abbrev pub EndsWell : Option LaneEnd → Type 0
EndsWell None = Unit {0}
EndsWell (Some Done) = Unit {0}
EndsWell (Some ChunkFailed) = ⊥
EndsWell (Some VolumeFailed) = ⊥
EndsWell (Some (Unsound image)) = ⊥
