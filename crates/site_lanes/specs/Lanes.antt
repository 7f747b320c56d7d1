-- What the opening and the syncing of lanes do to each of them.
use Rattle.std.specs.Prelude.{◌≡◌, ℕ, ◌+◌, ◌*◌, ◌^◌, ◌<◌, ◌≤◌, List, length, slice_get, slice_set, None, Some, IsTrue}
use Rattle.site_disk.specs.Bytes.{Same}
use Rattle.site_disk.specs.Causes.{Rose}
use Rattle.site_disk.specs.Images.{Leaves, OnlyAfter}
use Rattle.site_disk.specs.Ledger.{EraView, MayUse, Uses}
use Rattle.site_disk.specs.Seen.{seen}
use Rattle.site_disk.specs.declared.disk.Disk.{Ghosts}
use Rattle.before_images.specs.Saved.{place_of}
use Rattle.site_headers.specs.Headers.{HasHeader}
use Rattle.site_headers.specs.declared.heads.SpaceHead.{SpaceHead}
use Rattle.backup_lines.specs.declared.lanes.LaneState.{LaneState}
use Rattle.lane_ways.specs.Pictures.{pages_at}
use Rattle.space_lane.specs.Chunks.{HasMark, chunk_tail, settled}
use Rattle.space_lane.specs.Lanes.{disk_of, space_of, state_of, with_disk, IsMade, TellsOf, IsOpen, Stands}
use Rattle.space_lane.specs.Stops.{MayRestore}
use Rattle.space_lane.specs.declared.lane.Lane.{Lane}
use Rattle.site_lanes.specs.Firsts.{IsFirst}
use Rattle.site_lanes.specs.declared.refusals.Opening.{Opening}
use Rattle.site_lanes.specs.declared.refusals.Opening.TheVariants.{Opened, Lost, Bad}
use Rattle.site_lanes.specs.declared.refusals.LanesFault.{LanesFault}
use Rattle.site_lanes.specs.declared.refusals.LanesFault.TheVariants.{ChunkLost, BadMark, Failed}

module _ {D : Type 0} where
  -- this holds of each of these lanes, by its place among them
  abbrev pub OfEach : (ℕ → Lane D → Type 0) → List (Lane D) → Type 0
  OfEach P lanes = (space : ℕ) (lane : Lane D) → slice_get lanes space ≡ Some lane → P space lane

  -- this holds of each lane among the first so many, before and after
  abbrev pub OfFirst : ℕ → (ℕ → Lane D → Lane D → Type 0) → (old new : List (Lane D)) → Type 0
  OfFirst count P old new = (space : ℕ) (was is : Lane D) → space < count → slice_get old space ≡ Some was → slice_get new space ≡ Some is → P space was is

  -- and this, with the number of its pages
  abbrev pub OfSpaces : List SpaceHead → (ℕ → Lane D → Lane D → Type 0) → (old new : List (Lane D)) → Type 0
  OfSpaces heads P old new = (space : ℕ) (head : SpaceHead) (was is : Lane D) → slice_get heads space ≡ Some head
      → slice_get old space ≡ Some was → slice_get new space ≡ Some is → P head.pages was is

  -- from a place on they are the same values
  abbrev pub SameFrom : ℕ → (old new : List (Lane D)) → Type 0
  SameFrom from old new = (space : ℕ) → from ≤ space → slice_get new space ≡ slice_get old space

  -- of these lanes the one at this place has become another, and all others are as they were
  pub record ChangesOne (P : Lane D → Lane D → Type 0) (place : ℕ) (old new : List (Lane D)) : Type 0 where
    pub was : Lane D
    pub is : Lane D
    pub there : slice_get old place ≡ Some was
    pub changed : new ≡ slice_set old place is
    pub by : P was is

module _ {D : Type 0} (disk : Ghosts D) where
  -- the disk of each lane may be used in this era
  abbrev pub MayUseEach : EraView → List (Lane D) → Type 0
  MayUseEach era lanes = OfEach (λ space lane. MayUse era (disk.ledger (disk_of lane))) lanes

  -- by its bytes

  -- the chunk has a valid header of this site, its space and so many pages
  abbrev pub IsHeaded : (site pages : ℕ) → Lane D → Type 0
  IsHeaded site pages lane = HasHeader (chunk_tail site (space_of lane) pages) (disk.bytes (disk_of lane))

  -- it has none
  abbrev pub IsLost : (site pages : ℕ) → Lane D → Type 0
  IsLost site pages lane = IsHeaded site pages lane → ⊥

  -- it has one, and its mark has no state
  pub record IsBad (site pages : ℕ) (lane : Lane D) : Type 0 where
    pub header : IsHeaded site pages lane
    pub none : (state : LaneState) → HasMark state (disk.bytes (disk_of lane)) → ⊥

  -- The opening of one lane. Wherever it stops: the value is made as it was, and the bytes read and written are bounded. Where the chunk
  -- is as long as its pages take, a stop leaves it with some pages put back, which shows the same; where it has no header, as it was.
  pub record Works (era : EraView) (site pages : ℕ) (was is : Lane D) : Type 0 where
    pub made : IsMade is
    pub space : space_of is ≡ space_of was
    pub ledger : Uses era 74496 (143360 + 4096 * 2 ^ 32) (disk.ledger (disk_of was)) (disk.ledger (disk_of is))
    pub crash : IsTrue disk.is_modelled → place_of pages_at pages ≤ length (disk.bytes (disk_of was))
        → Leaves era.number (MayRestore pages) (disk.image (disk_of was)) (disk.image (disk_of is))
    pub bound : IsTrue disk.is_modelled → place_of pages_at pages ≤ length (disk.bytes (disk_of was))
        → (disk.ledger (disk_of is)).written ≤ (disk.ledger (disk_of was)).written + 65536
    pub unheaded : IsTrue disk.is_modelled → IsLost site pages was → Leaves era.number Same (disk.image (disk_of was)) (disk.image (disk_of is))

  -- It is opened: there is a header, the mark has the state that is told, and the lane stands over the bytes with what was kept for the
  -- state's place put back.
  pub record IsOpened (era : EraView) (site pages : ℕ) (was is : Lane D) : Type 0 where
    pub opened : IsOpen is
    pub told : TellsOf pages (state_of is) is
    pub header : IsTrue disk.is_modelled → IsHeaded site pages was
    pub found : IsTrue disk.is_modelled → HasMark (state_of is) (disk.bytes (disk_of was))
    pub stands : IsTrue disk.is_modelled → place_of pages_at pages ≤ length (disk.bytes (disk_of was))
        → Stands site pages (state_of is) (seen disk (disk_of is)) is
    pub bytes : IsTrue disk.is_modelled → place_of pages_at pages ≤ length (disk.bytes (disk_of was))
        → disk.bytes (disk_of is) ≡ settled (state_of is) pages (disk.bytes (disk_of was))
    pub durable : IsTrue disk.is_modelled → OnlyAfter era.number (disk.bytes (disk_of is)) (disk.image (disk_of is))

  -- it is refused, and nothing has changed
  pub record IsRefused (era : EraView) (was is : Lane D) : Type 0 where
    pub bytes : disk.bytes (disk_of is) ≡ disk.bytes (disk_of was)
    pub images : Leaves era.number Same (disk.image (disk_of was)) (disk.image (disk_of is))

  -- what the opening came to
  abbrev pub CameTo : EraView → (site pages : ℕ) → Opening → Lane D → Lane D → Type 0
  CameTo era site pages Opened was is = IsOpened era site pages was is
  CameTo era site pages Lost was is = IsRefused era was is × (IsTrue disk.is_modelled → IsLost site pages was)
  CameTo era site pages Bad was is = IsRefused era was is × (IsTrue disk.is_modelled → IsBad site pages was)

  abbrev pub HasCome : EraView → (site pages : ℕ) → Lane D → Lane D → Type 0
  HasCome era site pages was is = (opening : Opening) × CameTo era site pages opening was is

  -- the lane of a space of the site is such a one
  abbrev pub At : List SpaceHead → List (Lane D) → (ℕ → Lane D → Type 0) → ℕ → Type 0
  At heads lanes P space = (head : SpaceHead) (lane : Lane D) → slice_get heads space ≡ Some head → slice_get lanes space ≡ Some lane → P head.pages lane

  abbrev pub LostAt : (site : ℕ) → List SpaceHead → List (Lane D) → ℕ → Type 0
  LostAt site heads lanes space = At heads lanes (IsLost site) space

  abbrev pub HeadedAt : (site : ℕ) → List SpaceHead → List (Lane D) → ℕ → Type 0
  HeadedAt site heads lanes space = At heads lanes (IsHeaded site) space

  abbrev pub BadAt : (site : ℕ) → List SpaceHead → List (Lane D) → ℕ → Type 0
  BadAt site heads lanes space = At heads lanes (IsBad site) space

  abbrev pub NotBadAt : (site : ℕ) → List SpaceHead → List (Lane D) → ℕ → Type 0
  NotBadAt site heads lanes space = At heads lanes (λ pages lane. IsBad site pages lane → ⊥) space

  -- the disk of this space failed
  abbrev pub RoseBy : ℕ → Lane D → Lane D → LanesFault → Type 0
  RoseBy space was is fault = (fault ≡ Failed space) × Rose (disk.ledger (disk_of was)).faults (disk.ledger (disk_of is)).faults

  -- the count of faults of this disk rose
  abbrev pub RoseAt : ℕ → (old new : List (Lane D)) → Type 0
  RoseAt place old new = (was is : Lane D) → slice_get old place ≡ Some was → slice_get new place ≡ Some is
      → Rose (disk.ledger (disk_of was)).faults (disk.ledger (disk_of is)).faults

  -- Why not all lanes were opened: this is the first that is lost; or none is lost, and this is the first whose mark has no state; or its
  -- disk failed, and those behind it are as they were.
  abbrev pub Explains : (site : ℕ) → List SpaceHead → (old new : List (Lane D)) → LanesFault → Type 0
  Explains site heads old new (ChunkLost n) = IsTrue disk.is_modelled → IsFirst (LostAt site heads old) (HeadedAt site heads old) (length heads) (Some n)
  Explains site heads old new (BadMark n) = IsTrue disk.is_modelled → IsFirst (LostAt site heads old) (HeadedAt site heads old) (length heads) None
      × IsFirst (BadAt site heads old) (NotBadAt site heads old) (length heads) (Some n)
  Explains site heads old new (Failed n) = (n < length heads) × RoseAt n old new × SameFrom (n + 1) old new

  -- A refusal opens all lanes that it can; a disk that failed, those before it.
  abbrev pub AreOpened : EraView → (site : ℕ) → List SpaceHead → (old new : List (Lane D)) → LanesFault → Type 0
  AreOpened era site heads old new (ChunkLost n) = OfSpaces heads (HasCome era site) old new
  AreOpened era site heads old new (BadMark n) = OfSpaces heads (HasCome era site) old new
  AreOpened era site heads old new (Failed n) = Unit {0}

  -- the disk of one of the first so many lanes failed, and those behind it are as they were
  abbrev pub FailsAt : ℕ → (old new : List (Lane D)) → LanesFault → Type 0
  FailsAt count old new (ChunkLost n) = ⊥
  FailsAt count old new (BadMark n) = ⊥
  FailsAt count old new (Failed n) = (n < count) × RoseAt n old new × SameFrom (n + 1) old new

  -- a lane is synced
  pub record IsSyncedBy (era : EraView) (was is : Lane D) : Type 0 where
    pub bytes : disk.bytes (disk_of is) ≡ disk.bytes (disk_of was)
    pub synced : (disk.ledger (disk_of is)).synced ≡ era.number
    pub durable : IsTrue disk.is_modelled → OnlyAfter era.number (disk.bytes (disk_of is)) (disk.image (disk_of is))

  -- wherever that stops
  pub record Syncs (era : EraView) (was is : Lane D) : Type 0 where
    pub value : is ≡ with_disk was (disk_of is)
    pub crash : Leaves era.number Same (disk.image (disk_of was)) (disk.image (disk_of is))
    pub ledger : Uses era 0 0 (disk.ledger (disk_of was)) (disk.ledger (disk_of is))
