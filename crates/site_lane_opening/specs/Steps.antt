-- The opening of lanes, lane by lane.
use Rattle.std.specs.Prelude.{◌≡◌, ◌⊎◌, ℕ, ◌+◌, ◌<◌, List, [], length, slice_get, Option, Some, IsTrue, Result, Ok, Err}
use Rattle.std.specs.Option.{option_map}
use Rattle.site_disk.specs.Ledger.{EraView}
use Rattle.site_disk.specs.declared.disk.Disk.{Ghosts}
use Rattle.site_headers.specs.Heads.{Head}
use Rattle.space_lane.specs.Lanes.{disk_of}
use Rattle.space_lane.specs.declared.lane.Lane.{Lane}
use Rattle.site_lanes.specs.Lanes.{ChangesOne, IsBad, IsLost, IsOpened, IsRefused, IsSyncedBy, RoseAt, Syncs, Works}
use Rattle.site_lanes.specs.declared.refusals.Opening.{Opening}
use Rattle.site_lanes.specs.declared.refusals.Opening.TheVariants.{Opened, Lost, Bad}
use Rattle.site_lanes.specs.declared.refusals.LanesFault.{LanesFault}
use Rattle.site_lanes.specs.declared.refusals.LanesFault.TheVariants.{ChunkLost, BadMark, Failed}
use Rattle.site_model.specs.declared.disk_name.DiskName.TheVariants.{Cat, Spare, Boot, Log, Volume, Chunk}
use Rattle.site_worlds.specs.Lanes.{pages_of_space}
use Rattle.site_openings.specs.Openings.{Contents_of, IsFirstBadChunk, IsFirstLost, IsWanted}
use Rattle.site_core.specs.Disks.{bytes_or}
use Rattle.site_core.specs.Faults.{of_lanes}
use Rattle.site_core.specs.declared.faults.SiteFault.{SiteFault}
use Rattle.site_core.specs.declared.site.Site.{Site}

-- the era behind one
abbrev pub era_behind : EraView → EraView
era_behind era = record { number = era.number + 1; key = era.key }

-- the answer to what the opening of one lane came to
abbrev pub Refused : {T : Type 0} → ℕ → Opening → Result T LanesFault → Type 0
Refused space Opened (Ok done) = Unit {0}
Refused space Opened (Err fault) = ⊥
Refused space Lost (Ok done) = ⊥
Refused space Lost (Err fault) = fault ≡ ChunkLost space
Refused space Bad (Ok done) = ⊥
Refused space Bad (Err fault) = fault ≡ BadMark space

module _ {D : Type 0} (disk : Ghosts D) where
  -- what a read gives of the chunks of lanes
  abbrev pub contents_in : List (Lane D) → Contents_of
  contents_in lanes (Chunk n) = bytes_or disk (option_map disk_of (slice_get lanes n))
  contents_in lanes Cat = []
  contents_in lanes Spare = []
  contents_in lanes Boot = []
  contents_in lanes Log = []
  contents_in lanes (Volume n) = []

  -- what a lane, behind its sync, has come to by its opening
  abbrev pub Coming : Type 1
  Coming = ℕ → Lane D → Lane D → Type 0

  abbrev pub ToAny : Coming
  ToAny pages mid is = Unit {0}

  abbrev pub ToOpened : EraView → ℕ → Coming
  ToOpened era site pages mid is = IsOpened disk era site pages mid is

  abbrev pub ToRefused : EraView → Coming
  ToRefused era pages mid is = IsRefused disk era mid is

  -- it is synced, and its opening is tried in the next era
  pub record Tries (era : EraView) (site : ℕ) (to : Coming) (pages : ℕ) (was is : Lane D) : Type 0 where
    pub mid : Lane D
    pub syncs : Syncs disk era was mid
    pub synced : IsSyncedBy disk era was mid
    pub works : Works disk (era_behind era) site pages mid is
    pub came : to pages mid is

  -- behind its sync, the opening of one lane alone
  pub record Comes (era : EraView) (site : ℕ) (to : Coming) (pages : ℕ) (mid is : Lane D) : Type 0 where
    pub works : Works disk era site pages mid is
    pub came : to pages mid is

  module _ (era : EraView) (head : Head) (space : ℕ) where
    abbrev pub ChangesTo : Coming → (old new : List (Lane D)) → Type 0
    ChangesTo to old new = ChangesOne (Comes era head.site to (pages_of_space head.spaces space)) space old new

    abbrev pub OfThis : (Lane D → Type 0) → List (Lane D) → Type 0
    OfThis P lanes = IsTrue disk.is_modelled → (lane : Lane D) → slice_get lanes space ≡ Some lane → P lane

    abbrev pub ComesOne : {T : Type 0} → Result T LanesFault → (old new : List (Lane D)) → Type 0
    ComesOne (Ok done) old new = ChangesTo (ToOpened era head.site) old new
    ComesOne (Err (ChunkLost n)) old new = (n ≡ space) × ChangesTo (ToRefused era) old new × OfThis (IsLost disk head.site (pages_of_space head.spaces space)) old
    ComesOne (Err (BadMark n)) old new = (n ≡ space) × ChangesTo (ToRefused era) old new × OfThis (IsBad disk head.site (pages_of_space head.spaces space)) old
    ComesOne (Err (Failed n)) old new = (n ≡ space) × ChangesTo ToAny old new × RoseAt disk space old new

  module _ (wanted : Option ℕ) (head : Head) where
    -- this holds of each wanted lane, before and behind
    abbrev pub OfWanted : Coming → (old new : List (Lane D)) → Type 0
    OfWanted P old new = (n : ℕ) (was is : Lane D) → IsWanted wanted head n → slice_get old n ≡ Some was → slice_get new n ≡ Some is → P (pages_of_space head.spaces n) was is

    -- and the others are the same values
    pub record Touches (P : Coming) (old new : List (Lane D)) : Type 0 where
      pub as_many : length new ≡ length old
      pub each : OfWanted P old new
      pub others : (n : ℕ) → (IsWanted wanted head n → ⊥) → slice_get new n ≡ slice_get old n

    -- the disk of a wanted one failed
    pub record FailsOne (fault : LanesFault) (old new : List (Lane D)) : Type 0 where
      pub space : ℕ
      pub is_wanted : IsWanted wanted head space
      pub fault_is : fault ≡ Failed space
      pub rose : RoseAt disk space old new

    -- or what their chunks hold refuses them
    abbrev pub RefusesBy : LanesFault → List (Lane D) → Type 0
    RefusesBy (ChunkLost n) old = IsTrue disk.is_modelled → IsFirstLost wanted head (contents_in old) n
    RefusesBy (BadMark n) old = IsTrue disk.is_modelled → IsFirstBadChunk wanted head (contents_in old) n
    RefusesBy (Failed n) old = ⊥

    module _ (era : EraView) where
      -- all are opened
      abbrev pub Opens : (old new : List (Lane D)) → Type 0
      Opens old new = Touches (Tries era head.site (ToOpened (era_behind era) head.site)) old new

      -- a disk failed while they were synced
      abbrev pub StopsSyncing : LanesFault → (old new : List (Lane D)) → Type 0
      StopsSyncing fault old new = Touches (λ pages was is. Syncs disk era was is) old new × FailsOne fault old new

      -- one failed while their openings were tried; or all were tried, and one is refused
      abbrev pub StopsOpening : Coming → LanesFault → (old new : List (Lane D)) → Type 0
      StopsOpening refused fault old new =
          (Touches (Tries era head.site ToAny) old new × FailsOne fault old new) ⊎ (Touches (Tries era head.site refused) old new × RefusesBy fault old)

      -- and in which era that was
      abbrev pub Stops : Coming → ℕ → LanesFault → (old new : List (Lane D)) → Type 0
      Stops refused to fault old new = StopsSyncing fault old new ⊎ ((era.number < to) × StopsOpening refused fault old new)

      -- as a fault of the site
      pub record StopsSite (refused : Coming) (to : ℕ) (fault : SiteFault) (old new : Site D) : Type 0 where
        pub own : LanesFault
        pub fault_is : fault ≡ of_lanes head.spaces own
        pub stops : Stops refused to own old.lanes.items new.lanes.items
