-- What bringing lanes forward does to each of them.
use Rattle.std.specs.Prelude.{◌≡◌, ◌⊎◌, ℕ, ◌+◌, ◌*◌, List, length, Bool, true, ◌==◌, ◌&&◌, IsTrue}
use Rattle.site_disk.specs.Images.{Leaves, OnlyAfter, IsSynced}
use Rattle.site_disk.specs.Ledger.{EraView, Uses}
use Rattle.site_disk.specs.Seen.{seen}
use Rattle.site_disk.specs.declared.disk.Disk.{Ghosts}
use Rattle.log_history.specs.History.{History}
use Rattle.log_history.specs.Effects.{Change}
use Rattle.backup_lines.specs.declared.lanes.LaneState.{LaneState}
use Rattle.backup_lines.specs.declared.lanes.LaneState.TheVariants.{At, Blank, Image, Replay}
use Rattle.lane_ways.specs.Pictures.{Stand}
use Rattle.lane_ways.specs.Ways.{lane_pages}
use Rattle.lane_advance.specs.Advances.{Leads, MayAdvance}
use Rattle.space_lane.specs.Lanes.{disk_of, space_of, count_of, state_of, IsMade, IsOpen, Stands}
use Rattle.space_lane.specs.declared.lane.Lane.{Lane}

-- whether a lane that stands somewhere is at a position; others count as there
abbrev pub is_at : ℕ → LaneState → Bool
is_at to (At upto part) = (upto == to) && (part == 0)
is_at to (Blank restore) = true
is_at to (Image restore chain image entries) = true
is_at to (Replay restore chain upto part) = true

abbrev pub IsPlaced : LaneState → Type 0
IsPlaced (At upto part) = Unit {0}
IsPlaced (Blank restore) = ⊥
IsPlaced (Image restore chain image entries) = ⊥
IsPlaced (Replay restore chain upto part) = ⊥

-- where a lane that stands somewhere comes to
abbrev pub to_end : ℕ → LaneState → LaneState
to_end to (At upto part) = At to 0
to_end to (Blank restore) = Blank restore
to_end to (Image restore chain image entries) = Image restore chain image entries
to_end to (Replay restore chain upto part) = Replay restore chain upto part

module _ {D : Type 0} (disk : Ghosts D) where
  -- A lane stands at a place on its way through a history, with the pages there, and changes lead on from there to a position.
  pub record StandsOnWay (history : History) (n site count to upto part : ℕ) (changes : List Change) (lane : Lane D) : Type 0 where
    pub leads : Leads history n (space_of lane) count to upto part changes
    pub stands : Stands site count (At upto part) (seen disk (disk_of lane)) lane
    pub pages : Stand (space_of lane) 0 (lane_pages history n (space_of lane) upto part count) (disk.bytes (disk_of lane))

  -- Wherever the work stops, each image shows a place on the way, not before the one from which it began, with its pages.
  pub record Advances (era : EraView) (to : ℕ) (changes : List Change) (was is : Lane D) : Type 0 where
    pub made : IsMade is
    pub space : space_of is ≡ space_of was
    pub count : count_of is ≡ count_of was
    pub ledger : Uses era (131074 * (length changes + 2)) ((295683 + 4096 * count_of was) * (length changes + 2)) (disk.ledger (disk_of was)) (disk.ledger (disk_of is))
    pub crash : IsTrue disk.is_modelled → (history : History) (n site count upto part : ℕ) → StandsOnWay history n site count to upto part changes was
        → Leaves era.number (MayAdvance history n (space_of was) count (At upto part) upto part (disk.bytes (disk_of was)))
        (disk.image (disk_of was)) (disk.image (disk_of is))

  -- it has come to the position, with the pages there
  pub record IsAdvanced (era : EraView) (to : ℕ) (changes : List Change) (was is : Lane D) : Type 0 where
    pub works : Advances era to changes was is
    pub opened : IsOpen is
    pub state : state_of is ≡ to_end to (state_of was)
    pub stands : IsTrue disk.is_modelled → (history : History) (n site count upto part : ℕ) → StandsOnWay history n site count to upto part changes was
        → Stands site count (At to 0) (seen disk (disk_of is)) is
    pub pages : IsTrue disk.is_modelled → (history : History) (n site count upto part : ℕ) → StandsOnWay history n site count to upto part changes was
        → Stand (space_of was) 0 (lane_pages history n (space_of was) to 0 count) (disk.bytes (disk_of is))
    pub durable : IsTrue disk.is_modelled → IsSynced (seen disk (disk_of was)) → OnlyAfter era.number (disk.bytes (disk_of is)) (disk.image (disk_of is))

  -- it wasn't touched, or the work on it was cut short
  abbrev pub MayHaveAdvanced : EraView → ℕ → List Change → Lane D → Lane D → Type 0
  MayHaveAdvanced era to changes was is = (is ≡ was) ⊎ Advances era to changes was is
