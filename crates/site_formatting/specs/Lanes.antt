-- The chunk of a space that is formatted.
use Rattle.std.specs.Prelude.{◌≡◌, ℕ, IsTrue}
use Rattle.site_disk.specs.Causes.{Rose}
use Rattle.site_disk.specs.Images.{OnlyAfter}
use Rattle.site_disk.specs.Ledger.{EraView}
use Rattle.site_disk.specs.Seen.{seen}
use Rattle.site_disk.specs.declared.disk.Disk.{Ghosts}
use Rattle.site_headers.specs.Heads.{Head}
use Rattle.space_pages.specs.Pages.{empty_pages}
use Rattle.lane_ways.specs.Pictures.{Stand}
use Rattle.backup_lines.specs.declared.lanes.LaneState.TheVariants.{At}
use Rattle.space_lane.specs.Lanes.{disk_of, Stands}
use Rattle.space_lane.specs.declared.lane.Lane.{Lane}
use Rattle.site_model.specs.declared.disk_name.DiskName.TheVariants.{Chunk}
use Rattle.site_worlds.specs.Lanes.{pages_of_space}
use Rattle.site_core.specs.declared.faults.SiteFault.{SiteFault}
use Rattle.site_core.specs.declared.faults.SiteFault.TheVariants.{DiskFault}
use Rattle.site_core.specs.Made.{IsMadeAt}
use Rattle.site_formatting.specs.Disks.{Touches}

module _ {D : Type 0} (disk : Ghosts D) (era : EraView) (head : Head) (place : ℕ) where
  -- the chunk of the space at a place was formatted: it stands at the first place, with empty pages
  pub record FormatsLane (was is : Lane D) : Type 0 where
    pub made : IsMadeAt place is
    pub stands : IsTrue disk.is_modelled → Stands head.site (pages_of_space head.spaces place) (At 0 0) (seen disk (disk_of is)) is
    pub pages : IsTrue disk.is_modelled → Stand place 0 (empty_pages (pages_of_space head.spaces place)) (disk.bytes (disk_of is))
    pub durable : IsTrue disk.is_modelled → OnlyAfter era.number (disk.bytes (disk_of is)) (disk.image (disk_of is))
    pub touched : Touches disk era head (Chunk place) (disk_of was) (disk_of is)

  -- its disk failed
  pub record MissesLane (fault : SiteFault) (was is : Lane D) : Type 0 where
    pub own : fault ≡ DiskFault (Chunk place)
    pub made : IsMadeAt place is
    pub rose : Rose (disk.ledger (disk_of was)).faults (disk.ledger (disk_of is)).faults
    pub touched : Touches disk era head (Chunk place) (disk_of was) (disk_of is)
