-- The lane of one space on its way to the end of the log.
use Rattle.std.specs.Prelude.{◌≡◌, ℕ, ◌≤◌, List, length, slice_get, Bool, ◌==◌, false, None, Some}
use Rattle.site_disk.specs.declared.disk.Disk.{Ghosts}
use Rattle.walks.specs.Follows.{Goes, Ends}
use Rattle.walks.specs.Courses.{IsOnWay, after_all}
use Rattle.space_lane.specs.Lanes.{disk_of, space_of}
use Rattle.space_lane.specs.declared.lane.Lane.{Lane}
use Rattle.space_pages.specs.Pages.{pages_of}
use Rattle.lane_texts.specs.Listings.{HoldsPages}
use Rattle.site_model.specs.declared.disk_name.DiskName.{DiskName}
use Rattle.site_model.specs.declared.disk_name.DiskName.TheVariants.{Chunk}
use Rattle.site_worlds.specs.Worlds.{Site}
use Rattle.site_worlds.specs.Allowed.{HasRing}
use Rattle.site_worlds.specs.Lanes.{pages_of_space}
use Rattle.site_worlds.specs.Moves.{site_rules}
use Rattle.site_courses.specs.Courses.{if_this_lost, lane_to_end}
use Rattle.site_layouts.specs.Stages.{HeldSite, ShowsHeld}
use Rattle.site_core.specs.declared.site.Site.{Site as Values}
use Rattle.site_core.specs.Disks.{images_of}
use Rattle.site_core.specs.Quiet.{written_on}

-- with no restore under way, the log there, and this lane there and not lost
pub record MayBring (space : ℕ) (site : Site) : Type 0 where
  pub none : site.active ≡ None
  pub has : HasRing site
  pub not_lost : if_this_lost space site ≡ None

-- the chunk of a space
abbrev pub is_chunk_of : ℕ → DiskName → Bool
is_chunk_of space (Chunk n) = n == space
is_chunk_of space name = false

module _ {D : Type 0} (disk : Ghosts D) where
  -- wherever it stops, the site is on the way of that lane to the end
  abbrev pub GoesAlong : (from space : ℕ) → HeldSite → (old new : Values D) → Type 0
  GoesAlong from space at old new =
      Goes ShowsHeld from (images_of disk old) (images_of disk new) at (λ w. IsOnWay site_rules (lane_to_end space at.site) at.site w.site)

  -- the chunk holds the pages of the space at the end of the log
  abbrev pub HoldsAtEnd : ℕ → HeldSite → Lane D → Type 0
  HoldsAtEnd space at value = HoldsPages space (pages_of_space at.site.head.spaces space)
      (pages_of at.site.history (length at.site.history) space 0 (pages_of_space at.site.head.spaces space)) (disk.bytes (disk_of value))

  -- it has come there
  pub record IsBrought (to space : ℕ) (at : HeldSite) (old new : Values D) : Type 0 where
    pub last : HeldSite
    pub last_is : last.site ≡ after_all site_rules (lane_to_end space at.site) at.site
    pub ends : Ends ShowsHeld to (images_of disk old) (images_of disk new) at last
    pub value : Lane D
    pub value_is : slice_get new.lanes.items space ≡ Some value
    pub space_is : space_of value ≡ space
    pub pages : HoldsAtEnd space at value

  -- the other disks' images are no more, and nothing is written on them
  pub record RestsBut (space : ℕ) (old new : Values D) : Type 0 where
    pub images : (f : ℕ) (name : DiskName) (bytes : List ℕ) → is_chunk_of space name ≡ false → images_of disk new f name bytes → images_of disk old f name bytes
    pub written : (name : DiskName) → is_chunk_of space name ≡ false → written_on disk new name ≤ written_on disk old name
