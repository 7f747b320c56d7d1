-- What contracts see of the log.
use Rattle.std.specs.Prelude.{◌≡◌, ℕ, length}
use Rattle.site_disk.specs.Images.{Seen, IsSynced}
use Rattle.twin_mark.specs.Marks.{Knows}
use Rattle.log_files.specs.Files.{LogFiles, AreFiles, current_id}
use Rattle.log_files.specs.Ring.{area_of, HoldsRing}
use Rattle.log_files.specs.Held.{Tells}
use Rattle.logical_log.specs.declared.ring.LogRing.{LogRing}

module _ {D : Type 0} where
  -- its disk
  abbrev pub disk_of : LogRing D → D
  disk_of ring = ring.disk

  -- nothing of it but the disk is another
  abbrev pub with_disk : LogRing D → D → LogRing D
  with_disk ring disk = record ring { disk = disk }

  -- its mark is at the place that the layout gives
  pub record IsMade (ring : LogRing D) : Type 0 where
    pub mark : ring.mark.base ≡ 4096

  -- it tells of these files, and its slots are those of the current one
  pub record TellsOf (files : LogFiles) (ring : LogRing D) : Type 0 where
    pub fits : AreFiles files
    pub held : Tells files ring.held
    pub area : ring.slots.area ≡ area_of (current_id files)
    pub used : ring.slots.used ≡ length files.current

  -- it was opened: it tells of some files
  pub record IsOpen (ring : LogRing D) : Type 0 where
    pub made : IsMade ring
    pub files : LogFiles
    pub tells : TellsOf files ring

  -- It agrees with its disk: that holds the files that it tells of, a crash in a later era leaves what a read gives, and it knows which of
  -- the mark's slots is current.
  pub record Stands (site : ℕ) (files : LogFiles) (disk : Seen) (ring : LogRing D) : Type 0 where
    pub made : IsMade ring
    pub tells : TellsOf files ring
    pub knows : Knows ring.mark disk.bytes
    pub synced : IsSynced disk
    pub now : HoldsRing site files disk.bytes

  -- nothing of it has changed that a caller sees
  pub record IsAsItWas (old new : LogRing D) : Type 0 where
    pub disk : new.disk ≡ old.disk
    pub mark : new.mark ≡ old.mark
    pub slots : new.slots ≡ old.slots
    pub tells : (files : LogFiles) → TellsOf files old → TellsOf files new
