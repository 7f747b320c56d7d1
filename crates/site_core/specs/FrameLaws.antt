-- What holds of all disks of a site behind a call of the log alone.
use Rattle.std.specs.Prelude.{◌≡◌, ◌≤◌, slice_get, Option, None, Some}
use Rattle.std.specs.Option.{option_map}
use Rattle.std.proofs.Common.{arith}
use Rattle.site_disk.specs.declared.disk.Disk.{Ghosts}
use Rattle.site_disk.specs.Ledger.{EraView, MayUse}
use Rattle.site_disk.specs.CallsLaws.{may_use_later}
use Rattle.object_volume.specs.Volumes.{disk_of as volume_disk}
use Rattle.logical_log.specs.Rings.{disk_of as log_disk}
use Rattle.logical_log.specs.declared.ring.LogRing.{LogRing}
use Rattle.space_lane.specs.Lanes.{disk_of as lane_disk}
use Rattle.site_model.specs.declared.disk_name.DiskName.{DiskName}
use Rattle.site_model.specs.declared.disk_name.DiskName.TheVariants.{Cat, Spare, Boot, Log, Volume, Chunk}
use Rattle.site_core.specs.declared.site.Site.{Site}
use Rattle.site_core.specs.Disks.{MayUseAll, faults_on, may_or}

module _ {D : Type 0} (disk : Ghosts D) where
  may_or_later : (from to : EraView) (it : Option D) → from.number ≤ to.number → to.key ≡ from.key → may_or disk from it → may_or disk to it
  may_or_later from to None eras key may = tt
  may_or_later from to (Some it) eras key may = may_use_later eras key may

  -- all disks may be used in a later era
  pub may_later : (from to : EraView) (site : Site D) → from.number ≤ to.number → to.key ≡ from.key → MayUseAll disk from site → MayUseAll disk to site
  may_later from to site eras key may Cat = may_use_later eras key (may Cat)
  may_later from to site eras key may Spare = may_use_later eras key (may Spare)
  may_later from to site eras key may Boot = may_use_later eras key (may Boot)
  may_later from to site eras key may Log = may_use_later eras key (may Log)
  may_later from to site eras key may (Volume n) = may_or_later from to (option_map volume_disk (slice_get site.store.volumes.items n)) eras key (may (Volume n))
  may_later from to site eras key may (Chunk n) = may_or_later from to (option_map lane_disk (slice_get site.lanes.items n)) eras key (may (Chunk n))

  module _ (old : Site D) (log : LogRing D) where
    -- so may they behind the call, where the log's may
    pub may_behind : (era : EraView) → MayUse era (disk.ledger (log_disk log)) → MayUseAll disk era old → MayUseAll disk era (record old { log = log })
    may_behind era of_log may Cat = may Cat
    may_behind era of_log may Spare = may Spare
    may_behind era of_log may Boot = may Boot
    may_behind era of_log may Log = of_log
    may_behind era of_log may (Volume n) = may (Volume n)
    may_behind era of_log may (Chunk n) = may (Chunk n)

    -- no count of faults falls
    pub faults_behind : (disk.ledger (log_disk old.log)).faults ≤ (disk.ledger (log_disk log)).faults → (name : DiskName) → faults_on disk old name ≤ faults_on disk (record old { log = log }) name
    faults_behind of_log Cat = omega arith
    faults_behind of_log Spare = omega arith
    faults_behind of_log Boot = omega arith
    faults_behind of_log Log = of_log
    faults_behind of_log (Volume n) = omega arith
    faults_behind of_log (Chunk n) = omega arith
