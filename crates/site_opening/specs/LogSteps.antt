-- The opening of the log, step by step.
use Rattle.std.specs.Prelude.{◌≡◌, ◌⊎◌, ℕ, IsTrue, List, None}
use Rattle.log_history.specs.Transactions.{Table}
use Rattle.log_files.specs.Files.{LogFiles}
use Rattle.log_files.specs.Ring.{HoldsRing}
use Rattle.log_files.specs.declared.faults.LogFault.{LogFault}
use Rattle.log_scan.specs.Refusals.{Refuses}
use Rattle.logical_log.specs.Rings.{disk_of, IsMade, IsOpen, Stands}
use Rattle.logical_log.specs.declared.ring.LogRing.{LogRing}
use Rattle.held_log.specs.Logs.{table_held}
use Rattle.held_log.specs.Strays.{FirstStray, first_stray}
use Rattle.site_disk.specs.Causes.{Rose}
use Rattle.site_disk.specs.Images.{OnlyAfter}
use Rattle.site_disk.specs.Ledger.{EraView}
use Rattle.site_disk.specs.Seen.{seen}
use Rattle.site_disk.specs.declared.disk.Disk.{Ghosts}
use Rattle.site_model.specs.declared.disk_name.DiskName.{DiskName}
use Rattle.site_model.specs.declared.disk_name.DiskName.TheVariants.{Log}
use Rattle.site_openings.specs.Openings.{IsOfDisks}
use Rattle.site_core.specs.Faults.{IsFailure, of_log, status_in}
use Rattle.site_core.specs.declared.faults.SiteFault.{SiteFault}
use Rattle.site_core.specs.declared.faults.SiteFault.TheVariants.{DiskFault, BadRecord}
use Rattle.site_opening.specs.Steps.{ReadsDisk}

-- the bytes refuse an opening of the log
pub record RefusesRing (site : ℕ) (bytes : List ℕ) (fault : SiteFault) : Type 0 where
  pub own : LogFault
  pub refuses : Refuses site bytes own
  pub fault_is : fault ≡ of_log own

-- or they hold files with a Begin that isn't allowed
pub record HasStray (site : ℕ) (bytes : List ℕ) (fault : SiteFault) : Type 0 where
  pub files : LogFiles
  pub holds : HoldsRing site files bytes
  pub slot : ℕ
  pub first : FirstStray files slot
  pub fault_is : fault ≡ BadRecord Log slot

module _ {D : Type 0} (disk : Ghosts D) where
  -- the value stands for files whose records are in order, and these transactions are open behind them
  pub record StandsInOrder (site : ℕ) (running : Table) (log : LogRing D) : Type 0 where
    pub files : LogFiles
    pub stands : Stands site files (seen disk (disk_of log)) log
    pub table : running ≡ table_held files
    pub order : first_stray files ≡ None

  module _ (era : EraView) (site : ℕ) where
    pub record OpensLog (running : Table) (was is : LogRing D) : Type 0 where
      pub opened : IsOpen is
      pub reads : ReadsDisk disk era 531200 (disk_of was) (disk_of is)
      pub stands : IsTrue disk.is_modelled → StandsInOrder site running is
      pub durable : IsTrue disk.is_modelled → OnlyAfter era.number (disk.bytes (disk_of is)) (disk.image (disk_of is))
      pub bytes : disk.bytes (disk_of is) ≡ disk.bytes (disk_of was)

    pub record MissesLog (fault : SiteFault) (was is : LogRing D) : Type 0 where
      pub made : IsMade is
      pub only : IsFailure fault ⊎ IsOfDisks (status_in fault)
      pub reads : ReadsDisk disk era 531200 (disk_of was) (disk_of is)
      pub bad : IsTrue disk.is_modelled → IsFailure fault ⊎ (RefusesRing site (disk.bytes (disk_of was)) fault ⊎ HasStray site (disk.bytes (disk_of was)) fault)
      pub failed : (name : DiskName) → fault ≡ DiskFault name → (name ≡ Log) × Rose (disk.ledger (disk_of was)).faults (disk.ledger (disk_of is)).faults
      pub bytes : (IsFailure fault → ⊥) → disk.bytes (disk_of is) ≡ disk.bytes (disk_of was)
