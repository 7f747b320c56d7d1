-- Why lines weren't added.
use Rattle.site_model.specs.declared.disk_name.DiskName.TheVariants.{Boot}
use Rattle.site_core.specs.declared.faults.SiteFault.{SiteFault}
use Rattle.site_core.specs.declared.faults.SiteFault.TheVariants.{OutOfMemory, DiskFault}

-- memory ran out, or the disk of the boot file failed
abbrev pub IsAddFault : SiteFault → Type 0
IsAddFault OutOfMemory = Unit {0}
IsAddFault (DiskFault Boot) = Unit {0}
IsAddFault fault = ⊥
