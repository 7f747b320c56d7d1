-- The exit status of a command that can't begin, and what it says of a device.
use Rattle.std.specs.Prelude.{ℕ, Option, None, Some}
use Rattle.std.specs.declared.io.Error.{Error}
use Rattle.host_disk.specs.declared.file.FileDisk.{FileDisk}
use Rattle.site_core.specs.Disks.{disk_named}
use Rattle.site_core.specs.declared.site.Site.{Site}
use Rattle.host_folder.specs.declared.ending.StartFault.{StartFault}
use Rattle.site_model.specs.declared.disk_name.DiskName.{DiskName}
use Rattle.host_folder.specs.declared.ending.StartFault.TheVariants.{OutOfMemory as NoMemory, Disk, Held, Folder, Words}

-- of a command that couldn't begin: those of want of memory and of a disk's fault, and one of its own
abbrev pub start_number : StartFault → ℕ
start_number NoMemory = 1
start_number (Disk name error) = 4
start_number Held = 4
start_number (Folder error) = 4
start_number Words = 24

-- the last error on a disk of a site
abbrev pub error_on : Site FileDisk → DiskName → Option Error
error_on site name = of_disk (disk_named site name)
  where
    of_disk : Option FileDisk → Option Error
    of_disk None = None
    of_disk (Some disk) = disk.errors.last
