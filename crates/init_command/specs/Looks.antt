-- What a catalogue tells of its header.
use Rattle.std.specs.Prelude.{ℕ, List, Bool, true, false, Result, Ok, Err}
use Rattle.site_disk.specs.Causes.{Rose}
use Rattle.site_headers.specs.Heads.{Head}
use Rattle.catalogue_replay.specs.Answers.{HasHead, HasNoHead}
use Rattle.catalogue_replay.specs.declared.faults.CatFault.{CatFault}
use Rattle.catalogue_replay.specs.declared.faults.CatFault.TheVariants.{NotFormatted, BadRecord, CatalogueFull, TooManyObjects, Failed, OutOfMemory as NoMemory}
use Rattle.site_model.specs.declared.disk_name.DiskName.TheVariants.{Cat, Spare}
use Rattle.site_model.specs.declared.status.Status.{Status}
use Rattle.site_model.specs.declared.status.Status.TheVariants.{OutOfMemory, DiskFault}
use Rattle.site_openings.specs.Openings.{catalogue_disk}

-- whether the catalogue's disk has a valid header
abbrev pub Tells : Bool → List ℕ → Type 0
Tells true bytes = (head : Head) × HasHead head bytes
Tells false bytes = HasNoHead bytes

-- Behind a valid header alone a record is found bad.
abbrev pub told_by : CatFault → Result Bool Status
told_by NotFormatted = Ok false
told_by (BadRecord spare slot) = Ok true
told_by (CatalogueFull used wanted) = Ok true
told_by (TooManyObjects live last) = Ok true
told_by (Failed spare) = Err (DiskFault (catalogue_disk spare))
told_by NoMemory = Err OutOfMemory

-- memory was wanting, or the count of faults of the disk that is named rose, from one number to another
abbrev pub FailsOnOneDisk : (cat cat_now spare spare_now : ℕ) → Status → Type 0
FailsOnOneDisk cat cat_now spare spare_now OutOfMemory = Unit {0}
FailsOnOneDisk cat cat_now spare spare_now (DiskFault Cat) = Rose cat cat_now
FailsOnOneDisk cat cat_now spare spare_now (DiskFault Spare) = Rose spare spare_now
FailsOnOneDisk cat cat_now spare spare_now status = ⊥
