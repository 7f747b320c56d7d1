-- What the calls of a catalogue over two disks answer.
use Rattle.std.specs.Prelude.{ℕ, Bool, true, false}
use Rattle.site_disk.specs.Causes.{Rose}
use Rattle.catalogue_replay.specs.declared.faults.CatFault.{CatFault}
use Rattle.catalogue_replay.specs.declared.faults.CatFault.TheVariants.{NotFormatted, BadRecord, CatalogueFull, TooManyObjects, Failed, OutOfMemory}

-- a disk failed
abbrev pub IsFailure : CatFault → Type 0
IsFailure NotFormatted = ⊥
IsFailure (BadRecord spare slot) = ⊥
IsFailure (CatalogueFull used wanted) = ⊥
IsFailure (TooManyObjects live last) = ⊥
IsFailure (Failed spare) = Unit {0}
IsFailure OutOfMemory = ⊥

-- the count of the disk that is named rose
abbrev pub RoseOn : Bool → ℕ → ℕ → ℕ → ℕ → Type 0
RoseOn false cat cat_now spare spare_now = Rose cat cat_now
RoseOn true cat cat_now spare spare_now = Rose spare spare_now

-- a failure is that of the disk that it names, and its count rose
abbrev pub FailsOnOne : ℕ → ℕ → ℕ → ℕ → CatFault → Type 0
FailsOnOne cat cat_now spare spare_now NotFormatted = Unit {0}
FailsOnOne cat cat_now spare spare_now (BadRecord which slot) = Unit {0}
FailsOnOne cat cat_now spare spare_now (CatalogueFull used wanted) = Unit {0}
FailsOnOne cat cat_now spare spare_now (TooManyObjects live last) = Unit {0}
FailsOnOne cat cat_now spare spare_now (Failed which) = RoseOn which cat cat_now spare spare_now
FailsOnOne cat cat_now spare spare_now OutOfMemory = Unit {0}
