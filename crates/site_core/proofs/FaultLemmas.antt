-- Which faults the calls of a checkpoint answer, and which disk they name.
use Rattle.std.proofs.Common.{◌≡◌, ℕ, ◌≤◌, Result, Ok, Err, refl, sym, subst, arith}
use Rattle.std.specs.Prelude.{IfErr, IsErrOf}
use Rattle.site_disk.specs.Causes.{Rose}
use Rattle.site_disk.specs.declared.disk.Disk.{Ghosts}
use Rattle.space_lane.specs.declared.lane.Lane.{Lane}
use Rattle.held_log.specs.declared.faults.HeldFault.{HeldFault}
use Rattle.held_log.specs.declared.faults.HeldFault.TheVariants.{OutOfMemory as NoMemory, Failed, BadRecord as BadSlot}
use Rattle.std.specs.Prelude.{List}
use Rattle.site_model.specs.declared.disk_name.DiskName.{DiskName}
use Rattle.site_model.specs.declared.disk_name.DiskName.TheVariants.{Cat, Spare, Boot, Log, Volume, Chunk}
use Rattle.site_core.specs.Batches.{IsAppendFault}
use Rattle.site_core.specs.Checkpoints.{IsCheckpointFault, of_held}
use Rattle.site_core.specs.Faults.{FailsOnLog}
use Rattle.site_core.specs.Going.{FailsOnLane}
use Rattle.site_core.specs.declared.faults.SiteFault.{SiteFault}
use Rattle.site_core.specs.declared.faults.SiteFault.TheVariants.{OutOfMemory, DiskFault, NotFormatted, AlreadyFormatted, BadRecord, NeedsRestart, NoSuchSpace, NoSuchPage, ChunkLost, LogLost, LogFull, StoreFull, CatalogueFull, TooManyObjects, BootFull}

-- what holds of each fault holds of the one that is answered
pub each_err : {A : Type 0} (P Q : SiteFault → Type 0) (result : Result A SiteFault) → ((fault : SiteFault) → P fault → Q fault) → IfErr result P → IfErr result Q
each_err P Q (Ok a) means is = is
each_err P Q (Err fault) means is = means fault is

pub of_err : {A : Type 0} (P : SiteFault → Type 0) (result : Result A SiteFault) (fault : SiteFault) → IsErrOf result fault → IfErr result P → P fault
of_err {A} P result fault is holds = subst (λ (r : Result A SiteFault). IfErr r P) is holds

pub rose_later : (a b c : ℕ) → a ≤ b → Rose b c → Rose a c
rose_later a b c le rose = omega (arith, le, rose)

pub rose_still : (a b c : ℕ) → Rose a b → b ≤ c → Rose a c
rose_still a b c rose le = omega (arith, le, rose)

-- of the log's files

pub held_checks : (fault : HeldFault) → IsCheckpointFault (of_held fault)
held_checks NoMemory = tt
held_checks Failed = tt
held_checks (BadSlot slot) = refl

pub held_names : (fault : HeldFault) (name : DiskName) → of_held fault ≡ DiskFault name → (fault ≡ Failed) × (Log ≡ name)
held_names NoMemory name is = absurd cc
held_names Failed name is = (refl, cc)
held_names (BadSlot slot) name is = absurd cc

-- of the lanes

pub lane_checks : {D : Type 0} (disk : Ghosts D) (count : ℕ) (old new : List (Lane D)) (fault : SiteFault) → FailsOnLane disk count old new fault → IsCheckpointFault fault
lane_checks disk count old new (DiskFault name) fails = tt
lane_checks disk count old new OutOfMemory fails = absurd fails
lane_checks disk count old new NotFormatted fails = absurd fails
lane_checks disk count old new AlreadyFormatted fails = absurd fails
lane_checks disk count old new (BadRecord name slot) fails = absurd fails
lane_checks disk count old new (NeedsRestart number) fails = absurd fails
lane_checks disk count old new (NoSuchSpace name) fails = absurd fails
lane_checks disk count old new (NoSuchPage page) fails = absurd fails
lane_checks disk count old new (ChunkLost space name) fails = absurd fails
lane_checks disk count old new LogLost fails = absurd fails
lane_checks disk count old new (LogFull why) fails = absurd fails
lane_checks disk count old new (StoreFull volume) fails = absurd fails
lane_checks disk count old new CatalogueFull fails = absurd fails
lane_checks disk count old new TooManyObjects fails = absurd fails
lane_checks disk count old new BootFull fails = absurd fails

-- of the log

pub log_checks : (before now : ℕ) (fault : SiteFault) → FailsOnLog before now fault → IsCheckpointFault fault
log_checks before now OutOfMemory fails = tt
log_checks before now (DiskFault name) fails = tt
log_checks before now NotFormatted fails = absurd fails
log_checks before now AlreadyFormatted fails = absurd fails
log_checks before now (BadRecord name slot) fails = absurd fails
log_checks before now (NeedsRestart number) fails = absurd fails
log_checks before now (NoSuchSpace name) fails = absurd fails
log_checks before now (NoSuchPage page) fails = absurd fails
log_checks before now (ChunkLost space name) fails = absurd fails
log_checks before now LogLost fails = absurd fails
log_checks before now (LogFull why) fails = absurd fails
log_checks before now (StoreFull volume) fails = absurd fails
log_checks before now CatalogueFull fails = absurd fails
log_checks before now TooManyObjects fails = absurd fails
log_checks before now BootFull fails = absurd fails

pub log_named : (before now : ℕ) (name : DiskName) → FailsOnLog before now (DiskFault name) → (Log ≡ name) × Rose before now
log_named before now Log fails = (refl, fails)
log_named before now Cat fails = absurd fails
log_named before now Spare fails = absurd fails
log_named before now Boot fails = absurd fails
log_named before now (Volume n) fails = absurd fails
log_named before now (Chunk n) fails = absurd fails

-- a fault of a checkpoint is one of an append

pub checks_append : (fault : SiteFault) → IsCheckpointFault fault → IsAppendFault fault
checks_append OutOfMemory is = is
checks_append (DiskFault name) is = is
checks_append (BadRecord disk slot) is = is
checks_append NotFormatted is = is
checks_append AlreadyFormatted is = is
checks_append (NeedsRestart number) is = is
checks_append (NoSuchSpace name) is = is
checks_append (NoSuchPage page) is = is
checks_append (ChunkLost space name) is = is
checks_append LogLost is = is
checks_append (LogFull why) is = absurd is
checks_append (StoreFull volume) is = is
checks_append CatalogueFull is = is
checks_append TooManyObjects is = is
checks_append BootFull is = is

-- the fault that is answered is the one that came
pub same_fault : {A : Type 0} (result : Result A SiteFault) (told fault other : SiteFault) → result ≡ Err told → told ≡ fault → IsErrOf result other → fault ≡ other
same_fault {A} result told fault other is same err =
    of_err (λ (f : SiteFault). fault ≡ f) result other err (subst (λ (r : Result A SiteFault). IfErr r (λ (f : SiteFault). fault ≡ f)) (sym is) (sym same))
