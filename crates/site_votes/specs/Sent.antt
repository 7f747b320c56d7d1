-- What it leaves of a volume to send one object to it.
use Rattle.std.specs.Prelude.{◌≡◌, ℕ, ◌<◌, ◌≤◌, IsTrue, Bool, true, false, List, [], ◌∷◌, length, take, drop, Result, Ok, Err}
use Rattle.site_disk.specs.Causes.{Rose}
use Rattle.site_disk.specs.Images.{OnlyAfter}
use Rattle.site_disk.specs.Ledger.{EraView, MayUse}
use Rattle.site_disk.specs.declared.disk.Disk.{Ghosts}
use Rattle.block_chain.specs.Blocks.{blocks_for, blocks_of_runs, AreMaximal}
use Rattle.block_chain.specs.declared.runs.Run.{Run}
use Rattle.bsa_descriptor.specs.declared.descriptor.Descriptor.{Descriptor}
use Rattle.bsa_session.specs.Sessions.{Suits}
use Rattle.object_store.specs.Holdings.{Holds}
use Rattle.object_volume.specs.Objects.{object}
use Rattle.object_volume.specs.Volumes.{disk_of, free_of, blocks_in, blocks_sent, number_of, IsOpen, IsIdle}
use Rattle.object_volume.specs.declared.volume.Volume.{Volume}
use Rattle.session_machine.specs.Conditions.{IsSound}
use Rattle.session_machine.specs.States.{State}
use Rattle.session_machine.specs.declared.answers.BsaRc.{BsaRc}
use Rattle.session_machine.specs.declared.answers.BsaRc.TheVariants.{NoResources, AccessFailure, OutOfMemory as NoMemory}
use Rattle.session_machine.specs.declared.answers.Lack.TheVariants.{Blocks, Slots, Objects}
use Rattle.session_machine.specs.declared.answers.Access.TheVariants.{Cat as CatFails, Spare as SpareFails, Volume as VolumeFails, Ends}
use Rattle.site_model.specs.declared.disk_name.DiskName.TheVariants.{Cat, Spare, Volume as VolumeOf}
use Rattle.site_core.specs.declared.faults.SiteFault.{SiteFault}
use Rattle.site_core.specs.declared.faults.SiteFault.TheVariants.{OutOfMemory, DiskFault, StoreFull, CatalogueFull, TooManyObjects}
use Rattle.store_calls.specs.Transactions.{WritesFree}
use Rattle.site_votes.specs.Objects.{under_way, sent}

-- these answers say what is lacking, or that a call was cut short
abbrev pub SaysWhy : BsaRc → Type 0
SaysWhy (NoResources lack) = Unit {0}
SaysWhy (AccessFailure CatFails) = Unit {0}
SaysWhy (AccessFailure SpareFails) = Unit {0}
SaysWhy (AccessFailure (VolumeFails volume)) = Unit {0}
SaysWhy (AccessFailure Ends) = ⊥
SaysWhy NoMemory = Unit {0}
SaysWhy _ = ⊥

-- something is lacking
abbrev pub says_lack : BsaRc → Bool
says_lack (NoResources lack) = true
says_lack answer = false

-- such an answer, of a session on a volume, as a fault of the site
abbrev pub fault_in_session : ℕ → BsaRc → SiteFault
fault_in_session number (NoResources Blocks) = StoreFull number
fault_in_session number (NoResources Slots) = CatalogueFull
fault_in_session number (NoResources Objects) = TooManyObjects
fault_in_session number (AccessFailure CatFails) = DiskFault Cat
fault_in_session number (AccessFailure SpareFails) = DiskFault Spare
fault_in_session number (AccessFailure (VolumeFails volume)) = DiskFault (VolumeOf volume)
fault_in_session number _ = OutOfMemory

module _ {D : Type 0} (disk : Ghosts D) (era : EraView) (number : ℕ) (descriptor : Descriptor) (message : List ℕ) (state : State) (was is : Volume D) where
  -- The object was sent: it stands in the first free blocks, reads as its bytes in each image of later eras, and is live beside the others.
  pub record IsSentWhole : Type 0 where
    pub runs : List Run
    pub state_is : state ≡ sent number descriptor message runs
    pub sound : IsSound state
    pub room : blocks_for (length message) ≤ length (free_of was)
    pub maximal : AreMaximal runs
    pub stands : blocks_of_runs runs ≡ take (blocks_for (length message)) (free_of was)
    pub left : free_of is ≡ drop (blocks_for (length message)) (free_of was)
    pub reads : IsTrue disk.is_modelled → object runs (length message) (disk.bytes (disk_of is)) ≡ message
    pub durable : IsTrue disk.is_modelled → OnlyAfter era.number (disk.bytes (disk_of is)) (disk.image (disk_of is))
    pub writes : IsTrue disk.is_modelled → WritesFree disk era.number was is
    pub holds : (objects : List (List Run)) → Holds was objects → Holds is (runs ∷ objects)
    pub blocks : IsTrue disk.is_modelled → blocks_in is ≡ blocks_in was
    pub opened : IsOpen is
    pub number_is : number_of is ≡ number
    pub idle : IsIdle is
    pub may : MayUse era (disk.ledger (disk_of is))

  -- The volume lacks the room: the object was begun, and nothing is taken for it or written.
  pub record HasNoRoom : Type 0 where
    pub state_is : state ≡ under_way number descriptor
    pub lacks : length (free_of was) < blocks_for (length message)
    pub suits : Suits disk.is_modelled disk.bytes state is
    pub same : disk_of is ≡ disk_of was
    pub free : free_of is ≡ free_of was
    pub taken : blocks_sent is ≡ []
    pub holds : (objects : List (List Run)) → Holds was objects → Holds is objects
    pub blocks : blocks_in is ≡ blocks_in was
    pub opened : IsOpen is
    pub number_is : number_of is ≡ number

  -- It was cut short: free blocks alone may have been written.
  pub record IsCutIn : Type 0 where
    pub writes : IsTrue disk.is_modelled → WritesFree disk era.number was is

  pub record FailsOnVolume (named : ℕ) : Type 0 where
    pub named_is : named ≡ number
    pub cut : IsCutIn
    pub rose : Rose (disk.ledger (disk_of was)).faults (disk.ledger (disk_of is)).faults

  abbrev pub EndsIn : SiteFault → Type 0
  EndsIn (DiskFault (VolumeOf named)) = FailsOnVolume named
  EndsIn OutOfMemory = IsCutIn
  EndsIn fault = ⊥

  abbrev pub SendEnds : Result Bool SiteFault → Type 0
  SendEnds (Ok true) = IsSentWhole
  SendEnds (Ok false) = HasNoRoom
  SendEnds (Err fault) = EndsIn fault
