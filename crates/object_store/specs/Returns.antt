-- Blocks of objects that go back to their volumes.
use Rattle.std.specs.Prelude.{◌≡◌, ℕ, ◌<◌, Bool, List, [], ◌∷◌, ◌++◌, length, slice_get, Option, Some, None, nat_eq, if◌then◌else◌}
use Rattle.std.specs.List.{AllByRecursion, flat_map}
use Rattle.block_chain.specs.declared.runs.Run.{Run}
use Rattle.catalogue_slots.specs.Records.{Object}
use Rattle.catalogue_journal.specs.Transactions.{Addition}
use Rattle.object_volume.specs.Volumes.{disk_of, number_of, blocks_in, free_of, blocks_sent, IsOpen, IsIdle, IsLive, IsSending, Sends}
use Rattle.object_volume.specs.declared.volume.Volume.{Volume}
use Rattle.session_machine.specs.Calls.{object_with}
use Rattle.object_store.specs.Stores.{OfEach}
use Rattle.object_store.specs.Holdings.{Holds, blocks_of_all}
use Rattle.object_store.specs.declared.releasing.ObjectBlocks.{ObjectBlocks}

-- where an object stands: its volume, and the runs of its blocks
pub record Placed : Type 0 where
  pub volume : ℕ
  pub runs : List Run

abbrev pub place_of_object : Object → Placed
place_of_object object = record { volume = object.volume; runs = object.runs }

abbrev pub place_of_addition : Addition → Placed
place_of_addition addition = record { volume = addition.volume; runs = addition.runs }

abbrev pub place_of_blocks : ObjectBlocks → Placed
place_of_blocks blocks = record { volume = blocks.volume; runs = blocks.runs.items }

-- the runs of those that stand on a volume, in order
abbrev pub runs_on : ℕ → List Placed → List (List Run)
runs_on number [] = []
runs_on number (placed ∷ more) = if nat_eq placed.volume number then placed.runs ∷ runs_on number more else runs_on number more

-- the objects with these copy ids, in the order of the ids
abbrev pub listed : Option Object → List Object
listed None = []
listed (Some object) = object ∷ []

abbrev pub objects_with : List ℕ → List Object → List Object
objects_with copies objects = flat_map (λ copy. listed (object_with copy objects)) copies

module _ {D : Type 0} where
  -- these are different live objects of the volume, maybe beside others
  pub record HoldsAmong (volume : Volume D) (objects : List (List Run)) : Type 0 where
    pub others : List (List Run)
    pub holds : Holds volume (objects ++ others)

  -- the blocks of this object may go back
  pub record CanRelease (runs : List Run) (volume : Volume D) : Type 0 where
    pub opened : IsOpen volume
    pub live : IsLive volume runs

  -- the blocks of these objects went back behind the free ones, in order; the other live objects stay, and nothing else has changed
  -- that a caller sees
  pub record GivesBack (tells : Bool) (bytes : D → List ℕ) (objects : List (List Run)) (old new : Volume D) : Type 0 where
    pub disk : disk_of new ≡ disk_of old
    pub number : number_of new ≡ number_of old
    pub count : blocks_in new ≡ blocks_in old
    pub opened : IsOpen old → IsOpen new
    pub sends : (message : List ℕ) → Sends tells bytes old message → Sends tells bytes new message
    pub idle : IsIdle old → IsIdle new
    pub free : free_of new ≡ free_of old ++ blocks_of_all objects
    pub holds : (others : List (List Run)) → Holds old (objects ++ others) → Holds new others

  -- each of these objects stands on a volume that is there, and they are different live objects of their volumes, which are open
  pub record CanGiveBack (placed : List Placed) (volumes : List (Volume D)) : Type 0 where
    pub within : AllByRecursion (λ one. one.volume < length volumes) placed
    pub opened : OfEach (λ place volume. IsOpen volume) volumes
    pub holds : OfEach (λ place volume. HoldsAmong volume (runs_on place placed)) volumes

  -- the blocks of these objects went back to their volumes
  pub record AllGiveBack (tells : Bool) (bytes : D → List ℕ) (placed : List Placed) (old new : List (Volume D)) : Type 0 where
    pub count : length new ≡ length old
    pub each : (place : ℕ) (was is : Volume D) → slice_get old place ≡ Some was → slice_get new place ≡ Some is
        → GivesBack tells bytes (runs_on place placed) was is

  -- an object is being sent, and can be given up
  pub record CanCancel (tells : Bool) (bytes : D → List ℕ) (volume : Volume D) : Type 0 where
    pub opened : IsOpen volume
    pub begun : IsSending tells bytes volume

  -- the blocks of the object that was being sent went back behind the free ones; the live objects stay, and nothing else has changed that
  -- a caller sees
  pub record Cancels (old new : Volume D) : Type 0 where
    pub disk : disk_of new ≡ disk_of old
    pub number : number_of new ≡ number_of old
    pub count : blocks_in new ≡ blocks_in old
    pub opened : IsOpen new
    pub idle : IsIdle new
    pub free : free_of new ≡ free_of old ++ blocks_sent old
    pub holds : (objects : List (List Run)) → Holds old objects → Holds new objects
