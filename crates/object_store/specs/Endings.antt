-- Transactions that are ended over a store.
use Rattle.std.specs.Prelude.{◌≡◌, ℕ, ◌+◌, ◌≤◌, false, List, ◌++◌, map}
use Rattle.block_chain.specs.declared.runs.Run.{Run}
use Rattle.site_disk.specs.Ledger.{EraView}
use Rattle.catalogue_slots.specs.Records.{Object}
use Rattle.catalogue_replay.specs.Contents.{Contents}
use Rattle.catalogue_replay.specs.declared.faults.CatFault.{CatFault}
use Rattle.catalogue_replay.specs.declared.faults.CatFault.TheVariants.{NotFormatted, BadRecord, CatalogueFull, TooManyObjects, Failed, OutOfMemory}
use Rattle.catalogue_journal.specs.Transactions.{Addition}
use Rattle.catalogue_journal.specs.Refusals.{AreTooMany, LacksRoom}
use Rattle.object_volume.specs.declared.volume.Volume.{Volume}
use Rattle.object_store.specs.Holdings.{Holds}
use Rattle.object_store.specs.Stores.{OfEach}
use Rattle.object_store.specs.Returns.{Placed, place_of_object, place_of_addition, runs_on, HoldsAmong}

-- the committed objects and those that a transaction adds
abbrev pub places : List Object → List Addition → List Placed
places objects added = map place_of_object objects ++ map place_of_addition added

module _ {D : Type 0} where
  -- these are different live objects of their volumes, maybe beside others
  abbrev pub HoldAll : List Placed → List (Volume D) → Type 0
  HoldAll placed volumes = OfEach (λ place volume. HoldsAmong volume (runs_on place placed)) volumes

  -- the same, with these others, and no more
  abbrev pub HoldWith : List Placed → (ℕ → List (List Run)) → List (Volume D) → Type 0
  HoldWith placed others volumes = OfEach (λ place volume. Holds volume (runs_on place placed ++ others place)) volumes

-- why a transaction isn't committed: it is refused for objects and ids, or for slots; else the catalogue's disk failed, or memory ran out
abbrev pub IsCommitFault : ℕ → ℕ → List ℕ → List Addition → Contents → CatFault → Type 0
IsCommitFault capacity taken deletions additions before NotFormatted = ⊥
IsCommitFault capacity taken deletions additions before (BadRecord spare slot) = ⊥
IsCommitFault capacity taken deletions additions before (CatalogueFull used wanted) = LacksRoom capacity taken deletions additions before used wanted
IsCommitFault capacity taken deletions additions before (TooManyObjects live last) = AreTooMany deletions additions before live last
IsCommitFault capacity taken deletions additions before (Failed spare) = spare ≡ false
IsCommitFault capacity taken deletions additions before OutOfMemory = Unit {0}

-- the eras that the end of a transaction takes: the one in which it begins, and at most eight more
pub record PassesEras (from to : EraView) : Type 0 where
  pub key : to.key ≡ from.key
  pub no_earlier : from.number ≤ to.number
  pub few : to.number ≤ from.number + 8
