-- Where the readers of this crate look for the parts of a slot.
use Rattle.std.specs.Prelude.{◌≡◌, ℕ, ◌*◌, List, length, take, drop, All}
use Rattle.std.specs.List.{flat_map}
use Rattle.block_chain.specs.declared.runs.Run.{Run}
use Rattle.bsa_descriptor.specs.Descriptor.{IsDescriptor, spelling as descriptor_bytes}
use Rattle.bsa_descriptor.specs.declared.descriptor.Descriptor.{Descriptor}
use Rattle.bsa_descriptor.specs.declared.kinds.ObjectStatus.TheVariants as status
use Rattle.catalogue_slots.specs.Records.{Record, AreRuns, IsCopy, IsRecord}
use Rattle.catalogue_slots.specs.Layout.{Front, front_of, own_bytes, no_bytes, run_bytes}

-- the bytes begin with so many runs
pub record BeginsWithRuns (bytes : List ℕ) (count : ℕ) (runs : List Run) : Type 0 where
  pub so_many : length runs ≡ count
  pub are_runs : AreRuns runs
  pub stands : take (8 * count) bytes ≡ flat_map run_bytes runs

-- and have nothing but zeros behind them
pub record HoldsRuns (bytes : List ℕ) (count : ℕ) (runs : List Run) : Type 0 where
  pub begins : BeginsWithRuns bytes count runs
  pub zeros : All (λ byte. byte ≡ 0) (drop (8 * count) bytes)

-- the bytes are those of the descriptor of an object with this copy id, and of no status
pub record HoldsDescriptor (copy : ℕ) (bytes : List ℕ) (d : Descriptor) : Type 0 where
  pub is_descriptor : IsDescriptor d
  pub stands : bytes ≡ descriptor_bytes d
  pub same_copy : d.copy ≡ copy
  pub no_status : d.status ≡ status.Any

-- a slot with this front and these 4,080 bytes behind it holds this record
pub record Holds (front : Front) (own : List ℕ) (entry : Record) : Type 0 where
  pub is_record : IsRecord entry
  pub same_front : front_of entry ≡ front
  pub stands : own ≡ own_bytes entry

-- a slot with this front and these bytes behind it has nothing but a kind and a copy id
pub record HasCopyAlone (front : Front) (own : List ℕ) : Type 0 where
  pub word : front.word ≡ 0
  pub double : front.double ≡ 0
  pub copy : IsCopy front.copy
  pub zeros : own ≡ no_bytes
