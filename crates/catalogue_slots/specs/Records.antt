-- The records of the catalogue's journal.
use Rattle.std.specs.Prelude.{◌≡◌, ℕ, zero, suc, ◌+◌, ◌-◌, ◌/◌, ◌^◌, ◌<◌, ◌≤◌, min, List, [], ◌∷◌, length, take, drop}
use Rattle.std.specs.List.{AllByRecursion}
use Rattle.block_chain.specs.Blocks.{FitsRun, AreMaximal}
use Rattle.block_chain.specs.declared.runs.Run.{Run}
use Rattle.bsa_descriptor.specs.Descriptor.{IsDescriptor}
use Rattle.bsa_descriptor.specs.declared.descriptor.Descriptor.{Descriptor}
use Rattle.bsa_descriptor.specs.declared.kinds.ObjectStatus.TheVariants as status

-- an object of the catalogue: its copy id, its volume, its size in bytes, its SHA-256, the runs of its blocks, its descriptor
pub record Object : Type 0 where
  pub copy : ℕ
  pub volume : ℕ
  pub size : ℕ
  pub digest : List ℕ
  pub runs : List Run
  pub descriptor : Descriptor

-- A record of the journal, which fills a slot: an object that is added, with the count of all its runs and the first of them; more
-- runs of that object; the deletion of an object; the last copy id before an area was written anew.
pub data Record : Type 0 where
  add : (count : ℕ) (object : Object) → Record
  more : (copy : ℕ) (runs : List Run) → Record
  del : (copy : ℕ) → Record
  base : (last : ℕ) → Record

-- runs that a slot may hold: none is empty or begins where the one before it ends
pub record AreRuns (runs : List Run) : Type 0 where
  pub fit : AllByRecursion FitsRun runs
  pub maximal : AreMaximal runs

-- copy ids go up to 2^48
abbrev pub IsCopy : ℕ → Type 0
IsCopy copy = copy ≤ 2 ^ 48

-- an Add has the first 177 runs, and a descriptor with the object's copy id and no status
pub record IsAdd (count : ℕ) (object : Object) : Type 0 where
  pub copy : IsCopy object.copy
  pub volume : object.volume ≤ 16
  pub size : object.size < 2 ^ 64
  pub digest : length object.digest ≡ 32
  pub count_fits : count < 2 ^ 32
  pub here : length object.runs ≡ min count 177
  pub runs : AreRuns object.runs
  pub descriptor : IsDescriptor object.descriptor
  pub same_copy : object.descriptor.copy ≡ object.copy
  pub no_status : object.descriptor.status ≡ status.Any

-- a More has 1 to 510 runs
pub record IsMore (copy : ℕ) (found : List Run) : Type 0 where
  pub copy_fits : IsCopy copy
  pub some : 1 ≤ length found
  pub few : length found ≤ 510
  pub runs : AreRuns found

-- the records that have a spelling
abbrev pub IsRecord : Record → Type 0
IsRecord (add count object) = IsAdd count object
IsRecord (more copy runs) = IsMore copy runs
IsRecord (del copy) = IsCopy copy
IsRecord (base last) = IsCopy last

-- the slots of an object with so many runs: one, and one more for each 510 runs behind the first 177
abbrev pub slots_for : ℕ → ℕ
slots_for runs = 1 + (runs - 177 + 509) / 510

-- so many Mores, full ones but the last, with these runs
abbrev pub mores : ℕ → ℕ → List Run → List Record
mores copy zero runs = []
mores copy (suc n) runs = more copy (take 510 runs) ∷ mores copy n (drop 510 runs)

-- the records of an object that is added: its Add, and the Mores behind it
abbrev pub records_of : Object → List Record
records_of object =
    add (length object.runs) (record object { runs = take 177 object.runs })
    ∷ mores object.copy (slots_for (length object.runs) - 1) (drop 177 object.runs)

-- an object that may be added
pub record IsObject (object : Object) : Type 0 where
  pub copy : IsCopy object.copy
  pub volume : object.volume ≤ 16
  pub size : object.size < 2 ^ 64
  pub digest : length object.digest ≡ 32
  pub few : length object.runs < 2 ^ 32
  pub runs : AreRuns object.runs
  pub descriptor : IsDescriptor object.descriptor
  pub same_copy : object.descriptor.copy ≡ object.copy
  pub no_status : object.descriptor.status ≡ status.Any
