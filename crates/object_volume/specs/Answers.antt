-- What a volume answers.
use Rattle.std.specs.Prelude.{◌≡◌, ◌≢◌, ◌<◌, ℕ, List, length}
use Rattle.block_chain.specs.Blocks.{AreRunsOf}
use Rattle.object_volume.specs.declared.faults.Sent.{Sent}
use Rattle.object_volume.specs.declared.faults.VolumeFault.{VolumeFault}
use Rattle.object_volume.specs.declared.faults.VolumeFault.TheVariants.{NoHeader, Overlap, Failed, OutOfMemory}
use Rattle.sha2.specs.Sha256.{sha256}
use Rattle.object_volume.specs.declared.faults.Soundness.{Soundness}
use Rattle.object_volume.specs.declared.faults.Soundness.TheVariants.{Sound, Damaged, Short}

-- what a check says of an object that reads as these bytes, of this size and with this digest kept: the cases exclude one another
abbrev pub Judges : List ℕ → ℕ → List ℕ → Soundness → Type 0
Judges bytes size digest Sound = (length bytes ≡ size) × (sha256 bytes ≡ digest)
Judges bytes size digest (Damaged found) = (length bytes ≡ size) × (sha256 bytes ≡ found) × (found ≢ digest)
Judges bytes size digest Short = length bytes < size

-- a digest that is named as found differs from the one that is kept
abbrev pub IsDamaged : List ℕ → Soundness → Type 0
IsDamaged digest Sound = Unit {0}
IsDamaged digest (Damaged found) = found ≢ digest
IsDamaged digest Short = Unit {0}

-- what is said of an object that is whole, by the digest found and the one that is kept
abbrev pub IsVerdict : List ℕ → List ℕ → Soundness → Type 0
IsVerdict found kept Sound = found ≡ kept
IsVerdict found kept (Damaged named) = (named ≡ found) × (found ≢ kept)
IsVerdict found kept Short = ⊥

-- what is answered of an object that was ended, by its bytes
pub record Describes (message : List ℕ) (sent : Sent) : Type 0 where
  pub size : sent.size ≡ length message
  pub digest : sent.digest ≡ sha256 message
  pub runs : AreRunsOf sent.runs.items (length message)

-- an object isn't ended by a fault of opening
abbrev pub IsEndFault : VolumeFault → Type 0
IsEndFault NoHeader = ⊥
IsEndFault (Overlap block) = ⊥
IsEndFault Failed = Unit {0}
IsEndFault OutOfMemory = Unit {0}
