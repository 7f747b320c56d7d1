-- Descriptors that objects are made with.
use Rattle.std.specs.Prelude.{◌≡◌, ℕ, true, List}
use Rattle.bsa_descriptor.specs.declared.descriptor.Descriptor.{Descriptor}
use Rattle.session_machine.specs.Records.{Spells, may_create, made_at}

-- an object may be made by this record, and gets this descriptor at this moment
pub record IsMadeBy (bytes : List ℕ) (moment : ℕ) (made : Descriptor) : Type 0 where
  pub descriptor : Descriptor
  pub spells : Spells descriptor bytes
  pub may : may_create descriptor ≡ true
  pub is : made ≡ made_at moment descriptor
