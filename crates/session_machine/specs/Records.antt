-- Records of descriptors that calls are handed.
use Rattle.std.specs.Prelude.{◌≡◌, ℕ, Bool, true, false, ◌&&◌, not, List, [], ◌∷◌}
use Rattle.bsa_descriptor.specs.Descriptor.{IsDescriptor, spelling}
use Rattle.bsa_descriptor.specs.declared.descriptor.Descriptor.{Descriptor}
use Rattle.bsa_descriptor.specs.declared.kinds.CopyType.{CopyType}
use Rattle.bsa_descriptor.specs.declared.kinds.CopyType.TheVariants as copy_type
use Rattle.bsa_descriptor.specs.declared.kinds.ObjectType.{ObjectType}
use Rattle.bsa_descriptor.specs.declared.kinds.ObjectType.TheVariants as object_type

-- these bytes are the record of a descriptor
pub record Spells (descriptor : Descriptor) (bytes : List ℕ) : Type 0 where
  pub is : IsDescriptor descriptor
  pub spelled : bytes ≡ spelling descriptor

-- these bytes are no descriptor's record
abbrev pub SpellsNone : List ℕ → Type 0
SpellsNone bytes = (descriptor : Descriptor) → Spells descriptor bytes → ⊥

abbrev pub is_empty_text : List ℕ → Bool
is_empty_text [] = true
is_empty_text (byte ∷ text) = false

abbrev pub is_one_copy_type : CopyType → Bool
is_one_copy_type copy_type.Any = false
is_one_copy_type _ = true

abbrev pub is_one_object_type : ObjectType → Bool
is_one_object_type object_type.Any = false
is_one_object_type _ = true

-- an object may be made of it: it has a space and a path, a copy type and an object type
abbrev pub may_create : Descriptor → Bool
may_create descriptor = not (is_empty_text descriptor.space) && not (is_empty_text descriptor.path)
    && is_one_copy_type descriptor.copy_type && is_one_object_type descriptor.object_type

-- the descriptor of an object that is made at this moment
abbrev pub made_at : ℕ → Descriptor → Descriptor
made_at moment descriptor = record descriptor { create_time = moment }
