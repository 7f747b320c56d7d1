-- Where the readers of this crate look for the fields, group by group. The layout is `spelling`; `proofs/SpellingLemmas.antt` shows
-- that its fields stand at these offsets, and that no other bytes have them there.
use Rattle.std.specs.Prelude.{ℕ, ◌≡◌, List, [], ◌∷◌}
use Rattle.std.specs.Int.{w64}
use Rattle.bsa_descriptor.specs.declared.groups.Names.{Names}
use Rattle.bsa_descriptor.specs.declared.groups.Numbers.{Numbers}
use Rattle.bsa_descriptor.specs.declared.groups.Kinds.{Kinds}
use Rattle.bsa_descriptor.specs.declared.groups.Notes.{Notes}
use Rattle.bsa_descriptor.specs.Kinds.{copy_type_code, object_type_code, status_code}
use Rattle.byte_fields.specs.Fields.{field, padded, HasNumber}
use Rattle.bsa_descriptor.specs.Text.{IsText}

-- the field at this offset holds this text
pub record TextAt (offset width : ℕ) (bytes text : List ℕ) : Type 0 where
  pub is_text : IsText width text
  pub stands : field offset width bytes ≡ padded width text

-- the owners and the name, in bytes 0 to 2,175
pub record NamesAt (bytes : List ℕ) (names : Names) : Type 0 where
  pub bsa_owner : TextAt 0 64 bytes names.bsa_owner
  pub app_owner : TextAt 64 64 bytes names.app_owner
  pub space : TextAt 128 1024 bytes names.space
  pub path : TextAt 1152 1024 bytes names.path

-- the numbers, in bytes 2,176 to 2,207
pub record NumbersAt (bytes : List ℕ) (numbers : Numbers) : Type 0 where
  pub create_time : HasNumber w64 2176 bytes numbers.create_time
  pub copy : HasNumber w64 2184 bytes numbers.copy
  pub restore_order : HasNumber w64 2192 bytes numbers.restore_order
  pub estimated_size : HasNumber w64 2200 bytes numbers.estimated_size

-- the kinds, in bytes 2,208 to 2,210
pub record KindsAt (bytes : List ℕ) (kinds : Kinds) : Type 0 where
  pub copy_type : field 2208 1 bytes ≡ copy_type_code kinds.copy_type ∷ []
  pub object_type : field 2209 1 bytes ≡ object_type_code kinds.object_type ∷ []
  pub status : field 2210 1 bytes ≡ status_code kinds.status ∷ []

-- the other texts, in bytes 2,211 to 2,597
pub record NotesAt (bytes : List ℕ) (notes : Notes) : Type 0 where
  pub resource : TextAt 2211 31 bytes notes.resource
  pub description : TextAt 2242 100 bytes notes.description
  pub info : TextAt 2342 256 bytes notes.info
