-- The record of a descriptor, 2,624 bytes: its fields, one after another.
use Rattle.std.specs.Prelude.{ℕ, ◌<◌, ◌^◌, List, [], ◌∷◌, ◌++◌, replicate}
use Rattle.std.specs.Int.{to_be_bytes, w64}
use Rattle.bsa_descriptor.specs.declared.descriptor.Descriptor.{Descriptor}
use Rattle.bsa_descriptor.specs.declared.kinds.CopyType.TheVariants as copy_type
use Rattle.bsa_descriptor.specs.declared.kinds.ObjectType.TheVariants as object_type
use Rattle.bsa_descriptor.specs.declared.kinds.ObjectStatus.TheVariants as status
use Rattle.bsa_descriptor.specs.Kinds.{copy_type_code, object_type_code, status_code}
use Rattle.byte_fields.specs.Fields.{padded}
use Rattle.bsa_descriptor.specs.Text.{IsText}

-- empty texts, zeros, and `Any`
abbrev pub empty_descriptor : Descriptor
empty_descriptor = record {
  bsa_owner = [];
  app_owner = [];
  space = [];
  path = [];
  create_time = 0;
  copy = 0;
  restore_order = 0;
  estimated_size = 0;
  copy_type = copy_type.Any;
  object_type = object_type.Any;
  status = status.Any;
  resource = [];
  description = [];
  info = [];
}

-- what each descriptor of a program meets: its texts are texts of their fields, its numbers have 64 bits
pub record IsDescriptor (d : Descriptor) : Type 0 where
  pub bsa_owner : IsText 64 d.bsa_owner
  pub app_owner : IsText 64 d.app_owner
  pub space : IsText 1024 d.space
  pub path : IsText 1024 d.path
  pub create_time : d.create_time < 2 ^ 64
  pub copy : d.copy < 2 ^ 64
  pub restore_order : d.restore_order < 2 ^ 64
  pub estimated_size : d.estimated_size < 2 ^ 64
  pub resource : IsText 31 d.resource
  pub description : IsText 100 d.description
  pub info : IsText 256 d.info

-- the one spelling of a descriptor, with the offset of each field
unfoldable pub spelling : Descriptor → List ℕ
spelling d =
    -- 0, 64, 128 and 1,152
    padded 64 d.bsa_owner ++ padded 64 d.app_owner ++ padded 1024 d.space ++ padded 1024 d.path
    -- 2,176, 2,184, 2,192 and 2,200
    ++ to_be_bytes w64 d.create_time ++ to_be_bytes w64 d.copy ++ to_be_bytes w64 d.restore_order ++ to_be_bytes w64 d.estimated_size
    -- 2,208, 2,209 and 2,210
    ++ copy_type_code d.copy_type ∷ [] ++ object_type_code d.object_type ∷ [] ++ status_code d.status ∷ []
    -- 2,211, 2,242 and 2,342
    ++ padded 31 d.resource ++ padded 100 d.description ++ padded 256 d.info
    -- 2,598 to the end
    ++ replicate 26 0
