-- Which objects a query finds, and which descriptors have one name.
use Rattle.std.specs.Prelude.{◌≡◌, ℕ, Bool, true, false, ◌&&◌, List, [], ◌∷◌}
use Rattle.std.specs.Str.{bytes_eq}
use Rattle.bsa_descriptor.specs.declared.kinds.CopyType.{CopyType}
use Rattle.bsa_descriptor.specs.declared.kinds.CopyType.TheVariants as copy_type
use Rattle.bsa_descriptor.specs.declared.kinds.ObjectType.{ObjectType}
use Rattle.bsa_descriptor.specs.declared.kinds.ObjectType.TheVariants as object_type
use Rattle.bsa_descriptor.specs.declared.kinds.ObjectStatus.{ObjectStatus}
use Rattle.bsa_descriptor.specs.declared.kinds.ObjectStatus.TheVariants as status
use Rattle.bsa_descriptor.specs.declared.descriptor.Descriptor.{Descriptor}
use Rattle.bsa_match.specs.Wild.{is_wild_match}

-- an empty text asks for nothing, any other for itself
abbrev pub is_text_match : List ℕ → List ℕ → Bool
is_text_match [] text = true
is_text_match (c ∷ asked) text = bytes_eq (c ∷ asked) text

-- the same copy type
abbrev pub is_same_copy_type : CopyType → CopyType → Bool
is_same_copy_type copy_type.Any copy_type.Any = true
is_same_copy_type copy_type.Archive copy_type.Archive = true
is_same_copy_type copy_type.Backup copy_type.Backup = true
is_same_copy_type _ _ = false

-- `Any` asks for nothing, another copy type for itself
abbrev pub is_copy_type_match : CopyType → CopyType → Bool
is_copy_type_match copy_type.Any kind = true
is_copy_type_match copy_type.Archive kind = is_same_copy_type copy_type.Archive kind
is_copy_type_match copy_type.Backup kind = is_same_copy_type copy_type.Backup kind

-- `Any` asks for nothing, another object type for itself
abbrev pub is_object_type_match : ObjectType → ObjectType → Bool
is_object_type_match object_type.Any kind = true
is_object_type_match object_type.Database object_type.Database = true
is_object_type_match object_type.Log object_type.Log = true
is_object_type_match _ _ = false

-- `Any` asks for nothing, another status for itself
abbrev pub is_status_match : ObjectStatus → ObjectStatus → Bool
is_status_match status.Any kind = true
is_status_match status.MostRecent status.MostRecent = true
is_status_match status.NotMostRecent status.NotMostRecent = true
is_status_match _ _ = false

-- the query finds the object; its four numbers ask for nothing
abbrev pub is_match : Descriptor → Descriptor → Bool
is_match query object =
    is_copy_type_match query.copy_type object.copy_type && is_object_type_match query.object_type object.object_type && is_status_match query.status object.status
    && is_text_match query.bsa_owner object.bsa_owner && is_text_match query.app_owner object.app_owner
    && is_text_match query.resource object.resource && is_text_match query.description object.description && is_text_match query.info object.info
    && is_wild_match query.space object.space && is_wild_match query.path object.path

-- both owners, the space, the path and the copy type are the same
abbrev pub is_same_name : Descriptor → Descriptor → Bool
is_same_name a b =
    bytes_eq a.bsa_owner b.bsa_owner && bytes_eq a.app_owner b.app_owner && bytes_eq a.space b.space && bytes_eq a.path b.path
    && is_same_copy_type a.copy_type b.copy_type

-- `is_same_name` as equations
pub record SameName (a b : Descriptor) : Type 0 where
  pub bsa_owner : a.bsa_owner ≡ b.bsa_owner
  pub app_owner : a.app_owner ≡ b.app_owner
  pub space : a.space ≡ b.space
  pub path : a.path ≡ b.path
  pub copy_type : a.copy_type ≡ b.copy_type
