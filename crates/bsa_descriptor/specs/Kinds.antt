-- The bytes of a descriptor's three kinds.
use Rattle.std.specs.Prelude.{ℕ}
use Rattle.bsa_descriptor.specs.declared.kinds.CopyType.{CopyType}
use Rattle.bsa_descriptor.specs.declared.kinds.CopyType.TheVariants as copy_type
use Rattle.bsa_descriptor.specs.declared.kinds.ObjectType.{ObjectType}
use Rattle.bsa_descriptor.specs.declared.kinds.ObjectType.TheVariants as object_type
use Rattle.bsa_descriptor.specs.declared.kinds.ObjectStatus.{ObjectStatus}
use Rattle.bsa_descriptor.specs.declared.kinds.ObjectStatus.TheVariants as status

-- the byte of a copy type
abbrev pub copy_type_code : CopyType → ℕ
copy_type_code copy_type.Any = 1
copy_type_code copy_type.Archive = 2
copy_type_code copy_type.Backup = 3

-- the byte of an object type
abbrev pub object_type_code : ObjectType → ℕ
object_type_code object_type.Any = 1
object_type_code object_type.Database = 2
object_type_code object_type.Log = 3

-- the byte of a status
abbrev pub status_code : ObjectStatus → ℕ
status_code status.Any = 1
status_code status.MostRecent = 2
status_code status.NotMostRecent = 3
