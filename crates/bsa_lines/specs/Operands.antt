-- The operands of a line: numbers, bytes, and the words for an object's kinds.
use Rattle.std.specs.Prelude.{ℕ, List, length, ◌&&◌, nat_le, if◌then◌else◌, Option, None, Some, codes}
use Rattle.std.specs.Option.{option_and_then}
use Rattle.std.specs.Result.{result_ok}
use Rattle.hex.specs.Hex.{decode_of}
use Rattle.onbar_grammar.specs.Numbers.{number, number_within}
use Rattle.onbar_grammar.specs.Script.{is_token}
use Rattle.bsa_descriptor.specs.declared.kinds.CopyType.{CopyType}
use Rattle.bsa_descriptor.specs.declared.kinds.CopyType.TheVariants as copy_type
use Rattle.bsa_descriptor.specs.declared.kinds.ObjectType.{ObjectType}
use Rattle.bsa_descriptor.specs.declared.kinds.ObjectType.TheVariants as object_type
use Rattle.bsa_descriptor.specs.declared.kinds.ObjectStatus.{ObjectStatus}
use Rattle.bsa_descriptor.specs.declared.kinds.ObjectStatus.TheVariants as status

-- the numbers that a word of 64 bits holds
abbrev pub within_u64 : Option ℕ → Option ℕ
within_u64 value = option_and_then (λ n. if nat_le n 18446744073709551615 then Some n else None) value

abbrev pub wide_number : List ℕ → Option ℕ
wide_number word = within_u64 (number word)

-- a copy id: a number from 1 to 2^48
abbrev pub copy_id : List ℕ → Option ℕ
copy_id word = number_within 1 281474976710656 word

-- 1 to 4,096 bytes as pairs of hexadecimal digits in either case
abbrev pub sent_bytes : List ℕ → Option (List ℕ)
sent_bytes word =
    option_and_then (λ bytes. if (nat_le 1 (length bytes) && nat_le (length bytes) 4096) then Some bytes else None) (result_ok (decode_of word))

abbrev pub copy_type_word : List ℕ → Option CopyType
copy_type_word word =
    if is_token (codes "any") word then Some copy_type.Any
    else (if is_token (codes "archive") word then Some copy_type.Archive
    else (if is_token (codes "backup") word then Some copy_type.Backup else None))

abbrev pub object_type_word : List ℕ → Option ObjectType
object_type_word word =
    if is_token (codes "any") word then Some object_type.Any
    else (if is_token (codes "database") word then Some object_type.Database
    else (if is_token (codes "log") word then Some object_type.Log else None))

abbrev pub status_word : List ℕ → Option ObjectStatus
status_word word =
    if is_token (codes "any") word then Some status.Any
    else (if is_token (codes "mostrecent") word then Some status.MostRecent
    else (if is_token (codes "notmostrecent") word then Some status.NotMostRecent else None))
