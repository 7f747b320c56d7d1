-- What a line of a script of XBSA calls says.
use Rattle.std.specs.Prelude.{ℕ, ◌<◌, ◌≤◌, ◌^◌, List, [], ◌∷◌, length, nat_le, if◌then◌else◌, Option, None, Some, Result, Ok, codes}
use Rattle.std.specs.Option.{option_map, option_and_then, ok_or}
use Rattle.bsa_descriptor.specs.declared.kinds.CopyType.{CopyType}
use Rattle.bsa_descriptor.specs.declared.kinds.ObjectType.{ObjectType}
use Rattle.bsa_descriptor.specs.declared.kinds.ObjectStatus.{ObjectStatus}
use Rattle.onbar_grammar.specs.declared.Why.{Why}
use Rattle.onbar_grammar.specs.declared.Why.TheVariants.{Words}
use Rattle.onbar_grammar.specs.Numbers.{number_within}
use Rattle.onbar_grammar.specs.Script.{is_token}
use Rattle.onbar_grammar.specs.Parts.{parted_at}
use Rattle.bsa_lines.specs.declared.settings.TextField.{TextField}
use Rattle.bsa_lines.specs.declared.settings.TextField.TheVariants.{BsaOwner, AppOwner, Space, Path, Resource, Description, Info}
use Rattle.bsa_lines.specs.Operands.{wide_number, copy_id, sent_bytes, copy_type_word, object_type_word, status_word}

-- A field of the descriptor is set, or the descriptor is emptied, or a call is made.
pub data Line : Type 0 where
  set_text : (field : TextField) (value : List ℕ) → Line
  set_order : (value : ℕ) → Line
  set_size : (value : ℕ) → Line
  set_copy_type : (value : CopyType) → Line
  set_object_type : (value : ObjectType) → Line
  set_status : (value : ObjectStatus) → Line
  clear_line : Line
  init_line : (volume : ℕ) → Line
  begin_line : Line
  create_line : Line
  send_line : (bytes : List ℕ) → Line
  end_data_line : Line
  query_line : Line
  next_line : Line
  get_line : (copy : ℕ) → Line
  data_line : (count : ℕ) → Line
  delete_line : (copy : ℕ) → Line
  end_line : (vote : ℕ) → Line
  terminate_line : Line

-- how many bytes a field of a text has
abbrev pub width_of : TextField → ℕ
width_of BsaOwner = 64
width_of AppOwner = 64
width_of Space = 1024
width_of Path = 1024
width_of Resource = 31
width_of Description = 100
width_of Info = 256

abbrev pub text_field : List ℕ → Option TextField
text_field word =
    if is_token (codes "bsaowner") word then Some BsaOwner
    else (if is_token (codes "appowner") word then Some AppOwner
    else (if is_token (codes "space") word then Some Space
    else (if is_token (codes "path") word then Some Path
    else (if is_token (codes "resource") word then Some Resource
    else (if is_token (codes "description") word then Some Description
    else (if is_token (codes "info") word then Some Info else None))))))

-- a text that is at most as wide as its field
abbrev pub text_setting : TextField → List ℕ → Option Line
text_setting field value = if nat_le (length value) (width_of field) then Some (set_text field value) else None

abbrev pub setting : List ℕ → List ℕ → Option Line
setting name word =
    if is_token (codes "order") name then option_map set_order (wide_number word)
    else (if is_token (codes "size") name then option_map set_size (wide_number word)
    else (if is_token (codes "copytype") name then option_map set_copy_type (copy_type_word word)
    else (if is_token (codes "objecttype") name then option_map set_object_type (object_type_word word)
    else (if is_token (codes "status") name then option_map set_status (status_word word) else None))))

abbrev pub setting_by : Option TextField → List ℕ → List ℕ → Option Line
setting_by (Some field) name value = text_setting field value
setting_by None name value = setting name value

-- behind `set `: a field, one space, and its value, which is all that follows
abbrev pub set_line_of : List ℕ → Option Line
set_line_of rest = option_and_then (λ parts. setting_by (text_field parts.0) parts.0 parts.1) (parted_at 32 rest)

abbrev pub bare_line : List ℕ → Option Line
bare_line keyword =
    if is_token (codes "clear") keyword then Some clear_line
    else (if is_token (codes "begin") keyword then Some begin_line
    else (if is_token (codes "create") keyword then Some create_line
    else (if is_token (codes "enddata") keyword then Some end_data_line
    else (if is_token (codes "query") keyword then Some query_line
    else (if is_token (codes "next") keyword then Some next_line
    else (if is_token (codes "terminate") keyword then Some terminate_line else None))))))

abbrev pub operand_line : List ℕ → List ℕ → Option Line
operand_line keyword rest =
    if is_token (codes "set") keyword then set_line_of rest
    else (if is_token (codes "init") keyword then option_map init_line (number_within 0 16 rest)
    else (if is_token (codes "send") keyword then option_map send_line (sent_bytes rest)
    else (if is_token (codes "get") keyword then option_map get_line (copy_id rest)
    else (if is_token (codes "data") keyword then option_map data_line (number_within 1 4096 rest)
    else (if is_token (codes "delete") keyword then option_map delete_line (copy_id rest)
    else (if is_token (codes "end") keyword then option_map end_line (number_within 0 255 rest) else None))))))

-- the parts around the first space, if there is one
abbrev pub parted_line : List ℕ → Option (List ℕ × List ℕ) → Option Line
parted_line bytes None = bare_line bytes
parted_line bytes (Some parts) = operand_line parts.0 parts.1

-- a keyword alone, or a keyword, one space and what follows
abbrev pub keyword_line : List ℕ → Option Line
keyword_line bytes = parted_line bytes (parted_at 32 bytes)

-- what a line says; an empty one says nothing
unfoldable pub bsa_line_of : List ℕ → Result (Option Line) Why
bsa_line_of [] = Ok None
bsa_line_of (c ∷ cs) = ok_or (option_map (λ line. Some line) (keyword_line (c ∷ cs))) Words

-- what each line that is read meets
abbrev pub IsLine : Line → Type 0
IsLine (set_text field value) = length value ≤ width_of field
IsLine (set_order value) = value < 2 ^ 64
IsLine (set_size value) = value < 2 ^ 64
IsLine (init_line volume) = volume ≤ 16
IsLine (send_line bytes) = (1 ≤ length bytes) × (length bytes ≤ 4096)
IsLine (get_line copy) = (1 ≤ copy) × (copy ≤ 2 ^ 48)
IsLine (data_line count) = (1 ≤ count) × (count ≤ 4096)
IsLine (delete_line copy) = (1 ≤ copy) × (copy ≤ 2 ^ 48)
IsLine (end_line vote) = vote ≤ 255
IsLine _ = Unit {0}
