-- A line of the program as the grammar has it.
use Rattle.std.specs.Prelude.{Result, Ok, Err, Option, None, Some}
use Rattle.onbar_grammar.specs.declared.Why.{Why}
use Rattle.bsa_lines.specs.Lines.{Line, set_text, set_order, set_size, set_copy_type, set_object_type, set_status, clear_line, init_line, begin_line, create_line, send_line, end_data_line, query_line, next_line, get_line, data_line, delete_line, end_line, terminate_line}
use Rattle.bsa_lines.specs.declared.lines.BsaLine.{BsaLine}
use Rattle.bsa_lines.specs.declared.lines.BsaLine.TheVariants.{SetText, SetOrder, SetSize, SetCopyType, SetObjectType, SetStatus, Clear, Init, Begin, Create, Send, EndData, Query, Next, Get, Data, Delete, End, Terminate}

abbrev pub line_of_bsa : BsaLine → Line
line_of_bsa (SetText field value) = set_text field value.items
line_of_bsa (SetOrder value) = set_order value
line_of_bsa (SetSize value) = set_size value
line_of_bsa (SetCopyType value) = set_copy_type value
line_of_bsa (SetObjectType value) = set_object_type value
line_of_bsa (SetStatus value) = set_status value
line_of_bsa Clear = clear_line
line_of_bsa (Init volume) = init_line volume
line_of_bsa Begin = begin_line
line_of_bsa Create = create_line
line_of_bsa (Send bytes) = send_line bytes.items
line_of_bsa EndData = end_data_line
line_of_bsa Query = query_line
line_of_bsa Next = next_line
line_of_bsa (Get copy) = get_line copy
line_of_bsa (Data count) = data_line count
line_of_bsa (Delete copy) = delete_line copy
line_of_bsa (End vote) = end_line vote
line_of_bsa Terminate = terminate_line

-- what the reader of a line answers
abbrev pub read_of : Result (Option BsaLine) Why → Result (Option Line) Why
read_of (Ok None) = Ok None
read_of (Ok (Some line)) = Ok (Some (line_of_bsa line))
read_of (Err why) = Err why
