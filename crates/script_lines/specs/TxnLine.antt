-- A line of the program as the grammar has it.
use Rattle.std.specs.Prelude.{◌+◌, ◌<◌, ◌≤◌, List, length, slice_get, IfSome, Result, Ok, Err, Option, None, Some}
use Rattle.std.specs.List.{AllByRecursion}
use Rattle.log_history.specs.History.{Patch}
use Rattle.log_record.specs.Layout.{IsTxn}
use Rattle.onbar_grammar.specs.declared.Why.{Why}
use Rattle.onbar_grammar.specs.Script.{Line, Space, begin_line, write_line, commit_line, abort_line}
use Rattle.script_lines.specs.declared.txn_lines.TxnLine.{TxnLine}
use Rattle.script_lines.specs.declared.txn_lines.TxnLine.TheVariants.{Begin, Write, Commit, Abort}

abbrev pub line_of_txn : TxnLine → Line
line_of_txn (Begin txn) = begin_line txn
line_of_txn (Write txn space page offset bytes) =
    write_line txn (record { space = space; page = page; offset = offset; bytes = bytes })
line_of_txn (Commit txn) = commit_line txn
line_of_txn (Abort txn) = abort_line txn

-- what a reader of a line answers
abbrev pub line_read : Result TxnLine Why → Result Line Why
line_read (Ok line) = Ok (line_of_txn line)
line_read (Err why) = Err why

abbrev pub read_of : Result (Option TxnLine) Why → Result (Option Line) Why
read_of (Ok None) = Ok None
read_of (Ok (Some line)) = Ok (Some (line_of_txn line))
read_of (Err why) = Err why

-- 1 to 64 bytes within the payload of a page that a space has
pub record IsPatchIn (spaces : List Space) (patch : Patch) : Type 0 where
  pub place : patch.space < length spaces
  pub page : IfSome (slice_get spaces patch.space) (λ space. patch.page < space.pages)
  pub some : 1 ≤ length patch.bytes
  pub few : length patch.bytes ≤ 64
  pub within : patch.offset + length patch.bytes ≤ 4080
  pub each : AllByRecursion (λ b. b < 256) patch.bytes

-- the numbers of a line are those of a record over these spaces
abbrev pub IsLineIn : List Space → Line → Type 0
IsLineIn spaces (begin_line txn) = IsTxn txn
IsLineIn spaces (write_line txn patch) = IsTxn txn × IsPatchIn spaces patch
IsLineIn spaces (commit_line txn) = IsTxn txn
IsLineIn spaces (abort_line txn) = IsTxn txn
