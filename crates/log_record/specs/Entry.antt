-- The program's records as the history has them.
use Rattle.std.specs.Prelude.{List, map}
use Rattle.log_history.specs.History.{LogEntry, History, begin, write, commit, abort, reset}
use Rattle.log_record.specs.Layout.{Fields}
use Rattle.log_record.specs.declared.fields.Fields.{Fields as RustFields}
use Rattle.log_record.specs.declared.records.Record.{Record}
use Rattle.log_record.specs.declared.records.Record.TheVariants.{Begin, Write, Commit, Abort, Reset}

abbrev pub entry_of : Record → LogEntry
entry_of (Begin txn) = begin txn
entry_of (Write txn space page offset bytes) =
    write txn (record { space = space; page = page; offset = offset; bytes = bytes })
entry_of (Commit txn time) = commit txn time
entry_of (Abort txn) = abort txn
entry_of (Reset restore target time) = reset restore target time

abbrev pub history_of : List Record → History
history_of records = map entry_of records

-- the program's fields as the layout has them
abbrev pub fields_in : RustFields → Fields
fields_in f = record {
  kind = f.kind;
  len = f.len;
  space = f.space;
  txn = f.txn;
  page = f.page;
  offset = f.offset;
  time = f.time;
  target = f.target;
  bytes = f.bytes;
  restore = f.restore;
}
