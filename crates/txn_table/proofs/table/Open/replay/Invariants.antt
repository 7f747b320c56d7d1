use Rattle.std.proofs.Common.{◌≡◌, take, None}
use Rattle.log_history.specs.Transactions.{table_of}
use Rattle.log_record.specs.Entry.{history_of}
use Rattle.txn_table.specs.Table.{first_refusal}
use Rattle.txn_table.proofs.table.Open.replay.Given as goal

abbrev pub invariant-loop-i : goal.invariant-loop-i
invariant-loop-i l = record {
  so_far : l.table ≡ table_of (history_of (take l.i l.records));
  in_order : first_refusal (history_of (take l.i l.records)) ≡ None;
}
