use Rattle.std.proofs.Common.{◌≡◌, ◌+◌, drop}
use Rattle.std.specs.List.{prefix_len}
use Rattle.log_record.specs.Entry.{history_of}
use Rattle.backup_lines.specs.Spans.{is_by}
use Rattle.restore_planner.proofs.points.count_by.Given as goal

abbrev pub invariant-loop-record : goal.invariant-loop-record
invariant-loop-record l = record {
  passed : l.count ≡ l.record-index;
  left : l.count + prefix_len (is_by l.time) (history_of (drop l.record-index l.records)) ≡ prefix_len (is_by l.time) (history_of l.records);
}
