use Rattle.std.proofs.Common.{◌≡◌, take}
use Rattle.std.specs.List.{flat_map}
use Rattle.log_record.specs.Entry.{history_of}
use Rattle.log_record.specs.Layout.{spelling}
use Rattle.logical_log.proofs.batch.spelled.Given as goal

abbrev pub invariant-loop-entry : goal.invariant-loop-entry
invariant-loop-entry l = l.bytes.items ≡ flat_map spelling (history_of (take l.entry-index l.batch))
