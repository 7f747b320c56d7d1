use Rattle.std.proofs.Common.{◌≡◌, take}
use Rattle.log_record.specs.Entry.{history_of}
use Rattle.log_files.specs.Files.{time_at}
use Rattle.log_files.proofs.times.time_at.Given as goal

abbrev pub invariant-loop-entry : goal.invariant-loop-entry
invariant-loop-entry l = l.time ≡ time_at l.before (history_of (take l.entry-index l.records))
