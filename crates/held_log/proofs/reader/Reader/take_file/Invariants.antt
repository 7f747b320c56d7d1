use Rattle.std.proofs.Common.{◌*◌, ◌%◌}
use Rattle.log_record.specs.Entry.{history_of}
use Rattle.held_log.proofs.ReaderLemmas.{IsPartway}
use Rattle.held_log.proofs.reader.Reader.take_file.Given as goal

abbrev pub invariant-loop-i : goal.invariant-loop-i
invariant-loop-i l = IsPartway l.first (256 * (l.file % 8)) (history_of l.records) l.i l.fn.self l.self
