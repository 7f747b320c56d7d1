use Rattle.std.proofs.Common.{arith}
use Rattle.catalogue_journal.proofs.entries.new_entry.Goals as goal

pub returns-clause-fits : goal.returns-clause-fits
returns-clause-fits c = record {
  size = omega arith;
  digest = omega arith;
  descriptor = c.has_record.ensures;
}
