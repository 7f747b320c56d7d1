use Rattle.std.proofs.Common.{arith}
use Rattle.catalogue_slots.specs.Layout.{spelling}
use Rattle.byte_fields.proofs.FieldLemmas.{written_behind}
use Rattle.catalogue_slots.proofs.writing.write_more.Goals as goal

pub returns : goal.returns
unfolding spelling
returns c = written_behind c.args.at 16 4080 4096 _ _ _ _ _ c.write_front.ensures.written c.write_runs.ensures (omega arith)
