use Rattle.std.proofs.Common.{◌-◌, ◌*◌, arith, length}
use Rattle.catalogue_slots.specs.Layout.{runs_in_place}
use Rattle.byte_fields.proofs.FieldLemmas.{written_behind}
use Rattle.catalogue_slots.proofs.runs.write_runs.Goals as goal

pub returns : goal.returns
unfolding runs_in_place
returns c = written_behind c.args.at (8 * length c.args.runs.now) (8 * (c.args.room - length c.args.runs.now)) (8 * c.args.room) _ _ _ _ _ c.write_each.ensures c.write_zeros.ensures.written (omega arith)
