use Rattle.std.proofs.Common.{◌+◌, ◌∙◌, arith}
use Rattle.byte_fields.proofs.FieldLemmas.{same_behind}
use Rattle.catalogue_slots.proofs.writing.write_del.Goals as goal

pub returns-clause-behind : goal.returns-clause-behind
returns-clause-behind c =
    same_behind (c.args.at + 16 + 4080) (c.args.at + 4096) c.write_front.new.into c.write_zeros.new.into (omega arith) c.write_zeros.ensures.behind
    ∙ same_behind (c.args.at + 16) (c.args.at + 4096) c.args.into.now c.write_front.new.into (omega arith) c.write_front.ensures.behind
