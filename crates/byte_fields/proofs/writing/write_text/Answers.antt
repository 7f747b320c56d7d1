use Rattle.std.proofs.Common.{◌+◌, ◌-◌, length, arith, ◌∙◌}
use Rattle.byte_fields.proofs.FieldLemmas.{same_behind}
use Rattle.byte_fields.proofs.writing.write_text.Goals as goal

pub returns-clause-behind : goal.returns-clause-behind
returns-clause-behind c =
    same_behind (c.args.offset + length c.args.text.now + (c.args.width - length c.args.text.now)) (c.args.offset + c.args.width) _ _ (omega arith) c.write_zeros.ensures.behind
    ∙ same_behind (c.args.offset + length c.args.text.now) (c.args.offset + c.args.width) _ _ (omega arith) c.write_bytes.ensures.behind
