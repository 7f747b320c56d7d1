use Rattle.std.proofs.Common.{◌+◌, ◌-◌, arith}
use Rattle.byte_fields.proofs.FieldLemmas.{HasText-front, front-HasText, zeros-HasText, first-HasText}
use Rattle.byte_fields.proofs.reading.text_at.Goals as goal

pub returns-in_err-end-clause-only : goal.returns-in_err-end-clause-only
returns-in_err-end-clause-only c text has =
    cc (c.in_err-end.ensures, first-HasText c.args.offset c.args.width (c.args.offset + c.args.width - c.args.offset) c.args.bytes.now text (omega arith) has)

pub returns-then-is_zero_from-clause-found : goal.returns-then-is_zero_from-clause-found
returns-then-is_zero_from-clause-found c =
    HasText-front c.args.offset c.args.width (c.args.offset + c.args.width - c.args.offset) c.in_ok-end.end c.args.bytes.now (omega arith) c.requires c.in_ok-end.ensures
    (c.is_zero_from.ensures.0 c.if-is_zero_from.true)

pub returns-then-is_zero_from-clause-only : goal.returns-then-is_zero_from-clause-only
returns-then-is_zero_from-clause-only c text has =
    front-HasText c.args.offset c.args.width (c.args.offset + c.args.width - c.args.offset) c.in_ok-end.end c.args.bytes.now (omega arith) c.requires c.in_ok-end.ensures text has

pub returns-else-is_zero_from-clause-only : goal.returns-else-is_zero_from-clause-only
returns-else-is_zero_from-clause-only c text has =
    cc (
      c.is_zero_from.ensures.1 (zeros-HasText c.args.offset c.args.width (c.args.offset + c.args.width - c.args.offset) c.in_ok-end.end c.args.bytes.now
          (omega arith) c.requires c.in_ok-end.ensures text has),
      c.if-is_zero_from.false,
    )
