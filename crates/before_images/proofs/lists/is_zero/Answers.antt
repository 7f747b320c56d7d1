use Rattle.std.proofs.Common.{sym, ◌∙◌, arith}
use Rattle.before_images.specs.ListLaws.{all_zero-zero, all_zero-other, all_zero-end}
use Rattle.before_images.proofs.lists.is_zero.Goals as goal

pub returns-then-byte-ne0 : goal.returns-then-byte-ne0
returns-then-byte-ne0 c = sym (c.loop-byte.invariant ∙ all_zero-other c.args.bytes.now c.loop-byte.byte-index (omega arith) c.if-byte-ne0.true)

pub loop-byte-preserved : goal.loop-byte-preserved
loop-byte-preserved c = c.loop-byte.invariant ∙ all_zero-zero c.args.bytes.now c.loop-byte.byte-index (omega arith) c.if-byte-ne0.false

pub returns : goal.returns
returns c = sym (c.loop-byte.invariant ∙ all_zero-end c.args.bytes.now c.loop-byte.byte-index (omega arith))
