use Rattle.std.proofs.lemmas.List.{take_rest}
use Rattle.onbar_grammar.proofs.PartLemmas.{parted_at-Some, parted_at-None}
use Rattle.onbar_grammar.proofs.parts.parts_at.Goals as goal

pub returns-in_err-at : goal.returns-in_err-at
returns-in_err-at c = rw c.from_residual.ensures (parted_at-None c.args.byte c.args.bytes.now c.in_err-at.ensures)

pub returns : goal.returns
returns c = rw take_rest (parted_at-Some c.args.byte c.args.bytes.now c.in_ok-at.at c.in_ok-at.ensures)
