use Rattle.std.proofs.Common.{◌≡◌, length, arith, sym, ◌∙◌}
use Rattle.bsa_match.proofs.Walk.{is_wild_match-end}
use Rattle.bsa_match.proofs.pattern.wild.Goals as goal

pub returns : goal.returns
returns c =
    let ends : c.loop-i.i ≡ length c.args.pattern.now = omega arith in
    sym (c.loop-i.invariant.answer ∙ is_wild_match-end c.args.pattern.now c.args.text.now c.loop-i.i ends c.loop-i.invariant.in_text)
