use Rattle.std.proofs.Common.{◌≡◌, ◌<◌, rules, length, get_or, arith, refl}
use Rattle.std.proofs.lemmas.Grind.{common_steps}
use Rattle.bsa_session.proofs.QueryingLemmas.{next_given}
use Rattle.bsa_session.proofs.querying.next_of.Goals as goal

pub returns-then-given-len : goal.returns-then-given-len
returns-then-given-len c =
    let lt : c.args.matches.given < length c.args.matches.copies.items = omega arith in
    let here : c.index-copy.result.now ≡ get_or c.args.matches.copies.items c.args.matches.given 0 = first_of (search rules, grind (arith, common_steps)) in
    next_given c.args.matches.copies.items c.args.matches.given c.index-copy.result.now _ _ lt here refl refl
