use Rattle.std.proofs.Common.{◌≡◌, ◌∙◌, ◌≤◌, ℕ, length, map, take, sym, ap, arith}
use Rattle.std.proofs.lemmas.List.{length-map}
use Rattle.txn_table.specs.Table.{change_of}
use Rattle.lane_steps.specs.Choices.{own}
use Rattle.lane_advance.proofs.PassLemmas.{all_front, all_rest, front_of, none_more, one_more, rest_of}
use Rattle.lane_advance.proofs.passing.laid.Goals as goal
use Rattle.lane_advance.proofs.passing.laid.Goals.{then-is_own, else-is_own}

pub returns-then-left-eq0-clause-front : goal.returns-then-left-eq0-clause-front
returns-then-left-eq0-clause-front c =
    front_of c.args.space c.args.count c.args.part c.loop-i.i (map change_of c.args.changes.now) (omega (arith, c.loop-i.invariant, c.if-left-eq0.true))

pub returns-then-left-eq0-clause-behind : goal.returns-then-left-eq0-clause-behind
returns-then-left-eq0-clause-behind c =
    rest_of c.args.space c.args.count c.args.part c.loop-i.i (map change_of c.args.changes.now) (omega (arith, c.loop-i.invariant, c.if-left-eq0.true))

pub loop-i-preserved : goal.loop-i-preserved
loop-i-preserved c =
    elim c.if-is_own.branch [
      | then-is_own w ↦ omega (
        arith,
        w.left-is,
        c.loop-i.invariant,
        one_more c.args.changes.now c.loop-i.i c.index-changes-i.result c.loop-i-test.true c.index-changes-i.is c.args.space c.args.count (sym c.is_own.ensures ∙ w.if-is_own.true),
      )
      | else-is_own w ↦ omega (
        arith,
        w.left-is,
        c.loop-i.invariant,
        none_more c.args.changes.now c.loop-i.i c.index-changes-i.result c.loop-i-test.true c.index-changes-i.is c.args.space c.args.count (sym c.is_own.ensures ∙ w.if-is_own.false),
      )
    ]

pub returns-clause-front : goal.returns-clause-front
returns-clause-front c =
    let list = map change_of c.args.changes.now in
    let end : length list ≤ length c.args.changes.now = omega (arith, length-map c.args.changes.now change_of) in
    let same : c.loop-i.i ≡ length c.args.changes.now = omega (arith, c.loop-i-test.false, c.loop-i.auto.i-end) in
    all_front c.args.space c.args.count c.args.part (length c.args.changes.now) list end
    (omega (arith, c.loop-i.invariant, ap (λ (k : ℕ). length (own c.args.space c.args.count (take k list))) same))

pub returns-clause-behind : goal.returns-clause-behind
returns-clause-behind c =
    let list = map change_of c.args.changes.now in
    let end : length list ≤ length c.args.changes.now = omega (arith, length-map c.args.changes.now change_of) in
    let same : c.loop-i.i ≡ length c.args.changes.now = omega (arith, c.loop-i-test.false, c.loop-i.auto.i-end) in
    all_rest c.args.space c.args.count c.args.part (length c.args.changes.now) list end
    (omega (arith, c.loop-i.invariant, ap (λ (k : ℕ). length (own c.args.space c.args.count (take k list))) same))
