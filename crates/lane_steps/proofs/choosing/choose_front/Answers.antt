use Rattle.std.proofs.Common.{◌≡◌, ◌≤◌, ◌+◌, ℕ, List, take, map, sym, subst, ap, ◌∙◌, arith, length, length-take}
use Rattle.txn_table.specs.Table.{change_of}
use Rattle.lane_steps.specs.Choices.{Chooses}
use Rattle.lane_steps.specs.ChoiceLaws.{TakesAll}
use Rattle.lane_steps.proofs.ChoiceLemmas.{none_taken, one_passed, one_taken}
use Rattle.lane_steps.proofs.choosing.choose_front.Goals as goal
use Rattle.lane_steps.proofs.choosing.choose_front.Goals.{then-is_own+in-Some, else-is_own}

pub returns-in-None-clause-chooses : goal.returns-in-None-clause-chooses
returns-in-None-clause-chooses c =
    let list = map change_of c.args.changes.now in
    let used = take c.loop-i.used c.loop-i.pages in
    let full : length used ≡ 16 = omega (arith, length-take c.loop-i.used c.loop-i.pages, c.in-None.ensures.1, c.with_page.array_long, ap (λ (l : List ℕ). length l) c.in-None.ensures.2) in
    subst (λ (p : List ℕ). Chooses c.args.space c.args.count list c.loop-i.i (take c.loop-i.used p)) (sym c.in-None.ensures.2)
    (none_taken c.args.changes.now c.loop-i.i c.index-changes-i.result c.loop-i-test.true c.index-changes-i.is c.args.space c.args.count used c.loop-i.invariant.takes
    (sym c.is_own.ensures ∙ c.if-is_own.true) c.in-None.ensures.0 full)

pub loop-i-preserved : goal.loop-i-preserved
loop-i-preserved c =
    let used = take c.loop-i.used c.loop-i.pages in
    let few : length used ≤ c.loop-i.used = omega (arith, length-take c.loop-i.used c.loop-i.pages) in
    let takes = λ (p : List ℕ). TakesAll c.args.space c.args.count (take (c.loop-i.i + 1) (map change_of c.args.changes.now)) p in
    elim c.if-is_own.branch [
      | then-is_own+in-Some w ↦ record {
        few = omega (arith, w.used-is, w.in-Some.ensures.0);
        takes = subst takes (sym (ap (λ (n : ℕ). take n c.if-is_own.pages) w.used-is ∙ ap (take w.in-Some.more) w.pages-is))
            (one_taken c.args.changes.now c.loop-i.i c.index-changes-i.result c.loop-i-test.true c.index-changes-i.is c.args.space c.args.count used c.loop-i.invariant.takes
            (take w.in-Some.more w.with_page.new.pages) c.loop-i.used (sym c.is_own.ensures ∙ w.if-is_own.true) few w.in-Some.ensures.1);
      }
      | else-is_own w ↦ record {
        few = omega (arith, w.used-is, c.loop-i.invariant.few);
        takes = subst takes (sym (ap (λ (n : ℕ). take n c.if-is_own.pages) w.used-is ∙ ap (take c.loop-i.used) w.pages-is))
            (one_passed c.args.changes.now c.loop-i.i c.index-changes-i.result c.loop-i-test.true c.index-changes-i.is c.args.space c.args.count used c.loop-i.invariant.takes
            (sym c.is_own.ensures ∙ w.if-is_own.false));
      }
    ]
