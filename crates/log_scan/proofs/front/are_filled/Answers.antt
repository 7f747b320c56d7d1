use Rattle.std.proofs.Common.{ℕ, ◌≤◌, sym, subst, arith}
use Rattle.std.proofs.lemmas.Bool.{both_ways}
use Rattle.std.proofs.lemmas.List.Elements.{recursion_from_All, All-from_recursion}
use Rattle.log_scan.specs.Fronts.{AreFilled}
use Rattle.log_scan.proofs.FrontLemmas.{filled_by, by_filled, not_shut, opened, some_by, by_some}
use Rattle.log_scan.proofs.front.are_filled.Goals as goal

pub returns-then-not-is_closed : goal.returns-then-not-is_closed
returns-then-not-is_closed c =
    let is = c.in-Some.ensures.cases.0 in
    let all = recursion_from_All (λ (n : ℕ). 1 ≤ n) c.in-Some.others.now (c.are_some.ensures.0 c.if-are_some.true) in (
      λ open_file. subst (AreFilled c.args.is_closed) (sym is) (filled_by c.args.is_closed c.in-Some.others.now c.in-Some.last.now all
          (λ closed. absurd (omega (arith, not_shut c.args.is_closed c.if-not-is_closed.true closed)))),
      λ filled. opened c.args.is_closed c.if-not-is_closed.true,
    )

pub returns-else-not-is_closed : goal.returns-else-not-is_closed
returns-else-not-is_closed c =
    let is = c.in-Some.ensures.cases.0 in
    let all = recursion_from_All (λ (n : ℕ). 1 ≤ n) c.in-Some.others.now (c.are_some.ensures.0 c.if-are_some.true) in (
      λ some. subst (AreFilled c.args.is_closed) (sym is) (filled_by c.args.is_closed c.in-Some.others.now c.in-Some.last.now all (λ closed. some_by c.in-Some.last.now some)),
      λ filled. by_some c.in-Some.last.now ((by_filled c.args.is_closed c.in-Some.others.now c.in-Some.last.now (subst (AreFilled c.args.is_closed) is filled)).1
          c.if-not-is_closed.false),
    )

pub returns-else-are_some : goal.returns-else-are_some
returns-else-are_some c =
    let is = c.in-Some.ensures.cases.0 in (
      λ true. absurd (both_ways c.are_some.result c.if-are_some.false true),
      λ filled. c.are_some.ensures.1 (All-from_recursion (λ (n : ℕ). 1 ≤ n) c.in-Some.others.now
          (by_filled c.args.is_closed c.in-Some.others.now c.in-Some.last.now (subst (AreFilled c.args.is_closed) is filled)).0),
    )
