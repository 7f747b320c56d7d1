use Rattle.std.proofs.Common.{◌≡◌, ℕ, ◌+◌, false, nat_eq, List, drop, get_or, arith, ap, sym, ◌∙◌}
use Rattle.std.proofs.lemmas.Bool.{ne_eqb}
use Rattle.std.proofs.lemmas.List.{take_rest}
use Rattle.std.specs.List.{list_all}
use Rattle.bsa_match.specs.Wild.{is_wild_match}
use Rattle.bsa_match.proofs.Walk.{Walked-star, Walked-on, Walked-back, Walked-end, mismatch, too_long, is_wild_match-nothing}
use Rattle.bsa_match.proofs.pattern.matches_a_suffix.Goals as goal
use Rattle.bsa_match.proofs.pattern.matches_a_suffix.Goals.{else-at-pattern-via-then-at-pattern+else-pattern-at-eq42, else-at-pattern-via-else-at-pattern, else-at-pattern-2-via-then-at-pattern-2+else-stands_for, else-at-pattern-2-via-else-at-pattern-2}

pub loop-from-preserved-then-pattern-at-eq42 : goal.loop-from-preserved-then-pattern-at-eq42
loop-from-preserved-then-pattern-at-eq42 c =
    Walked-star c.args.pattern.now c.args.text.now c.loop-from.star c.loop-from.from c.loop-from.matched c.loop-from.invariant c.if-at-pattern.true c.if-pattern-at-eq42.true

pub loop-from-preserved-then-stands_for : goal.loop-from-preserved-then-stands_for
loop-from-preserved-then-stands_for c =
    let other : nat_eq (get_or c.args.pattern.now (c.loop-from.star + c.loop-from.matched) 0) 42 ≡ false =
    elim c.else-at-pattern.branch [
      | else-at-pattern-via-then-at-pattern+else-pattern-at-eq42 w ↦ ne_eqb _ 42 w.if-pattern-at-eq42.false
      | else-at-pattern-via-else-at-pattern w ↦ absurd (omega arith)
    ] in
    Walked-on c.args.pattern.now c.args.text.now c.loop-from.star c.loop-from.from c.loop-from.matched c.loop-from.invariant c.if-at-pattern-2.true c.loop-from-test.true
    other (sym c.stands_for.ensures ∙ c.if-stands_for.true)

pub loop-from-preserved : goal.loop-from-preserved
loop-from-preserved c =
    let pattern : List ℕ = c.args.pattern.now in
    let text : List ℕ = c.args.text.now in
    let at : ℕ = c.loop-from.star + c.loop-from.matched in
    let next : ℕ = c.loop-from.from + c.loop-from.matched in
    let fails : is_wild_match (drop at pattern) (drop next text) ≡ false =
    elim c.else-at-pattern-2.branch [
      | else-at-pattern-2-via-then-at-pattern-2+else-stands_for v ↦
          elim c.else-at-pattern.branch [
            | else-at-pattern-via-then-at-pattern+else-pattern-at-eq42 w ↦ mismatch pattern text at next v.if-at-pattern-2.true c.loop-from-test.true (ne_eqb _ 42 w.if-pattern-at-eq42.false) (sym v.stands_for.ensures ∙ v.if-stands_for.false)
            | else-at-pattern-via-else-at-pattern w ↦ too_long pattern text at next w.if-at-pattern.false c.loop-from-test.true
          ]
      | else-at-pattern-2-via-else-at-pattern-2 v ↦ too_long pattern text at next v.if-at-pattern-2.false c.loop-from-test.true
    ] in
    Walked-back pattern text c.loop-from.star c.loop-from.from c.loop-from.matched c.loop-from.invariant c.loop-from-test.true fails

pub returns : goal.returns
returns c =
    c.is_all_stars.ensures
    ∙ ap (list_all (λ (p : ℕ). nat_eq p 42)) (take_rest c.args.pattern.now (c.loop-from.star + c.loop-from.matched))
    ∙ sym (is_wild_match-nothing (drop (c.loop-from.star + c.loop-from.matched) c.args.pattern.now))
    ∙ sym (Walked-end c.args.pattern.now c.args.text.now c.loop-from.star c.loop-from.from c.loop-from.matched c.loop-from.invariant c.loop-from-test.false)
