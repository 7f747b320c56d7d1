use Rattle.std.proofs.Common.{rules, ◌≡◌, ◌*◌, sym, ap, ◌∙◌, subst, arith, List, ◌∷◌, [], ◌++◌}
use Rattle.block_chain.specs.declared.runs.Run.{Run}
use Rattle.catalogue_slots.specs.Records.{AreRuns}
use Rattle.block_chain.specs.Blocks.{blocks_in}
use Rattle.catalogue_trials.proofs.TestLemmas.{runs_from, runs_from-push, AreRuns-runs_from, blocks_in-runs_from}
use Rattle.catalogue_trials.proofs.tests.runs_of.Goals as goal

pub loop-i-init : goal.loop-i-init
unfolding runs_from
loop-i-init c = search rules

pub loop-i-preserved : goal.loop-i-preserved
loop-i-preserved c =
    c.in_ok-push.ensures.items ∙ ap (λ (l : List Run). l ++ record { first = 2 * c.loop-i.i; count = 1 } ∷ []) c.loop-i.invariant
    ∙ sym (runs_from-push 0 c.loop-i.i (2 * c.loop-i.i) (omega arith))

pub returns-clause-runs : goal.returns-clause-runs
returns-clause-runs c = subst AreRuns (sym c.loop-i.invariant) (AreRuns-runs_from c.loop-i.i (omega (arith, c.loop-i.auto.i-end, c.requires)))

pub returns-clause-blocks : goal.returns-clause-blocks
returns-clause-blocks c =
    let all : c.loop-i.i ≡ c.args.count = omega (arith, c.loop-i.auto.i-end, c.loop-i-test.false) in
    ap blocks_in c.loop-i.invariant ∙ blocks_in-runs_from 0 c.loop-i.i ∙ all
