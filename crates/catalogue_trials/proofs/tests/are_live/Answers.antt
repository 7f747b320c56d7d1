use Rattle.std.proofs.Common.{rules, ◌≡◌, false, sym, ◌∙◌}
use Rattle.std.specs.Prelude.{is_none}
use Rattle.catalogue_journal.specs.Catalogues.{objects_of}
use Rattle.catalogue_trials.proofs.TestLemmas.{AreLive-next, has_copy-some}
use Rattle.catalogue_trials.proofs.tests.are_live.Goals as goal

pub loop-i-preserved : goal.loop-i-preserved
loop-i-preserved c =
    let some : is_none c.find.result ≡ false = search rules in
    let has = has_copy-some _ (objects_of c.args.catalogue.now) c.find.result some c.find.ensures.found in
    let fresh = sym c.contains.ensures.value ∙ c.if-contains.false in
    AreLive-next c.args.copies.now c.loop-i.i _ (objects_of c.args.catalogue.now) (search rules) c.loop-i.invariant fresh has
