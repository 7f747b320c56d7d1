use Rattle.std.proofs.Common.{[], length, refl, inl, inr, ⊎_elim, arith}
use Rattle.std.proofs.lemmas.Bool.{false≢true}
use Rattle.std.proofs.lemmas.Result.{err_from_is_err_and}
use Rattle.std.proofs.lemmas.List.{length-map}
use Rattle.std.specs.Prelude.{Err}
use Rattle.site_headers.specs.Views.{head_of, space_of}
use Rattle.site_scripts.specs.Outcomes.{end_fault, fault_of_run}
use Rattle.transactions_command.proofs.EnterLemmas.{reads_image}
use Rattle.transactions_command.proofs.FormLemmas.{cut_kind, failure_cuts, finishes_cut, finishes_refused, finishes_run, passes_refused, passes_run, rests_refused, rests_run}
use Rattle.transactions_command.proofs.command.run_transactions.Goals as goal

pub returns-in_err-begun-clause-refused : goal.returns-in_err-begun-clause-refused
returns-in_err-begun-clause-refused g c tells =
    let p = err_from_is_err_and c.from_residual.result c.from_residual.ensures.1 in
    rw (p.1, p.2) (⊎_elim (λ failed. inl (failure_cuts c.in_err-begun.field-0.0 failed)) (λ is. inr (inl is)) (c.in_err-begun.ensures.answers tells))

pub returns-in_err-begun-clause-harmless : goal.returns-in_err-begun-clause-harmless
returns-in_err-begun-clause-harmless g c tells status refused = ((c.in_err-begun.ensures.harmless tells status refused).1, refl)

pub returns-in_err-begun-clause-passes : goal.returns-in_err-begun-clause-passes
returns-in_err-begun-clause-passes g c tells tells_source =
    passes_refused g.D.Disk c.args.era.now.number c.args.site.now c.open_all.new.era.number c.open_all.new.site c.args.moment (g.S.Source.left c.args.source.now) []
    c.in_err-begun.field-0.0 (c.in_err-begun.ensures.enters tells) (λ status refused. (c.in_err-begun.ensures.harmless tells status refused).1)

pub returns-in_err-begun-clause-finishes : goal.returns-in_err-begun-clause-finishes
returns-in_err-begun-clause-finishes g c tells tells_source =
    let p = err_from_is_err_and c.from_residual.result c.from_residual.ensures.1 in
    let left = g.S.Source.left c.args.source.now in
    rw (p.1, p.2) (finishes_refused g.D.Disk c.args.era.now.number c.args.site.now c.open_all.new.era.number c.open_all.new.site c.args.moment left left
    c.in_err-begun.field-0.0 (c.in_err-begun.ensures.enters tells) (λ status refused. (c.in_err-begun.ensures.harmless tells status refused).1) (c.in_err-begun.ensures.answers tells) c.in_err-begun.ensures.kept)

pub returns-in_err-begun-clause-rests : goal.returns-in_err-begun-clause-rests
returns-in_err-begun-clause-rests g c tells =
    rests_refused g.D.Disk c.args.era.now.number c.args.site.now c.open_all.new.era.number c.open_all.new.site c.args.moment [] []
    c.in_err-begun.field-0.0 (c.in_err-begun.ensures.enters tells) (λ status refused. (c.in_err-begun.ensures.harmless tells status refused).1)

pub returns-in_err-told-clause-refused : goal.returns-in_err-told-clause-refused
returns-in_err-told-clause-refused g c tells =
    let p = err_from_is_err_and c.from_residual-in_err-told.result c.from_residual-in_err-told.ensures.1 in
    rw (p.1, p.2) (⊎_elim (λ cut. inl cut) (λ of. inr (inr (of, c.in_ok-begun.ensures.answers tells))) (cut_kind c.in_err-told.field-0.0))

pub returns-in_err-told-clause-harmless : goal.returns-in_err-told-clause-harmless
returns-in_err-told-clause-harmless g c tells status refused = absurd (false≢true (c.in_ok-begun.ensures.harmless tells status refused).0)

pub returns-in_err-told-clause-passes : goal.returns-in_err-told-clause-passes
returns-in_err-told-clause-passes g c tells tells_source =
    let begun = c.in_ok-begun.begun in
    let from = c.open_all.new in
    let to = c.run_script.new in
    passes_run g.D.Disk c.args.era.now.number c.args.site.now from.era.number to.era.number from.site to.site (head_of begun.head) begun.table c.args.moment
    (g.S.Source.left c.args.source.now) [] (c.in_ok-begun.ensures.enters tells) (λ status refused. false≢true (c.in_ok-begun.ensures.harmless tells status refused).0)
    (fault_of_run (Err c.in_err-told.field-0.0)) (λ at stands may. c.in_err-told.ensures.call tells tells_source 3 at (omega arith) stands may)

pub returns-in_err-told-clause-finishes : goal.returns-in_err-told-clause-finishes
returns-in_err-told-clause-finishes g c tells tells_source =
    let p = err_from_is_err_and c.from_residual-in_err-told.result c.from_residual-in_err-told.ensures.1 in
    let begun = c.in_ok-begun.begun in
    let from = c.open_all.new in
    let to = c.run_script.new in
    rw (p.1, p.2) (finishes_cut g.D.Disk c.args.era.now.number c.args.site.now from.era.number to.era.number from.site to.site (head_of begun.head) begun.table c.args.moment
    (g.S.Source.left c.args.source.now) (g.S.Source.left to.source) (c.in_ok-begun.ensures.enters tells) (λ status refused. false≢true (c.in_ok-begun.ensures.harmless tells status refused).0)
    c.in_err-told.field-0.0 (λ at stands may. c.in_err-told.ensures.call tells tells_source 3 at (omega arith) stands may))

pub returns-in_err-told-clause-rests : goal.returns-in_err-told-clause-rests
returns-in_err-told-clause-rests g c tells =
    let begun = c.in_ok-begun.begun in
    let from = c.open_all.new in
    let to = c.run_script.new in
    let spaces = begun.head.spaces.items in
    rests_run g.D.Disk c.args.era.now.number c.args.site.now from.era.number to.era.number from.site to.site (head_of begun.head) begun.table c.args.moment
    [] [] (c.in_ok-begun.ensures.enters tells) (λ status refused. false≢true (c.in_ok-begun.ensures.harmless tells status refused).0)
    (length spaces) (length-map spaces space_of) c.in_err-told.ensures.store c.in_err-told.ensures.beyond

pub returns-clause-harmless : goal.returns-clause-harmless
returns-clause-harmless g c tells status refused = absurd (false≢true (c.in_ok-begun.ensures.harmless tells status refused).0)

pub returns-clause-passes : goal.returns-clause-passes
returns-clause-passes g c tells tells_source =
    let begun = c.in_ok-begun.begun in
    let from = c.open_all.new in
    let to = c.run_script.new in
    passes_run g.D.Disk c.args.era.now.number c.args.site.now from.era.number to.era.number from.site to.site (head_of begun.head) begun.table c.args.moment
    (g.S.Source.left c.args.source.now) [] (c.in_ok-begun.ensures.enters tells) (λ status refused. false≢true (c.in_ok-begun.ensures.harmless tells status refused).0)
    (end_fault c.in_ok-told.told.ending) (λ at stands may. c.in_ok-told.ensures.call tells tells_source 3 at (omega arith) stands may)

pub returns-clause-finishes : goal.returns-clause-finishes
returns-clause-finishes g c tells tells_source =
    let begun = c.in_ok-begun.begun in
    let from = c.open_all.new in
    let to = c.run_script.new in
    finishes_run g.D.Disk c.args.era.now.number c.args.site.now from.era.number to.era.number from.site to.site (head_of begun.head) begun.table c.args.moment
    (g.S.Source.left c.args.source.now) (g.S.Source.left to.source) (c.in_ok-begun.ensures.enters tells) (λ status refused. false≢true (c.in_ok-begun.ensures.harmless tells status refused).0)
    c.in_ok-told.told (λ at stands may. c.in_ok-told.ensures.call tells tells_source 3 at (omega arith) stands may)
    (λ at stands may. c.in_ok-told.ensures.told tells tells_source 3 at (omega arith) stands may) (c.in_ok-told.ensures.to_end tells_source)
    (λ name. reads_image g.D.Disk (λ d f le. g.met.D.Disk.reads_as d f tells le) to.era to.site c.in_ok-told.ensures.may name to.era.number (omega arith))

pub returns-clause-rests : goal.returns-clause-rests
returns-clause-rests g c tells =
    let begun = c.in_ok-begun.begun in
    let from = c.open_all.new in
    let to = c.run_script.new in
    let spaces = begun.head.spaces.items in
    rests_run g.D.Disk c.args.era.now.number c.args.site.now from.era.number to.era.number from.site to.site (head_of begun.head) begun.table c.args.moment
    [] [] (c.in_ok-begun.ensures.enters tells) (λ status refused. false≢true (c.in_ok-begun.ensures.harmless tells status refused).0)
    (length spaces) (length-map spaces space_of) c.in_ok-told.ensures.store c.in_ok-told.ensures.beyond
