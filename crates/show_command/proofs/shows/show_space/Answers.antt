use Rattle.std.proofs.Common.{[], refl, inl, inr, ⊎_elim, arith}
use Rattle.std.proofs.lemmas.Bool.{false≢true}
use Rattle.std.proofs.lemmas.Result.{err_from_is_err_and}
use Rattle.std.specs.Prelude.{string_bytes}
use Rattle.site_forms.specs.declared.report.Report.TheVariants.{Shown as ShownText}
use Rattle.site_forms.specs.PassingLaws.{reads_as_images}
use Rattle.show_command.proofs.FormLemmas.{failure_cuts, finishes_cut, finishes_refused, finishes_run, passes_refused, passes_run, reading_kind, rests_refused, rests_run}
use Rattle.show_command.proofs.shows.show_space.Goals as goal

pub returns-in_err-place-clause-refused : goal.returns-in_err-place-clause-refused
returns-in_err-place-clause-refused g c tells =
    let p = err_from_is_err_and c.from_residual.result c.from_residual.ensures.1 in
    rw (p.1, p.2) (⊎_elim (λ failed. inl (failure_cuts c.in_err-place.field-0.0 failed)) (λ is. inr (inl is)) (c.in_err-place.ensures.answers tells))

pub returns-in_err-place-clause-harmless : goal.returns-in_err-place-clause-harmless
returns-in_err-place-clause-harmless g c tells status refused = (c.in_err-place.ensures.harmless tells status refused).1

pub returns-in_err-place-clause-passes : goal.returns-in_err-place-clause-passes
returns-in_err-place-clause-passes g c tells moment script =
    passes_refused g.D.Disk c.args.name c.args.page c.args.era.now.number c.args.site.now c.open_space.new.era.number c.open_space.new.site moment script []
    c.in_err-place.field-0.0 (c.in_err-place.ensures.enters tells) (λ status refused. (c.in_err-place.ensures.harmless tells status refused).1)

pub returns-in_err-place-clause-finishes : goal.returns-in_err-place-clause-finishes
returns-in_err-place-clause-finishes g c tells moment script after =
    let p = err_from_is_err_and c.from_residual.result c.from_residual.ensures.1 in
    rw (p.1, p.2) (finishes_refused g.D.Disk c.args.name c.args.page c.args.era.now.number c.args.site.now c.open_space.new.era.number c.open_space.new.site moment script after
    c.in_err-place.field-0.0 (c.in_err-place.ensures.enters tells) (λ status refused. (c.in_err-place.ensures.harmless tells status refused).1) (c.in_err-place.ensures.answers tells) c.in_err-place.ensures.kept)

pub returns-in_err-place-clause-rests : goal.returns-in_err-place-clause-rests
returns-in_err-place-clause-rests g c tells =
    rests_refused g.D.Disk c.args.name c.args.page c.args.era.now.number c.args.site.now c.open_space.new.era.number c.open_space.new.site 0 [] []
    c.in_err-place.field-0.0 (c.in_err-place.ensures.enters tells) (λ status refused. (c.in_err-place.ensures.harmless tells status refused).1)

pub returns-in_err-text-clause-refused : goal.returns-in_err-text-clause-refused
returns-in_err-text-clause-refused g c tells =
    let p = err_from_is_err_and c.from_residual-in_err-text.result c.from_residual-in_err-text.ensures.1 in
    rw (p.1, p.2) (⊎_elim (λ cut. inl cut) (λ of. inr (inr (of, c.in_ok-place.ensures.answers tells))) (reading_kind c.in_err-text.field-0.0 c.in_err-text.ensures.only))

pub returns-in_err-text-clause-harmless : goal.returns-in_err-text-clause-harmless
returns-in_err-text-clause-harmless g c tells status refused = absurd (false≢true (c.in_ok-place.ensures.harmless tells status refused).0)

pub returns-in_err-text-clause-passes : goal.returns-in_err-text-clause-passes
returns-in_err-text-clause-passes g c tells moment script =
    passes_run g.D.Disk c.args.name c.args.page c.args.era.now.number c.args.site.now c.open_space.new.era.number c.read_space.new.era.number c.open_space.new.site c.read_space.new.site c.in_ok-place.place moment script [] (c.in_ok-place.ensures.enters tells) (λ status refused. false≢true (c.in_ok-place.ensures.harmless tells status refused).0) (c.in_err-text.ensures.goes tells) c.in_err-text.ensures.others

pub returns-in_err-text-clause-rests : goal.returns-in_err-text-clause-rests
returns-in_err-text-clause-rests g c tells =
    rests_run g.D.Disk c.args.name c.args.page c.args.era.now.number c.args.site.now c.open_space.new.era.number c.read_space.new.era.number c.open_space.new.site c.read_space.new.site c.in_ok-place.place 0 [] [] (c.in_ok-place.ensures.enters tells) (λ status refused. false≢true (c.in_ok-place.ensures.harmless tells status refused).0) (c.in_err-text.ensures.goes tells) c.in_err-text.ensures.others

pub returns-in_err-text-clause-finishes : goal.returns-in_err-text-clause-finishes
returns-in_err-text-clause-finishes g c tells moment script after =
    let p = err_from_is_err_and c.from_residual-in_err-text.result c.from_residual-in_err-text.ensures.1 in
    rw (p.1, p.2) (finishes_cut g.D.Disk c.args.name c.args.page c.args.era.now.number c.args.site.now c.open_space.new.era.number c.read_space.new.era.number c.open_space.new.site c.read_space.new.site c.in_ok-place.place moment script after (c.in_ok-place.ensures.enters tells) (λ status refused. false≢true (c.in_ok-place.ensures.harmless tells status refused).0) (c.in_err-text.ensures.goes tells) c.in_err-text.ensures.others
    c.in_err-text.field-0.0 (c.in_err-text.ensures.told tells))

pub returns-clause-harmless : goal.returns-clause-harmless
returns-clause-harmless g c tells status refused = absurd (false≢true (c.in_ok-place.ensures.harmless tells status refused).0)

pub returns-clause-passes : goal.returns-clause-passes
returns-clause-passes g c tells moment script =
    passes_run g.D.Disk c.args.name c.args.page c.args.era.now.number c.args.site.now c.open_space.new.era.number c.read_space.new.era.number c.open_space.new.site c.read_space.new.site c.in_ok-place.place moment script [] (c.in_ok-place.ensures.enters tells) (λ status refused. false≢true (c.in_ok-place.ensures.harmless tells status refused).0) (c.in_ok-text.ensures.goes tells) c.in_ok-text.ensures.others

pub returns-clause-rests : goal.returns-clause-rests
returns-clause-rests g c tells =
    rests_run g.D.Disk c.args.name c.args.page c.args.era.now.number c.args.site.now c.open_space.new.era.number c.read_space.new.era.number c.open_space.new.site c.read_space.new.site c.in_ok-place.place 0 [] [] (c.in_ok-place.ensures.enters tells) (λ status refused. false≢true (c.in_ok-place.ensures.harmless tells status refused).0) (c.in_ok-text.ensures.goes tells) c.in_ok-text.ensures.others

pub returns-clause-finishes : goal.returns-clause-finishes
returns-clause-finishes g c tells moment script after =
    finishes_run g.D.Disk c.args.name c.args.page c.args.era.now.number c.args.site.now c.open_space.new.era.number c.read_space.new.era.number c.open_space.new.site c.read_space.new.site c.in_ok-place.place moment script after (c.in_ok-place.ensures.enters tells) (λ status refused. false≢true (c.in_ok-place.ensures.harmless tells status refused).0) (c.in_ok-text.ensures.goes tells) c.in_ok-text.ensures.others
    c.in_ok-text.ensures.eras.0 (ShownText c.in_ok-text.text) (string_bytes c.in_ok-text.text) refl refl (c.in_ok-text.ensures.told tells)
    (λ other. reads_as_images g.D.Disk (λ d f le. g.met.D.Disk.reads_as d f tells le) c.read_space.new.era c.read_space.new.site c.read_space.new.era.number (omega arith) c.in_ok-text.ensures.may other)
