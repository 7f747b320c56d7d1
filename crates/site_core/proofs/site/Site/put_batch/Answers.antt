use Rattle.std.proofs.Common.{◌≡◌, ℕ, ◌∷◌, [], refl, sym, subst, true, arith}
use Rattle.std.proofs.lemmas.Result.{err_from_is_err_and}
use Rattle.log_record.specs.Entry.{history_of}
use Rattle.site_worlds.specs.Moves.{append_batch}
use Rattle.site_courses.specs.Faults.{cuts}
use Rattle.site_core.specs.declared.faults.SiteFault.{SiteFault}
use Rattle.site_core.specs.Appending.{batch_moves}
use Rattle.site_core.specs.Faults.{fault_in}
use Rattle.site_core.specs.LogCalls.{failure_cuts, log_breaks, log_done}
use Rattle.site_core.proofs.site.Site.put_batch.Goals as goal

pub returns-in_err-append-clause-appends : goal.returns-in_err-append-clause-appends
returns-in_err-append-clause-appends g c tells =
    let e : ℕ = c.args.era.now.number in
    let records = history_of c.args.batch.now in
    let p = err_from_is_err_and c.from_residual.result c.from_residual.ensures.1 in
    let fault = c.in_err-append.field-0.0 in
    log_breaks g.D.Disk c.args.self.now c.append.new.self e e (omega arith) (batch_moves records) (λ site. (tt, tt)) (λ files. append_batch records ∷ [])
    (λ site ring is fit. refl) (c.append.ensures.crash tells) c.from_residual.result p.0 p.1
    (subst (λ (f : SiteFault). cuts (fault_in f) ≡ true) (sym p.2) (failure_cuts fault c.in_err-append.ensures.only))

pub returns-clause-appends : goal.returns-clause-appends
returns-clause-appends g c tells =
    let e : ℕ = c.args.era.now.number in
    let records = history_of c.args.batch.now in
    log_done g.D.Disk c.args.self.now c.append.new.self e c.next.new.self.number (omega (arith, c.next.ensures.number)) (batch_moves records) (λ site. (tt, tt))
    (λ files. append_batch records ∷ []) (λ site ring is fit. refl) (c.append.ensures.crash tells) e (omega (arith, c.next.ensures.number)) c.append.ensures.ledger.no_later
    (c.in_ok-append.ensures.durable tells) (c.in_ok-append.ensures.stands tells)
