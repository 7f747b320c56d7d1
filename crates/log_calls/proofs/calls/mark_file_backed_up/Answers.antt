use Rattle.std.proofs.Common.{ℕ, [], ◌∷◌, refl, arith}
use Rattle.site_worlds.specs.Moves.{mark_backed}
use Rattle.site_courses.specs.Faults.{cut_short}
use Rattle.site_core.specs.LogCalls.{log_fails, log_done}
use Rattle.log_calls.proofs.calls.mark_file_backed_up.Goals as goal

pub returns-in-Err-clause-marks : goal.returns-in-Err-clause-marks
returns-in-Err-clause-marks g c tells =
    let e : ℕ = c.args.era.now.number in
    let file : ℕ = c.args.file in
    log_fails g.D.Disk c.args.site.now c.mark_backed_up.new.self e e (omega arith) (λ at. mark_backed file ∷ []) (λ at. (tt, tt)) (λ files. mark_backed file ∷ []) (λ at ring is fit. refl)
    (λ site files stands. c.mark_backed_up.ensures.crash tells site files stands) cut_short refl

pub returns-in-Ok-clause-marks : goal.returns-in-Ok-clause-marks
returns-in-Ok-clause-marks g c tells =
    let e : ℕ = c.args.era.now.number in
    let file : ℕ = c.args.file in
    log_done g.D.Disk c.args.site.now c.mark_backed_up.new.self e c.next.new.self.number (omega (arith, c.next.ensures.number)) (λ at. mark_backed file ∷ []) (λ at. (tt, tt))
    (λ files. mark_backed file ∷ []) (λ at ring is fit. refl) (λ site files stands. c.mark_backed_up.ensures.crash tells site files stands)
    e (omega (arith, c.next.ensures.number)) c.mark_backed_up.ensures.ledger.no_later (c.in-Ok.ensures.durable tells)
    (λ site files stands. c.in-Ok.ensures.stands tells site files stands)
