use Rattle.std.proofs.Common.{ℕ, IsTrue, refl, sym, subst, arith}
use Rattle.std.proofs.lemmas.Bool.{false≢true}
use Rattle.site_courses.specs.Faults.{cut_short}
use Rattle.site_core.specs.LogCalls.{log_fails, log_done}
use Rattle.log_calls.specs.Closing.{close_moves, close_by}
use Rattle.log_calls.specs.ClosingLaws.{are_close, close_by_files, close_leaves, close_nothing, close_stands, takes_it, takes_not}
use Rattle.log_calls.proofs.calls.close_current_file.Goals as goal

pub returns-in-Err-clause-closes : goal.returns-in-Err-clause-closes
returns-in-Err-clause-closes g c tells =
    let e : ℕ = c.args.era.now.number in
    log_fails g.D.Disk c.args.site.now c.close_current.new.self e e (omega arith) close_moves are_close close_by close_by_files
    (λ site files stands.
    let is = c.in-Err.ensures.errs files stands.tells in
    close_leaves site files e (g.D.Disk.image c.args.site.now.log.disk) (g.D.Disk.image c.close_current.new.self.disk) (takes_it files is.0 is.1) (c.close_current.ensures.crash tells site files stands))
    cut_short refl

pub returns-in-Ok-true-clause-closes : goal.returns-in-Ok-true-clause-closes
returns-in-Ok-true-clause-closes g c tells =
    let e : ℕ = c.args.era.now.number in
    let yes : IsTrue c.in-Ok-true.field-0 = subst IsTrue (sym c.in-Ok-true.field-0-test) refl in
    log_done g.D.Disk c.args.site.now c.close_current.new.self e c.next.new.self.number (omega (arith, c.next.ensures.number)) close_moves are_close close_by close_by_files
    (λ site files stands.
    let is = (c.in-Ok-true.ensures.closes files stands.tells).0 yes in
    close_leaves site files e (g.D.Disk.image c.args.site.now.log.disk) (g.D.Disk.image c.close_current.new.self.disk) (takes_it files is.0 is.1) (c.close_current.ensures.crash tells site files stands))
    e (omega (arith, c.next.ensures.number)) c.close_current.ensures.ledger.no_later (c.in-Ok-true.ensures.durable tells yes)
    (λ site files stands.
    let is = (c.in-Ok-true.ensures.closes files stands.tells).0 yes in
    close_stands g.D.Disk site files c.close_current.new.self (takes_it files is.0 is.1) (c.in-Ok-true.ensures.stands tells site files stands yes))

pub returns-in-Ok-false-clause-closes : goal.returns-in-Ok-false-clause-closes
returns-in-Ok-false-clause-closes g c tells =
    close_nothing g.D.Disk c.args.site.now c.close_current.new.self c.args.era.now.number (c.in-Ok-false.ensures.nothing c.in-Ok-false.field-0-test)
    (λ files told. takes_not files (λ both. false≢true (subst IsTrue c.in-Ok-false.field-0-test ((c.in-Ok-false.ensures.closes files told).1 both))))
