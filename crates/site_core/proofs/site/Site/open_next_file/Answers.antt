use Rattle.std.proofs.Common.{ℕ, refl, arith}
use Rattle.log_files.specs.Files.{is_full}
use Rattle.ring_laws.specs.Rings.{opening}
use Rattle.site_courses.specs.Faults.{cut_short}
use Rattle.site_core.specs.Appending.{next_moves}
use Rattle.site_core.specs.NextLaws.{are_next, next_by_files, next_leaves, next_stands}
use Rattle.site_core.specs.LogCalls.{log_fails, log_done}
use Rattle.site_core.proofs.site.Site.open_next_file.Goals as goal

pub returns-in-Err-clause-opens : goal.returns-in-Err-clause-opens
returns-in-Err-clause-opens g c tells =
    let e : ℕ = c.args.era.now.number in
    log_fails g.D.Disk c.args.self.now c.open_next.new.self e e (omega arith) next_moves are_next (λ files. opening (is_full files)) next_by_files
    (λ site files stands. next_leaves site files e (g.D.Disk.image c.args.self.now.log.disk) (g.D.Disk.image c.open_next.new.self.disk) (c.open_next.ensures.crash tells site files stands))
    cut_short refl

pub returns-in-Ok-clause-opens : goal.returns-in-Ok-clause-opens
returns-in-Ok-clause-opens g c tells =
    let e : ℕ = c.args.era.now.number in
    log_done g.D.Disk c.args.self.now c.open_next.new.self e c.next.new.self.number (omega (arith, c.next.ensures.number)) next_moves are_next
    (λ files. opening (is_full files)) next_by_files
    (λ site files stands. next_leaves site files e (g.D.Disk.image c.args.self.now.log.disk) (g.D.Disk.image c.open_next.new.self.disk) (c.open_next.ensures.crash tells site files stands))
    e (omega (arith, c.next.ensures.number)) c.open_next.ensures.ledger.no_later (c.in-Ok.ensures.durable tells)
    (λ site files stands. next_stands g.D.Disk site files c.open_next.new.self (c.in-Ok.ensures.stands tells site files stands))
