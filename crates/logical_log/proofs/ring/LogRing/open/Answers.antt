use Rattle.std.proofs.Common.{◌≡◌, ℕ, List}
use Rattle.std.proofs.lemmas.Result.{err_from_is_err_and}
use Rattle.site_disk.specs.Seen.{seen}
use Rattle.logical_log.specs.Rings.{with_disk}
use Rattle.logical_log.proofs.OpenLemmas.{found_open, found_stands, these_stand, failed_only, refused_so}
use Rattle.log_scan.proofs.LawLemmas.{not_refused}
use Rattle.logical_log.proofs.ring.LogRing.open.Goals as goal

pub returns-in_err-found-clause-holds : goal.returns-in_err-found-clause-holds
returns-in_err-found-clause-holds g c tells files holds =
    let p = err_from_is_err_and c.from_residual.result c.from_residual.ensures.1 in
    rw (p.1, p.2) (tt, failed_only c.args.site _ files c.in_err-found.field-0.0 holds (c.in_err-found.ensures.refused tells))

pub returns-in_err-found-clause-refuses : goal.returns-in_err-found-clause-refuses
returns-in_err-found-clause-refuses g c tells fault refuses =
    let p = err_from_is_err_and c.from_residual.result c.from_residual.ensures.1 in
    rw (p.1, p.2) (tt, refused_so c.args.site _ fault c.in_err-found.field-0.0 refuses (c.in_err-found.ensures.refused tells))

pub returns-clause-opened : goal.returns-clause-opened
returns-clause-opened g c = found_open (with_disk c.args.self.now c.read_ring.new.disk) c.in_ok-found.found c.in_ok-found.ensures.found

pub returns-clause-stands : goal.returns-clause-stands
returns-clause-stands g c tells =
    let disk = c.read_ring.new.disk in
    let call = c.in_ok-found.ensures in
    let is = call.holds tells in (
      is.files,
      found_stands (with_disk c.args.self.now disk) c.in_ok-found.found c.args.site _ c.args.era.now.number (seen g.D.Disk disk) is call.bytes
          (λ f k x le lt image. g.met.D.Disk.now_counts disk f k x le lt image) call.ledger.no_later (call.durable tells),
    )

pub returns-clause-holds : goal.returns-clause-holds
returns-clause-holds g c tells files holds =
    let disk = c.read_ring.new.disk in
    let call = c.in_ok-found.ensures in
    let is = call.holds tells in (
      these_stand (with_disk c.args.self.now disk) c.in_ok-found.found c.args.site _ c.args.era.now.number (seen g.D.Disk disk) is files call.bytes
          (λ f k x le lt image. g.met.D.Disk.now_counts disk f k x le lt image) call.ledger.no_later (call.durable tells) holds,
      tt,
    )

pub returns-clause-refuses : goal.returns-clause-refuses
returns-clause-refuses g c tells fault refuses =
    let is = c.in_ok-found.ensures.holds tells in (not_refused c.args.site is.files _ fault is.holds refuses, tt)
