use Rattle.std.proofs.Common.{ℕ, refl, ap}
use Rattle.site_disk.specs.Seen.{seen}
use Rattle.boot_lines.specs.LineLayout.{lines_of}
use Rattle.boot_file.proofs.StandsLemmas.{becomes_none, stands_like}
use Rattle.boot_file.proofs.boot.Boot.append.Goals as goal

pub returns-then-more-used-clause-crash : goal.returns-then-more-used-clause-crash
returns-then-more-used-clause-crash g c tells site number lines active stands = becomes_none _ _ c.args.era.now.number (g.D.Disk.image c.args.self.now.disk)

pub returns-in_err-bytes-clause-crash : goal.returns-in_err-bytes-clause-crash
returns-in_err-bytes-clause-crash g c tells site number lines active stands = becomes_none _ _ c.args.era.now.number (g.D.Disk.image c.args.self.now.disk)

pub returns-in_err-reserve-clause-crash : goal.returns-in_err-reserve-clause-crash
returns-in_err-reserve-clause-crash g c tells site number lines active stands = becomes_none _ _ c.args.era.now.number (g.D.Disk.image c.args.self.now.disk)

pub returns-in_err-put-clause-crash : goal.returns-in_err-put-clause-crash
returns-in_err-put-clause-crash g c tells site number lines active stands =
    c.put.ensures.crash tells site number lines active
    (stands_like site number lines active (seen g.D.Disk c.args.self.now.disk) c.args.self.now _ refl refl refl (ap lines_of c.reserve.ensures.items) stands)

pub returns-in_err-put-clause-bound : goal.returns-in_err-put-clause-bound
returns-in_err-put-clause-bound g c tells site number lines active stands =
    c.put.ensures.bound tells site number lines active
    (stands_like site number lines active (seen g.D.Disk c.args.self.now.disk) c.args.self.now _ refl refl refl (ap lines_of c.reserve.ensures.items) stands)

pub returns-clause-stands : goal.returns-clause-stands
returns-clause-stands g c tells site number lines active stands =
    c.in_ok-put.ensures.stands tells site number lines active
    (stands_like site number lines active (seen g.D.Disk c.args.self.now.disk) c.args.self.now _ refl refl refl (ap lines_of c.reserve.ensures.items) stands)

pub returns-clause-crash : goal.returns-clause-crash
returns-clause-crash g c tells site number lines active stands =
    c.put.ensures.crash tells site number lines active
    (stands_like site number lines active (seen g.D.Disk c.args.self.now.disk) c.args.self.now _ refl refl refl (ap lines_of c.reserve.ensures.items) stands)

pub returns-clause-bound : goal.returns-clause-bound
returns-clause-bound g c tells site number lines active stands =
    c.put.ensures.bound tells site number lines active
    (stands_like site number lines active (seen g.D.Disk c.args.self.now.disk) c.args.self.now _ refl refl refl (ap lines_of c.reserve.ensures.items) stands)
