use Rattle.std.proofs.Common.{refl, arith}
use Rattle.site_disk.specs.CallsLaws.{both_on_ok}
use Rattle.site_disk.specs.Seen.{seen}
use Rattle.boot_file.proofs.StandsLemmas.{stands_synced}
use Rattle.boot_file.proofs.boot.Boot.sync.Goals as goal

pub returns-clause-stands : goal.returns-clause-stands
returns-clause-stands g c tells site number lines active stands =
    both_on_ok c.sync.result
    (λ bytes only. stands_synced site number lines active c.args.era.now.number (seen g.D.Disk c.args.self.now.disk) (seen g.D.Disk c.sync.new.self) c.args.self.now _ refl refl refl refl
    (g.met.D.Disk.now_counts c.sync.new.self) (omega (arith, c.sync.ensures.ledger.last)) bytes only stands)
    c.sync.ensures.bytes (c.sync.ensures.durable tells)
