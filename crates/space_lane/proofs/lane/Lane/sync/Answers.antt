use Rattle.std.proofs.Common.{ℕ, List, arith, sym, subst}
use Rattle.site_disk.specs.CallsLaws.{both_on_ok}
use Rattle.site_disk.specs.Seen.{seen}
use Rattle.site_disk.specs.SeenLaws.{synced_after}
use Rattle.space_lane.specs.Chunks.{IsSettled}
use Rattle.space_lane.proofs.LaneLemmas.{agrees_on}
use Rattle.space_lane.proofs.lane.Lane.sync.Goals as goal

pub returns-clause-stands : goal.returns-clause-stands
returns-clause-stands g c tells site count state agrees is =
    let disk = seen g.D.Disk c.sync.new.self in
    let old = g.D.Disk.bytes c.args.self.now.disk in
    both_on_ok c.sync.result
    (λ same only. record {
      agrees = agrees_on site count state old disk.bytes c.args.self.now c.sync.new.self same agrees;
      synced = synced_after disk c.args.era.now.number (g.met.D.Disk.now_counts c.sync.new.self) (omega (arith, c.sync.ensures.ledger.last)) only;
      settled = subst (λ (l : List ℕ). IsSettled state count l) (sym same) is;
    })
    c.sync.ensures.bytes (c.sync.ensures.durable tells)
