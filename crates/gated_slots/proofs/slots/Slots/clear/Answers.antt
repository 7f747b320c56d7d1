use Rattle.std.proofs.Common.{arith}
use Rattle.gated_slots.specs.Slots.{Area}
use Rattle.site_disk.specs.Images.{Seen}
use Rattle.site_disk.specs.Seen.{seen}
use Rattle.site_disk.specs.SeenLaws.{synced_after}
use Rattle.gated_slots.specs.SlotsLaws.{used-zeroes, agrees_synced}
use Rattle.gated_slots.proofs.slots.Slots.clear.Goals as goal

pub returns-clause-agrees : goal.returns-clause-agrees
returns-clause-agrees g c tells =
    let area : Area = record { gates = c.self.inside.gates; slots = c.self.inside.slots; size = c.self.inside.size; capacity = c.self.inside.capacity } in
    let disk : Seen = seen g.D.Disk c.zero_up_to.new.disk in
    agrees_synced _ disk
    (synced_after disk c.args.era.now.number (g.met.D.Disk.now_counts c.zero_up_to.new.disk) (omega arith) (c.in_ok-zero_up_to.ensures.durable tells))
    (used-zeroes area _ _ (g.D.Disk.bytes c.args.disk.now) (g.D.Disk.bytes c.zero_up_to.new.disk) (omega arith) (omega arith) (c.in_ok-zero_up_to.ensures.zeros tells))
