use Rattle.std.proofs.Common.{[], refl, sym, subst}
use Rattle.block_chain.specs.Table.{Table}
use Rattle.object_volume.specs.Sending.{IsSent}
use Rattle.object_volume.proofs.VolumeLemmas.{same_table}
use Rattle.object_volume.proofs.volume.Volume.begin.Goals as goal

pub returns-clause-sends : goal.returns-clause-sends
returns-clause-sends g c = record {
  object = c.begin.result;
  begun = refl;
  sent = subst (λ (t : Table). IsSent g.D.Disk.is_modelled (g.D.Disk.bytes c.args.self.now.disk) t c.begin.result c.args.self.now.part [])
      (sym (same_table c.args.self.now.chains c.in-Some.chains c.in-Some.is))
      (c.begin.ensures.sent g.D.Disk.is_modelled (g.D.Disk.bytes c.args.self.now.disk) c.args.self.now.part);
}

pub returns-clause-begun : goal.returns-clause-begun
returns-clause-begun g c = record { message = []; sends = returns-clause-sends g c }
