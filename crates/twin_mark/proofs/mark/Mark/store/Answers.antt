use Rattle.std.proofs.Common.{arith}
use Rattle.site_disk.specs.Seen.{seen}
use Rattle.site_disk.specs.SeenLaws.{synced_after}
use Rattle.twin_mark.specs.MarksLaws.{agrees_synced}
use Rattle.twin_mark.proofs.Storing.{within, crash, stored, knows_stored}
use Rattle.twin_mark.proofs.mark.Mark.store.Goals as goal

pub returns-in_err-put_record-clause-crash : goal.returns-in_err-put_record-clause-crash
returns-in_err-put_record-clause-crash g c = rw (← c.self.view_is) (λ tells agrees.
    crash _ c.self.invariant c.args.body.now (omega arith) c.args.era.now.number (seen g.D.Disk c.args.disk.now) _ (omega arith) agrees
    (c.put_record.ensures.crash tells (within _ c.self.invariant c.args.body.now (omega arith) _ agrees.now) agrees.other_gate))

pub returns-in_err-put_record-clause-bound : goal.returns-in_err-put_record-clause-bound
returns-in_err-put_record-clause-bound g c = rw (← c.self.view_is) (λ tells knows.
    c.put_record.ensures.bound tells (within _ c.self.invariant c.args.body.now (omega arith) _ knows))

pub returns-clause-bound : goal.returns-clause-bound
returns-clause-bound g c = rw (← c.self.view_is) (λ tells knows.
    c.put_record.ensures.bound tells (within _ c.self.invariant c.args.body.now (omega arith) _ knows))

pub returns-clause-crash : goal.returns-clause-crash
returns-clause-crash g c = rw (← c.self.view_is) (λ tells agrees.
    crash _ c.self.invariant c.args.body.now (omega arith) c.args.era.now.number (seen g.D.Disk c.args.disk.now) _ (omega arith) agrees
    (c.put_record.ensures.crash tells (within _ c.self.invariant c.args.body.now (omega arith) _ agrees.now) agrees.other_gate))

pub returns-clause-stored : goal.returns-clause-stored
returns-clause-stored g c = rw (← c.self.view_is) (λ tells knows.
    stored _ c.self.invariant c.args.body.now (omega arith) (g.D.Disk.bytes c.args.disk.now) (g.D.Disk.bytes c.put_record.new.disk) knows (c.in_ok-put_record.ensures.bytes tells))

pub returns-clause-agrees : goal.returns-clause-agrees
returns-clause-agrees g c = rw (← c.self.view_is) (λ tells knows.
    agrees_synced _ (seen g.D.Disk c.put_record.new.disk)
    (synced_after (seen g.D.Disk c.put_record.new.disk) c.args.era.now.number (g.met.D.Disk.now_counts c.put_record.new.disk) (omega arith)
    (c.in_ok-put_record.ensures.durable tells))
    (knows_stored _ c.self.invariant c.args.body.now (omega arith) (g.D.Disk.bytes c.args.disk.now) (g.D.Disk.bytes c.put_record.new.disk) knows (c.in_ok-put_record.ensures.bytes tells)))
