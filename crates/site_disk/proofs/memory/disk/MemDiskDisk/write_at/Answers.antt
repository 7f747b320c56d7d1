use Rattle.std.proofs.Common.{◌≤◌, arith, refl}
use Rattle.site_disk.specs.DiskPlans.{front_of}
use Rattle.site_disk.specs.Recording.{first_bytes, past_events}
use Rattle.site_disk.proofs.DiskSteps.{goes_put, length-front_of}
use Rattle.site_disk.proofs.memory.disk.MemDiskDisk.write_at.Goals as goal

pub invariant_of-self : goal.invariant_of-self
invariant_of-self c =
    let le : c.args.self.now.last ≤ c.number-now.result = omega (arith, c.requires.era.not_past) in
    record {
      in_order = (goes_put c.put_as_planned.result c.args.self.now.last c.number-now.result c.number-now.result c.args.at
          (first_bytes c.args.self.now.recording) (first_bytes c.put_as_planned.new.recording) c.args.piece.now (front_of c.count_call-fate.result c.args.piece.now)
          (past_events c.args.self.now.recording) (past_events c.put_as_planned.new.recording)
          c.args.self.now.in_order le refl c.requires.within (length-front_of c.count_call-fate.result c.args.piece.now) c.put_as_planned.ensures.start c.put_as_planned.ensures.puts).ordered;
    }

pub returns-clause-crash : goal.returns-clause-crash
returns-clause-crash c = (goes_put c.put_as_planned.result c.args.self.now.last c.args.era.now.number c.number-now.result c.args.at
    (first_bytes c.args.self.now.recording) (first_bytes c.put_as_planned.new.recording) c.args.piece.now (front_of c.count_call-fate.result c.args.piece.now)
    (past_events c.args.self.now.recording) (past_events c.put_as_planned.new.recording)
    c.args.self.now.in_order c.requires.era.not_past c.number-now.ensures c.requires.within (length-front_of c.count_call-fate.result c.args.piece.now) c.put_as_planned.ensures.start c.put_as_planned.ensures.puts).crash

pub returns-clause-stays : goal.returns-clause-stays
returns-clause-stays c = (goes_put c.put_as_planned.result c.args.self.now.last c.args.era.now.number c.number-now.result c.args.at
    (first_bytes c.args.self.now.recording) (first_bytes c.put_as_planned.new.recording) c.args.piece.now (front_of c.count_call-fate.result c.args.piece.now)
    (past_events c.args.self.now.recording) (past_events c.put_as_planned.new.recording)
    c.args.self.now.in_order c.requires.era.not_past c.number-now.ensures c.requires.within (length-front_of c.count_call-fate.result c.args.piece.now) c.put_as_planned.ensures.start c.put_as_planned.ensures.puts).stays
