use Rattle.std.proofs.Common.{◌≤◌, arith, refl}
use Rattle.site_disk.specs.Recording.{first_bytes, past_events}
use Rattle.site_disk.proofs.DiskSteps.{goes_sync}
use Rattle.site_disk.proofs.memory.disk.MemDiskDisk.sync.Goals as goal

pub invariant_of-self : goal.invariant_of-self
invariant_of-self c =
    let le : c.args.self.now.last ≤ c.number-now.result = omega (arith, c.requires.not_past) in
    record {
      in_order = (goes_sync c.sync_as_planned.result c.args.self.now.last c.number-now.result c.number-now.result
          (first_bytes c.args.self.now.recording) (first_bytes c.sync_as_planned.new.recording)
          (past_events c.args.self.now.recording) (past_events c.sync_as_planned.new.recording)
          c.args.self.now.in_order le refl c.sync_as_planned.ensures.start c.sync_as_planned.ensures.synced c.sync_as_planned.ensures.failed).ordered;
    }

pub returns-clause-crash : goal.returns-clause-crash
returns-clause-crash c = (goes_sync c.sync_as_planned.result c.args.self.now.last c.args.era.now.number c.number-now.result
    (first_bytes c.args.self.now.recording) (first_bytes c.sync_as_planned.new.recording)
    (past_events c.args.self.now.recording) (past_events c.sync_as_planned.new.recording)
    c.args.self.now.in_order c.requires.not_past c.number-now.ensures c.sync_as_planned.ensures.start c.sync_as_planned.ensures.synced c.sync_as_planned.ensures.failed).crash

pub returns-clause-stays : goal.returns-clause-stays
returns-clause-stays c = (goes_sync c.sync_as_planned.result c.args.self.now.last c.args.era.now.number c.number-now.result
    (first_bytes c.args.self.now.recording) (first_bytes c.sync_as_planned.new.recording)
    (past_events c.args.self.now.recording) (past_events c.sync_as_planned.new.recording)
    c.args.self.now.in_order c.requires.not_past c.number-now.ensures c.sync_as_planned.ensures.start c.sync_as_planned.ensures.synced c.sync_as_planned.ensures.failed).stays
