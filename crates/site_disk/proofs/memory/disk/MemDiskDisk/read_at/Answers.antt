use Rattle.std.proofs.Common.{◌≤◌, arith}
use Rattle.site_disk.specs.PastLaws.{order_later}
use Rattle.site_disk.specs.Recording.{first_bytes, past_events}
use Rattle.site_disk.proofs.memory.disk.MemDiskDisk.read_at.Goals as goal

pub invariant_of-self : goal.invariant_of-self
invariant_of-self c =
    let le : c.args.self.now.last ≤ c.number-self.result = omega (arith, c.requires.not_past) in
    record { in_order = order_later c.args.self.now.last c.number-self.result (first_bytes c.args.self.now.recording) (past_events c.args.self.now.recording) le c.args.self.now.in_order }

pub invariant_of-self-in-Fails : goal.invariant_of-self-in-Fails
invariant_of-self-in-Fails c =
    let le : c.args.self.now.last ≤ c.number-self.result = omega (arith, c.requires.not_past) in
    record { in_order = order_later c.args.self.now.last c.number-self.result (first_bytes c.args.self.now.recording) (past_events c.args.self.now.recording) le c.args.self.now.in_order }
