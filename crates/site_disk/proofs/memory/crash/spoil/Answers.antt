use Rattle.std.proofs.Common.{arith}
use Rattle.site_disk.proofs.Tearing.{torn_by_spoil}
use Rattle.site_disk.proofs.memory.crash.spoil.Goals as goal

pub returns-then-at-bytes : goal.returns-then-at-bytes
returns-then-at-bytes c = torn_by_spoil c.args.at _ c.args.len c.args.bytes.now c.fill.new.self (omega arith) (omega arith) (omega (arith, c.fill.ensures.len))
