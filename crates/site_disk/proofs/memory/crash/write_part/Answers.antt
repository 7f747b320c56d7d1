use Rattle.std.proofs.Common.{arith}
use Rattle.site_disk.proofs.Tearing.{torn_by_write}
use Rattle.site_disk.proofs.memory.crash.write_part.Goals as goal

pub returns : goal.returns
returns c = torn_by_write c.write_over.result c.args.at c.args.part.now c.args.bytes.now.items c.write_over.new.bytes.items
    (omega (arith, c.args.bytes.now.ok.0)) c.write_over.ensures.ok
