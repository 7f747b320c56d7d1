use Rattle.std.proofs.Common.{arith}
use Rattle.level_archive.proofs.HeadLemmas.{written_head}
use Rattle.level_archive.proofs.head.ImageHead.encode_into.Goals as goal

pub returns : goal.returns
returns c =
    written_head c.args.self.now c.front_of.result c.write_bytes.new.into c.write_zeros_from.new.into c.front_of.ensures (omega arith)
    c.write_bytes.ensures.written c.write_zeros_from.ensures
