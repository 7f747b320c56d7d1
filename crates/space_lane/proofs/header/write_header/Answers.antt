use Rattle.std.proofs.Common.{arith}
use Rattle.space_lane.proofs.HeaderLemmas.{written_chunk}
use Rattle.space_lane.proofs.header.write_header.Goals as goal

pub returns : goal.returns
returns c =
    written_chunk c.args.site c.args.space c.args.pages c.write_front.new.page c.write_u32.new.into c.write_zeros_from.new.into
    (omega arith) c.write_front.ensures c.write_u32.ensures.written c.write_zeros_from.ensures
