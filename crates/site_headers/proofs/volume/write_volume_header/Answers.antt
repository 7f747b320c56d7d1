use Rattle.std.proofs.Common.{arith}
use Rattle.site_headers.proofs.FrontLemmas.{written_volume}
use Rattle.site_headers.proofs.volume.write_volume_header.Goals as goal

pub returns : goal.returns
returns c =
    written_volume c.args.number c.args.site c.args.blocks c.write_front.new.page c.write_u32.new.into c.write_zeros_from.new.into
    (omega arith) c.write_front.ensures c.write_u32.ensures.written c.write_zeros_from.ensures
