use Rattle.std.proofs.Common.{arith}
use Rattle.lane_steps.proofs.PageLemmas.{put_is}
use Rattle.lane_steps.proofs.laying.put.Goals as goal

pub returns : goal.returns
returns c = put_is c.args.at _ c.args.bytes.now c.copy_from_slice.new.self c.args.into.now (omega arith) c.copy_from_slice.ensures.after
