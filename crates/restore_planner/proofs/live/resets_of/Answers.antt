use Rattle.std.proofs.Common.{arith}
use Rattle.std.proofs.lemmas.Grind.{common_steps}
use Rattle.std.proofs.lemmas.List.Elements.{filter_map-append}
use Rattle.restore_planner.proofs.live.resets_of.Goals as goal

pub loop-span-preserved : goal.loop-span-preserved
loop-span-preserved c = grind (arith, common_steps, filter_map-append)
