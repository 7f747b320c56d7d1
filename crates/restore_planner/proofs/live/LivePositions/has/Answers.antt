use Rattle.std.proofs.Common.{◌∙◌}
use Rattle.backup_lines.specs.ChainsLaws.{between_one}
use Rattle.restore_planner.proofs.live.LivePositions.has.Goals as goal

pub returns : goal.returns
returns c = c.has_between.ensures ∙ between_one c.args.self.now.resets c.args.self.now.at c.args.position
