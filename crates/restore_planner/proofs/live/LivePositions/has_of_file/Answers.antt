use Rattle.std.proofs.Common.{◌≡◌, max, rules}
use Rattle.backup_lines.specs.ChainsLaws.{needed_iff}
use Rattle.backup_lines.specs.Views.{span_view}
use Rattle.restore_planner.proofs.live.LivePositions.has_of_file.Goals as goal

pub returns-clause-meaning : goal.returns-clause-meaning
returns-clause-meaning c =
    let from : c.max.result ≡ max c.args.span.now.first c.args.low = search rules in
    rw (c.has_between.ensures, from) (needed_iff c.args.self.now.resets c.args.low c.args.self.now.at (span_view c.args.span.now))
