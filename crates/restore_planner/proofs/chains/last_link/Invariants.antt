use Rattle.std.proofs.Common.{◌≡◌, drop, map, filter, fold}
use Rattle.std.specs.Option.{option_map}
use Rattle.backup_lines.specs.Chains.{is_link, last_link, later_of}
use Rattle.backup_lines.specs.Views.{archive_of}
use Rattle.restore_planner.proofs.chains.last_link.Given as goal

abbrev pub invariant-loop-archive : goal.invariant-loop-archive
invariant-loop-archive l = fold later_of (option_map archive_of l.best)
    (filter (is_link l.live.resets l.space l.level l.base l.live.at) (map archive_of (drop l.archive-index l.archives)))
    ≡ last_link l.live.resets l.space l.level l.base l.live.at (map archive_of l.archives)
