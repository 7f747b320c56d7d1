use Rattle.std.proofs.Common.{◌≡◌, map}
use Rattle.backup_lines.specs.Plans.{spaces_without_level_0}
use Rattle.backup_lines.specs.Views.{archive_of}
use Rattle.backup_lines.specs.declared.objects.Lacking.TheVariants.{NoLevel0}
use Rattle.restore_planner.proofs.planning.lacking_spaces.Given as goal

abbrev pub invariant-loop-space : goal.invariant-loop-space
invariant-loop-space l = l.lacking.items ≡ map NoLevel0 (spaces_without_level_0 (map archive_of l.archives) l.live.resets l.live.at l.space)
