use Rattle.std.proofs.Common.{◌≡◌, map, take, filter}
use Rattle.std.specs.List.{filter_map}
use Rattle.backup_lines.specs.Lines.{archive_in, is_live}
use Rattle.backup_lines.specs.Views.{archive_of, line_of}
use Rattle.restore_planner.proofs.gone.live_archives.Given as goal

abbrev pub invariant-loop-line : goal.invariant-loop-line
invariant-loop-line l = map archive_of l.archives.items
    ≡ filter (λ archive. is_live (map line_of l.lines) archive.copy) (filter_map archive_in (map line_of (take l.line-index l.lines)))
