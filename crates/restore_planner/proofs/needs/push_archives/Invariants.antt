use Rattle.std.proofs.Common.{◌≡◌, ◌++◌, drop}
use Rattle.backup_lines.specs.Plans.{archives_needed}
use Rattle.backup_lines.specs.Views.{copies_of}
use Rattle.restore_planner.proofs.needs.push_archives.Given as goal

-- the levels that are left complete the list
abbrev pub invariant-loop-level : goal.invariant-loop-level
invariant-loop-level l = l.needs.items ++ archives_needed l.space l.level (drop l.level (copies_of l.chain))
    ≡ l.initial.needs.items ++ archives_needed l.space l.done (drop l.done (copies_of l.chain))
