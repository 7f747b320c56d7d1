-- The program's answers as the definitions have them.
use Rattle.backup_lines.specs.Plans.{SpacePlan}
use Rattle.backup_lines.specs.Spans.{Found, at_position, look_in, no_such_log}
use Rattle.backup_lines.specs.Views.{copies_of}
use Rattle.restore_planner.specs.declared.chains.SpacePlan.{SpacePlan as RustSpacePlan}
use Rattle.restore_planner.specs.declared.points.Found.{Found as RustFound}
use Rattle.restore_planner.specs.declared.points.Found.TheVariants.{At, Look, NoSuchLog}

abbrev pub found_of : RustFound → Found
found_of (At position) = at_position position
found_of (Look file) = look_in file
found_of (NoSuchLog file) = no_such_log file

abbrev pub space_plan_of : RustSpacePlan → SpacePlan
space_plan_of plan = record { space = plan.space; chain = copies_of plan.chain; at = plan.at; low = plan.low }
