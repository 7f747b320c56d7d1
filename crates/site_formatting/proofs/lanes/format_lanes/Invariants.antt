use Rattle.site_headers.specs.Views.{head_of}
use Rattle.site_formatting.specs.Steps.{FirstFrom}
use Rattle.site_formatting.specs.Lanes.{FormatsLane}
use Rattle.site_formatting.proofs.lanes.format_lanes.Given as goal

abbrev pub invariant-loop-place : goal.invariant-loop-place
invariant-loop-place g l = FirstFrom (FormatsLane g.D.Disk l.era (head_of l.head)) l.place l.initial.lanes l.lanes
