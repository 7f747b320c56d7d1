use Rattle.site_headers.specs.Views.{head_of}
use Rattle.site_formatting.proofs.LaneLemmas.{lanes_made, lanes_may}
use Rattle.site_formatting.proofs.lanes.format_lanes.Goals as goal

pub format_lane-requires-clause-era : goal.format_lane-requires-clause-era
format_lane-requires-clause-era g c = lanes_may g.D.Disk c.args.era.now (head_of c.args.head.now) c.loop-place.place c.args.lanes.now c.loop-place.lanes c.loop-place.invariant c.requires.era

pub format_lane-requires-clause-made : goal.format_lane-requires-clause-made
format_lane-requires-clause-made g c = lanes_made g.D.Disk c.args.era.now (head_of c.args.head.now) c.loop-place.place c.args.lanes.now c.loop-place.lanes c.loop-place.invariant c.requires.made
