use Rattle.std.specs.Prelude.{OnOk}
use Rattle.std.proofs.Common.{ap, subst, ◌∙◌}
use Rattle.site_disk.specs.Images.{Leaves}
use Rattle.site_disk.specs.Seen.{seen}
use Rattle.backup_lines.specs.declared.lanes.LaneState.{LaneState as StateView}
use Rattle.space_lane.specs.Lanes.{Stands, disk_of, state_of}
use Rattle.space_lane.specs.Stops.{MaySet}
use Rattle.lane_restore.specs.Steps.{begun}
use Rattle.lane_restore.proofs.marking.mark_begun.Goals as goal

pub returns-in-Some-clause-stands : goal.returns-in-Some-clause-stands
returns-in-Some-clause-stands g c tells site count stands =
    subst (λ (s : StateView). OnOk c.mark.result (Stands site count s (seen g.D.Disk (disk_of c.mark.new.lane)) c.mark.new.lane))
    (c.in-Some.ensures ∙ ap (λ (s : StateView). begun s c.args.chain.now) c.state.ensures)
    (c.mark.ensures.stands tells site count (state_of c.args.lane.now) stands.agrees)

pub returns-in-Some-clause-pages : goal.returns-in-Some-clause-pages
returns-in-Some-clause-pages g c tells site count stands = c.mark.ensures.pages tells site count (state_of c.args.lane.now) stands.agrees

pub returns-in-Some-clause-crash : goal.returns-in-Some-clause-crash
returns-in-Some-clause-crash g c tells site count stands =
    subst (λ (s : StateView). Leaves c.args.era.now.number (MaySet s (g.D.Disk.bytes (disk_of c.args.lane.now))) (g.D.Disk.image (disk_of c.args.lane.now)) (g.D.Disk.image (disk_of c.mark.new.lane)))
    (c.in-Some.ensures ∙ ap (λ (s : StateView). begun s c.args.chain.now) c.state.ensures)
    (c.mark.ensures.crash tells site count (state_of c.args.lane.now) stands.agrees)

pub returns-in-Some-clause-bound : goal.returns-in-Some-clause-bound
returns-in-Some-clause-bound g c tells site count stands = c.mark.ensures.bound tells site count (state_of c.args.lane.now) stands.agrees
