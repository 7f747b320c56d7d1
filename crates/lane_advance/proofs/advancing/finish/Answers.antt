use Rattle.std.proofs.Common.{◌∙◌, ℕ, List, ap, subst}
use Rattle.std.specs.Prelude.{OnOk}
use Rattle.site_disk.specs.Images.{Leaves}
use Rattle.site_disk.specs.Seen.{seen}
use Rattle.lane_mark.specs.Layout.{spelling}
use Rattle.lane_steps.specs.Moves.{Moves, Rests, placed}
use Rattle.lane_advance.specs.Places.{picture_of, with_place}
use Rattle.lane_advance.proofs.advancing.finish.Goals as goal

pub returns-clause-rests : goal.returns-clause-rests
returns-clause-rests g c tells space pages first rests =
    let was = picture_of space (with_place c.args.state.now c.args.from.0 c.args.from.1) c.args.from.0 c.args.from.1 pages first in
    subst (λ (l : List ℕ). OnOk c.move_place.result (Rests (placed was l c.args.to 0) c.move_place.new.mark (seen g.D.Disk c.move_place.new.disk)))
    (c.encode_into.ensures ∙ ap spelling c.with_place.ensures.state) (c.move_place.ensures.rests tells was c.args.to 0 rests)

pub returns-clause-crash : goal.returns-clause-crash
returns-clause-crash g c tells space pages first rests =
    let was = picture_of space (with_place c.args.state.now c.args.from.0 c.args.from.1) c.args.from.0 c.args.from.1 pages first in
    subst (λ (l : List ℕ). Leaves c.args.era.now.number (Moves was (placed was l c.args.to 0)) (g.D.Disk.image c.args.disk.now) (g.D.Disk.image c.move_place.new.disk))
    (c.encode_into.ensures ∙ ap spelling c.with_place.ensures.state) (c.move_place.ensures.crash tells was c.args.to 0 rests)
