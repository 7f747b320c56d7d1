use Rattle.std.proofs.Common.{◌∙◌}
use Rattle.std.proofs.lemmas.Result.{err_from_is_err_and}
use Rattle.site_lane_opening.proofs.TryingLemmas.{comes_opened, comes_failed, head_there}
use Rattle.site_lane_opening.proofs.trying.open_only.Goals as goal

pub returns-in_err-opening : goal.returns-in_err-opening
returns-in_err-opening g c =
    let p = err_from_is_err_and c.from_residual.result c.from_residual.ensures.1 in
    let e = c.in_err-opening.ensures in
    let heads = c.args.head.now in
    let there = head_there heads.spaces.items c.from.result c.args.space c.index.result.now c.from.ensures c.requires.space c.index.ensures in
    record {
      came = comes_failed g.D.Disk c.args.era.now heads c.args.space c.requires.space c.index.result.now there c.args.lanes.now c.open_lane.new.lanes c.from_residual.result p.0 p.1 (p.2 ∙ e.failed.0)
          e.works e.failed.1;
    }

pub returns : goal.returns
returns g c =
    let heads = c.args.head.now in
    let e = c.in_ok-opening.ensures in
    let there = head_there heads.spaces.items c.from.result c.args.space c.index.result.now c.from.ensures c.requires.space c.index.ensures in
    record {
      came = comes_opened g.D.Disk c.args.era.now heads c.args.space c.requires.space c.index.result.now there c.args.lanes.now c.open_lane.new.lanes c.in_ok-opening.opening
          c.unless_opened.result c.unless_opened.ensures e.works e.came;
    }
