use Rattle.std.proofs.Common.{map, [], subst, arith}
use Rattle.std.proofs.lemmas.Result.{err_from_is_err_and}
use Rattle.txn_table.specs.Table.{change_of}
use Rattle.site_core.specs.Faults.{fault_in, of_lanes}
use Rattle.site_core.specs.FrameLaws.{may_later}
use Rattle.site_core.specs.Going.{FailsOnLane}
use Rattle.site_core.proofs.FrameLemmas.{moved_later, moved_made, moved_may, moved_opened, moved_rose}
use Rattle.site_core.proofs.LaneLemmas.{goes_cut, goes_done, lane_cuts, lane_fails, goes_from}
use Rattle.site_core.proofs.FaultLemmas.{same_fault}
use Rattle.site_core.proofs.site.Site.bring_lanes.Goals as goal

pub returns-in_err-advance_all-clause-cause : goal.returns-in_err-advance_all-clause-cause
returns-in_err-advance_all-clause-cause g c =
    let p = err_from_is_err_and c.from_residual.result c.from_residual.ensures.1 in
    let fault = c.in_err-advance_all.field-0.0 in
    rw (p.1, p.2)
    (lane_fails g.D.Disk c.args.spaces c.args.self.now.lanes.items c.advance_all.new.self.lanes.items fault c.in_err-advance_all.ensures.failed)

pub returns-in_err-advance_all-clause-goes_on : goal.returns-in_err-advance_all-clause-goes_on
returns-in_err-advance_all-clause-goes_on g c tells opened at enough stands goes =
    let p = err_from_is_err_and c.from_residual.result c.from_residual.ensures.1 in
    let fault = c.in_err-advance_all.field-0.0 in
    let moved = c.advance_all.ensures.moved in
    let cut = lane_cuts g.D.Disk c.args.spaces c.args.self.now.lanes.items c.advance_all.new.self.lanes.items fault c.in_err-advance_all.ensures.failed in
    rw (p.1, p.2)
    (goes_cut g.D.Disk tells (λ d f le. g.met.D.Disk.reads_as d f tells le) c.args.era.now c.args.spaces c.args.to (map change_of c.args.changes.now) c.args.self.now c.advance_all.new.self
    moved.others moved.as_many moved.beyond moved.works opened at enough stands goes c.args.era.now.number (omega arith) (fault_in (of_lanes [] fault)) cut)

pub returns-in_err-advance_all-clause-goes : goal.returns-in_err-advance_all-clause-goes
returns-in_err-advance_all-clause-goes g c tells = goes_from g.D.Disk c.args.era.now.number c.args.era.now.number c.args.self.now c.advance_all.new.self c.args.spaces c.args.to
    (map change_of c.args.changes.now) _ (returns-in_err-advance_all-clause-goes_on g c tells)

pub returns-clause-goes_on : goal.returns-clause-goes_on
returns-clause-goes_on g c tells opened at enough stands goes =
    let moved = c.advance_all.ensures.moved in
    goes_done g.D.Disk tells (λ d f le. g.met.D.Disk.reads_as d f tells le) c.args.era.now c.args.spaces c.args.to (map change_of c.args.changes.now) c.args.self.now c.advance_all.new.self
    moved.others moved.as_many moved.beyond moved.works opened at enough stands goes c.in_ok-advance_all.ensures.advanced c.next.new.self.number c.next.ensures.number

pub returns-clause-goes : goal.returns-clause-goes
returns-clause-goes g c tells = goes_from g.D.Disk c.args.era.now.number c.next.new.self.number c.args.self.now c.advance_all.new.self c.args.spaces c.args.to
    (map change_of c.args.changes.now) _ (returns-clause-goes_on g c tells)

pub returns-in_err-advance_all-clause-made : goal.returns-in_err-advance_all-clause-made
returns-in_err-advance_all-clause-made g c =
    moved_made g.D.Disk c.args.era.now c.args.spaces c.args.to (map change_of c.args.changes.now) c.args.self.now c.advance_all.new.self c.advance_all.ensures.moved

pub returns-clause-made : goal.returns-clause-made
returns-clause-made g c =
    moved_made g.D.Disk c.args.era.now c.args.spaces c.args.to (map change_of c.args.changes.now) c.args.self.now c.advance_all.new.self c.advance_all.ensures.moved

pub returns-in_err-advance_all-clause-later : goal.returns-in_err-advance_all-clause-later
returns-in_err-advance_all-clause-later g c =
    moved_later g.D.Disk c.args.era.now c.args.spaces c.args.to (map change_of c.args.changes.now) c.args.self.now c.advance_all.new.self c.advance_all.ensures.moved

pub returns-clause-later : goal.returns-clause-later
returns-clause-later g c =
    moved_later g.D.Disk c.args.era.now c.args.spaces c.args.to (map change_of c.args.changes.now) c.args.self.now c.advance_all.new.self c.advance_all.ensures.moved

pub returns-in_err-advance_all-clause-may : goal.returns-in_err-advance_all-clause-may
returns-in_err-advance_all-clause-may g c =
    moved_may g.D.Disk c.args.era.now c.args.spaces c.args.to (map change_of c.args.changes.now) c.args.self.now c.advance_all.new.self c.advance_all.ensures.moved c.requires.may

pub returns-clause-may : goal.returns-clause-may
returns-clause-may g c =
    may_later g.D.Disk c.args.era.now c.next.new.self c.advance_all.new.self (omega (arith, c.next.ensures.number)) c.next.ensures.key
    (moved_may g.D.Disk c.args.era.now c.args.spaces c.args.to (map change_of c.args.changes.now) c.args.self.now c.advance_all.new.self c.advance_all.ensures.moved c.requires.may)

pub returns-clause-opened : goal.returns-clause-opened
returns-clause-opened g c =
    moved_opened g.D.Disk c.args.era.now c.args.spaces c.args.to (map change_of c.args.changes.now) c.args.self.now c.advance_all.new.self c.advance_all.ensures.moved
    c.in_ok-advance_all.ensures.advanced c.requires.opened

pub returns-in_err-advance_all-clause-failed : goal.returns-in_err-advance_all-clause-failed
returns-in_err-advance_all-clause-failed g c name is =
    let p = err_from_is_err_and c.from_residual.result c.from_residual.ensures.1 in
    let fault = c.in_err-advance_all.field-0.0 in
    let rose = lane_fails g.D.Disk c.args.spaces c.args.self.now.lanes.items c.advance_all.new.self.lanes.items fault c.in_err-advance_all.ensures.failed in
    moved_rose g.D.Disk c.args.era.now c.args.spaces c.args.to (map change_of c.args.changes.now) c.args.self.now c.advance_all.new.self c.advance_all.ensures.moved name c.requires.opened.enough
    (subst (FailsOnLane g.D.Disk c.args.spaces c.args.self.now.lanes.items c.advance_all.new.self.lanes.items) (same_fault c.from_residual.result p.0 (of_lanes [] fault) _ p.1 p.2 is) rose)
