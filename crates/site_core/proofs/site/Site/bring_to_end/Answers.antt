use Rattle.std.proofs.Common.{◌≡◌, List, length, map, Err, sym, ap, subst, arith, ◌∙◌}
use Rattle.std.proofs.lemmas.List.{length-map}
use Rattle.std.proofs.lemmas.Result.{err_from_is_err_and}
use Rattle.txn_table.specs.Table.{change_of}
use Rattle.txn_table.specs.declared.changes.Change.{Change}
use Rattle.log_files.specs.Files.{end_of}
use Rattle.held_log.specs.Logs.{AreChanges}
use Rattle.site_disk.specs.Causes.{Rose}
use Rattle.site_disk.specs.CallsLaws.{may_use_again}
use Rattle.held_log.specs.declared.faults.HeldFault.{HeldFault}
use Rattle.logical_log.specs.Rings.{TellsOf}
use Rattle.site_model.specs.declared.disk_name.DiskName.{DiskName}
use Rattle.site_model.specs.declared.disk_name.DiskName.TheVariants.{Log}
use Rattle.site_core.specs.declared.site.Site.{Site}
use Rattle.site_core.specs.BatchLaws.{made_behind}
use Rattle.site_core.specs.Checkpoints.{IsCheckpointFault, of_held}
use Rattle.site_core.specs.Disks.{faults_on}
use Rattle.site_core.specs.Faults.{fault_of}
use Rattle.site_core.specs.FrameLaws.{faults_behind, may_behind}
use Rattle.site_core.specs.Going.{FailsOnLane}
use Rattle.site_core.proofs.CheckpointLemmas.{brings, reading_fails}
use Rattle.site_core.proofs.FaultLemmas.{each_err, held_checks, held_names, lane_checks, rose_later, same_fault}
use Rattle.site_core.proofs.site.Site.bring_to_end.Goals as goal

pub read_changes-requires-clause-era : goal.read_changes-requires-clause-era
read_changes-requires-clause-era g c = c.requires.may Log

pub returns-in_err-held-clause-call : goal.returns-in_err-held-clause-call
returns-in_err-held-clause-call g c tells =
    let p = err_from_is_err_and c.from_residual.result c.from_residual.ensures.1 in
    reading_fails g.D.Disk (λ d f h b le lt image. g.met.D.Disk.now_counts d f h b le lt image) c.args.era.now c.args.self.now c.read_changes.new.log (c.requires.may Log)
    c.read_changes.ensures.crash c.args.spaces c.from_residual.result p.0 c.in_err-held.field-0.0 p.1 p.2
    (λ site files slot stands is. c.in_err-held.ensures.refused tells site files slot stands (ap (λ (f : HeldFault). Err f) is))

pub returns-in_err-held-clause-only : goal.returns-in_err-held-clause-only
returns-in_err-held-clause-only g c =
    let p = err_from_is_err_and c.from_residual.result c.from_residual.ensures.1 in
    rw (p.1, p.2) (held_checks c.in_err-held.field-0.0)

pub returns-in_err-held-clause-failed : goal.returns-in_err-held-clause-failed
returns-in_err-held-clause-failed g c name is =
    let p = err_from_is_err_and c.from_residual.result c.from_residual.ensures.1 in
    let fault = c.in_err-held.field-0.0 in
    let named = held_names fault name (same_fault c.from_residual.result p.0 (of_held fault) _ p.1 p.2 is) in
    subst (λ (n : DiskName). Rose (faults_on g.D.Disk c.args.self.now n) (faults_on g.D.Disk (record c.args.self.now { log = c.read_changes.new.log }) n)) named.1
    (c.in_err-held.ensures.failed (ap (λ (f : HeldFault). Err f) named.0))

pub returns-in_err-held-clause-made : goal.returns-in_err-held-clause-made
returns-in_err-held-clause-made g c is = made_behind c.args.self.now c.read_changes.new.log is c.read_changes.ensures.opened.made

pub returns-in_err-held-clause-later : goal.returns-in_err-held-clause-later
returns-in_err-held-clause-later g c = faults_behind g.D.Disk c.args.self.now c.read_changes.new.log c.read_changes.ensures.ledger.faults

pub returns-in_err-held-clause-may : goal.returns-in_err-held-clause-may
returns-in_err-held-clause-may g c =
    may_behind g.D.Disk c.args.self.now c.read_changes.new.log c.args.era.now (may_use_again (c.requires.may Log) c.read_changes.ensures.ledger) c.requires.may

pub bring_lanes-requires-clause-may : goal.bring_lanes-requires-clause-may
bring_lanes-requires-clause-may g c =
    may_behind g.D.Disk c.args.self.now c.read_changes.new.log c.args.era.now (may_use_again (c.requires.may Log) c.read_changes.ensures.ledger) c.requires.may

pub bring_lanes-requires-clause-to : goal.bring_lanes-requires-clause-to
bring_lanes-requires-clause-to g c =
    let is = c.requires.opened.log in
    omega (arith, c.end-to.ensures is.files is.tells, is.tells.fits.positions)

pub returns-clause-call : goal.returns-clause-call
returns-clause-call g c tells =
    let told = c.in_ok-held.ensures in
    let read : List Change = c.in_ok-held.held.changes.items in
    let same : c.deref.result.now ≡ read = c.deref.ensures.value in
    brings g.D.Disk (λ d f h b le lt image. g.met.D.Disk.now_counts d f h b le lt image) c.args.era.now c.args.self.now c.read_changes.new.log (c.requires.may Log)
    c.read_changes.ensures.crash c.args.spaces c.read_changes.ensures.ledger.no_later c.read_changes.ensures.opened.made
    (λ site files stands. told.stands tells site files stands) c.end-to.result c.end-to.ensures (map change_of c.deref.result.now)
    (λ site files stands. ap (λ (l : List Change). map change_of l) same ∙ told.changes tells site files stands)
    (λ site files stands. subst (λ (l : List Change). AreChanges (end_of files) (map change_of l)) (sym same) (told.good tells site files stands))
    (λ site files stands. omega (arith, told.few tells site files stands, ap (λ (l : List Change). length l) same, length-map c.deref.result.now change_of))
    c.bring_lanes.new.era.number c.bring_lanes.new.self (fault_of c.bring_lanes.result) (c.bring_lanes.ensures.goes_on tells)

pub returns-clause-only : goal.returns-clause-only
returns-clause-only g c =
    let items = c.args.self.now.lanes.items in
    let moved = c.bring_lanes.new.self.lanes.items in
    each_err (FailsOnLane g.D.Disk c.args.spaces items moved) IsCheckpointFault c.bring_lanes.result (lane_checks g.D.Disk c.args.spaces items moved) c.bring_lanes.ensures.cause

pub returns-clause-failed : goal.returns-clause-failed
returns-clause-failed g c name is =
    rose_later (faults_on g.D.Disk c.args.self.now name) (faults_on g.D.Disk (record c.args.self.now { log = c.read_changes.new.log }) name) (faults_on g.D.Disk c.bring_lanes.new.self name)
    (faults_behind g.D.Disk c.args.self.now c.read_changes.new.log c.read_changes.ensures.ledger.faults name) (c.bring_lanes.ensures.failed name is)

pub returns-clause-told : goal.returns-clause-told
returns-clause-told g c files tells =
    subst (λ (s : Site g.row.D.Denot). TellsOf files s.log) (sym c.bring_lanes.ensures.others) (c.read_changes.ensures.told files tells)

pub returns-clause-made : goal.returns-clause-made
returns-clause-made g c is = c.bring_lanes.ensures.made (made_behind c.args.self.now c.read_changes.new.log is c.read_changes.ensures.opened.made)

pub returns-clause-later : goal.returns-clause-later
returns-clause-later g c name =
    omega (arith, faults_behind g.D.Disk c.args.self.now c.read_changes.new.log c.read_changes.ensures.ledger.faults name, c.bring_lanes.ensures.later name)
