use Rattle.std.specs.Prelude.{length}
use Rattle.std.proofs.Common.{arith, sym, ap, ◌∙◌, subst}
use Rattle.log_files.specs.declared.room.Room.TheVariants.{Next}
use Rattle.std.proofs.lemmas.List.{length-map}
use Rattle.log_record.specs.Entry.{entry_of, history_of}
use Rattle.site_disk.specs.CallsLaws.{on_ok}
use Rattle.site_core.specs.Opened.{IsOpenSite}
use Rattle.site_courses.specs.Appending.{fits, wants_next}
use Rattle.site_model.specs.declared.disk_name.DiskName.TheVariants.{Log}
use Rattle.ring_laws.specs.RoomLaws.{room_in}
use Rattle.site_core.specs.BatchLaws.{append_behind, append_by, full_by, made_behind, opened_behind}
use Rattle.site_core.specs.Disks.{MayUseAll}
use Rattle.site_core.specs.Faults.{fault_of}
use Rattle.site_core.specs.Made.{IsMadeSite}
use Rattle.site_core.specs.FrameLaws.{may_later, may_behind}
use Rattle.site_core.proofs.site.Site.append.Goals as goal

pub append_fitting-requires-clause-era : goal.append_fitting-requires-clause-era
append_fitting-requires-clause-era g c = c.requires.may Log

pub append_to_next-requires-clause-era : goal.append_to_next-requires-clause-era
append_to_next-requires-clause-era g c = c.requires.may Log

pub returns-in-Fits-clause-call : goal.returns-in-Fits-clause-call
returns-in-Fits-clause-call g c tells =
    let batch = c.args.batch.now in
    append_by g.D.Disk c.args.era.now.number c.args.self.now (length c.args.head.now.spaces.items) (history_of batch) c.args.low (length batch) (length-map batch entry_of) c.requires.some c.requires.few
    c.room.result c.room.ensures.room 2 c.append_fitting.new.era.number c.append_fitting.new.self (fault_of c.append_fitting.result) fits (ap room_in c.in-Fits.is) (omega arith) (c.append_fitting.ensures.appends tells)

pub returns-in-Fits-clause-may : goal.returns-in-Fits-clause-may
returns-in-Fits-clause-may g c =
    let spends = c.append_fitting.ensures.ledger in
    subst (MayUseAll g.D.Disk c.append_fitting.new.era) (sym c.append_fitting.ensures.others)
    (may_behind g.D.Disk c.args.self.now c.append_fitting.new.self.log c.append_fitting.new.era spends.may
    (may_later g.D.Disk c.args.era.now c.append_fitting.new.era c.args.self.now spends.eras spends.same_key c.requires.may))

pub returns-in-Next-None-clause-call : goal.returns-in-Next-None-clause-call
returns-in-Next-None-clause-call g c tells =
    let batch = c.args.batch.now in
    append_by g.D.Disk c.args.era.now.number c.args.self.now (length c.args.head.now.spaces.items) (history_of batch) c.args.low (length batch) (length-map batch entry_of) c.requires.some c.requires.few
    c.room.result c.room.ensures.room 2 c.append_to_next.new.era.number c.append_to_next.new.self (fault_of c.append_to_next.result) wants_next (ap room_in (c.in-Next-None.is ∙ ap Next c.in-Next-None.drops-is)) (omega arith) (c.append_to_next.ensures.appends tells)

pub returns-in-Next-None-clause-may : goal.returns-in-Next-None-clause-may
returns-in-Next-None-clause-may g c =
    let spends = c.append_to_next.ensures.ledger in
    subst (MayUseAll g.D.Disk c.append_to_next.new.era) (sym c.append_to_next.ensures.others)
    (may_behind g.D.Disk c.args.self.now c.append_to_next.new.self.log c.append_to_next.new.era spends.may
    (may_later g.D.Disk c.args.era.now c.append_to_next.new.era c.args.self.now spends.eras spends.same_key c.requires.may))

pub returns-in-Next-None-clause-opened : goal.returns-in-Next-None-clause-opened
returns-in-Next-None-clause-opened g c =
    let count = length c.args.head.now.spaces.items in
    on_ok c.append_to_next.result
    (λ is. subst (IsOpenSite count) (sym c.append_to_next.ensures.others) (opened_behind count c.args.self.now c.append_to_next.new.self.log c.requires.opened is))
    c.append_to_next.ensures.opened

pub returns-in-Next-Some-clause-call : goal.returns-in-Next-Some-clause-call
returns-in-Next-Some-clause-call g c tells =
    let batch = c.args.batch.now in
    append_behind g.D.Disk c.args.era.now.number c.args.self.now (length c.args.head.now.spaces.items) (history_of batch) c.args.low (length batch) (length-map batch entry_of) c.requires.some c.requires.few
    c.room.result c.room.ensures.room c.append_behind_drop.new.era.number c.append_behind_drop.new.self (fault_of c.append_behind_drop.result) (ap room_in (c.in-Next-Some.is ∙ ap Next c.in-Next-Some.drops-is)) (c.append_behind_drop.ensures.call tells)

pub returns-in-Full-clause-call : goal.returns-in-Full-clause-call
returns-in-Full-clause-call g c tells =
    let batch = c.args.batch.now in
    full_by g.D.Disk c.args.era.now.number c.args.self.now (length c.args.head.now.spaces.items) (history_of batch) c.args.low (length batch) (length-map batch entry_of) c.requires.some c.requires.few
    c.room.result c.room.ensures.room c.in-Full.why c.in-Full.is

pub returns-in-Next-None-clause-made : goal.returns-in-Next-None-clause-made
returns-in-Next-None-clause-made g c is =
    subst IsMadeSite (sym c.append_to_next.ensures.others) (made_behind c.args.self.now c.append_to_next.new.self.log is c.append_to_next.ensures.made)
