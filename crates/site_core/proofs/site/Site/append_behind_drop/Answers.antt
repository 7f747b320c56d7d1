use Rattle.std.proofs.Common.{sym, subst}
use Rattle.std.proofs.lemmas.Result.{err_from_is_err_and}
use Rattle.site_disk.specs.CallsLaws.{on_ok}
use Rattle.site_model.specs.declared.disk_name.DiskName.TheVariants.{Log}
use Rattle.site_core.specs.Disks.{MayUseAll}
use Rattle.site_core.specs.FrameLaws.{may_behind, may_later}
use Rattle.site_core.specs.Made.{IsMadeSite}
use Rattle.site_core.specs.Opened.{IsOpenSite}
use Rattle.log_record.specs.Entry.{history_of}
use Rattle.std.specs.Prelude.{length}
use Rattle.site_core.specs.BatchLaws.{drop_ends, drop_fails, made_behind, opened_behind}
use Rattle.site_core.specs.Faults.{fault_of}
use Rattle.site_core.specs.Layers.{layers}
use Rattle.site_core.proofs.site.Site.append_behind_drop.Goals as goal

pub returns-in_err-checkpoint-clause-call : goal.returns-in_err-checkpoint-clause-call
returns-in_err-checkpoint-clause-call g c tells =
    let fault = c.in_err-checkpoint.field-0.0 in
    let p = err_from_is_err_and c.from_residual.result c.from_residual.ensures.1 in
    drop_fails (layers g.D.Disk) (length c.args.head.now.spaces.items) (history_of c.args.batch.now) c.args.era.now.number c.checkpoint.new.era.number c.args.self.now c.checkpoint.new.self
    fault c.from_residual.result p.0 p.1 p.2 (c.in_err-checkpoint.ensures.call tells)

pub returns-clause-call : goal.returns-clause-call
returns-clause-call g c tells =
    drop_ends (layers g.D.Disk) (length c.args.head.now.spaces.items) (history_of c.args.batch.now) c.args.era.now.number c.checkpoint.new.era.number c.args.self.now c.checkpoint.new.self
    c.put_in_next.new.era.number c.put_in_next.new.self (fault_of c.put_in_next.result)
    (c.in_ok-checkpoint.ensures.call tells) (c.put_in_next.ensures.appends tells)

pub put_in_next-requires-clause-era : goal.put_in_next-requires-clause-era
put_in_next-requires-clause-era g c = c.checkpoint.ensures.may Log

pub returns-clause-opened : goal.returns-clause-opened
returns-clause-opened g c =
    let count = length c.args.head.now.spaces.items in
    on_ok c.put_in_next.result
    (λ is. subst (IsOpenSite count) (sym c.put_in_next.ensures.others) (opened_behind count c.checkpoint.new.self c.put_in_next.new.self.log c.in_ok-checkpoint.ensures.opened is))
    c.put_in_next.ensures.opened

pub returns-clause-made : goal.returns-clause-made
returns-clause-made g c is =
    subst IsMadeSite (sym c.put_in_next.ensures.others) (made_behind c.checkpoint.new.self c.put_in_next.new.self.log (c.checkpoint.ensures.made is) c.put_in_next.ensures.made)

pub returns-clause-may : goal.returns-clause-may
returns-clause-may g c =
    let spends = c.put_in_next.ensures.ledger in
    subst (MayUseAll g.D.Disk c.put_in_next.new.era) (sym c.put_in_next.ensures.others)
    (may_behind g.D.Disk c.checkpoint.new.self c.put_in_next.new.self.log c.put_in_next.new.era spends.may
    (may_later g.D.Disk c.checkpoint.new.era c.put_in_next.new.era c.checkpoint.new.self spends.eras spends.same_key c.checkpoint.ensures.may))
