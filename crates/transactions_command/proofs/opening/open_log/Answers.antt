use Rattle.std.proofs.Common.{◌≡◌, ◌∙◌, ◌+◌, List, ◌∷◌, ℕ, None, inl, inr, ⊎_elim, sym, ap, subst, arith}
use Rattle.std.proofs.lemmas.Result.{err_from_is_err_and}
use Rattle.course_laws.specs.AppendingLaws.{active_none}
use Rattle.site_headers.specs.Views.{head_of}
use Rattle.site_model.specs.declared.disk_name.DiskName.TheVariants.{Log}
use Rattle.site_courses.specs.Courses.{if_active, if_log_lost}
use Rattle.site_courses.specs.Faults.{Fault}
use Rattle.site_layouts.specs.Stages.{ShowsHeld}
use Rattle.std.specs.Prelude.{Option, Err}
use Rattle.site_core.specs.declared.faults.SiteFault.{SiteFault}
use Rattle.site_core.specs.declared.faults.SiteFault.TheVariants.{DiskFault}
use Rattle.site_core.proofs.FaultLemmas.{same_fault}
use Rattle.std.specs.Option.{option_or}
use Rattle.boot_file.specs.Boots.{restore_in}
use Rattle.site_openings.specs.Openings.{Allows, AllowedBy, Contents_of, Named, RefusedBy, Refuses, no_restore}
use Rattle.site_core.specs.Disks.{contents_of}
use Rattle.site_core.specs.Faults.{status_in}
use Rattle.site_opening.specs.Opens.{log_checks, store_checks}
use Rattle.site_openings.proofs.CheckLemmas.{allowed_both, never_both, refused_behind, refused_front}
use Rattle.transactions_command.specs.Entering.{site_checks}
use Rattle.transactions_command.proofs.CheckLemmas.{failure_or, not_disk, quiet_again, restoring_refuses, same_contents, unready_lost}
use Rattle.transactions_command.proofs.opening.open_log.Goals as goal

pub returns-in_err-head-clause-answers : goal.returns-in_err-head-clause-answers
returns-in_err-head-clause-answers g c tells =
    let p = err_from_is_err_and c.from_residual.result c.from_residual.ensures.1 in
    let fault = c.in_err-head.field-0.0 in
    let contents = contents_of g.D.Disk c.args.site.now in
    rw (p.1, p.2) (⊎_elim (λ failed. inl failed) (λ is. inr (refused_front contents store_checks (no_restore ∷ log_checks) (status_in fault) is)) (c.in_err-head.ensures.answers tells))

pub returns-in_err-if_restoring-clause-finds : goal.returns-in_err-if_restoring-clause-finds
returns-in_err-if_restoring-clause-finds g c tells at fit shown =
    let p = err_from_is_err_and c.from_residual-in_err-if_restoring.result c.from_residual-in_err-if_restoring.ensures.1 in
    let site = c.in_ok-head.ensures.stands tells at fit (λ name le. shown name (omega (arith, le))) in
    rw (p.1, p.2) (inr (ap (λ (o : Option Fault). option_or o (if_log_lost at.site)) (sym (c.in_err-if_restoring.ensures.stands (c.args.era.now.number + 1) at site.1))))

pub returns-in_err-if_restoring-clause-answers : goal.returns-in_err-if_restoring-clause-answers
returns-in_err-if_restoring-clause-answers g c tells =
    let p = err_from_is_err_and c.from_residual-in_err-if_restoring.result c.from_residual-in_err-if_restoring.ensures.1 in
    let fault = c.in_err-if_restoring.field-0.0 in
    let contents = contents_of g.D.Disk c.args.site.now in
    let same : contents_of g.D.Disk c.open_site.new.site ≡ contents = same_contents _ _ c.in_ok-head.ensures.same in
    let head = head_of c.in_ok-head.head in
    let first = c.in_ok-head.ensures.answers tells in
    let named = subst (Named head) (sym same) first.1 in
    rw (p.1, p.2) (inr (refused_behind contents store_checks (no_restore ∷ log_checks) (status_in fault) first.0
    (inl (subst (λ (c : Contents_of). Refuses no_restore c (status_in fault)) same (c.in_err-if_restoring.ensures.answers head named (c.in_ok-head.ensures.told tells))))))

pub returns-in_err-if_restoring-clause-answered : goal.returns-in_err-if_restoring-clause-answered
returns-in_err-if_restoring-clause-answered g c =
    let p = err_from_is_err_and c.from_residual-in_err-if_restoring.result c.from_residual-in_err-if_restoring.ensures.1 in
    rw (p.1, p.2) (inr (restoring_refuses (restore_in c.open_site.new.site.boot) c.in_err-if_restoring.field-0.0 c.in_err-if_restoring.ensures.told).0)

pub returns-in_err-if_restoring-clause-failed : goal.returns-in_err-if_restoring-clause-failed
returns-in_err-if_restoring-clause-failed g c name =
    let p = err_from_is_err_and c.from_residual-in_err-if_restoring.result c.from_residual-in_err-if_restoring.ensures.1 in
    (λ is. absurd (not_disk c.from_residual-in_err-if_restoring.result p.0 c.in_err-if_restoring.field-0.0 name p.1 p.2
    (restoring_refuses (restore_in c.open_site.new.site.boot) c.in_err-if_restoring.field-0.0 c.in_err-if_restoring.ensures.told).1 is))

pub returns-in_err-table-clause-finds : goal.returns-in_err-table-clause-finds
returns-in_err-table-clause-finds g c tells at fit shown =
    let p = err_from_is_err_and c.from_residual-in_err-table.result c.from_residual-in_err-table.ensures.1 in
    let site = c.in_ok-head.ensures.stands tells at fit (λ name le. shown name (omega (arith, le))) in
    let none : None ≡ if_active at.site = c.in_ok-if_restoring.ensures.stands (c.args.era.now.number + 1) at site.1 in
    let log = subst (λ (bytes : List ℕ). ShowsHeld Log at bytes) (sym (c.in_ok-head.ensures.same Log)) (shown Log (omega arith)) in
    rw (p.1, p.2) (⊎_elim (λ failed. inl failed) (λ lost. inr (unready_lost at.site c.in_err-table.field-0.0 none lost.0 lost.1))
    (c.in_err-table.ensures.stands tells at site.1 site.0 log))

pub returns-in_err-table-clause-answers : goal.returns-in_err-table-clause-answers
returns-in_err-table-clause-answers g c tells =
    let p = err_from_is_err_and c.from_residual-in_err-table.result c.from_residual-in_err-table.ensures.1 in
    let fault = c.in_err-table.field-0.0 in
    let contents = contents_of g.D.Disk c.args.site.now in
    let same : contents_of g.D.Disk c.open_site.new.site ≡ contents = same_contents _ _ c.in_ok-head.ensures.same in
    let head = head_of c.in_ok-head.head in
    let first = c.in_ok-head.ensures.answers tells in
    let named = subst (Named head) (sym same) first.1 in
    let none = subst (Allows no_restore) same (c.in_ok-if_restoring.ensures.answers head named (c.in_ok-head.ensures.told tells)) in
    rw (p.1, p.2) (⊎_elim (λ failed. inl failed) (λ is. inr (refused_behind contents store_checks (no_restore ∷ log_checks) (status_in fault) first.0
    (inr (none, subst (λ (c : Contents_of). RefusedBy log_checks c (status_in fault)) same is)))) (c.in_err-table.ensures.answers tells named))

pub returns-in_err-table-clause-quiet : goal.returns-in_err-table-clause-quiet
returns-in_err-table-clause-quiet g c =
    quiet_again g.D.Disk c.args.site.now c.open_site.new.site c.open_site_log.new.site c.in_ok-head.ensures.reads.quiet c.in_err-table.ensures.reads.quiet

pub returns-in_err-table-clause-kept : goal.returns-in_err-table-clause-kept
returns-in_err-table-clause-kept g c =
    let p = err_from_is_err_and c.from_residual-in_err-table.result c.from_residual-in_err-table.ensures.1 in
    rw (p.1, p.2) (⊎_elim (λ failed. inl failed) (λ isnt. inr (λ name. c.in_err-table.ensures.refused_same isnt name ∙ c.in_ok-head.ensures.same name))
    (failure_or c.in_err-table.field-0.0))

pub returns-in_err-table-clause-failed : goal.returns-in_err-table-clause-failed
returns-in_err-table-clause-failed g c name is =
    let p = err_from_is_err_and c.from_residual-in_err-table.result c.from_residual-in_err-table.ensures.1 in
    let given : c.in_err-table.field-0.0 ≡ DiskFault name = same_fault c.from_residual-in_err-table.result p.0 c.in_err-table.field-0.0 (DiskFault name) p.1 p.2 is in
    omega (arith, c.in_ok-head.ensures.reads.later name, c.in_err-table.ensures.failed name (ap (λ (f : SiteFault). Err f) given))

pub returns-clause-finds : goal.returns-clause-finds
returns-clause-finds g c tells at fit shown =
    let site = c.in_ok-head.ensures.stands tells at fit (λ name le. shown name (omega (arith, le))) in
    let none : None ≡ if_active at.site = c.in_ok-if_restoring.ensures.stands (c.args.era.now.number + 1) at site.1 in
    let log = subst (λ (bytes : List ℕ). ShowsHeld Log at bytes) (sym (c.in_ok-head.ensures.same Log)) (shown Log (omega arith)) in record {
      head_is = site.0;
      none = active_none at.site.active (sym none);
      found = c.in_ok-table.ensures.stands tells at site.1 site.0 log;
    }

pub returns-clause-answers : goal.returns-clause-answers
returns-clause-answers g c tells =
    let contents = contents_of g.D.Disk c.args.site.now in
    let same : contents_of g.D.Disk c.open_site.new.site ≡ contents = same_contents _ _ c.in_ok-head.ensures.same in
    let head = head_of c.in_ok-head.head in
    let first = c.in_ok-head.ensures.answers tells in
    let named = subst (Named head) (sym same) first.1 in
    let none = subst (Allows no_restore) same (c.in_ok-if_restoring.ensures.answers head named (c.in_ok-head.ensures.told tells)) in (
      allowed_both contents store_checks (no_restore ∷ log_checks) first.0 (none, subst (AllowedBy log_checks) same (c.in_ok-table.ensures.answers tells named)),
      first.1,
    )

pub returns-clause-refuses : goal.returns-clause-refuses
returns-clause-refuses g c tells status refused =
    absurd (never_both (contents_of g.D.Disk c.args.site.now) site_checks status (returns-clause-answers g c tells).0 refused)

pub returns-clause-quiet : goal.returns-clause-quiet
returns-clause-quiet g c =
    quiet_again g.D.Disk c.args.site.now c.open_site.new.site c.open_site_log.new.site c.in_ok-head.ensures.reads.quiet c.in_ok-table.ensures.reads.quiet
