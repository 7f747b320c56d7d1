use Rattle.std.proofs.Common.{◌≡◌, ◌∙◌, ◌+◌, List, ◌∷◌, ℕ, None, inl, inr, ⊎_elim, sym, ap, subst, arith}
use Rattle.std.proofs.lemmas.Result.{err_from_is_err_and}
use Rattle.course_laws.specs.AppendingLaws.{active_none}
use Rattle.site_headers.specs.Views.{head_of}
use Rattle.site_model.specs.declared.disk_name.DiskName.TheVariants.{Log}
use Rattle.site_courses.specs.Courses.{if_active}
use Rattle.site_layouts.specs.Stages.{ShowsHeld}
use Rattle.boot_file.specs.Boots.{restore_in}
use Rattle.onbar_grammar.specs.Script.{place_of}
use Rattle.site_headers.specs.Heads.{Head}
use Rattle.show_command.specs.Showing.{IsPlacedAt, IsUnplaced}
use Rattle.site_openings.specs.Openings.{shown_place, Allows, AllowedBy, Contents_of, Named, RefusedBy, Refuses, no_restore}
use Rattle.std.specs.Prelude.{Err}
use Rattle.site_core.specs.declared.faults.SiteFault.{SiteFault}
use Rattle.site_core.specs.declared.faults.SiteFault.TheVariants.{DiskFault as SiteDiskFault}
use Rattle.site_core.specs.Disks.{contents_of}
use Rattle.site_core.specs.Faults.{status_in}
use Rattle.site_opening.specs.Opens.{log_checks, store_checks}
use Rattle.show_command.proofs.CheckLemmas.{one_fault, place_allows, place_apart, place_refuses, unready_active, unready_place, allowed_both, failure_or, not_disk, quiet_again, refused_behind, refused_front, refused_split, restore_apart, restoring_refuses, same_contents, unready_lost}
use Rattle.show_command.proofs.opening.open_log.Goals as goal

pub returns-in_err-head-clause-answers : goal.returns-in_err-head-clause-answers
returns-in_err-head-clause-answers g c tells =
    let p = err_from_is_err_and c.from_residual.result c.from_residual.ensures.1 in
    let fault = c.in_err-head.field-0.0 in
    let contents = contents_of g.D.Disk c.args.site.now in
    rw (p.1, p.2) (⊎_elim (λ failed. inl failed) (λ is. inr (refused_front contents (status_in fault) store_checks (no_restore ∷ shown_place c.args.name.now c.args.page ∷ log_checks) is)) (c.in_err-head.ensures.answers tells))

pub returns-in_err-if_restoring-clause-finds : goal.returns-in_err-if_restoring-clause-finds
returns-in_err-if_restoring-clause-finds g c tells at fit shown =
    let p = err_from_is_err_and c.from_residual-in_err-if_restoring.result c.from_residual-in_err-if_restoring.ensures.1 in
    let site = c.in_ok-head.ensures.stands tells at fit (λ name le. shown name (omega (arith, le))) in
    rw (p.1, p.2) (inr (unready_active c.args.name.now c.args.page at.site c.in_err-if_restoring.field-0.0 (c.in_err-if_restoring.ensures.stands (c.args.era.now.number + 1) at site.1)))

pub returns-in_err-if_restoring-clause-answers : goal.returns-in_err-if_restoring-clause-answers
returns-in_err-if_restoring-clause-answers g c tells =
    let p = err_from_is_err_and c.from_residual-in_err-if_restoring.result c.from_residual-in_err-if_restoring.ensures.1 in
    let fault = c.in_err-if_restoring.field-0.0 in
    let contents = contents_of g.D.Disk c.args.site.now in
    let same : contents_of g.D.Disk c.open_site.new.site ≡ contents = same_contents _ _ c.in_ok-head.ensures.same in
    let head = head_of c.in_ok-head.head in
    let first = c.in_ok-head.ensures.answers tells in
    let named = subst (Named head) (sym same) first.1 in
    rw (p.1, p.2) (inr (refused_behind contents (status_in fault) store_checks (no_restore ∷ shown_place c.args.name.now c.args.page ∷ log_checks) first.0
    (inl (subst (λ (c : Contents_of). Refuses no_restore c (status_in fault)) same (c.in_err-if_restoring.ensures.answers head named (c.in_ok-head.ensures.told tells))))))

pub returns-in_err-if_restoring-clause-answered : goal.returns-in_err-if_restoring-clause-answered
returns-in_err-if_restoring-clause-answered g c =
    let p = err_from_is_err_and c.from_residual-in_err-if_restoring.result c.from_residual-in_err-if_restoring.ensures.1 in
    rw (p.1, p.2) (inr (restoring_refuses (restore_in c.open_site.new.site.boot) c.in_err-if_restoring.field-0.0 c.in_err-if_restoring.ensures.told).0)

pub returns-in_err-if_restoring-clause-failed : goal.returns-in_err-if_restoring-clause-failed
returns-in_err-if_restoring-clause-failed g c name =
    let p = err_from_is_err_and c.from_residual-in_err-if_restoring.result c.from_residual-in_err-if_restoring.ensures.1 in
    (λ is. absurd (not_disk c.from_residual-in_err-if_restoring.result p.0 c.in_err-if_restoring.field-0.0 name p.1 p.2
    (restoring_refuses (restore_in c.open_site.new.site.boot) c.in_err-if_restoring.field-0.0 c.in_err-if_restoring.ensures.told).1 is))

pub returns-in_err-place-clause-finds : goal.returns-in_err-place-clause-finds
returns-in_err-place-clause-finds g c tells at fit shown =
    let p = err_from_is_err_and c.from_residual-in_err-place.result c.from_residual-in_err-place.ensures.1 in
    let site = c.in_ok-head.ensures.stands tells at fit (λ name le. shown name (omega (arith, le))) in
    let none : None ≡ if_active at.site = c.in_ok-if_restoring.ensures.stands (c.args.era.now.number + 1) at site.1 in
    rw (p.1, p.2) (inr (unready_place c.args.name.now c.args.page at.site c.in_err-place.field-0.0 none
    (subst (λ (h : Head). IsUnplaced c.args.name.now c.args.page (place_of c.args.name.now h.spaces) c.in_err-place.field-0.0) site.0 c.in_err-place.ensures)))

pub returns-in_err-place-clause-answers : goal.returns-in_err-place-clause-answers
returns-in_err-place-clause-answers g c tells =
    let p = err_from_is_err_and c.from_residual-in_err-place.result c.from_residual-in_err-place.ensures.1 in
    let fault = c.in_err-place.field-0.0 in
    let contents = contents_of g.D.Disk c.args.site.now in
    let same : contents_of g.D.Disk c.open_site.new.site ≡ contents = same_contents _ _ c.in_ok-head.ensures.same in
    let head = head_of c.in_ok-head.head in
    let first = c.in_ok-head.ensures.answers tells in
    let named = subst (Named head) (sym same) first.1 in
    let none = subst (Allows no_restore) same (c.in_ok-if_restoring.ensures.answers head named (c.in_ok-head.ensures.told tells)) in
    rw (p.1, p.2) (inr (refused_behind contents (status_in fault) store_checks (no_restore ∷ shown_place c.args.name.now c.args.page ∷ log_checks) first.0
    (inr (none, inl (place_refuses c.args.name.now c.args.page head fault contents first.1 c.in_err-place.ensures)))))

pub returns-in_err-open_site_log-clause-finds : goal.returns-in_err-open_site_log-clause-finds
returns-in_err-open_site_log-clause-finds g c tells at fit shown =
    let p = err_from_is_err_and c.from_residual-in_err-open_site_log.result c.from_residual-in_err-open_site_log.ensures.1 in
    let site = c.in_ok-head.ensures.stands tells at fit (λ name le. shown name (omega (arith, le))) in
    let none : None ≡ if_active at.site = c.in_ok-if_restoring.ensures.stands (c.args.era.now.number + 1) at site.1 in
    let log = subst (λ (bytes : List ℕ). ShowsHeld Log at bytes) (sym (c.in_ok-head.ensures.same Log)) (shown Log (omega arith)) in
    rw (p.1, p.2) (⊎_elim (λ failed. inl failed) (λ lost. inr (unready_lost c.args.name.now c.args.page at.site c.in_ok-place.place c.in_err-open_site_log.field-0.0 none
    (subst (λ (h : Head). IsPlacedAt c.args.name.now c.args.page (place_of c.args.name.now h.spaces) c.in_ok-place.place) site.0 c.in_ok-place.ensures) lost.0 lost.1))
    (c.in_err-open_site_log.ensures.stands tells at site.1 site.0 log))

pub returns-in_err-open_site_log-clause-answers : goal.returns-in_err-open_site_log-clause-answers
returns-in_err-open_site_log-clause-answers g c tells =
    let p = err_from_is_err_and c.from_residual-in_err-open_site_log.result c.from_residual-in_err-open_site_log.ensures.1 in
    let fault = c.in_err-open_site_log.field-0.0 in
    let contents = contents_of g.D.Disk c.args.site.now in
    let same : contents_of g.D.Disk c.open_site.new.site ≡ contents = same_contents _ _ c.in_ok-head.ensures.same in
    let head = head_of c.in_ok-head.head in
    let first = c.in_ok-head.ensures.answers tells in
    let named = subst (Named head) (sym same) first.1 in
    let none = subst (Allows no_restore) same (c.in_ok-if_restoring.ensures.answers head named (c.in_ok-head.ensures.told tells)) in
    rw (p.1, p.2) (⊎_elim (λ failed. inl failed) (λ is. inr (refused_behind contents (status_in fault) store_checks (no_restore ∷ shown_place c.args.name.now c.args.page ∷ log_checks) first.0
    (inr (
      none,
      inr (
        place_allows c.args.name.now c.args.page head c.in_ok-place.place contents first.1 c.in_ok-place.ensures,
        subst (λ (c : Contents_of). RefusedBy log_checks c (status_in fault)) same is,
      ),
    )))) (c.in_err-open_site_log.ensures.answers tells named))

pub returns-in_err-open_site_log-clause-quiet : goal.returns-in_err-open_site_log-clause-quiet
returns-in_err-open_site_log-clause-quiet g c =
    quiet_again g.D.Disk c.args.site.now c.open_site.new.site c.open_site_log.new.site c.in_ok-head.ensures.reads.quiet c.in_err-open_site_log.ensures.reads.quiet

pub returns-in_err-open_site_log-clause-kept : goal.returns-in_err-open_site_log-clause-kept
returns-in_err-open_site_log-clause-kept g c =
    let p = err_from_is_err_and c.from_residual-in_err-open_site_log.result c.from_residual-in_err-open_site_log.ensures.1 in
    rw (p.1, p.2) (⊎_elim (λ failed. inl failed) (λ isnt. inr (λ name. c.in_err-open_site_log.ensures.refused_same isnt name ∙ c.in_ok-head.ensures.same name))
    (failure_or c.in_err-open_site_log.field-0.0))

pub returns-clause-finds : goal.returns-clause-finds
returns-clause-finds g c tells at fit shown =
    let site = c.in_ok-head.ensures.stands tells at fit (λ name le. shown name (omega (arith, le))) in
    let none : None ≡ if_active at.site = c.in_ok-if_restoring.ensures.stands (c.args.era.now.number + 1) at site.1 in
    let log = subst (λ (bytes : List ℕ). ShowsHeld Log at bytes) (sym (c.in_ok-head.ensures.same Log)) (shown Log (omega arith)) in record {
      head_is = site.0;
      none = active_none at.site.active (sym none);
      placed = subst (λ (h : Head). IsPlacedAt c.args.name.now c.args.page (place_of c.args.name.now h.spaces) c.in_ok-place.place) site.0 c.in_ok-place.ensures;
      has = (c.in_ok-open_site_log.ensures.stands tells at site.1 site.0 log).has;
      stands = (c.in_ok-open_site_log.ensures.stands tells at site.1 site.0 log).stands;
    }

pub returns-clause-answers : goal.returns-clause-answers
returns-clause-answers g c tells =
    let contents = contents_of g.D.Disk c.args.site.now in
    let same : contents_of g.D.Disk c.open_site.new.site ≡ contents = same_contents _ _ c.in_ok-head.ensures.same in
    let head = head_of c.in_ok-head.head in
    let first = c.in_ok-head.ensures.answers tells in
    let named = subst (Named head) (sym same) first.1 in
    let none = subst (Allows no_restore) same (c.in_ok-if_restoring.ensures.answers head named (c.in_ok-head.ensures.told tells)) in (
      allowed_both contents store_checks (no_restore ∷ shown_place c.args.name.now c.args.page ∷ log_checks) first.0
          (none, (place_allows c.args.name.now c.args.page head c.in_ok-place.place contents first.1 c.in_ok-place.ensures, subst (AllowedBy log_checks) same (c.in_ok-open_site_log.ensures.answers tells named))),
      first.1,
    )

pub returns-clause-refuses : goal.returns-clause-refuses
returns-clause-refuses g c tells status refused =
    let contents = contents_of g.D.Disk c.args.site.now in
    let same : contents_of g.D.Disk c.open_site.new.site ≡ contents = same_contents _ _ c.in_ok-head.ensures.same in
    let head = head_of c.in_ok-head.head in
    let first = c.in_ok-head.ensures.answers tells in
    let named = subst (Named head) (sym same) first.1 in
    let none = subst (Allows no_restore) same (c.in_ok-if_restoring.ensures.answers head named (c.in_ok-head.ensures.told tells)) in
    ⊎_elim (λ here. absurd (c.in_ok-head.ensures.refuses tells status here)) (λ later. ⊎_elim
    (λ restore. absurd (restore_apart contents status none restore))
    (λ later. ⊎_elim (λ place. absurd (place_apart c.args.name.now c.args.page head c.in_ok-place.place contents first.1 c.in_ok-place.ensures status place))
    (λ log. absurd (c.in_ok-open_site_log.ensures.refuses tells named status (subst (λ (c : Contents_of). RefusedBy log_checks c status) (sym same) log.1))) later.1)
    later.1) (refused_split contents status store_checks (no_restore ∷ shown_place c.args.name.now c.args.page ∷ log_checks) refused)

pub returns-clause-quiet : goal.returns-clause-quiet
returns-clause-quiet g c =
    quiet_again g.D.Disk c.args.site.now c.open_site.new.site c.open_site_log.new.site c.in_ok-head.ensures.reads.quiet c.in_ok-open_site_log.ensures.reads.quiet

pub returns-in_err-open_site_log-clause-later : goal.returns-in_err-open_site_log-clause-later
returns-in_err-open_site_log-clause-later g c name =
    omega (arith, c.in_ok-head.ensures.reads.later name, c.in_err-open_site_log.ensures.reads.later name)

pub returns-in_err-open_site_log-clause-failed : goal.returns-in_err-open_site_log-clause-failed
returns-in_err-open_site_log-clause-failed g c name is =
    let p = err_from_is_err_and c.from_residual-in_err-open_site_log.result c.from_residual-in_err-open_site_log.ensures.1 in
    let given : c.in_err-open_site_log.field-0.0 ≡ SiteDiskFault name = one_fault c.from_residual-in_err-open_site_log.result p.0 c.in_err-open_site_log.field-0.0 (SiteDiskFault name) p.1 p.2 is in
    omega (arith, c.in_ok-head.ensures.reads.later name, c.in_err-open_site_log.ensures.failed name (ap (λ (f : SiteFault). Err f) given))

pub returns-clause-later : goal.returns-clause-later
returns-clause-later g c name =
    omega (arith, c.in_ok-head.ensures.reads.later name, c.in_ok-open_site_log.ensures.reads.later name)

pub returns-clause-same : goal.returns-clause-same
returns-clause-same g c name = c.in_ok-open_site_log.ensures.same name ∙ c.in_ok-head.ensures.same name
