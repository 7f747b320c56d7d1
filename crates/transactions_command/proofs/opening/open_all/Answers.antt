use Rattle.std.proofs.lemmas.Bool.{false≢true}
use Rattle.std.proofs.Common.{◌≡◌, ◌+◌, [], ◌∷◌, ◌++◌, ℕ, None, inl, inr, ⊎_elim, sym, ap, subst, arith}
use Rattle.std.proofs.lemmas.Result.{err_from_is_err_and}
use Rattle.std.specs.Prelude.{Option}
use Rattle.std.specs.Option.{option_or}
use Rattle.site_headers.specs.Heads.{Head}
use Rattle.site_headers.specs.Views.{head_of}
use Rattle.site_courses.specs.Courses.{if_any_lost}
use Rattle.site_courses.specs.Faults.{Fault}
use Rattle.site_layouts.specs.Stages.{StandsFor}
use Rattle.site_openings.specs.Openings.{AllowedBy, Contents_of, Named, RefusedBy, all_lanes}
use Rattle.site_core.specs.Disks.{contents_of}
use Rattle.site_core.specs.Faults.{status_in}
use Rattle.site_core.specs.Layers.{layers}
use Rattle.site_lane_opening.specs.Left.{IsLanesFault, LanesLeft}
use Rattle.site_lane_opening.proofs.EndLemmas.{lanes_named}
use Rattle.transactions_command.specs.Entering.{site_checks}
use Rattle.site_openings.proofs.CheckLemmas.{allowed_both, never_both, refused_behind, refused_front}
use Rattle.transactions_command.proofs.CheckLemmas.{lanes_of_chunk, ready_none, refused_split, same_contents}
use Rattle.transactions_command.proofs.EnterLemmas.{enters_refused, shown_lanes, shown_to_log, shows_again, stays_in}
use Rattle.transactions_command.proofs.RefusalLemmas.{unready_named}
use Rattle.transactions_command.proofs.opening.open_all.Goals as goal

pub returns-in_err-begun-clause-enters : goal.returns-in_err-begun-clause-enters
returns-in_err-begun-clause-enters g c tells at fit shown =
    let p = err_from_is_err_and c.from_residual.result c.from_residual.ensures.1 in
    let call = c.in_err-begun.ensures in
    rw (p.1, p.2) (
      inl call.quiet.images,
      ⊎_elim (λ failed. inl failed) (λ same. ⊎_elim (λ failed. inl failed) (λ is. inr (record {
        refusal = ap (λ (o : Option Fault). option_or o (if_any_lost at.site)) is;
        named = unready_named at.site c.in_err-begun.field-0.0 is;
        still = inl (call.quiet, same);
      })) (call.finds tells at fit (shown_to_log g.D.Disk at c.args.site.now shown))) call.kept,
    )

pub returns-in_err-begun-clause-answers : goal.returns-in_err-begun-clause-answers
returns-in_err-begun-clause-answers g c tells =
    let p = err_from_is_err_and c.from_residual.result c.from_residual.ensures.1 in
    rw (p.1, p.2) (⊎_elim (λ failed. inl failed) (λ is. inr (refused_front (contents_of g.D.Disk c.args.site.now) site_checks (all_lanes ∷ []) (status_in c.in_err-begun.field-0.0) is))
    (c.in_err-begun.ensures.answers tells))

pub returns-in_err-open_site_lanes-clause-enters : goal.returns-in_err-open_site_lanes-clause-enters
returns-in_err-open_site_lanes-clause-enters g c tells at fit shown =
    let p = err_from_is_err_and c.from_residual-in_err-open_site_lanes.result c.from_residual-in_err-open_site_lanes.ensures.1 in
    let begun = c.in_ok-begun.ensures.finds tells at fit (shown_to_log g.D.Disk at c.args.site.now shown) in
    let here = shows_again g.D.Disk at c.args.site.now c.open_log.new.site c.in_ok-begun.ensures.same shown in
    let lanes = shown_lanes g.D.Disk at c.open_log.new.site here in
    let era : c.next-2.new.self.number ≡ c.args.era.now.number + 2 = omega (arith, c.next.ensures.number, c.next-2.ensures.number) in
    let stands : StandsFor (layers g.D.Disk) 2 c.next-2.new.self.number c.open_log.new.site at =
    subst (λ (n : ℕ). StandsFor (layers g.D.Disk) 2 n c.open_log.new.site at) (sym c.next-2.ensures.number) begun.found.stands in
    let call = c.in_err-open_site_lanes.ensures in
    rw (p.1, p.2) (enters_refused g.D.Disk (λ d f le. g.met.D.Disk.reads_as d f tells le) c.args.era.now.number c.open_site_lanes.new.era at c.args.site.now c.open_log.new.site
    c.open_site_lanes.new.site c.in_err-open_site_lanes.field-0.0 c.in_ok-begun.ensures.quiet.images
    (subst (λ (n : ℕ). StandsFor (layers g.D.Disk) 2 n c.open_log.new.site at) era stands) here (omega (arith, era, call.era_later)) call.may
    (ready_none at.site begun.none begun.found.has)
    (⊎_elim (λ adds. inl adds) (λ left. inr (subst (λ (n : ℕ). LanesLeft g.D.Disk None n at c.open_log.new.site c.open_site_lanes.new.site) era left)) (call.leaves tells at stands begun.head_is lanes))
    (⊎_elim (λ failed. inl failed) (λ left. inr (subst (λ (n : ℕ). LanesLeft g.D.Disk None n at c.open_log.new.site c.open_site_lanes.new.site) era left)) (call.left tells at stands begun.head_is lanes))
    (call.stands tells at stands begun.head_is lanes) (lanes_named None at.site.head _ (subst (λ (h : Head). IsLanesFault None h c.in_err-open_site_lanes.field-0.0) begun.head_is call.only)))

pub returns-in_err-open_site_lanes-clause-answers : goal.returns-in_err-open_site_lanes-clause-answers
returns-in_err-open_site_lanes-clause-answers g c tells =
    let p = err_from_is_err_and c.from_residual-in_err-open_site_lanes.result c.from_residual-in_err-open_site_lanes.ensures.1 in
    let status = status_in c.in_err-open_site_lanes.field-0.0 in
    let contents = contents_of g.D.Disk c.args.site.now in
    let same : contents_of g.D.Disk c.open_log.new.site ≡ contents = same_contents _ _ c.in_ok-begun.ensures.same in
    let first = c.in_ok-begun.ensures.answers tells in
    let named = subst (Named (head_of c.in_ok-begun.begun.head)) (sym same) first.1 in
    rw (p.1, p.2) (⊎_elim (λ failed. inl failed) (λ is. inr (refused_behind contents site_checks (all_lanes ∷ []) status first.0
    (subst (λ (c : Contents_of). RefusedBy (all_lanes ∷ []) c status) same is))) (c.in_err-open_site_lanes.ensures.answers tells named))

pub returns-in_err-open_site_lanes-clause-harmless : goal.returns-in_err-open_site_lanes-clause-harmless
returns-in_err-open_site_lanes-clause-harmless g c tells status refused =
    let contents = contents_of g.D.Disk c.args.site.now in (
      c.from_residual-in_err-open_site_lanes.ensures.0,
      ⊎_elim (λ here. absurd (false≢true (c.in_ok-begun.ensures.refuses tells status here))) (λ later. ⊎_elim
          (λ lanes. inl (lanes_of_chunk contents status lanes))
          (λ none. absurd none.1)
          later.1) (refused_split contents site_checks (all_lanes ∷ []) status refused),
    )

pub returns-clause-enters : goal.returns-clause-enters
returns-clause-enters g c tells at fit shown =
    let begun = c.in_ok-begun.ensures.finds tells at fit (shown_to_log g.D.Disk at c.args.site.now shown) in
    let here = shows_again g.D.Disk at c.args.site.now c.open_log.new.site c.in_ok-begun.ensures.same shown in
    let lanes = shown_lanes g.D.Disk at c.open_log.new.site here in
    let era : c.next-2.new.self.number ≡ c.args.era.now.number + 2 = omega (arith, c.next.ensures.number, c.next-2.ensures.number) in
    let stands : StandsFor (layers g.D.Disk) 2 c.next-2.new.self.number c.open_log.new.site at =
    subst (λ (n : ℕ). StandsFor (layers g.D.Disk) 2 n c.open_log.new.site at) (sym c.next-2.ensures.number) begun.found.stands in
    let call = c.in_ok-open_site_lanes.ensures in
    let opened = call.stands tells at stands begun.head_is lanes in (
      record {
        third = omega (arith, era, call.done);
        may = record { head_is = sym begun.head_is; none = begun.none; has = begun.found.has; none_lost = opened.1; table_is = begun.found.table begun.none };
        stands = opened.0;
      },
      stays_in g.D.Disk c.args.era.now.number c.open_site_lanes.new.era.number at c.args.site.now c.open_log.new.site c.open_site_lanes.new.site c.in_ok-begun.ensures.quiet.images
          (subst (λ (n : ℕ). StandsFor (layers g.D.Disk) 2 n c.open_log.new.site at) era stands) here (omega (arith, era, call.done))
          (subst (λ (n : ℕ). LanesLeft g.D.Disk None n at c.open_log.new.site c.open_site_lanes.new.site) era (call.left tells at stands begun.head_is lanes)),
    )

pub returns-clause-answers : goal.returns-clause-answers
returns-clause-answers g c tells =
    let contents = contents_of g.D.Disk c.args.site.now in
    let same : contents_of g.D.Disk c.open_log.new.site ≡ contents = same_contents _ _ c.in_ok-begun.ensures.same in
    let first = c.in_ok-begun.ensures.answers tells in
    let named = subst (Named (head_of c.in_ok-begun.begun.head)) (sym same) first.1 in
    allowed_both contents site_checks (all_lanes ∷ []) first.0 (subst (AllowedBy (all_lanes ∷ [])) same (c.in_ok-open_site_lanes.ensures.answers tells named))

pub returns-clause-harmless : goal.returns-clause-harmless
returns-clause-harmless g c tells status refused =
    absurd (never_both (contents_of g.D.Disk c.args.site.now) (site_checks ++ all_lanes ∷ []) status (returns-clause-answers g c tells) refused)
