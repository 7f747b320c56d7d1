use Rattle.std.proofs.lemmas.Bool.{false≢true}
use Rattle.std.proofs.Common.{◌≡◌, ◌∙◌, ◌+◌, [], ◌∷◌, ℕ, inl, inr, ⊎_elim, sym, ap, subst, arith}
use Rattle.std.proofs.lemmas.Result.{err_from_is_err_and}
use Rattle.std.specs.Prelude.{Option}
use Rattle.std.specs.Option.{option_or}
use Rattle.site_headers.specs.Views.{head_of}
use Rattle.onbar_grammar.specs.Script.{place_of}
use Rattle.std.proofs.lemmas.List.{length-map}
use Rattle.site_headers.specs.Views.{space_of}
use Rattle.std.proofs.Common.{Some}
use Rattle.site_courses.specs.Faults.{Fault}
use Rattle.site_layouts.specs.Stages.{StandsFor}
use Rattle.site_openings.specs.Openings.{Contents_of, LanesAllow, LanesRefuse, shown_lane}
use Rattle.site_core.specs.Disks.{contents_of}
use Rattle.site_core.specs.Faults.{status_in}
use Rattle.site_core.specs.Layers.{layers}
use Rattle.site_lane_opening.specs.Left.{IsLanesFault, LanesLeft}
use Rattle.site_lane_opening.proofs.EndLemmas.{lanes_named}
use Rattle.show_command.specs.Showing.{if_lane_lost, pair_of, show_checks}
use Rattle.show_command.proofs.PlaceLemmas.{place_pages, place_within}
use Rattle.show_command.proofs.CheckLemmas.{allowed_both, lane_allows, lane_of_chunk, lane_refuses, refuses_lane, ready_none, refused_behind, refused_front, refused_split, same_contents}
use Rattle.show_command.proofs.EnterLemmas.{enters_refused, shown_lane_of, shown_to_log, shows_again, stays_in}
use Rattle.site_headers.specs.Heads.{Head}
use Rattle.show_command.proofs.RefusalLemmas.{unready_named}
use Rattle.show_command.proofs.opening.open_space.Goals as goal

pub returns-in_err-entered-clause-enters : goal.returns-in_err-entered-clause-enters
returns-in_err-entered-clause-enters g c tells at fit shown =
    let p = err_from_is_err_and c.from_residual.result c.from_residual.ensures.1 in
    let call = c.in_err-entered.ensures in
    rw (p.1, p.2) (
      inl call.quiet.images,
      ⊎_elim (λ failed. inl failed) (λ same. ⊎_elim (λ failed. inl failed) (λ is. inr (record {
        refusal = ap (λ (o : Option Fault). option_or o (if_lane_lost (place_of c.args.name.now at.site.head.spaces) at.site)) is;
        named = unready_named c.args.name.now c.args.page at.site c.in_err-entered.field-0.0 is;
        still = inl (call.quiet, same);
      })) (call.finds tells at fit (shown_to_log g.D.Disk c.args.name.now c.args.page at c.args.site.now shown))) call.kept,
    )

pub returns-in_err-entered-clause-answers : goal.returns-in_err-entered-clause-answers
returns-in_err-entered-clause-answers g c tells =
    let p = err_from_is_err_and c.from_residual.result c.from_residual.ensures.1 in
    rw (p.1, p.2) (⊎_elim (λ failed. inl failed) (λ is. inr (refused_front (contents_of g.D.Disk c.args.site.now) (status_in c.in_err-entered.field-0.0) (show_checks c.args.name.now c.args.page) (shown_lane c.args.name.now ∷ []) is))
    (c.in_err-entered.ensures.answers tells))

pub returns-in_err-open_site_lane-clause-enters : goal.returns-in_err-open_site_lane-clause-enters
returns-in_err-open_site_lane-clause-enters g c tells at fit shown =
    let p = err_from_is_err_and c.from_residual-in_err-open_site_lane.result c.from_residual-in_err-open_site_lane.ensures.1 in
    let begun = c.in_ok-entered.ensures.finds tells at fit (shown_to_log g.D.Disk c.args.name.now c.args.page at c.args.site.now shown) in
    let here = shows_again g.D.Disk c.args.name.now c.args.page at c.args.site.now c.open_log.new.site c.in_ok-entered.ensures.same shown in
    let lanes = shown_lane_of g.D.Disk c.args.name.now c.args.page at c.in_ok-entered.entered.place c.open_log.new.site begun.placed.there here in
    let era : c.next-2.new.self.number ≡ c.args.era.now.number + 2 = omega (arith, c.next.ensures.number, c.next-2.ensures.number) in
    let stands : StandsFor (layers g.D.Disk) 2 c.next-2.new.self.number c.open_log.new.site at =
    subst (λ (n : ℕ). StandsFor (layers g.D.Disk) 2 n c.open_log.new.site at) (sym c.next-2.ensures.number) begun.stands in
    let call = c.in_err-open_site_lane.ensures in
    rw (p.1, p.2) (enters_refused g.D.Disk c.args.name.now c.args.page (λ d f le. g.met.D.Disk.reads_as d f tells le) c.args.era.now.number c.open_site_lane.new.era at c.in_ok-entered.entered.place begun.placed.there c.args.site.now c.open_log.new.site
    c.open_site_lane.new.site c.in_err-open_site_lane.field-0.0 c.in_ok-entered.ensures.quiet.images
    (subst (λ (n : ℕ). StandsFor (layers g.D.Disk) 2 n c.open_log.new.site at) era stands) here (omega (arith, era, call.era_later)) call.may
    (ready_none c.args.name.now c.args.page at.site c.in_ok-entered.entered.place begun.none begun.placed begun.has)
    (⊎_elim (λ adds. inl adds) (λ left. inr (subst (λ (n : ℕ). LanesLeft g.D.Disk (Some c.in_ok-entered.entered.place.space) n at c.open_log.new.site c.open_site_lane.new.site) era left)) (call.leaves tells at stands begun.head_is lanes))
    (⊎_elim (λ failed. inl failed) (λ left. inr (subst (λ (n : ℕ). LanesLeft g.D.Disk (Some c.in_ok-entered.entered.place.space) n at c.open_log.new.site c.open_site_lane.new.site) era left)) (call.left tells at stands begun.head_is lanes))
    (call.stands tells at stands begun.head_is lanes)
    (lanes_named (Some c.in_ok-entered.entered.place.space) at.site.head _ (subst (λ (h : Head). IsLanesFault (Some c.in_ok-entered.entered.place.space) h c.in_err-open_site_lane.field-0.0) begun.head_is call.only)))

pub returns-in_err-open_site_lane-clause-answers : goal.returns-in_err-open_site_lane-clause-answers
returns-in_err-open_site_lane-clause-answers g c tells =
    let p = err_from_is_err_and c.from_residual-in_err-open_site_lane.result c.from_residual-in_err-open_site_lane.ensures.1 in
    let status = status_in c.in_err-open_site_lane.field-0.0 in
    let contents = contents_of g.D.Disk c.args.site.now in
    let same : contents_of g.D.Disk c.open_log.new.site ≡ contents = same_contents _ _ c.in_ok-entered.ensures.same in
    let entered = c.in_ok-entered.entered in
    let first = c.in_ok-entered.ensures.answers tells in
    rw (p.1, p.2) (⊎_elim (λ failed. inl failed) (λ is. inr (refused_behind contents status (show_checks c.args.name.now c.args.page) (shown_lane c.args.name.now ∷ []) first.0
    (inl (lane_refuses c.args.name.now c.args.page (head_of entered.head) entered.place contents first.1 c.in_ok-entered.ensures.placed.1 status
    (subst (λ (c : Contents_of). LanesRefuse (Some entered.place.space) (head_of entered.head) c status) same is)))))
    (c.in_err-open_site_lane.ensures.answers tells))

pub returns-in_err-open_site_lane-clause-harmless : goal.returns-in_err-open_site_lane-clause-harmless
returns-in_err-open_site_lane-clause-harmless g c tells status refused =
    let contents = contents_of g.D.Disk c.args.site.now in
    let entered = c.in_ok-entered.entered in
    let first = c.in_ok-entered.ensures.answers tells in (
      c.from_residual-in_err-open_site_lane.ensures.0,
      ⊎_elim (λ here. absurd (false≢true (c.in_ok-entered.ensures.refuses tells status here))) (λ later. ⊎_elim
          (λ lane. inl (lane_of_chunk (Some entered.place.space) (head_of entered.head) contents status
          (refuses_lane c.args.name.now c.args.page (head_of entered.head) entered.place contents first.1 c.in_ok-entered.ensures.placed.1 status lane)))
          (λ none. absurd none.1)
          later.1) (refused_split contents status (show_checks c.args.name.now c.args.page) (shown_lane c.args.name.now ∷ []) refused),
    )

pub returns-clause-enters : goal.returns-clause-enters
returns-clause-enters g c tells at fit shown =
    let begun = c.in_ok-entered.ensures.finds tells at fit (shown_to_log g.D.Disk c.args.name.now c.args.page at c.args.site.now shown) in
    let here = shows_again g.D.Disk c.args.name.now c.args.page at c.args.site.now c.open_log.new.site c.in_ok-entered.ensures.same shown in
    let place = c.in_ok-entered.entered.place in
    let lanes = shown_lane_of g.D.Disk c.args.name.now c.args.page at place c.open_log.new.site begun.placed.there here in
    let era : c.next-2.new.self.number ≡ c.args.era.now.number + 2 = omega (arith, c.next.ensures.number, c.next-2.ensures.number) in
    let stands : StandsFor (layers g.D.Disk) 2 c.next-2.new.self.number c.open_log.new.site at =
    subst (λ (n : ℕ). StandsFor (layers g.D.Disk) 2 n c.open_log.new.site at) (sym c.next-2.ensures.number) begun.stands in
    let call = c.in_ok-open_site_lane.ensures in
    let opened = call.stands tells at stands begun.head_is lanes in (
      record {
        third = omega (arith, era, call.done);
        placed = begun.placed;
        may = record { none = begun.none; has = begun.has; not_lost = opened.2 };
        stands = opened.0;
        lane = opened.1;
      },
      stays_in g.D.Disk c.args.name.now c.args.page c.args.era.now.number c.open_site_lane.new.era.number at place begun.placed.there c.args.site.now c.open_log.new.site c.open_site_lane.new.site
          c.in_ok-entered.ensures.quiet.images
          (subst (λ (n : ℕ). StandsFor (layers g.D.Disk) 2 n c.open_log.new.site at) era stands) here (omega (arith, era, call.done))
          (subst (λ (n : ℕ). LanesLeft g.D.Disk (Some place.space) n at c.open_log.new.site c.open_site_lane.new.site) era (call.left tells at stands begun.head_is lanes)),
    )

pub returns-clause-answers : goal.returns-clause-answers
returns-clause-answers g c tells =
    let contents = contents_of g.D.Disk c.args.site.now in
    let same : contents_of g.D.Disk c.open_log.new.site ≡ contents = same_contents _ _ c.in_ok-entered.ensures.same in
    let entered = c.in_ok-entered.entered in
    let first = c.in_ok-entered.ensures.answers tells in
    allowed_both contents (show_checks c.args.name.now c.args.page) (shown_lane c.args.name.now ∷ []) first.0 (
      lane_allows c.args.name.now c.args.page (head_of entered.head) entered.place contents first.1 c.in_ok-entered.ensures.placed.1
          (subst (λ (c : Contents_of). LanesAllow (Some entered.place.space) (head_of entered.head) c) same (c.in_ok-open_site_lane.ensures.answers tells)),
      tt,
    )

pub returns-clause-harmless : goal.returns-clause-harmless
returns-clause-harmless g c tells status refused =
    let contents = contents_of g.D.Disk c.args.site.now in
    let same : contents_of g.D.Disk c.open_log.new.site ≡ contents = same_contents _ _ c.in_ok-entered.ensures.same in
    let entered = c.in_ok-entered.entered in
    let first = c.in_ok-entered.ensures.answers tells in
    ⊎_elim (λ here. absurd (false≢true (c.in_ok-entered.ensures.refuses tells status here))) (λ later. ⊎_elim
    (λ lane. absurd (c.in_ok-open_site_lane.ensures.refuses tells status
    (subst (λ (c : Contents_of). LanesRefuse (Some entered.place.space) (head_of entered.head) c status) (sym same)
    (refuses_lane c.args.name.now c.args.page (head_of entered.head) entered.place contents first.1 c.in_ok-entered.ensures.placed.1 status lane))))
    (λ none. absurd none.1) later.1)
    (refused_split contents status (show_checks c.args.name.now c.args.page) (shown_lane c.args.name.now ∷ []) refused)

pub open_site_lane-requires-clause-space : goal.open_site_lane-requires-clause-space
open_site_lane-requires-clause-space g c =
    let entered = c.in_ok-entered.entered in
    omega (arith, place_within c.args.name.now 0 (head_of entered.head).spaces (pair_of entered.place) c.in_ok-entered.ensures.placed.1.there, length-map entered.head.spaces.items space_of)

pub returns-clause-within : goal.returns-clause-within
returns-clause-within g c =
    let entered = c.in_ok-entered.entered in
    omega (
      arith,
      c.in_ok-open_site_lane.ensures.made.count,
      c.in_ok-entered.ensures.placed.0.few,
      place_within c.args.name.now 0 (head_of entered.head).spaces (pair_of entered.place) c.in_ok-entered.ensures.placed.1.there,
    )

pub returns-clause-lane : goal.returns-clause-lane
returns-clause-lane g c n lane there same =
    let entered = c.in_ok-entered.entered in (
      c.in_ok-open_site_lane.ensures.opened n lane there same,
      c.in_ok-open_site_lane.ensures.counted n lane there same
          ∙ place_pages c.args.name.now (head_of entered.head).spaces entered.place.space entered.place.pages c.in_ok-entered.ensures.placed.1.there,
    )
