use Rattle.std.proofs.Common.{None, inl, inr, subst, arith, ⊎_elim}
use Rattle.site_headers.specs.Heads.{Head}
use Rattle.site_headers.specs.Views.{head_of}
use Rattle.site_core.specs.Disks.{contents_of}
use Rattle.site_core.specs.Faults.{status_in}
use Rattle.site_lane_opening.specs.Steps.{ToAny}
use Rattle.site_lane_opening.proofs.BytesLemmas.{all_refused, allowed_all, not_refused, opens_allow, refused_all, refused_once, site_refuses}
use Rattle.site_lane_opening.proofs.DiskLemmas.{both_ways, later_behind, made_behind, may_behind}
use Rattle.site_lane_opening.proofs.EndLemmas.{Came, all_wanted, failed_by, few_spaces, head_is, kept_by, opened_site, wanted_all}
use Rattle.site_lane_opening.proofs.WorldLemmas.{all_by, leaves_by, left_by}
use Rattle.site_lane_opening.proofs.all.open_site_lanes.Goals as goal

pub returns-clause-stands : goal.returns-clause-stands
returns-clause-stands g c tells at stands same show =
    let count = stands.fits.lanes.count in
    all_by g.D.Disk (λ d f k b le lt image. g.met.D.Disk.now_counts d f k b le lt image) c.args.era.now tells None at c.args.site.now c.try_all.new.site c.try_all.ensures.others c.requires.made c.requires.may
    (head_is c.args.site.now None (head_of c.args.head.now) at.site.head same (wanted_all c.args.site.now c.args.head.now c.requires.made c.requires.head))
    (λ n w. w) stands show (ToAny g.D.Disk) c.try_all.new.era.number c.try_all.result (λ n lt. omega (arith, lt, count)) c.try_all.ensures.done
    (subst (λ (h : Head). Came g.D.Disk None h c.args.era.now (ToAny g.D.Disk) c.try_all.new.era c.args.site.now c.try_all.new.site c.try_all.result) same c.try_all.ensures.came)

pub returns-clause-leaves : goal.returns-clause-leaves
returns-clause-leaves g c tells at stands same show =
    leaves_by g.D.Disk (λ d f k b le lt image. g.met.D.Disk.now_counts d f k b le lt image) c.args.era.now tells None at c.args.site.now c.try_all.new.site c.try_all.ensures.others c.requires.made c.requires.may
    (head_is c.args.site.now None (head_of c.args.head.now) at.site.head same (wanted_all c.args.site.now c.args.head.now c.requires.made c.requires.head))
    (λ n w. w) stands show (ToAny g.D.Disk) c.try_all.new.era.number c.try_all.result
    (subst (λ (h : Head). Came g.D.Disk None h c.args.era.now (ToAny g.D.Disk) c.try_all.new.era c.args.site.now c.try_all.new.site c.try_all.result) same c.try_all.ensures.came)

pub returns-clause-left : goal.returns-clause-left
returns-clause-left g c tells at stands same show =
    left_by g.D.Disk (λ d f k b le lt image. g.met.D.Disk.now_counts d f k b le lt image) c.args.era.now tells None at c.args.site.now c.try_all.new.site c.try_all.ensures.others c.requires.made c.requires.may
    (head_is c.args.site.now None (head_of c.args.head.now) at.site.head same (wanted_all c.args.site.now c.args.head.now c.requires.made c.requires.head))
    (λ n w. w) stands show (ToAny g.D.Disk) c.try_all.new.era.number c.try_all.result
    (subst (λ (h : Head). Came g.D.Disk None h c.args.era.now (ToAny g.D.Disk) c.try_all.new.era c.args.site.now c.try_all.new.site c.try_all.result) same c.try_all.ensures.came)

pub returns-clause-answers : goal.returns-clause-answers
returns-clause-answers g c tells named =
    let head = head_of c.args.head.now in
    let old = c.args.site.now in
    let new = c.try_all.new.site in
    let contents = contents_of g.D.Disk old in
    both_ways c.try_all.result
    (λ a opens. allowed_all head contents named (opens_allow g.D.Disk tells c.args.era.now None head old new c.requires.made (wanted_all c.args.site.now c.args.head.now c.requires.made c.requires.head) opens))
    (λ fault stops. ⊎_elim (λ failure. inl failure) (λ refuses. inr (refused_all head contents named (status_in fault) refuses))
    (site_refuses g.D.Disk tells c.args.era.now None head old new (ToAny g.D.Disk) c.try_all.new.era.number fault stops))
    c.try_all.ensures.came

pub returns-clause-refuses : goal.returns-clause-refuses
returns-clause-refuses g c tells named status refused =
    let head = head_of c.args.head.now in
    let old = c.args.site.now in
    let new = c.try_all.new.site in
    let contents = contents_of g.D.Disk old in
    let by = all_refused head contents named status refused in
    both_ways c.try_all.result
    (λ a opens. not_refused None head contents status
    (opens_allow g.D.Disk tells c.args.era.now None head old new c.requires.made (wanted_all c.args.site.now c.args.head.now c.requires.made c.requires.head) opens) by)
    (λ fault stops. ⊎_elim (λ failure. inl failure) (λ refuses. inr (refused_once None head contents (status_in fault) status refuses by))
    (site_refuses g.D.Disk tells c.args.era.now None head old new (ToAny g.D.Disk) c.try_all.new.era.number fault stops))
    c.try_all.ensures.came

pub returns-clause-failed : goal.returns-clause-failed
returns-clause-failed g c =
    let kept = kept_by g.D.Disk None (head_of c.args.head.now) c.args.era.now (ToAny g.D.Disk) c.try_all.new.era c.args.site.now c.try_all.new.site c.try_all.result
    c.try_all.ensures.key c.try_all.ensures.era_later c.try_all.ensures.done c.try_all.ensures.came in
    failed_by g.D.Disk None (head_of c.args.head.now) c.args.era.now (ToAny g.D.Disk) c.try_all.new.era c.args.site.now c.try_all.new.site c.try_all.result kept.as_many
    (wanted_all c.args.site.now c.args.head.now c.requires.made c.requires.head) c.try_all.ensures.came

pub returns-clause-opened : goal.returns-clause-opened
returns-clause-opened g c log =
    both_ways c.try_all.result
    (λ a opens. opened_site g.D.Disk None (head_of c.args.head.now) c.args.era.now (ToAny g.D.Disk) c.try_all.new.era c.args.site.now c.try_all.new.site c.requires.made
    (wanted_all c.args.site.now c.args.head.now c.requires.made c.requires.head) opens _ (few_spaces c.args.head.now c.requires.head) (all_wanted c.args.head.now) c.try_all.ensures.others log)
    (λ fault stops. tt) c.try_all.ensures.came

pub returns-clause-made : goal.returns-clause-made
returns-clause-made g c =
    let kept = kept_by g.D.Disk None (head_of c.args.head.now) c.args.era.now (ToAny g.D.Disk) c.try_all.new.era c.args.site.now c.try_all.new.site c.try_all.result
    c.try_all.ensures.key c.try_all.ensures.era_later c.try_all.ensures.done c.try_all.ensures.came in
    made_behind g.D.Disk c.args.era.now c.try_all.new.era c.try_all.ensures.key None (head_of c.args.head.now) c.args.site.now c.try_all.new.site c.try_all.ensures.others c.requires.made
    (wanted_all c.args.site.now c.args.head.now c.requires.made c.requires.head) c.try_all.ensures.era_later kept

pub returns-clause-later : goal.returns-clause-later
returns-clause-later g c =
    let kept = kept_by g.D.Disk None (head_of c.args.head.now) c.args.era.now (ToAny g.D.Disk) c.try_all.new.era c.args.site.now c.try_all.new.site c.try_all.result
    c.try_all.ensures.key c.try_all.ensures.era_later c.try_all.ensures.done c.try_all.ensures.came in
    later_behind g.D.Disk c.args.era.now c.try_all.new.era c.try_all.ensures.key None (head_of c.args.head.now) c.args.site.now c.try_all.new.site c.try_all.ensures.others c.requires.made
    (wanted_all c.args.site.now c.args.head.now c.requires.made c.requires.head) c.try_all.ensures.era_later kept

pub returns-clause-may : goal.returns-clause-may
returns-clause-may g c =
    let kept = kept_by g.D.Disk None (head_of c.args.head.now) c.args.era.now (ToAny g.D.Disk) c.try_all.new.era c.args.site.now c.try_all.new.site c.try_all.result
    c.try_all.ensures.key c.try_all.ensures.era_later c.try_all.ensures.done c.try_all.ensures.came in
    may_behind g.D.Disk c.args.era.now c.try_all.new.era c.try_all.ensures.key None (head_of c.args.head.now) c.args.site.now c.try_all.new.site c.try_all.ensures.others c.requires.made
    (wanted_all c.args.site.now c.args.head.now c.requires.made c.requires.head) c.try_all.ensures.era_later kept c.requires.may
