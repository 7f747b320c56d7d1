use Rattle.std.proofs.Common.{Some, refl, inl, inr, subst, ⊎_elim}
use Rattle.site_headers.specs.Heads.{Head}
use Rattle.site_headers.specs.Views.{head_of}
use Rattle.site_core.specs.Disks.{contents_of}
use Rattle.site_core.specs.Faults.{status_in}
use Rattle.site_lane_opening.specs.Steps.{ToRefused, era_behind}
use Rattle.site_lane_opening.proofs.BytesLemmas.{not_refused, opens_allow, refused_once, site_refuses}
use Rattle.site_lane_opening.proofs.DiskLemmas.{both_ways, later_behind, made_behind, may_behind}
use Rattle.site_lane_opening.proofs.EndLemmas.{Came, counted_one, failed_by, head_is, kept_by, opened_one, space_within, wanted_one}
use Rattle.site_lane_opening.proofs.WorldLemmas.{leaves_by, left_by, one_by, stop_refuses}
use Rattle.site_lane_opening.proofs.one.open_site_lane.Goals as goal

pub returns-clause-stands : goal.returns-clause-stands
returns-clause-stands g c tells at stands same show =
    one_by g.D.Disk (λ d f k b le lt image. g.met.D.Disk.now_counts d f k b le lt image) c.args.era.now tells (Some c.args.space) at c.args.site.now c.try_one.new.site c.try_one.ensures.others c.requires.made c.requires.may
    (head_is c.args.site.now (Some c.args.space) (head_of c.args.head.now) at.site.head same (wanted_one c.args.site.now c.args.head.now c.args.space c.requires.made c.requires.head c.requires.space))
    (space_within c.args.head.now c.args.space at.site.head same c.requires.space) stands show (ToRefused g.D.Disk (era_behind c.args.era.now)) c.try_one.new.era.number c.try_one.result c.args.space refl (λ n w. w) c.try_one.ensures.done
    (subst (λ (h : Head). Came g.D.Disk (Some c.args.space) h c.args.era.now (ToRefused g.D.Disk (era_behind c.args.era.now)) c.try_one.new.era c.args.site.now c.try_one.new.site c.try_one.result) same c.try_one.ensures.came)

pub returns-clause-leaves : goal.returns-clause-leaves
returns-clause-leaves g c tells at stands same show =
    leaves_by g.D.Disk (λ d f k b le lt image. g.met.D.Disk.now_counts d f k b le lt image) c.args.era.now tells (Some c.args.space) at c.args.site.now c.try_one.new.site c.try_one.ensures.others c.requires.made c.requires.may
    (head_is c.args.site.now (Some c.args.space) (head_of c.args.head.now) at.site.head same (wanted_one c.args.site.now c.args.head.now c.args.space c.requires.made c.requires.head c.requires.space))
    (space_within c.args.head.now c.args.space at.site.head same c.requires.space) stands show (ToRefused g.D.Disk (era_behind c.args.era.now)) c.try_one.new.era.number c.try_one.result
    (subst (λ (h : Head). Came g.D.Disk (Some c.args.space) h c.args.era.now (ToRefused g.D.Disk (era_behind c.args.era.now)) c.try_one.new.era c.args.site.now c.try_one.new.site c.try_one.result) same c.try_one.ensures.came)

pub returns-clause-left : goal.returns-clause-left
returns-clause-left g c tells at stands same show =
    left_by g.D.Disk (λ d f k b le lt image. g.met.D.Disk.now_counts d f k b le lt image) c.args.era.now tells (Some c.args.space) at c.args.site.now c.try_one.new.site c.try_one.ensures.others c.requires.made c.requires.may
    (head_is c.args.site.now (Some c.args.space) (head_of c.args.head.now) at.site.head same (wanted_one c.args.site.now c.args.head.now c.args.space c.requires.made c.requires.head c.requires.space))
    (space_within c.args.head.now c.args.space at.site.head same c.requires.space) stands show (ToRefused g.D.Disk (era_behind c.args.era.now)) c.try_one.new.era.number c.try_one.result
    (subst (λ (h : Head). Came g.D.Disk (Some c.args.space) h c.args.era.now (ToRefused g.D.Disk (era_behind c.args.era.now)) c.try_one.new.era c.args.site.now c.try_one.new.site c.try_one.result) same c.try_one.ensures.came)

pub returns-clause-answers : goal.returns-clause-answers
returns-clause-answers g c tells =
    let head = head_of c.args.head.now in
    let old = c.args.site.now in
    let new = c.try_one.new.site in
    both_ways c.try_one.result
    (λ a opens. opens_allow g.D.Disk tells c.args.era.now (Some c.args.space) head old new c.requires.made (wanted_one c.args.site.now c.args.head.now c.args.space c.requires.made c.requires.head c.requires.space) opens)
    (λ fault stops. site_refuses g.D.Disk tells c.args.era.now (Some c.args.space) head old new (ToRefused g.D.Disk (era_behind c.args.era.now)) c.try_one.new.era.number fault stops)
    c.try_one.ensures.came

pub returns-clause-refuses : goal.returns-clause-refuses
returns-clause-refuses g c tells status refused =
    let head = head_of c.args.head.now in
    let old = c.args.site.now in
    let new = c.try_one.new.site in
    let contents = contents_of g.D.Disk old in
    both_ways c.try_one.result
    (λ a opens. not_refused (Some c.args.space) head contents status
    (opens_allow g.D.Disk tells c.args.era.now (Some c.args.space) head old new c.requires.made (wanted_one c.args.site.now c.args.head.now c.args.space c.requires.made c.requires.head c.requires.space) opens) refused)
    (λ fault stops. ⊎_elim (λ failure. inl failure) (λ refuses. inr (refused_once (Some c.args.space) head contents (status_in fault) status refuses refused))
    (site_refuses g.D.Disk tells c.args.era.now (Some c.args.space) head old new (ToRefused g.D.Disk (era_behind c.args.era.now)) c.try_one.new.era.number fault stops))
    c.try_one.ensures.came

pub returns-clause-failed : goal.returns-clause-failed
returns-clause-failed g c =
    let kept = kept_by g.D.Disk (Some c.args.space) (head_of c.args.head.now) c.args.era.now (ToRefused g.D.Disk (era_behind c.args.era.now)) c.try_one.new.era c.args.site.now c.try_one.new.site c.try_one.result
    c.try_one.ensures.key c.try_one.ensures.era_later c.try_one.ensures.done c.try_one.ensures.came in
    failed_by g.D.Disk (Some c.args.space) (head_of c.args.head.now) c.args.era.now (ToRefused g.D.Disk (era_behind c.args.era.now)) c.try_one.new.era c.args.site.now c.try_one.new.site c.try_one.result kept.as_many
    (wanted_one c.args.site.now c.args.head.now c.args.space c.requires.made c.requires.head c.requires.space) c.try_one.ensures.came

pub returns-clause-opened : goal.returns-clause-opened
returns-clause-opened g c =
    both_ways c.try_one.result
    (λ a opens. opened_one g.D.Disk (Some c.args.space) (head_of c.args.head.now) c.args.era.now (ToRefused g.D.Disk (era_behind c.args.era.now)) c.try_one.new.era c.args.site.now c.try_one.new.site c.requires.made
    (wanted_one c.args.site.now c.args.head.now c.args.space c.requires.made c.requires.head c.requires.space) opens c.args.space refl)
    (λ fault stops. tt) c.try_one.ensures.came

pub returns-clause-counted : goal.returns-clause-counted
returns-clause-counted g c =
    both_ways c.try_one.result
    (λ a opens. counted_one g.D.Disk (Some c.args.space) (head_of c.args.head.now) c.args.era.now (ToRefused g.D.Disk (era_behind c.args.era.now)) c.try_one.new.era c.args.site.now c.try_one.new.site c.requires.made
    (wanted_one c.args.site.now c.args.head.now c.args.space c.requires.made c.requires.head c.requires.space) opens c.args.space refl)
    (λ fault stops. tt) c.try_one.ensures.came

pub returns-clause-refused : goal.returns-clause-refused
returns-clause-refused g c =
    both_ways c.try_one.result (λ a opens. tt)
    (λ fault stops. stop_refuses g.D.Disk (λ d f k b le lt image. g.met.D.Disk.now_counts d f k b le lt image) c.args.era.now (Some c.args.space) (head_of c.args.head.now) c.args.site.now
    c.try_one.new.site c.try_one.ensures.others c.requires.may (wanted_one c.args.site.now c.args.head.now c.args.space c.requires.made c.requires.head c.requires.space)
    c.try_one.new.era.number fault stops)
    c.try_one.ensures.came

pub returns-clause-made : goal.returns-clause-made
returns-clause-made g c =
    let kept = kept_by g.D.Disk (Some c.args.space) (head_of c.args.head.now) c.args.era.now (ToRefused g.D.Disk (era_behind c.args.era.now)) c.try_one.new.era c.args.site.now c.try_one.new.site c.try_one.result
    c.try_one.ensures.key c.try_one.ensures.era_later c.try_one.ensures.done c.try_one.ensures.came in
    made_behind g.D.Disk c.args.era.now c.try_one.new.era c.try_one.ensures.key (Some c.args.space) (head_of c.args.head.now) c.args.site.now c.try_one.new.site c.try_one.ensures.others c.requires.made
    (wanted_one c.args.site.now c.args.head.now c.args.space c.requires.made c.requires.head c.requires.space) c.try_one.ensures.era_later kept

pub returns-clause-later : goal.returns-clause-later
returns-clause-later g c =
    let kept = kept_by g.D.Disk (Some c.args.space) (head_of c.args.head.now) c.args.era.now (ToRefused g.D.Disk (era_behind c.args.era.now)) c.try_one.new.era c.args.site.now c.try_one.new.site c.try_one.result
    c.try_one.ensures.key c.try_one.ensures.era_later c.try_one.ensures.done c.try_one.ensures.came in
    later_behind g.D.Disk c.args.era.now c.try_one.new.era c.try_one.ensures.key (Some c.args.space) (head_of c.args.head.now) c.args.site.now c.try_one.new.site c.try_one.ensures.others c.requires.made
    (wanted_one c.args.site.now c.args.head.now c.args.space c.requires.made c.requires.head c.requires.space) c.try_one.ensures.era_later kept

pub returns-clause-may : goal.returns-clause-may
returns-clause-may g c =
    let kept = kept_by g.D.Disk (Some c.args.space) (head_of c.args.head.now) c.args.era.now (ToRefused g.D.Disk (era_behind c.args.era.now)) c.try_one.new.era c.args.site.now c.try_one.new.site c.try_one.result
    c.try_one.ensures.key c.try_one.ensures.era_later c.try_one.ensures.done c.try_one.ensures.came in
    may_behind g.D.Disk c.args.era.now c.try_one.new.era c.try_one.ensures.key (Some c.args.space) (head_of c.args.head.now) c.args.site.now c.try_one.new.site c.try_one.ensures.others c.requires.made
    (wanted_one c.args.site.now c.args.head.now c.args.space c.requires.made c.requires.head c.requires.space) c.try_one.ensures.era_later kept c.requires.may
