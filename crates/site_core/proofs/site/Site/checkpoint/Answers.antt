use Rattle.std.proofs.Common.{ℕ, ◌∷◌, [], length, refl, sym, subst, ◌∙◌}
use Rattle.std.proofs.lemmas.Bool.{false≢true}
use Rattle.walks.specs.Courses.{make}
use Rattle.site_lane_laws.specs.PhaseLaws.{goals_of}
use Rattle.site_layouts.specs.Stages.{site_stage}
use Rattle.site_worlds.specs.Moves.{move_lanes}
use Rattle.site_core.specs.Calls.{CallFrom}
use Rattle.site_core.specs.Checkpoints.{MayGo}
use Rattle.site_core.specs.Faults.{fault_of}
use Rattle.site_core.specs.Layers.{layers}
use Rattle.site_core.specs.Opened.{IsOpenSite}
use Rattle.site_core.proofs.CheckpointLemmas.{checks_brought, checks_there, told_there}
use Rattle.site_core.proofs.site.Site.checkpoint.Goals as goal

pub returns-then-are_at-clause-call : goal.returns-then-are_at-clause-call
returns-then-are_at-clause-call g c tells =
    let spaces = length c.args.head.now.spaces.items in
    checks_there g.D.Disk spaces c.args.era.now.number c.args.self.now c.end.result c.end.ensures
    (told_there c.deref.result.now c.args.self.now.lanes.items c.len-spaces.result spaces c.end.result c.deref.ensures.value (c.len-spaces.ensures ∙ c.args.head.now.spaces.ok.0) (c.if-are_at.ensures.0 refl))

pub bring_to_end-requires-clause-opened : goal.bring_to_end-requires-clause-opened
bring_to_end-requires-clause-opened g c = subst (λ (k : ℕ). IsOpenSite k c.args.self.now) (sym (c.len-spaces.ensures ∙ c.args.head.now.spaces.ok.0)) c.requires.opened

pub returns-clause-call : goal.returns-clause-call
returns-clause-call g c tells =
    let spaces = length c.args.head.now.spaces.items in
    checks_brought g.D.Disk spaces c.args.era.now.number c.args.self.now c.end.result c.end.ensures
    (λ all. false≢true (c.if-are_at.ensures.1 (told_there c.args.self.now.lanes.items c.deref.result.now spaces c.len-spaces.result c.end.result (sym c.deref.ensures.value) (sym (c.len-spaces.ensures ∙ c.args.head.now.spaces.ok.0)) all)))
    c.bring_to_end.new.era.number c.bring_to_end.new.self (fault_of c.bring_to_end.result)
    (subst (λ (k : ℕ). CallFrom (site_stage (layers g.D.Disk)) (MayGo k) 3 c.args.era.now.number c.bring_to_end.new.era.number c.args.self.now c.bring_to_end.new.self
    (λ site. make (move_lanes (goals_of site) ∷ [])) (fault_of c.bring_to_end.result)) (c.len-spaces.ensures ∙ c.args.head.now.spaces.ok.0) (c.bring_to_end.ensures.call tells))
