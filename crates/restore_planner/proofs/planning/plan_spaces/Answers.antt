use Rattle.std.proofs.Common.{◌∙◌, ap, map}
use Rattle.backup_lines.specs.Views.{archive_of}
use Rattle.restore_planner.specs.Views.{space_plan_of}
use Rattle.restore_planner.proofs.PlanLemmas.{plans_kept, plans_pushed}
use Rattle.restore_planner.proofs.planning.plan_spaces.Goals as goal
use Rattle.restore_planner.proofs.planning.plan_spaces.Goals.{in-Some+in_ok-push, in_default}

pub loop-space-preserved : goal.loop-space-preserved
loop-space-preserved c =
    elim c.match-plan_of_space.branch [
      | in-Some+in_ok-push w ↦
          ap (λ plans. map space_plan_of plans) (ap (λ plans. plans.items) w.plans-is ∙ w.in_ok-push.ensures.items)
          ∙ plans_pushed (map archive_of c.args.archives.now) c.args.live.now.resets c.args.live.now.at c.loop-space.space c.loop-space.plans.items
          w.in-Some.plan c.loop-space.invariant w.in-Some.ensures.plan
      | in_default w ↦
          ap (λ plans. map space_plan_of plans.items) w.plans-is
          ∙ plans_kept (map archive_of c.args.archives.now) c.args.live.now.resets c.args.live.now.at c.loop-space.space c.loop-space.plans.items
          c.loop-space.invariant w.in_default.ensures.plan
    ]
