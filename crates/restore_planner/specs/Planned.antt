-- What a plan is, and why there is none.
use Rattle.std.specs.Prelude.{◌≡◌, ◌≢◌, ℕ, List, [], map}
use Rattle.backup_lines.specs.Lines.{Line, Span, live_archives}
use Rattle.backup_lines.specs.Plans.{files_behind, least_low, space_plans, spaces_without_level_0}
use Rattle.backup_lines.specs.Spans.{resets_of}
use Rattle.backup_lines.specs.Views.{span_view}
use Rattle.backup_lines.specs.declared.objects.Lacking.TheVariants.{NoLevel0}
use Rattle.restore_planner.specs.declared.plans.Plan.{Plan}
use Rattle.restore_planner.specs.declared.plans.PlanFault.{PlanFault}
use Rattle.restore_planner.specs.declared.plans.PlanFault.TheVariants.{Lacking, OutOfMemory}
use Rattle.restore_planner.specs.Views.{space_plan_of}

-- the spaces without a level 0 for the position
abbrev pub unserved : List Line → List Span → ℕ → ℕ → List ℕ
unserved lines spans spaces q = spaces_without_level_0 (live_archives lines) (resets_of spans) q spaces

-- Each space has a chain, and the files are those behind the least low of the chains.
pub record IsPlan (lines : List Line) (spans : List Span) (spaces q : ℕ) (plan : Plan) : Type 0 where
  pub all_served : unserved lines spans spaces q ≡ []
  pub position : plan.to ≡ q
  pub chains : map space_plan_of plan.spaces.items ≡ space_plans (live_archives lines) (resets_of spans) q spaces
  pub files : map span_view plan.logs.items
      ≡ files_behind (resets_of spans) q (least_low (space_plans (live_archives lines) (resets_of spans) q spaces)) spans

-- The refusal names each space that has no level 0, and there is one.
abbrev pub Explains : List Line → List Span → ℕ → ℕ → PlanFault → Type 0
Explains lines spans spaces q (Lacking list) = (list ≡ map NoLevel0 (unserved lines spans spaces q)) × (unserved lines spans spaces q ≢ [])
Explains lines spans spaces q OutOfMemory = Unit {0}
