-- From what a course leads to what by the moves of a restart.
use Rattle.std.specs.Prelude.{◌≡◌, ℕ, suc, ◌&&◌, List, [], ◌∷◌, ◌++◌, Bool, true, false}
use Rattle.std.proofs.Common.{refl}
use Rattle.std.proofs.lemmas.Bool.{true≢false}
use Rattle.walks.specs.Courses.{Course, after_all, then_do}
use Rattle.site_worlds.specs.Worlds.{LaneState, Site}
use Rattle.site_worlds.specs.Fitness.{IsFitSite}
use Rattle.site_worlds.specs.Moves.{Move, site_after, site_rules}
use Rattle.world_laws.specs.KeptLaws.{CanAll}
use Rattle.site_courses.specs.Faults.{Fault}
use Rattle.site_courses.specs.Courses.{SiteCourse, in_turn}
use Rattle.site_courses.specs.Restores.{each_lane, all_lanes}
use Rattle.site_stories.specs.Restarts.{EachGoal, IsRestart}
use Rattle.course_laws.specs.Leading.{LeadsBy, both_lead}

-- a restart's moves may be made
pub restart_can : (moves : List Move) (site : Site) → IsRestart moves site → CanAll moves site
restart_can [] site is = tt
restart_can (move ∷ moves) site is = (is.0.can, restart_can moves (site_after move site) is.1)

pub restart_append : (moves more : List Move) (site : Site) → IsRestart moves site → IsRestart more (after_all site_rules moves site) → IsRestart (moves ++ more) site
unfolding site_rules
restart_append [] more site is rest = rest
restart_append (move ∷ moves) more site is rest = (is.0, restart_append moves more (site_after move site) is.1 rest)

-- a course makes the moves of a restart; and unless it ends in a fault, something holds behind them
abbrev pub Restarts : Site → Course Move Fault → (Site → Type 0) → Type 0
Restarts site course Next = LeadsBy IsRestart site course Next

abbrev pub RestartsFrom : (Site → Type 0) → SiteCourse → (Site → Type 0) → Type 0
RestartsFrom Before course Next = (site : Site) → IsFitSite site → Before site → Restarts site (course site) Next

module _ (Before Mid Next : Site → Type 0) (first next : SiteCourse) where
  pub restarts_then : RestartsFrom Before first Mid → RestartsFrom Mid next Next → RestartsFrom Before (then_do site_rules first next) Next
  restarts_then one other site fit before =
      both_lead IsRestart IsRestart IsRestart restart_can (λ moves s is. is) restart_append Mid Next first next site fit (one site fit before) other

pub restarts_none : (Before : Site → Type 0) → RestartsFrom Before (in_turn []) Before
restarts_none Before site fit before = record { can = tt; then_holds = λ none. before }

-- lanes that go to their goals

pub each_goal : (P : ℕ → LaneState → LaneState → Type 0) (goal : ℕ → LaneState → LaneState) → ((space : ℕ) (lane : LaneState) → P space lane (goal space lane))
    → (space : ℕ) (lanes : List LaneState) → EachGoal P space lanes (each_lane goal space lanes)
each_goal P goal each space [] = tt
each_goal P goal each space (lane ∷ lanes) = (each space lane, each_goal P goal each (suc space) lanes)

same_first : (x y : LaneState) (xs ys : List LaneState) → x ∷ xs ≡ y ∷ ys → x ≡ y
same_first x y xs ys e = cc

same_rest : (x y : LaneState) (xs ys : List LaneState) → x ∷ xs ≡ y ∷ ys → xs ≡ ys
same_rest x y xs ys e = cc

-- where some lane isn't at its goal, the lanes aren't the goals
module _ (is_there : ℕ → LaneState → Bool) (goal : ℕ → LaneState → LaneState)
    (elsewhere : (space : ℕ) (lane : LaneState) → is_there space lane ≡ false → goal space lane ≡ lane → ⊥) where
  pub some_lane_moves : (space : ℕ) (lanes : List LaneState) → all_lanes is_there space lanes ≡ false → each_lane goal space lanes ≡ lanes → ⊥
  some_lane_moves space [] isnt same = true≢false isnt
  some_lane_moves space (lane ∷ lanes) isnt same = by (is_there space lane) refl isnt
      (λ rest. some_lane_moves (suc space) lanes rest (same_rest (goal space lane) lane (each_lane goal (suc space) lanes) lanes same))
    where
      by : (b : Bool) → is_there space lane ≡ b → (b && all_lanes is_there (suc space) lanes) ≡ false → (all_lanes is_there (suc space) lanes ≡ false → ⊥) → ⊥
      by true is rest later = later rest
      by false is rest later = elsewhere space lane is (same_first (goal space lane) lane (each_lane goal (suc space) lanes) lanes same)
