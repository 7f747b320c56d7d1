-- A fit site stays fit while the lanes of a phase go on together.
use Rattle.std.specs.Prelude.{◌≡◌, ℕ, suc, ◌≤◌, List, [], ◌∷◌, length, true, false, Option, Some, None}
use Rattle.std.specs.List.{AllByRecursion}
use mathlib.Core.Logic.{inl, inr}
use Rattle.std.proofs.Common.{refl, sym, ap, subst, ◌∙◌, ⊎_elim}
use Rattle.std.proofs.lemmas.Bool.{true≢false}
use Rattle.log_history.specs.Transactions.{low}
use Rattle.backup_lines.specs.Spans.{Active}
use Rattle.site_worlds.specs.Worlds.{Ring, LaneState, Site}
use Rattle.site_worlds.specs.Files.{first_of_file, EndsInReset}
use Rattle.site_worlds.specs.Lanes.{IsAtRest, IsOnTheWay, EachLane}
use Rattle.site_worlds.specs.Fitness.{FitStep, IsFinishing, IsFitSite}
use Rattle.site_worlds.specs.Moves.{IsBetween, IsOnLane, EachWay, site_after, move_lanes}
use Rattle.site_worlds.specs.Allowed.{CanLane, stays, closes, advances, prepares, restores, finishes, EachCan}
use Rattle.world_laws.specs.ListLaws.{none_some, some_same}
use Rattle.world_laws.specs.LaneLaws.{Fits, on_lane, lane_fits, rest_goal, rest_between, prepared_between, restored_between, none_between_lost, none_between_finished}

-- one lane of a restore whose lanes are prepared, before its Reset

module _ (site : Site) (restore : Active) (is : site.active ≡ Some restore) (prepared : restore.prepared ≡ true) where
  same_restore : (under : Active) → site.active ≡ Some under → under ≡ restore
  same_restore under other = some_same (sym other ∙ is)

  not_unprepared : (under : Active) → site.active ≡ Some under → under.prepared ≡ false → ⊥
  not_unprepared under other isnt = true≢false (sym prepared ∙ ap (λ (a : Active). a.prepared) (sym (same_restore under other)) ∙ isnt)

  module _ (before : EndsInReset site.history restore → ⊥) where
    not_ended : (under : Active) → site.active ≡ Some under → EndsInReset site.history under → ⊥
    not_ended under other ends = before (subst (EndsInReset site.history) (same_restore under other) ends)

    way_goal : (space : ℕ) (first goal : LaneState) → CanLane site space first goal → IsOnTheWay restore.number first → IsOnTheWay restore.number goal
    way_goal space first goal (stays same) way = subst (IsOnTheWay restore.number) (sym same) way
    way_goal space first goal (closes to) way = subst (IsOnTheWay restore.number) (sym to) tt
    way_goal space first goal (advances can) way = absurd (none_some (sym can.none ∙ is))
    way_goal space first goal (prepares can) way = absurd (not_unprepared can.under can.is can.unprepared)
    way_goal space first goal (restores can) way = subst (IsOnTheWay restore.number) (sym can.to) (ap (λ (a : Active). a.number) (same_restore can.under can.is))
    way_goal space first goal (finishes can) way = absurd (not_ended can.under can.is can.ends)

    way_between : (space : ℕ) (first goal mid : LaneState) → CanLane site space first goal → (goal ≡ first → ⊥) → IsBetween site space first goal mid → IsOnTheWay restore.number mid
    way_between space first goal mid (stays same) differs on = absurd (differs same)
    way_between space first goal mid (closes to) differs on = absurd (none_between_lost site space first goal mid to on)
    way_between space first goal mid (advances can) differs on = absurd (none_some (sym can.none ∙ is))
    way_between space first goal mid (prepares can) differs on = subst (IsOnTheWay restore.number) (sym (prepared_between site space first goal mid can on)) tt
    way_between space first goal mid (restores can) differs on =
        subst (λ (a : Active). IsOnTheWay a.number mid) (same_restore can.under can.is) (restored_between site space first goal mid can on).on_the_way
    way_between space first goal mid (finishes can) differs on = absurd (none_between_finished site space first goal mid can on)

    lane_on_the_way : (space : ℕ) (first goal mid : LaneState) → CanLane site space first goal → IsOnLane site space first goal mid
        → IsOnTheWay restore.number first → IsOnTheWay restore.number mid
    lane_on_the_way space first goal mid can on way =
        on_lane (IsOnTheWay restore.number) site space first goal mid way (way_goal space first goal can way) (way_between space first goal mid can) on

  -- behind its Reset
  module _ (ends : EndsInReset site.history restore) where
    reset_stands : (under : Active) → site.active ≡ Some under → EndsInReset site.history under
    reset_stands under other = subst (EndsInReset site.history) (sym (same_restore under other)) ends

    finish_goal : (space : ℕ) (first goal : LaneState) → CanLane site space first goal → IsFinishing site.history restore first → IsFinishing site.history restore goal
    finish_goal space first goal (stays same) way = subst (IsFinishing site.history restore) (sym same) way
    finish_goal space first goal (closes to) way = subst (IsFinishing site.history restore) (sym to) (inl tt)
    finish_goal space first goal (advances can) way = absurd (none_some (sym can.none ∙ is))
    finish_goal space first goal (prepares can) way = absurd (not_unprepared can.under can.is can.unprepared)
    finish_goal space first goal (restores can) way = absurd (can.before (reset_stands can.under can.is))
    finish_goal space first goal (finishes can) way = subst (IsFinishing site.history restore) (sym can.to) (inl (refl, refl))

    finish_between : (space : ℕ) (first goal mid : LaneState) → CanLane site space first goal → (goal ≡ first → ⊥) → IsBetween site space first goal mid
        → IsFinishing site.history restore mid
    finish_between space first goal mid (stays same) differs on = absurd (differs same)
    finish_between space first goal mid (closes to) differs on = absurd (none_between_lost site space first goal mid to on)
    finish_between space first goal mid (advances can) differs on = absurd (none_some (sym can.none ∙ is))
    finish_between space first goal mid (prepares can) differs on = absurd (not_unprepared can.under can.is can.unprepared)
    finish_between space first goal mid (restores can) differs on = absurd (can.before (reset_stands can.under can.is))
    finish_between space first goal mid (finishes can) differs on = absurd (none_between_finished site space first goal mid can on)

    lane_finishes : (space : ℕ) (first goal mid : LaneState) → CanLane site space first goal → IsOnLane site space first goal mid
        → IsFinishing site.history restore first → IsFinishing site.history restore mid
    lane_finishes space first goal mid can on way =
        on_lane (IsFinishing site.history restore) site space first goal mid way (finish_goal space first goal can way) (finish_between space first goal mid can) on

-- one lane with no restore under way
lane_rests : (site : Site) (held space : ℕ) (first goal mid : LaneState) → site.active ≡ None → held ≤ low site.history → CanLane site space first goal
    → IsOnLane site space first goal mid → IsAtRest site.history held first → IsAtRest site.history held mid
lane_rests site held space first goal mid none le can on rests =
    on_lane (IsAtRest site.history held) site space first goal mid rests (rest_goal site held space first goal none le can rests)
    (rest_between site held space first goal mid none can rests) on

-- all lanes

abbrev Carries : Site → (ℕ → LaneState → Type 0) → Type 0
Carries site P = (space : ℕ) (first goal mid : LaneState) → CanLane site space first goal → IsOnLane site space first goal mid → P space first → P space mid

each_mid : (site : Site) (P : ℕ → LaneState → Type 0) → Carries site P → (space : ℕ) (lanes goals mids : List LaneState)
    → EachCan site space lanes goals → EachWay (IsOnLane site) space lanes goals mids → EachLane P space lanes → EachLane P space mids
each_mid site P carries space [] [] [] can way all = tt
each_mid site P carries space (lane ∷ lanes) (goal ∷ goals) (mid ∷ mids) can way all = (
  carries space lane goal mid can.0 way.0 all.0,
  each_mid site P carries (suc space) lanes goals mids can.1 way.1 all.1,
)
each_mid site P carries space [] [] (mid ∷ mids) can way all = absurd way
each_mid site P carries space [] (goal ∷ goals) mids can way all = absurd can
each_mid site P carries space (lane ∷ lanes) [] mids can way all = absurd can
each_mid site P carries space (lane ∷ lanes) (goal ∷ goals) [] can way all = absurd way

as_many : (site : Site) (space : ℕ) (lanes goals mids : List LaneState) → EachCan site space lanes goals → EachWay (IsOnLane site) space lanes goals mids → length mids ≡ length lanes
as_many site space [] [] [] can way = refl
as_many site space (lane ∷ lanes) (goal ∷ goals) (mid ∷ mids) can way = ap suc (as_many site (suc space) lanes goals mids can.1 way.1)
as_many site space [] [] (mid ∷ mids) can way = absurd way
as_many site space [] (goal ∷ goals) mids can way = absurd can
as_many site space (lane ∷ lanes) [] mids can way = absurd can
as_many site space (lane ∷ lanes) (goal ∷ goals) [] can way = absurd way

numbered : (P : LaneState → Type 0) (space : ℕ) (lanes : List LaneState) → AllByRecursion P lanes → EachLane (λ n. P) space lanes
numbered P space [] all = tt
numbered P space (lane ∷ lanes) all = (all.0, numbered P (suc space) lanes all.1)

unnumbered : (P : LaneState → Type 0) (space : ℕ) (lanes : List LaneState) → EachLane (λ n. P) space lanes → AllByRecursion P lanes
unnumbered P space [] all = tt
unnumbered P space (lane ∷ lanes) all = (all.0, unnumbered P (suc space) lanes all.1)

all_mid : (site : Site) (P : LaneState → Type 0) → Carries site (λ n. P) → (goals mids : List LaneState)
    → EachCan site 0 site.lanes goals → EachWay (IsOnLane site) 0 site.lanes goals mids → AllByRecursion P site.lanes → AllByRecursion P mids
all_mid site P carries goals mids can way all =
    unnumbered P 0 mids (each_mid site (λ n. P) carries 0 site.lanes goals mids can way (numbered P 0 site.lanes all))

step_mid : (site : Site) (goals mids : List LaneState) → EachCan site 0 site.lanes goals → EachWay (IsOnLane site) 0 site.lanes goals mids
    → (ring : Option Ring) (active : Option Active) → site.active ≡ active → FitStep site.history site.starts ring active site.lanes
    → FitStep site.history site.starts ring active mids
step_mid site goals mids can way None active is step = tt
step_mid site goals mids can way (Some ring) None is step = record {
  low = step.low;
  each = all_mid site (IsAtRest site.history (first_of_file site.starts site.history ring.oldest))
      (λ space first goal mid. lane_rests site (first_of_file site.starts site.history ring.oldest) space first goal mid is step.low) goals mids can way step.each;
}
step_mid site goals mids can way (Some ring) (Some restore) is step = λ prepared. ⊎_elim
    (λ before. inl (before.0, all_mid site (IsOnTheWay restore.number) (lane_on_the_way site restore is prepared before.0) goals mids can way before.1))
    (λ behind. inr (behind.0, all_mid site (IsFinishing site.history restore) (lane_finishes site restore is prepared behind.0) goals mids can way behind.1))
    (step prepared)

-- A site whose lanes go on is fit, wherever each of them is.
pub kept_amid : (goals mids : List LaneState) (site : Site) → EachCan site 0 site.lanes goals → EachWay (IsOnLane site) 0 site.lanes goals mids → IsFitSite site
    → IsFitSite (record site { lanes = mids })
kept_amid goals mids site can way fit = record {
  head = fit.head;
  history = fit.history;
  brief = fit.brief;
  files = fit.files;
  store = fit.store;
  lines = fit.lines;
  restore = fit.restore;
  lanes = record {
    count = as_many site 0 site.lanes goals mids can way ∙ fit.lanes.count;
    each = each_mid site (Fits site) (lane_fits site) 0 site.lanes goals mids can way fit.lanes.each;
    step = step_mid site goals mids can way site.ring site.active refl fit.lanes.step;
  };
}

goals_reached : (site : Site) (space : ℕ) (lanes goals : List LaneState) → EachCan site space lanes goals → EachWay (IsOnLane site) space lanes goals goals
goals_reached site space [] [] can = tt
goals_reached site space (lane ∷ lanes) (goal ∷ goals) can = (inr (inl refl), goals_reached site (suc space) lanes goals can.1)
goals_reached site space [] (goal ∷ goals) can = can
goals_reached site space (lane ∷ lanes) [] can = can

pub kept_lanes : (goals : List LaneState) (site : Site) → EachCan site 0 site.lanes goals → IsFitSite site → IsFitSite (site_after (move_lanes goals) site)
kept_lanes goals site can fit = kept_amid goals goals site can (goals_reached site 0 site.lanes goals can) fit
