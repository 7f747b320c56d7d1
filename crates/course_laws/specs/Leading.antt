-- From what a course leads to what, each of its moves being one that may be made.
use Rattle.std.specs.Prelude.{◌≡◌, List, [], ◌++◌, Option, None, Some}
use Rattle.std.proofs.Common.{refl, sym, subst, ◌∙◌}
use Rattle.walks.specs.Courses.{Course, after_all, IsOnWay, then_do}
use Rattle.walks.specs.CoursesLaws.{after_all-append, then_next, then_none}
use Rattle.site_worlds.specs.Worlds.{Site}
use Rattle.site_worlds.specs.Fitness.{IsFitSite}
use Rattle.site_worlds.specs.Moves.{Move, site_rules}
use Rattle.site_courses.specs.Faults.{Fault}
use Rattle.site_courses.specs.Courses.{SiteCourse, check, in_turn}
use Rattle.world_laws.specs.ListLaws.{none_some}
use Rattle.world_laws.specs.KeptLaws.{CanAll, can_append, fit_after_all, fit_on_way}

-- The moves of a course are such as they may be, one after another; and unless it ends in a fault, something holds behind them.
pub record LeadsBy (Makes : List Move → Site → Type 0) (site : Site) (course : Course Move Fault) (Next : Site → Type 0) : Type 0 where
  pub can : Makes course.moves site
  pub then_holds : course.fault ≡ None → Next (after_all site_rules course.moves site)

-- they may be made
abbrev pub Leads : Site → Course Move Fault → (Site → Type 0) → Type 0
Leads site course Next = LeadsBy CanAll site course Next

-- from each fit site for which something holds
abbrev pub LeadsFrom : (Site → Type 0) → SiteCourse → (Site → Type 0) → Type 0
LeadsFrom Before course Next = (site : Site) → IsFitSite site → Before site → Leads site (course site) Next

-- a stop anywhere within such a course leaves a fit site
pub leads_fit : (site : Site) (course : Course Move Fault) (Next : Site → Type 0) → Leads site course Next → IsFitSite site
    → (other : Site) → IsOnWay site_rules course.moves site other → IsFitSite other
leads_fit site course Next leads fit other on = fit_on_way course.moves site other leads.can fit on

-- Of two courses one after another, the first makes moves of one kind and the next of another; together they are of a third.
module _ (First Later Whole : List Move → Site → Type 0)
    (can : (moves : List Move) (site : Site) → First moves site → CanAll moves site)
    (alone : (moves : List Move) (site : Site) → First moves site → Whole moves site)
    (joined : (moves more : List Move) (site : Site) → First moves site → Later more (after_all site_rules moves site) → Whole (moves ++ more) site)
    (Mid Next : Site → Type 0) (first next : SiteCourse) where
  pub both_lead : (site : Site) → IsFitSite site → LeadsBy First site (first site) Mid
      → ((other : Site) → IsFitSite other → Mid other → LeadsBy Later other (next other) Next) → LeadsBy Whole site (then_do site_rules first next site) Next
  both_lead site fit leads other = by (first site).fault refl
    where
      by : (fault : Option Fault) → (first site).fault ≡ fault → LeadsBy Whole site (then_do site_rules first next site) Next
      by (Some fault) is = subst (λ (c : Course Move Fault). LeadsBy Whole site c Next) (sym (then_none site_rules first next site fault is))
          (record { can = alone (first site).moves site leads.can; then_holds = λ none. absurd (none_some (sym none ∙ is)) })
      by None is =
          let later : LeadsBy Later (after_all site_rules (first site).moves site) (next (after_all site_rules (first site).moves site)) Next =
          other (after_all site_rules (first site).moves site) (fit_after_all (first site).moves site (can (first site).moves site leads.can) fit) (leads.then_holds is) in
          subst (λ (c : Course Move Fault). LeadsBy Whole site c Next) (sym (then_next site_rules first next site is)) (record {
            can = joined (first site).moves (next (after_all site_rules (first site).moves site)).moves site leads.can later.can;
            then_holds = λ none. subst Next
                (sym (after_all-append site_rules (first site).moves (next (after_all site_rules (first site).moves site)).moves site)) (later.then_holds none);
          })

module _ (Before Mid Next : Site → Type 0) (first next : SiteCourse) where
  pub leads_then : LeadsFrom Before first Mid → LeadsFrom Mid next Next → LeadsFrom Before (then_do site_rules first next) Next
  leads_then one other site fit before =
      both_lead CanAll CanAll CanAll (λ moves s can. can) (λ moves s can. can) can_append Mid Next first next site fit (one site fit before) other

-- a check makes no move, and what it tests for isn't so behind it
pub leads_check : (Before : Site → Type 0) (test : Site → Option Fault) → LeadsFrom Before (check test) (λ site. Before site × (test site ≡ None))
leads_check Before test site fit before = record { can = tt; then_holds = λ none. (before, none) }

-- nothing more
pub leads_none : (Before : Site → Type 0) → LeadsFrom Before (in_turn []) Before
leads_none Before site fit before = record { can = tt; then_holds = λ none. before }
