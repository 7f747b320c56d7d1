-- Why a restart is refused: what it finds as it begins, and nothing later.
use Rattle.std.specs.Prelude.{◌≡◌, ℕ, List, [], ◌∷◌, ◌++◌, Bool, true, false, if◌then◌else◌, Option, None, Some}
use Rattle.std.specs.Option.{option_or}
use Rattle.std.proofs.Common.{refl, sym, ap, subst, ◌∙◌}
use Rattle.walks.specs.Courses.{Course, unless_fault, after_all, only, behind_moves, then_do}
use Rattle.walks.specs.CoursesLaws.{then_next}
use Rattle.backup_lines.specs.Spans.{Active}
use Rattle.site_worlds.specs.Worlds.{Site}
use Rattle.site_worlds.specs.Fitness.{IsFitSite}
use Rattle.site_worlds.specs.Moves.{Move, site_rules}
use Rattle.world_laws.specs.ListLaws.{none_some}
use Rattle.site_courses.specs.Faults.{Fault}
use Rattle.site_courses.specs.Courses.{SiteCourse, check, in_turn, if_log_lost, if_any_lost}
use Rattle.site_courses.specs.Plans.{lacking_at, if_any}
use Rattle.site_courses.specs.Restores.{ends_in_reset, if_no_position, empty_lanes, format_lost, has_log, mark_prepared, prepare, make_ready, all_go_by, restore_lanes, write_reset, finish, go_on, if_prepared, restart_before, restart_from, restart_of, restart_course}
use Rattle.restore_course_laws.specs.RestoringLaws.{HasEnded}
use Rattle.restore_course_laws.specs.Passing.{restart_ends}

-- A restart of the restore under way is refused where a prepared one has lost the log or a chunk; then, unless the Reset is written, where
-- something that is needed lacks, and where no position is left.
abbrev pub restart_refusal : Active → Site → Option Fault
restart_refusal restore site =
    option_or (if restore.prepared then if_log_lost site else None)
    (option_or (if restore.prepared then if_any_lost site else None)
    (if ends_in_reset site restore.number then None
    else option_or (if_any (lacking_at site restore.number restore.to)) (if_no_position site)))

-- courses that are never refused

abbrev IsNeverRefused : SiteCourse → Type 0
IsNeverRefused course = (site : Site) → (course site).fault ≡ None

then_never : (first next : SiteCourse) → IsNeverRefused first → IsNeverRefused next → IsNeverRefused (then_do site_rules first next)
then_never first next one other site =
    ap (λ (c : Course Move Fault). c.fault) (then_next site_rules first next site (one site)) ∙ other (after_all site_rules (first site).moves site)

none_never : IsNeverRefused (in_turn [])
none_never site = refl

empty_never : (goes : Bool) (number to : ℕ) → IsNeverRefused (empty_lanes goes number to)
empty_never goes number to site = refl

prepare_never : (number to : ℕ) → IsNeverRefused (prepare number to)
prepare_never number to site =
    then_never (λ s. record { moves = format_lost s.ring; fault = None }) (in_turn (empty_lanes (has_log site.ring) number to ∷ mark_prepared true ∷ [])) (λ s. refl)
    (then_never (empty_lanes (has_log site.ring) number to) (in_turn (mark_prepared true ∷ [])) (empty_never (has_log site.ring) number to)
    (then_never (mark_prepared true) (in_turn []) (λ s. refl) none_never)) site

ready_never : (prepared : Bool) (number to : ℕ) → IsNeverRefused (make_ready prepared number to)
ready_never false number to site = prepare_never number to site
ready_never true number to site = by (all_go_by site number to)
  where
    again : IsNeverRefused (in_turn (mark_prepared false ∷ prepare number to ∷ []))
    again = then_never (mark_prepared false) (in_turn (prepare number to ∷ [])) (λ s. refl)
        (then_never (prepare number to) (in_turn []) (prepare_never number to) none_never)

    by : (b : Bool) → (if b then only None else in_turn (mark_prepared false ∷ prepare number to ∷ []) site).fault ≡ None
    by true = refl
    by false = again site

finish_never : IsNeverRefused finish
finish_never = then_never _ _ (λ s. refl) (then_never _ _ (λ s. refl) none_never)

go_on_never : (number to moment : ℕ) → IsNeverRefused (go_on number to moment)
go_on_never number to moment =
    then_never (restore_lanes number to) (in_turn (write_reset number to moment ∷ finish ∷ [])) (λ s. refl)
    (then_never (write_reset number to moment) (in_turn (finish ∷ [])) (λ s. refl) (then_never finish (in_turn []) finish_never none_never))

-- checks

-- the course is refused so, and where it is, nothing is done
record IsRefusedBy (course : Course Move Fault) (refusal : Option Fault) : Type 0 where
  is : course.fault ≡ refusal
  nothing : (fault : Fault) → refusal ≡ Some fault → course.moves ≡ []

never_refused : (course : SiteCourse) (site : Site) → IsNeverRefused course → IsRefusedBy (course site) None
never_refused course site never = record { is = never site; nothing = λ fault some. absurd (none_some some) }

-- behind a check
checked : (test : Site → Option Fault) (next : SiteCourse) (site : Site) (refusal : Option Fault) → IsRefusedBy (next site) refusal
    → IsRefusedBy (then_do site_rules (check test) next site) (option_or (test site) refusal)
unfolding then_do
checked test next site refusal later = by (test site)
  where
    by : (o : Option Fault) → IsRefusedBy (unless_fault o (only o) (behind_moves [] (next site))) (option_or o refusal)
    by None = record { is = later.is; nothing = later.nothing }
    by (Some fault) = record { is = refl; nothing = λ other some. refl }

-- a course alone in a list
alone : (course : SiteCourse) (site : Site) (refusal : Option Fault) → IsRefusedBy (course site) refusal → IsRefusedBy (in_turn (course ∷ []) site) refusal
unfolding then_do
alone course site refusal refused = record {
  is = same (course site).fault refl ∙ refused.is;
  nothing = λ fault some. no_more (course site).fault (refused.nothing fault some);
}
  where
    same : (o : Option Fault) → (course site).fault ≡ o → (unless_fault o (course site) (behind_moves (course site).moves (only None))).fault ≡ (course site).fault
    same None is = sym is
    same (Some fault) is = refl

    no_more : (o : Option Fault) → (course site).moves ≡ [] → (unless_fault o (course site) (behind_moves (course site).moves (only None))).moves ≡ []
    no_more None none = ap (λ (moves : List Move). moves ++ []) none
    no_more (Some other) none = none

module _ (restore : Active) (moment : ℕ) (site : Site) where
  abbrev rest : List SiteCourse
  rest = make_ready restore.prepared restore.number restore.to ∷ go_on restore.number restore.to moment ∷ []

  or_none : (o : Option Fault) → option_or o None ≡ o
  or_none None = refl
  or_none (Some fault) = refl

  rest_never : IsNeverRefused (in_turn rest)
  rest_never =
      then_never (make_ready restore.prepared restore.number restore.to) (in_turn (go_on restore.number restore.to moment ∷ []))
      (ready_never restore.prepared restore.number restore.to)
      (then_never (go_on restore.number restore.to moment) (in_turn []) (go_on_never restore.number restore.to moment) none_never)

  before_refused : IsRefusedBy (restart_before restore moment site) (option_or (if_any (lacking_at site restore.number restore.to)) (if_no_position site))
  before_refused =
      checked (λ s. if_any (lacking_at s restore.number restore.to)) (in_turn (check if_no_position ∷ rest)) site (if_no_position site)
      (subst (IsRefusedBy (in_turn (check if_no_position ∷ rest) site)) (or_none (if_no_position site))
      (checked if_no_position (in_turn rest) site None (never_refused (in_turn rest) site rest_never)))

  abbrev last : SiteCourse
  last s = if ends_in_reset s restore.number then finish s else restart_before restore moment s

  last_refused : IsRefusedBy (last site)
      (if ends_in_reset site restore.number then None else option_or (if_any (lacking_at site restore.number restore.to)) (if_no_position site))
  last_refused = by (ends_in_reset site restore.number)
    where
      by : (b : Bool) → IsRefusedBy (if b then finish site else restart_before restore moment site)
          (if b then None else option_or (if_any (lacking_at site restore.number restore.to)) (if_no_position site))
      by true = record { is = finish_never site; nothing = λ fault some. absurd (none_some some) }
      by false = before_refused

  from_refused : IsRefusedBy (restart_from restore moment site) (restart_refusal restore site)
  from_refused =
      checked (λ s. if restore.prepared then if_log_lost s else None) (in_turn (if_prepared restore if_any_lost ∷ last ∷ [])) site
      (option_or (if restore.prepared then if_any_lost site else None)
      (if ends_in_reset site restore.number then None else option_or (if_any (lacking_at site restore.number restore.to)) (if_no_position site)))
      (checked (λ s. if restore.prepared then if_any_lost s else None) (in_turn (last ∷ [])) site
      (if ends_in_reset site restore.number then None else option_or (if_any (lacking_at site restore.number restore.to)) (if_no_position site))
      (alone last site
      (if ends_in_reset site restore.number then None else option_or (if_any (lacking_at site restore.number restore.to)) (if_no_position site)) last_refused))

module _ (moment : ℕ) (restore : Active) (site : Site) (is : site.active ≡ Some restore) where
  same_course : restart_course moment site ≡ restart_from restore moment site
  same_course = ap (λ (a : Option Active). restart_of a moment site) is

  -- A restart is refused for what it finds as it begins,
  pub refused_as_it_begins : (restart_course moment site).fault ≡ restart_refusal restore site
  refused_as_it_begins = ap (λ (c : Course Move Fault). c.fault) same_course ∙ (from_refused restore moment site).is

  -- and then nothing is done;
  pub refused_does_nothing : (fault : Fault) → restart_refusal restore site ≡ Some fault → (restart_course moment site).moves ≡ []
  refused_does_nothing fault some = ap (λ (c : Course Move Fault). c.moves) same_course ∙ (from_refused restore moment site).nothing fault some

  -- else it ends the restore.
  pub not_refused_ends : IsFitSite site → restart_refusal restore site ≡ None → HasEnded restore (after_all site_rules (restart_course moment site).moves site)
  not_refused_ends fit none = restart_ends moment restore site fit is (refused_as_it_begins ∙ none)
