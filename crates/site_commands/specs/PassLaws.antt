-- A command passes fit worlds alone, and what is in the log stays there.
use Rattle.std.specs.Prelude.{◌≡◌, ◌⊎◌, ℕ, List, [], ◌∷◌, ◌++◌, map, Option, None, Some}
use mathlib.Core.Logic.{inl, inr}
use Rattle.std.proofs.Common.{refl, sym, ap, subst, ◌∙◌, append_assoc}
use Rattle.std.proofs.lemmas.List.{append-nil}
use Rattle.onbar_grammar.specs.Script.{Space}
use Rattle.command_grammar.specs.Words.{CommandForm, init_form, transactions_form, show_form}
use Rattle.log_history.specs.History.{LogEntry, History, reset}
use Rattle.walks.specs.Courses.{IsOnWay}
use Rattle.site_headers.specs.Heads.{Head, IsHead}
use Rattle.site_model.specs.Runs.{head_at}
use Rattle.site_worlds.specs.Worlds.{Site, World, unformatted, formatted}
use Rattle.site_worlds.specs.Fitness.{IsFit, IsFitSite}
use Rattle.site_worlds.specs.Moves.{Move, append_batch, append_reset, close_file, drop_oldest, next_file, mark_backed, format_log, commit_objects, append_lines, begin_restore, set_prepared, end_restore, move_lanes, moves_on, site_after, site_rules, world_rules, StopsAt}
use Rattle.site_courses.specs.Courses.{show_course}
use Rattle.course_laws.specs.Passing.{init_passes, show_passes}
use Rattle.site_runs.specs.Passing.{transactions_pass}
use Rattle.site_runs.specs.Scripts.{transactions_of}
use Rattle.site_commands.specs.Runs.{run_form, transactions_on, show_on}

-- what `-init` makes has a head that a catalogue may have
abbrev pub MakesAHead : ℕ → CommandForm → Type 0
MakesAHead moment (init_form blocks spaces) = IsHead (head_at moment blocks spaces)
MakesAHead moment transactions_form = Unit {0}
MakesAHead moment (show_form name page) = Unit {0}

-- the way of a formatted site's world is that of the site
pub way_of_site : (moves : List Move) (site : Site) (other : World) → IsOnWay world_rules (map moves_on moves) (formatted site) other
    → (next : Site) × (other ≡ formatted next) × IsOnWay site_rules moves site next
unfolding world_rules site_rules
way_of_site [] site other is = (site, is, refl)
way_of_site (move ∷ moves) site other (inl within) = (within.0, within.1, inl within.2)
way_of_site (move ∷ moves) site other (inr later) = let to = way_of_site moves (site_after move site) other later in (to.0, to.1, inr to.2)

fit_there : (next : Site) (other : World) → other ≡ formatted next → IsFitSite next → IsFit other
fit_there next other is fit = subst IsFit (sym is) fit

none_passed : (world other : World) → IsFit world → IsOnWay world_rules [] world other → IsFit other
none_passed world other fit is = subst IsFit (sym is) fit

pub run_passes : (moment : ℕ) (script : List ℕ) (form : CommandForm) (begun other : World) → MakesAHead moment form → IsFit begun
    → IsOnWay world_rules (run_form moment script form begun).course.moves begun other → IsFit other
run_passes moment script (init_form blocks spaces) unformatted other makes fit on = init_passes (head_at moment blocks spaces) unformatted other makes fit on
run_passes moment script (init_form blocks spaces) (formatted site) other makes fit on = none_passed (formatted site) other fit on
run_passes moment script transactions_form unformatted other makes fit on = none_passed unformatted other fit on
run_passes moment script transactions_form (formatted site) other makes fit on =
    let to = way_of_site (transactions_of moment script site).moves site other on in
    fit_there to.0 other to.1 (transactions_pass moment script site to.0 fit to.2)
run_passes moment script (show_form name page) unformatted other makes fit on = none_passed unformatted other fit on
run_passes moment script (show_form name page) (formatted site) other makes fit on =
    let to = way_of_site (show_course name page site).moves site other on in
    fit_there to.0 other to.1 (show_passes name page site to.0 fit to.2)

-- what is in the log stays there

-- the same head, and all records of before in front
pub record ExtendsSite (site other : Site) : Type 0 where
  pub head : other.head ≡ site.head
  pub more : History
  pub history : other.history ≡ site.history ++ more

-- a site that isn't formatted has no log yet
abbrev pub Extends : World → World → Type 0
Extends unformatted other = Unit {0}
Extends (formatted site) other = (next : Site) × (other ≡ formatted next) × ExtendsSite site next

same_extends : (site other : Site) → other ≡ site → ExtendsSite site other
same_extends site other is = subst (ExtendsSite site) (sym is) (record { head = refl; more = []; history = sym (append-nil site.history) })

as_before : (site : Site) → ExtendsSite site site
as_before site = same_extends site site refl

move_extends : (move : Move) (site : Site) → ExtendsSite site (site_after move site)
move_extends (append_batch records) site = record { head = refl; more = records; history = refl }
move_extends (append_reset restore target time) site = record { head = refl; more = reset restore target time ∷ []; history = refl }
move_extends close_file site = record { head = refl; more = []; history = sym (append-nil site.history) }
move_extends drop_oldest site = record { head = refl; more = []; history = sym (append-nil site.history) }
move_extends next_file site = record { head = refl; more = []; history = sym (append-nil site.history) }
move_extends (mark_backed file) site = record { head = refl; more = []; history = sym (append-nil site.history) }
move_extends format_log site = record { head = refl; more = []; history = sym (append-nil site.history) }
move_extends (commit_objects added deleted) site = record { head = refl; more = []; history = sym (append-nil site.history) }
move_extends (append_lines more) site = record { head = refl; more = []; history = sym (append-nil site.history) }
move_extends (begin_restore point to) site = record { head = refl; more = []; history = sym (append-nil site.history) }
move_extends (set_prepared prepared) site = record { head = refl; more = []; history = sym (append-nil site.history) }
move_extends end_restore site = record { head = refl; more = []; history = sym (append-nil site.history) }
move_extends (move_lanes goals) site = record { head = refl; more = []; history = sym (append-nil site.history) }

stop_extends : (move : Move) (site other : Site) → StopsAt move site other → ExtendsSite site other
stop_extends (move_lanes goals) site other (inl is) = same_extends site other is
stop_extends (move_lanes goals) site other (inr amid) =
    subst (ExtendsSite site) (sym amid.is) (record { head = refl; more = []; history = sym (append-nil site.history) })
stop_extends (append_batch records) site other is = same_extends site other is
stop_extends (append_reset restore target time) site other is = same_extends site other is
stop_extends close_file site other is = same_extends site other is
stop_extends drop_oldest site other is = same_extends site other is
stop_extends next_file site other is = same_extends site other is
stop_extends (mark_backed file) site other is = same_extends site other is
stop_extends format_log site other is = same_extends site other is
stop_extends (commit_objects added deleted) site other is = same_extends site other is
stop_extends (append_lines more) site other is = same_extends site other is
stop_extends (begin_restore point to) site other is = same_extends site other is
stop_extends (set_prepared prepared) site other is = same_extends site other is
stop_extends end_restore site other is = same_extends site other is

extends_again : (site mid other : Site) → ExtendsSite site mid → ExtendsSite mid other → ExtendsSite site other
extends_again site mid other first second = record {
  head = second.head ∙ first.head;
  more = first.more ++ second.more;
  history = second.history ∙ ap (λ (h : History). h ++ second.more) first.history ∙ append_assoc site.history first.more second.more;
}

pub way_extends : (moves : List Move) (site other : Site) → IsOnWay site_rules moves site other → ExtendsSite site other
unfolding site_rules
way_extends [] site other is = same_extends site other is
way_extends (move ∷ moves) site other (inl within) = stop_extends move site other within
way_extends (move ∷ moves) site other (inr later) =
    extends_again site (site_after move site) other (move_extends move site) (way_extends moves (site_after move site) other later)

moves_extend : (moves : List Move) (site : Site) (other : World) → IsOnWay world_rules (map moves_on moves) (formatted site) other → Extends (formatted site) other
moves_extend moves site other on = let to = way_of_site moves site other on in (to.0, to.1, way_extends moves site to.0 to.2)

pub run_extends : (moment : ℕ) (script : List ℕ) (form : CommandForm) (begun other : World)
    → IsOnWay world_rules (run_form moment script form begun).course.moves begun other → Extends begun other
run_extends moment script form unformatted other on = tt
run_extends moment script (init_form blocks spaces) (formatted site) other on = (site, on, as_before site)
run_extends moment script transactions_form (formatted site) other on = moves_extend (transactions_of moment script site).moves site other on
run_extends moment script (show_form name page) (formatted site) other on = moves_extend (show_course name page site).moves site other on
