-- Why a site is refused before its script, as its course and its status have it.
use Rattle.std.proofs.Common.{◌≡◌, ◌∙◌, ℕ, suc, List, [], ◌∷◌, ◌++◌, Bool, false, if◌then◌else◌, Option, None, Some, refl, sym, ap, subst}
use Rattle.std.specs.Option.{option_map, option_or}
use Rattle.std.proofs.lemmas.List.{append-nil}
use Rattle.log_history.specs.History.{History}
use Rattle.log_history.specs.Transactions.{Table}
use Rattle.backup_lines.specs.Spans.{Active}
use Rattle.onbar_grammar.specs.Script.{Raw, Space}
use Rattle.site_model.specs.Texts.{extension_text, status_text}
use Rattle.site_model.specs.declared.status.Status.TheVariants.{ChunkLost as Lost}
use Rattle.walks.specs.Courses.{Course, behind_moves, only, then_do, unless_fault}
use Rattle.walks.specs.CoursesLaws.{then_next, then_none}
use Rattle.site_worlds.specs.Worlds.{LaneState, Ring, Site, stands, blank, merges, replays, stale, lost}
use Rattle.site_worlds.specs.Moves.{Move, site_rules}
use Rattle.site_courses.specs.Faults.{Fault, needs_restart, log_lost, chunk_lost}
use Rattle.site_courses.specs.Courses.{SiteCourse, check, first_lost, if_active, if_any_lost, if_log_lost, if_no_ring, in_turn}
use Rattle.site_headers.specs.Heads.{Head}
use Rattle.site_scripts.specs.Extending.{MayRun}
use Rattle.site_runs.specs.Scripts.{script_course, transactions_of}
use Rattle.site_core.specs.declared.faults.SiteFault.{SiteFault}
use Rattle.site_core.specs.declared.faults.SiteFault.TheVariants.{OutOfMemory, DiskFault, NotFormatted, AlreadyFormatted, BadRecord, NeedsRestart, NoSuchSpace, NoSuchPage, ChunkLost, LogLost, LogFull, StoreFull, CatalogueFull, TooManyObjects, BootFull}
use Rattle.site_core.specs.Faults.{IsNamed, fault_in, status_in}
use Rattle.site_commands.specs.Commands.{HasRead}
use Rattle.site_forms.specs.PassingLaws.{IsOfNoChunk, no_chunk_named, no_chunk_or}
use Rattle.site_commands.specs.Runs.{run_text, status_in as status_of_refusal, tells_counts}
use Rattle.transactions_command.specs.Entering.{if_refused, if_unready}

-- a course that a check may refuse

abbrev pub checked : Option Fault → Course Move Fault → Course Move Fault
checked None course = course
checked (Some fault) course = only (Some fault)

then_check : (test : Site → Option Fault) (next : SiteCourse) (site : Site) → then_do site_rules (check test) next site ≡ checked (test site) (next site)
unfolding then_do
then_check test next site = by (test site)
  where
    by : (fault : Option Fault) → unless_fault fault (only fault) (behind_moves [] (next site)) ≡ checked fault (next site)
    by None = refl
    by (Some fault) = refl

then_last : (last : SiteCourse) (site : Site) → then_do site_rules last (in_turn []) site ≡ last site
then_last last site = by (last site).fault refl
  where
    by : (fault : Option Fault) → (last site).fault ≡ fault → then_do site_rules last (in_turn []) site ≡ last site
    by None is = then_next site_rules last (in_turn []) site is ∙ (λ i. record { moves = append-nil (last site).moves i; fault = sym is i })
    by (Some fault) is = then_none site_rules last (in_turn []) site fault is

all_checked : (a b c : Option Fault) (last : Course Move Fault) → checked a (checked b (checked c last)) ≡ checked (option_or (option_or a b) c) last
all_checked None None c last = refl
all_checked None (Some fault) c last = refl
all_checked (Some fault) b c last = refl

pub transactions_are : (moment : ℕ) (text : List ℕ) (site : Site) → transactions_of moment text site ≡ checked (if_refused site) (script_course moment text site)
transactions_are moment text site =
    then_check if_active (in_turn (check if_log_lost ∷ check if_any_lost ∷ script_course moment text ∷ [])) site
    ∙ ap (λ (c : Course Move Fault). checked (if_active site) c) (then_check if_log_lost (in_turn (check if_any_lost ∷ script_course moment text ∷ [])) site
    ∙ ap (λ (c : Course Move Fault). checked (if_log_lost site) c) (then_check if_any_lost (in_turn (script_course moment text ∷ [])) site
    ∙ ap (λ (c : Course Move Fault). checked (if_any_lost site) c) (then_last (script_course moment text) site)))
    ∙ all_checked (if_active site) (if_log_lost site) (if_any_lost site) (script_course moment text site)

-- which refusals these are

abbrev IsOfEntry : Option Fault → Type 0
IsOfEntry None = Unit {0}
IsOfEntry (Some (needs_restart number)) = Unit {0}
IsOfEntry (Some log_lost) = Unit {0}
IsOfEntry (Some (chunk_lost space)) = Unit {0}
IsOfEntry (Some fault) = ⊥

of_both : (a b : Option Fault) → IsOfEntry a → IsOfEntry b → IsOfEntry (option_or a b)
of_both None b first second = second
of_both (Some fault) b first second = first

of_active : (active : Option Active) → IsOfEntry (option_map (λ restore. needs_restart restore.number) active)
of_active None = tt
of_active (Some restore) = tt

of_ring : (ring : Option Ring) → IsOfEntry (if_no_ring ring)
of_ring None = tt
of_ring (Some ring) = tt

of_lanes : (space : ℕ) (lanes : List LaneState) → IsOfEntry (first_lost space lanes)
of_lanes space [] = tt
of_lanes space (stands upto part ∷ lanes) = of_lanes (suc space) lanes
of_lanes space (blank restore ∷ lanes) = of_lanes (suc space) lanes
of_lanes space (merges restore chain archive entries ∷ lanes) = of_lanes (suc space) lanes
of_lanes space (replays restore chain upto part ∷ lanes) = of_lanes (suc space) lanes
of_lanes space (stale ∷ lanes) = of_lanes (suc space) lanes
of_lanes space (lost ∷ lanes) = tt

of_entry : (site : Site) → IsOfEntry (if_refused site)
of_entry site = of_both (if_unready site) (if_any_lost site) (of_both (if_active site) (if_log_lost site) (of_active site.active) (of_ring site.ring)) (of_lanes 0 site.lanes)

-- a fault that is such a refusal: its status, and it tells no counts
pub record TellsRefusal (spaces : List Space) (fault : SiteFault) : Type 0 where
  pub status : status_of_refusal spaces (fault_in fault) ≡ status_in fault
  pub counts : tells_counts (Some (fault_in fault)) ≡ false
  pub read : (left : List Raw) (after : List ℕ) → HasRead (status_in fault) left after

of_fault : (spaces : List Space) (fault : SiteFault) → IsOfEntry (Some (fault_in fault)) → IsNamed spaces fault → TellsRefusal spaces fault
of_fault spaces OutOfMemory is named = absurd is
of_fault spaces (DiskFault disk) is named = absurd is
of_fault spaces NotFormatted is named = absurd is
of_fault spaces AlreadyFormatted is named = absurd is
of_fault spaces (BadRecord disk slot) is named = absurd is
of_fault spaces (NeedsRestart number) is named = record { status = refl; counts = refl; read = λ left after. tt }
of_fault spaces (NoSuchSpace name) is named = absurd is
of_fault spaces (NoSuchPage page) is named = absurd is
of_fault spaces (ChunkLost space name) is named = record { status = ap Lost (sym named); counts = refl; read = λ left after. tt }
of_fault spaces LogLost is named = record { status = refl; counts = refl; read = λ left after. tt }
of_fault spaces (LogFull why) is named = absurd is
of_fault spaces (StoreFull volume) is named = absurd is
of_fault spaces CatalogueFull is named = absurd is
of_fault spaces TooManyObjects is named = absurd is
of_fault spaces BootFull is named = absurd is

pub tells_refusal : (site : Site) (fault : SiteFault) → if_refused site ≡ Some (fault_in fault) → IsNamed site.head.spaces fault → TellsRefusal site.head.spaces fault
tells_refusal site fault is named = of_fault site.head.spaces fault (subst IsOfEntry is (of_entry site)) named

-- what refuses a site before its lanes are looked at is of no chunk

no_chunk_active : (active : Option Active) → IsOfNoChunk (option_map (λ restore. needs_restart restore.number) active)
no_chunk_active None = tt
no_chunk_active (Some restore) = tt

no_chunk_ring : (ring : Option Ring) → IsOfNoChunk (if_no_ring ring)
no_chunk_ring None = tt
no_chunk_ring (Some ring) = tt

pub unready_named : (site : Site) (fault : SiteFault) → if_unready site ≡ Some (fault_in fault) → IsNamed site.head.spaces fault
unready_named site fault is =
    no_chunk_named site.head.spaces fault (subst IsOfNoChunk is (no_chunk_or (if_active site) (if_log_lost site) (no_chunk_active site.active) (no_chunk_ring site.ring)))

-- the text of such a refusal is its status
pub refusal_text : (spaces : List Space) (fault : SiteFault) (before after : History) → TellsRefusal spaces fault → run_text spaces before after (Some (fault_in fault)) ≡ status_text (status_in fault)
refusal_text spaces fault before after tells =
    ap (λ (counts : Bool). (if counts then extension_text before after else []) ++ status_text (status_of_refusal spaces (fault_in fault))) tells.counts
    ∙ ap status_text tells.status

-- where a script may run nothing is refused
pub unrefused : (head : Head) (table : Table) (site : Site) → MayRun head table site → if_refused site ≡ None
unrefused head table site may =
    (λ i. option_or (option_or (option_map (λ (restore : Active). needs_restart restore.number) (may.none i)) (if_no_ring (may.has.is i))) (may.none_lost i))
