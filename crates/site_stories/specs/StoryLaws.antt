-- Each world of a story is fit; its log only grows, and of one that is lost all that was backed up stays.
use Rattle.std.specs.Prelude.{◌≡◌, ℕ, zero, suc, ◌≤◌, List, [], ◌∷◌, ◌++◌, length, take, drop}
use Rattle.std.specs.List.{AllByRecursion}
use mathlib.Core.Logic.{inl, inr}
use Rattle.std.proofs.Common.{arith, refl, sym, ap, subst, ◌∙◌, append_assoc, append-nil, length-take, take-append-drop}
use Rattle.std.proofs.lemmas.List.{take-append-le}
use Rattle.log_history.specs.History.{History, reset}
use Rattle.log_history.specs.Effects.{page_at}
use Rattle.history_laws.specs.PagesLaws.{page_before}
use Rattle.walks.specs.Courses.{IsOnWay}
use Rattle.site_worlds.specs.Worlds.{Site, World, unformatted, formatted}
use Rattle.site_worlds.specs.Files.{last_logged}
use Rattle.site_worlds.specs.Fitness.{IsFit}
use Rattle.site_worlds.specs.Moves.{Move, append_batch, append_reset, close_file, drop_oldest, next_file, mark_backed, format_log, commit_objects, append_lines, begin_restore, set_prepared, end_restore, move_lanes, site_after, StopsAt, WorldMove, format_site, moves_on, world_after, WorldStopsAt, world_rules}
use Rattle.world_laws.specs.LinesLaws.{logged_append, reached_within}
use Rattle.world_laws.specs.NewLaws.{CanWorldMove, CanWorldAll, world_fit_on_way}
use Rattle.site_stories.specs.Events.{chunks_lost, damaged, log_lost}
use Rattle.site_stories.specs.EventLaws.{befallen_fits}
use Rattle.site_stories.specs.Stories.{WorldBefalls, IsEvent, runs, befalls, AreEvents, history_of, logged_of}

-- fitness

world_befallen : (world next : World) → WorldBefalls world next → IsFit world → IsFit next
world_befallen unformatted next is fit = absurd is
world_befallen (formatted site) unformatted is fit = absurd is
world_befallen (formatted site) (formatted next) is fit = befallen_fits site next is fit

event_fits : (world next : World) → IsEvent world next → IsFit world → IsFit next
event_fits world next (runs moves can stops) fit = world_fit_on_way moves world next can fit stops
event_fits world next (befalls is) fit = world_befallen world next is fit

-- Each world that events lead to is fit.
pub events_fit : (worlds : List World) (world last : World) → AreEvents worlds world last → IsFit world → IsFit last × AllByRecursion IsFit worlds
events_fit [] world last events fit = (subst IsFit (sym events) fit, tt)
events_fit (next ∷ worlds) world last events fit =
    let now : IsFit next = event_fits world next events.0 fit in
    let rest = events_fit worlds next last events.1 now in
    (rest.0, (now, rest.1))

-- what a run keeps

-- The log has grown, and log files with lines reach as far at least.
pub record HasGrown (old new : World) : Type 0 where
  pub more : History
  pub grown : history_of new ≡ history_of old ++ more
  pub logged : logged_of old ≤ logged_of new

grown_as : (old new : World) → history_of new ≡ history_of old → logged_of new ≡ logged_of old → HasGrown old new
grown_as old new history lines = record { more = []; grown = history ∙ sym (append-nil (history_of old)); logged = omega (arith, lines) }

grown_later : (old mid new : World) → HasGrown old mid → HasGrown mid new → HasGrown old new
grown_later old mid new first next = record {
  more = first.more ++ next.more;
  grown = next.grown ∙ ap (λ (h : History). h ++ next.more) first.grown ∙ append_assoc (history_of old) first.more next.more;
  logged = omega (arith, first.logged, next.logged);
}

move_grows : (move : Move) (site : Site) → HasGrown (formatted site) (formatted (site_after move site))
move_grows (append_batch records) site = record { more = records; grown = refl; logged = omega arith }
move_grows (append_reset restore target time) site = record { more = reset restore target time ∷ []; grown = refl; logged = omega arith }
move_grows (append_lines more) site = record { more = []; grown = sym (append-nil site.history); logged = omega (arith, logged_append site.lines more) }
move_grows close_file site = grown_as (formatted site) (formatted (site_after close_file site)) refl refl
move_grows drop_oldest site = grown_as (formatted site) (formatted (site_after drop_oldest site)) refl refl
move_grows next_file site = grown_as (formatted site) (formatted (site_after next_file site)) refl refl
move_grows (mark_backed file) site = grown_as (formatted site) (formatted (site_after (mark_backed file) site)) refl refl
move_grows format_log site = grown_as (formatted site) (formatted (site_after format_log site)) refl refl
move_grows (commit_objects added deleted) site = grown_as (formatted site) (formatted (site_after (commit_objects added deleted) site)) refl refl
move_grows (begin_restore point to) site = grown_as (formatted site) (formatted (site_after (begin_restore point to) site)) refl refl
move_grows (set_prepared prepared) site = grown_as (formatted site) (formatted (site_after (set_prepared prepared) site)) refl refl
move_grows end_restore site = grown_as (formatted site) (formatted (site_after end_restore site)) refl refl
move_grows (move_lanes goals) site = grown_as (formatted site) (formatted (site_after (move_lanes goals) site)) refl refl

stopped_as : (site other : Site) → other ≡ site → HasGrown (formatted site) (formatted other)
stopped_as site other is = grown_as (formatted site) (formatted other) (ap (λ (s : Site). s.history) is) (ap (λ (s : Site). last_logged s.lines) is)

stop_grows : (move : Move) (site other : Site) → StopsAt move site other → HasGrown (formatted site) (formatted other)
stop_grows (append_batch records) site other is = stopped_as site other is
stop_grows (append_reset restore target time) site other is = stopped_as site other is
stop_grows (append_lines more) site other is = stopped_as site other is
stop_grows close_file site other is = stopped_as site other is
stop_grows drop_oldest site other is = stopped_as site other is
stop_grows next_file site other is = stopped_as site other is
stop_grows (mark_backed file) site other is = stopped_as site other is
stop_grows format_log site other is = stopped_as site other is
stop_grows (commit_objects added deleted) site other is = stopped_as site other is
stop_grows (begin_restore point to) site other is = stopped_as site other is
stop_grows (set_prepared prepared) site other is = stopped_as site other is
stop_grows end_restore site other is = stopped_as site other is
stop_grows (move_lanes goals) site other (inl is) = stopped_as site other is
stop_grows (move_lanes goals) site other (inr amid) =
    grown_as (formatted site) (formatted other) (ap (λ (s : Site). s.history) amid.is) (ap (λ (s : Site). last_logged s.lines) amid.is)

world_move_grows : (move : WorldMove) (world : World) → CanWorldMove move world → HasGrown world (world_after move world)
world_move_grows (format_site head) unformatted can = record { more = []; grown = refl; logged = omega arith }
world_move_grows (format_site head) (formatted site) can = absurd can
world_move_grows (moves_on move) unformatted can = absurd can
world_move_grows (moves_on move) (formatted site) can = move_grows move site

world_stop_grows : (move : WorldMove) (world other : World) → CanWorldMove move world → WorldStopsAt move world other → HasGrown world other
world_stop_grows (format_site head) world other can is = grown_as world other (ap history_of is) (ap logged_of is)
world_stop_grows (moves_on move) unformatted other can is = absurd can
world_stop_grows (moves_on move) (formatted site) other can is =
    subst (HasGrown (formatted site)) (sym is.1) (stop_grows move site is.0 is.2)

-- A run that ends or stops lets the log grow alone.
pub run_grows : (moves : List WorldMove) (world other : World) → CanWorldAll moves world → IsOnWay world_rules moves world other → HasGrown world other
unfolding world_rules
run_grows [] world other can is = grown_as world other (ap history_of is) (ap logged_of is)
run_grows (move ∷ moves) world other can (inl within) = world_stop_grows move world other can.0 within
run_grows (move ∷ moves) world other can (inr later) = grown_later world (world_after move world) other
    (world_move_grows move world can.0) (run_grows moves (world_after move world) other can.1 later)

-- what stays whatever befalls the site

-- The front of the log, up to where log files with lines reach, stays.
pub record StaysLogged (old new : World) : Type 0 where
  pub front : (n : ℕ) → n ≤ logged_of old → take n (history_of new) ≡ take n (history_of old)
  pub logged : logged_of old ≤ logged_of new

logged_within : (world : World) → IsFit world → logged_of world ≤ length (history_of world)
logged_within unformatted fit = omega arith
logged_within (formatted site) fit = reached_within site.head site.history site.starts site.store site.lines fit.history.inside fit.lines

grown_stays : (old new : World) → IsFit old → HasGrown old new → StaysLogged old new
grown_stays old new fit grown = record {
  front = λ n le. ap (take n) grown.grown ∙ take-append-le n (history_of old) grown.more (omega (arith, le, logged_within old fit));
  logged = grown.logged;
}

take_twice : (n m : ℕ) (history : History) → n ≤ m → take n (take m history) ≡ take n history
take_twice zero m history le = refl
take_twice (suc n) zero history le = absurd (omega (arith, le))
take_twice (suc n) (suc m) [] le = refl
take_twice (suc n) (suc m) (entry ∷ history) le = ap (λ (h : History). entry ∷ h) (take_twice n m history (omega (arith, le)))

befallen_stays : (world next : World) → WorldBefalls world next → IsFit world → StaysLogged world next
befallen_stays unformatted next is fit = absurd is
befallen_stays (formatted site) unformatted is fit = absurd is
befallen_stays (formatted site) (formatted next) (chunks_lost loss) fit = grown_stays (formatted site) (formatted next) fit
    (grown_as (formatted site) (formatted next) (ap (λ (s : Site). s.history) loss.is) (ap (λ (s : Site). last_logged s.lines) loss.is))
befallen_stays (formatted site) (formatted next) (damaged damage) fit = grown_stays (formatted site) (formatted next) fit
    (grown_as (formatted site) (formatted next) (ap (λ (s : Site). s.history) damage.is) (ap (λ (s : Site). last_logged s.lines) damage.is))
befallen_stays (formatted site) (formatted next) (log_lost is) fit = record {
  front = λ n le. ap (λ (s : Site). take n s.history) is ∙ take_twice n (last_logged site.lines) site.history le;
  logged = omega (arith, ap (λ (s : Site). last_logged s.lines) is);
}

event_stays : (world next : World) → IsEvent world next → IsFit world → StaysLogged world next
event_stays world next (runs moves can stops) fit = grown_stays world next fit (run_grows moves world next can stops)
event_stays world next (befalls is) fit = befallen_stays world next is fit

pub events_stay : (worlds : List World) (world last : World) → AreEvents worlds world last → IsFit world → StaysLogged world last
events_stay [] world last events fit = record { front = λ n le. ap (λ (w : World). take n (history_of w)) events; logged = omega (arith, ap logged_of events) }
events_stay (next ∷ worlds) world last events fit =
    let first : StaysLogged world next = event_stays world next events.0 fit in
    let rest : StaysLogged next last = events_stay worlds next last events.1 (event_fits world next events.0 fit) in
    record {
      front = λ n le. rest.front n (omega (arith, le, first.logged)) ∙ first.front n le;
      logged = omega (arith, first.logged, rest.logged);
    }

-- pages at a position of a front
page_of_front : (history : History) (n space page : ℕ) → n ≤ length history → page_at history n space page ≡ page_at (take n history) n space page
page_of_front history n space page le =
    ap (λ (h : History). page_at h n space page) (sym (take-append-drop n history))
    ∙ page_before (take n history) (drop n history) n space page (omega (arith, le, length-take n history))

-- The pages at a position that log files with lines reach are the same from then on.
pub logged_pages_stay : (worlds : List World) (world last : World) → AreEvents worlds world last → IsFit world → (n space page : ℕ) → n ≤ logged_of world
    → page_at (history_of last) n space page ≡ page_at (history_of world) n space page
logged_pages_stay worlds world last events fit n space page le =
    let stays : StaysLogged world last = events_stay worlds world last events fit in
    page_of_front (history_of last) n space page (omega (arith, le, stays.logged, logged_within last (events_fit worlds world last events fit).0))
    ∙ ap (λ (h : History). page_at h n space page) (stays.front n le)
    ∙ sym (page_of_front (history_of world) n space page (omega (arith, le, logged_within world fit)))
