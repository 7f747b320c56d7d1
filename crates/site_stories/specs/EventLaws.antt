-- Whatever befalls a fit site leaves it fit.
use Rattle.std.specs.Prelude.{◌≡◌, ℕ, suc, ◌+◌, ◌-◌, ◌≤◌, List, [], ◌∷◌, ◌++◌, length, reverse, take, drop, map, Option, Some, None, Contains}
use Rattle.std.proofs.Common.{arith, sym, ap, subst, ◌∙◌, ⊎_elim, length-append, length-take, take-append-drop}
use Rattle.std.proofs.lemmas.Bool.{cases_lt}
use Rattle.std.proofs.lemmas.List.{length-map}
use Rattle.log_history.specs.History.{History, reset, entry_at}
use Rattle.onbar_grammar.specs.Script.{Space}
use Rattle.site_headers.specs.Heads.{Head}
use Rattle.backup_lines.specs.Lines.{Archive, Span, Line, archived, logged, gone}
use Rattle.backup_lines.specs.Spans.{Active}
use Rattle.site_worlds.specs.Worlds.{Store, Ring, LaneState, Site, stands, blank, merges, replays, stale, lost}
use Rattle.site_worlds.specs.Files.{first_of_file, Agrees, IsLogged, last_logged}
use Rattle.site_worlds.specs.Lanes.{pages_of_space, FitLane, EachLane}
use Rattle.site_worlds.specs.Fitness.{IsBriefBack, FitHistory, FitFiles, FitActive, FitLine, FitLines, IsFitSite}
use Rattle.site_worlds.specs.Allowed.{EachCan, stays, closes}
use Rattle.world_laws.specs.GrowthLaws.{entries_in_before, entry_within}
use Rattle.world_laws.specs.LinesLaws.{first_some, reached_within, span_fits}
use Rattle.world_laws.specs.ListLaws.{all_of, all_weaker, contains_here, contains_later}
use Rattle.world_laws.specs.PhaseLaws.{kept_lanes}
use Rattle.site_stories.specs.Events.{StayOrAreLost, LosesChunks, IsDamaged, starts_within, lane_without_log, without_log, Befalls, chunks_lost, damaged, log_lost}
use Rattle.site_stories.specs.CutLaws.{brief_front, entry_front, first_rises, front_reached, history_front, lines_front, place_front, within_few}

-- chunks

lanes_lost : (site : Site) (space : ℕ) (lanes others : List LaneState) → StayOrAreLost lanes others → EachCan site space lanes others
lanes_lost site space [] [] each = tt
lanes_lost site space (lane ∷ lanes) (next ∷ others) each =
    (⊎_elim (λ same. stays same) (λ gone. closes gone) each.0, lanes_lost site (suc space) lanes others each.1)
lanes_lost site space [] (next ∷ others) each = absurd each
lanes_lost site space (lane ∷ lanes) [] each = absurd each

fit_without_chunks : (site other : Site) → LosesChunks site other → IsFitSite site → IsFitSite other
fit_without_chunks site other loss fit =
    subst IsFitSite (sym loss.is) (kept_lanes loss.lanes site (lanes_lost site 0 site.lanes loss.lanes loss.each) fit)

-- damage

line_damaged : (head : Head) (history : History) (starts : List ℕ) (store : Store) (lines : List Line) (copies : List ℕ) (line : Line)
    → FitLine head history starts store lines line → FitLine head history starts (record store { damaged = copies }) lines line
line_damaged head history starts store lines copies (archived archive) fit = record {
  space = fit.space;
  level = fit.level;
  reached = fit.reached;
  low = fit.low;
  builds = fit.builds;
  copy = fit.copy;
  holds = fit.holds;
}
line_damaged head history starts store lines copies (logged span) fit = record { agrees = fit.agrees; copy = fit.copy; holds = fit.holds }
line_damaged head history starts store lines copies (gone copy) fit = fit

fit_damaged : (site other : Site) → IsDamaged site other → IsFitSite site → IsFitSite other
fit_damaged site other damage fit = subst IsFitSite (sym damage.is) (record {
  head = fit.head;
  history = fit.history;
  brief = fit.brief;
  files = fit.files;
  store = record { ascend = fit.store.ascend; each = fit.store.each; apart = fit.store.apart; damaged = damage.given };
  lines = record {
    each = all_weaker (FitLine site.head site.history site.starts site.store site.lines)
        (FitLine site.head site.history site.starts (record site.store { damaged = damage.copies }) site.lines) site.lines
        (line_damaged site.head site.history site.starts site.store site.lines damage.copies) fit.lines.each;
    once = fit.lines.once;
  };
  restore = fit.restore;
  lanes = fit.lanes;
})

-- the log

-- a log file's line reaches as far as any does
last_line : (lines : List Line) → 1 ≤ last_logged lines → (span : Span) × Contains lines (logged span) × (span.last ≡ last_logged lines)
last_line [] some = absurd (omega (arith, some))
last_line (archived archive ∷ lines) some =
    let later = last_line lines some in
    (later.0, contains_later (logged later.0) (archived archive) lines later.1, later.2)
last_line (gone copy ∷ lines) some =
    let later = last_line lines some in
    (later.0, contains_later (logged later.0) (gone copy) lines later.1, later.2)
last_line (logged span ∷ lines) some = ⊎_elim
    (λ lt.
    let later = last_line lines (omega (arith, lt)) in
    (later.0, contains_later (logged later.0) (logged span) lines later.1, omega (arith, later.2, lt)))
    (λ ge. (span, contains_here (logged span) lines, omega (arith, ge)))
    (cases_lt span.last (last_logged lines))

-- a file that begins up to where a log file's line ends isn't behind that file
not_behind : (spaces : List Space) (history : History) (starts : List ℕ) (span : Span) (file : ℕ) → FitHistory spaces history starts → Agrees history starts span
    → first_of_file starts history file ≤ span.last → file ≤ span.file
not_behind spaces history starts span file fit agrees reach = ⊎_elim
    (λ lt. absurd (omega (
      arith,
      agrees.last,
      reach,
      first_some spaces history starts fit (span.file + 1) (omega arith),
      first_rises spaces history starts fit (span.file + 1) (file - (span.file + 1)) (omega arith),
      ap (first_of_file starts history) (back file (span.file + 1) (omega (arith, lt))),
    )))
    (λ ge. ge)
    (cases_lt span.file file)
  where
    back : (n m : ℕ) → m ≤ n → m + (n - m) ≡ n
    back n m le = omega (arith, le)

-- each file that is left has a line: it was backed up, or its line is the one that reaches farthest
saved_cut : (head : Head) (past more : History) (starts : List ℕ) (store : Store) (lines : List Line) (ring : Option Ring)
    → FitHistory head.spaces (past ++ more) starts → FitLines head (past ++ more) starts store lines → length past ≡ last_logged lines
    → FitFiles (past ++ more) starts lines ring → (file : ℕ) → 1 ≤ file → file ≤ length (starts_within (length past) starts) → IsLogged lines file
saved_cut head past more starts store lines None history fit long files file one le = files.saved file one (omega (arith, le, within_few (length past) starts))
saved_cut head past more starts store lines (Some ring) history fit long files file one le = ⊎_elim
    (λ behind.
    let reach : first_of_file starts (past ++ more) file ≤ length past = front_reached past more starts file one le in
    let begins : 1 ≤ first_of_file starts (past ++ more) file = first_some head.spaces (past ++ more) starts history file one in
    let some : 1 ≤ last_logged lines = omega (arith, long, reach, begins) in
    let farthest : (span : Span) × Contains lines (logged span) × (span.last ≡ last_logged lines) = last_line lines some in
    let agrees : Agrees (past ++ more) starts farthest.0 = (span_fits head (past ++ more) starts store lines farthest.0 fit farthest.1).agrees in
    let within : first_of_file starts (past ++ more) file ≤ farthest.0.last = omega (arith, reach, long, farthest.2) in
    let later : file ≤ farthest.0.file = not_behind head.spaces (past ++ more) starts farthest.0 file history agrees within in
    let next : farthest.0.file ≤ suc ring.backed = files.next farthest.0 farthest.1 in
    (farthest.0, farthest.1, omega (arith, behind, next, later)))
    (λ before. files.saved file one before)
    (cases_lt ring.backed file)

lane_cut : (spaces : List Space) (past more : History) (lines : List Line) (active : Option Active) (space : ℕ) (lane : LaneState)
    → ((archive : Archive) → Contains lines (archived archive) → archive.at ≤ length past)
    → ((restore : Active) → active ≡ Some restore → restore.to ≤ length past)
    → FitLane spaces (past ++ more) lines active space lane → FitLane spaces past lines active space (lane_without_log lane)
lane_cut spaces past more lines active space (stands upto part) reached within fit = tt
lane_cut spaces past more lines active space (blank restore) reached within fit = fit
lane_cut spaces past more lines active space (merges restore chain archive entries) reached within fit = record {
  under = fit.under;
  is_chain = fit.is_chain;
  in_chain = fit.in_chain;
  merged = fit.merged;
  is_merged = fit.is_merged;
  within = omega (arith, fit.within, entries_in_before past more (pages_of_space spaces space) fit.merged (reached fit.merged fit.is_merged.line));
}
lane_cut spaces past more lines active space (replays restore chain upto part) reached within fit = record {
  under = fit.under;
  is_chain = fit.is_chain;
  place = λ other same. place_front past more other.to space upto part (within other same) (fit.place other same);
  last = fit.last;
  is_last = fit.is_last;
  behind = fit.behind;
}
lane_cut spaces past more lines active space stale reached within fit = tt
lane_cut spaces past more lines active space lost reached within fit = tt

lanes_cut : (spaces : List Space) (past more : History) (lines : List Line) (active : Option Active) (space : ℕ) (lanes : List LaneState)
    → ((archive : Archive) → Contains lines (archived archive) → archive.at ≤ length past)
    → ((restore : Active) → active ≡ Some restore → restore.to ≤ length past)
    → EachLane (FitLane spaces (past ++ more) lines active) space lanes → EachLane (FitLane spaces past lines active) space (map lane_without_log lanes)
lanes_cut spaces past more lines active space [] reached within fit = tt
lanes_cut spaces past more lines active space (lane ∷ lanes) reached within fit = (
  lane_cut spaces past more lines active space lane reached within fit.0,
  lanes_cut spaces past more lines active (suc space) lanes reached within fit.1,
)

active_cut : (past more : History) (starts others : List ℕ) (lines : List Line) (ring : Option Ring) (number : ℕ) (restore : Active)
    → FitActive (past ++ more) starts lines ring number restore → FitActive past others lines None number restore
active_cut past more starts others lines ring number restore fit = record {
  same = fit.same;
  some = fit.some;
  reached = fit.reached;
  saved = tt;
  own = λ x target time is.
      let old = fit.own x target time (entry_front past more x (reset restore.number target time) is) in
      (omega (arith, old.0, entry_within past x (reset restore.number target time) is, length-append past more), old.1, old.2);
}

fit_cut : (site : Site) (past more : History) → site.history ≡ past ++ more → length past ≡ last_logged site.lines → IsFitSite site
    → IsFitSite (record site { history = past; starts = starts_within (length past) site.starts; ring = None; lanes = map lane_without_log site.lanes })
fit_cut site past more is long fit = record {
  head = fit.head;
  history = history_front site.head.spaces past more site.starts history;
  brief = brief_front past more (subst (λ (h : History). IsBriefBack (reverse h)) is fit.brief);
  files = record { ends = long; saved = saved_cut site.head past more site.starts site.store site.lines site.ring history lines long (subst (λ (h : History). FitFiles h site.starts site.lines site.ring) is fit.files) };
  store = fit.store;
  lines = lines_front site.head past more site.starts site.store site.lines history (omega (arith, long)) lines;
  restore = record {
    resets = λ x restore target time was.
        fit.restore.resets x restore target time (ap (λ (h : History). entry_at h x) is ∙ entry_front past more x (reset restore target time) was);
    fits = λ restore active. active_cut past more site.starts (starts_within (length past) site.starts) site.lines site.ring site.number restore
        (subst (λ (h : History). FitActive h site.starts site.lines site.ring site.number restore) is (fit.restore.fits restore active));
  };
  lanes = record {
    count = length-map site.lanes lane_without_log ∙ fit.lanes.count;
    each = lanes_cut site.head.spaces past more site.lines site.active 0 site.lanes
        (λ archive has. omega (arith, long, (all_of (FitLine site.head (past ++ more) site.starts site.store site.lines) site.lines (archived archive) lines.each has).reached))
        (λ restore active. omega (arith, long, (fit.restore.fits restore active).reached))
        (subst (λ (h : History). EachLane (FitLane site.head.spaces h site.lines site.active) 0 site.lanes) is fit.lanes.each);
    step = tt;
  };
}
  where
    history : FitHistory site.head.spaces (past ++ more) site.starts
    history = subst (λ (h : History). FitHistory site.head.spaces h site.starts) is fit.history

    lines : FitLines site.head (past ++ more) site.starts site.store site.lines
    lines = subst (λ (h : History). FitLines site.head h site.starts site.store site.lines) is fit.lines

fit_without_log : (site : Site) → IsFitSite site → IsFitSite (without_log site)
fit_without_log site fit =
    subst (λ (n : ℕ). IsFitSite (record site {
      history = take (last_logged site.lines) site.history;
      starts = starts_within n site.starts;
      ring = None;
      lanes = map lane_without_log site.lanes;
    })) long
    (fit_cut site (take (last_logged site.lines) site.history) (drop (last_logged site.lines) site.history)
    (sym (take-append-drop (last_logged site.lines) site.history)) long fit)
  where
    long : length (take (last_logged site.lines) site.history) ≡ last_logged site.lines
    long = omega (
      arith,
      length-take (last_logged site.lines) site.history,
      reached_within site.head site.history site.starts site.store site.lines fit.history.inside fit.lines,
    )

pub befallen_fits : (site other : Site) → Befalls site other → IsFitSite site → IsFitSite other
befallen_fits site other (chunks_lost loss) fit = fit_without_chunks site other loss fit
befallen_fits site other (damaged damage) fit = fit_damaged site other damage fit
befallen_fits site other (log_lost is) fit = subst IsFitSite (sym is) (fit_without_log site fit)
