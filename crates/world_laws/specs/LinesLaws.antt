-- What keeps the boot file's lines fit: more records, a file that begins, more lines, a transaction of the store.
use Rattle.std.specs.Prelude.{◌≡◌, ℕ, zero, suc, ◌+◌, ◌-◌, ◌<◌, ◌≤◌, max, List, [], ◌∷◌, ◌++◌, length, Contains}
use Rattle.std.proofs.Common.{arith, sym, ap, subst, ◌∙◌, ⊎_elim, length-append}
use Rattle.std.proofs.lemmas.List.Elements.{Contains-append_left}
use Rattle.std.proofs.lemmas.Bool.{cases_lt}
use Rattle.onbar_grammar.specs.Script.{Space}
use Rattle.log_history.specs.History.{History}
use Rattle.site_headers.specs.Heads.{Head}
use Rattle.backup_lines.specs.Lines.{Archive, Span, Line, archived, logged, gone}
use Rattle.site_worlds.specs.Worlds.{Store}
use Rattle.site_worlds.specs.Files.{first_of_file, target_of, Agrees, IsLogged, last_logged}
use Rattle.site_worlds.specs.Objects.{Holds}
use Rattle.site_worlds.specs.Lanes.{pages_of_space}
use Rattle.site_worlds.specs.Fitness.{FitHistory, FitLevel, FitArchive, FitSpan, FitLine, FitLines}
use Rattle.world_laws.specs.GrowthLaws.{archive_bytes_before, entry_before, first_begun, first_beyond, first_opened, live_before, log_bytes_before, low_before, time_before}
use Rattle.world_laws.specs.ListLaws.{all_from, all_of, all_weaker, contains_here, contains_later}

-- the last position that a line of a log file has

pub logged_reaches : (lines : List Line) (span : Span) → Contains lines (logged span) → span.last ≤ last_logged lines
logged_reaches [] span is = absurd (omega (arith, is.1))
logged_reaches (line ∷ lines) span (zero, lt, is) = subst (λ (l : Line). span.last ≤ last_logged (l ∷ lines)) (sym is) (omega arith)
logged_reaches (logged other ∷ lines) span (suc k, lt, is) = omega (arith, logged_reaches lines span (k, omega (arith, lt), is))
logged_reaches (archived archive ∷ lines) span (suc k, lt, is) = logged_reaches lines span (k, omega (arith, lt), is)
logged_reaches (gone copy ∷ lines) span (suc k, lt, is) = logged_reaches lines span (k, omega (arith, lt), is)

pub logged_within : (lines : List Line) (n : ℕ) → ((span : Span) → Contains lines (logged span) → span.last ≤ n) → last_logged lines ≤ n
logged_within [] n each = omega arith
logged_within (logged span ∷ lines) n each =
    omega (arith, each span (contains_here (logged span) lines), logged_within lines n (λ s is. each s (contains_later (logged s) (logged span) lines is)))
logged_within (archived archive ∷ lines) n each = logged_within lines n (λ s is. each s (contains_later (logged s) (archived archive) lines is))
logged_within (gone copy ∷ lines) n each = logged_within lines n (λ s is. each s (contains_later (logged s) (gone copy) lines is))

pub logged_append : (xs ys : List Line) → last_logged (xs ++ ys) ≡ max (last_logged xs) (last_logged ys)
logged_append [] ys = omega arith
logged_append (logged span ∷ xs) ys = omega (arith, logged_append xs ys)
logged_append (archived archive ∷ xs) ys = logged_append xs ys
logged_append (gone copy ∷ xs) ys = logged_append xs ys

pub span_fits : (head : Head) (history : History) (starts : List ℕ) (store : Store) (lines : List Line) (span : Span)
    → FitLines head history starts store lines → Contains lines (logged span) → FitSpan head history starts store span
span_fits head history starts store lines span fit is = all_of (FitLine head history starts store lines) lines (logged span) fit.each is

-- each log file lies within the history
pub span_within : (head : Head) (history : History) (starts : List ℕ) (span : Span)
    → ((file : ℕ) → first_of_file starts history file ≤ suc (length history)) → Agrees history starts span → span.last ≤ length history
span_within head history starts span inside agrees = omega (arith, agrees.last, inside (span.file + 1))

-- so do all positions that log files with lines reach
pub reached_within : (head : Head) (history : History) (starts : List ℕ) (store : Store) (lines : List Line)
    → ((file : ℕ) → first_of_file starts history file ≤ suc (length history)) → FitLines head history starts store lines → last_logged lines ≤ length history
reached_within head history starts store lines inside fit = logged_within lines (length history)
    (λ span is. span_within head history starts span inside (span_fits head history starts store lines span fit is).agrees)

-- no file begins before position 1
pub first_some : (spaces : List Space) (history : History) (starts : List ℕ) → FitHistory spaces history starts → (file : ℕ) → 1 ≤ file → 1 ≤ first_of_file starts history file
first_some spaces history starts fit zero some = absurd (omega (arith, some))
first_some spaces history starts fit (suc zero) some = omega (arith, fit.begins)
first_some spaces history starts fit (suc (suc file)) some = ⊎_elim
    (λ lt. omega (arith, subst (λ (n : ℕ). first_of_file starts history (suc file) < first_of_file starts history n) (add_one (suc file)) (fit.rising (suc file) (omega arith) lt)))
    (λ ge. omega (arith, first_beyond starts (length history) (suc (suc file) - 1) (omega (arith, ge))))
    (cases_lt (suc file) (length starts))
  where
    add_one : (n : ℕ) → n + 1 ≡ suc n
    add_one n = omega arith

-- more records

level_grows : (history more : History) (lines : List Line) (archive : Archive) (level : ℕ) → archive.at ≤ length history
    → FitLevel history lines archive level → FitLevel (history ++ more) lines archive level
level_grows history more lines archive zero le fit = fit
level_grows history more lines archive (suc level) le fit = record {
  base = fit.base;
  line = fit.line;
  same_copy = fit.same_copy;
  same_space = fit.same_space;
  below = fit.below;
  same_base = fit.same_base;
  is_live = live_before history more archive.at archive.base le ∙ fit.is_live;
}

holds_same : (store : Store) (copy volume : ℕ) (bytes other : List ℕ) → other ≡ bytes → Holds store copy volume bytes → Holds store copy volume other
holds_same store copy volume bytes other same holds kept is is_copy = ((holds kept is is_copy).0 ∙ sym same, (holds kept is is_copy).1)

archive_grows : (head : Head) (history more : History) (store : Store) (lines : List Line) (archive : Archive) → last_logged lines ≤ length history
    → FitArchive head history store lines archive → FitArchive head (history ++ more) store lines archive
archive_grows head history more store lines archive le fit =
    let within : archive.at ≤ length history = omega (arith, le, fit.reached) in
    record {
      space = fit.space;
      level = fit.level;
      reached = fit.reached;
      low = fit.low ∙ sym (low_before history more archive.at within);
      builds = level_grows history more lines archive archive.level within fit.builds;
      copy = fit.copy;
      holds = holds_same store archive.copy archive.space _ _ (archive_bytes_before head.site (pages_of_space head.spaces archive.space) history more archive within) fit.holds;
    }

-- a file that isn't the current one has its positions, whatever comes behind
agrees_grows : (history more : History) (starts : List ℕ) (span : Span) → ((file : ℕ) → first_of_file starts history file ≤ suc (length history))
    → 1 ≤ span.first → span.file < length starts → Agrees history starts span → Agrees (history ++ more) starts span
agrees_grows history more starts span inside some lt agrees =
    let last : span.last ≤ length history = omega (arith, agrees.last, inside (span.file + 1)) in
    record {
      some_file = agrees.some_file;
      there = agrees.there;
      first = agrees.first ∙ first_begun starts (length history) (length (history ++ more)) (span.file - 1) (omega (arith, lt, agrees.some_file));
      last = agrees.last ∙ ap (λ (n : ℕ). n - 1) (first_begun starts (length history) (length (history ++ more)) (span.file + 1 - 1) (omega (arith, lt)));
      some = agrees.some;
      target = agrees.target ∙ ap target_of (sym (entry_before history more span.first (omega (arith, agrees.some, last))));
      before = agrees.before ∙ sym (time_before history more (span.first - 1) (omega (arith, agrees.some, last)));
      time = agrees.time ∙ sym (time_before history more span.last last);
      kept = agrees.kept;
    }

span_grows : (head : Head) (history more : History) (starts : List ℕ) (store : Store) (span : Span)
    → ((file : ℕ) → first_of_file starts history file ≤ suc (length history)) → 1 ≤ span.first → span.file < length starts
    → FitSpan head history starts store span → FitSpan head (history ++ more) starts store span
span_grows head history more starts store span inside some lt fit = record {
  agrees = agrees_grows history more starts span inside some lt fit.agrees;
  copy = fit.copy;
  holds = holds_same store span.copy 16 _ _
      (log_bytes_before head.site history more span some fit.agrees.some (span_within head history starts span inside fit.agrees)) fit.holds;
}

-- Records that go into the current file leave the lines fit, where that has none.
pub lines_grow : (head : Head) (history more : History) (starts : List ℕ) (store : Store) (lines : List Line)
    → ((file : ℕ) → first_of_file starts history file ≤ suc (length history))
    → ((file : ℕ) → 1 ≤ file → 1 ≤ first_of_file starts history file)
    → ((span : Span) → Contains lines (logged span) → span.file < length starts)
    → FitLines head history starts store lines → FitLines head (history ++ more) starts store lines
lines_grow head history more starts store lines inside some closed fit = record { each = all_from (FitLine head (history ++ more) starts store lines) lines each; once = fit.once }
  where
    each : (line : Line) → Contains lines line → FitLine head (history ++ more) starts store lines line
    each (archived archive) is = archive_grows head history more store lines archive (reached_within head history starts store lines inside fit)
        (all_of (FitLine head history starts store lines) lines (archived archive) fit.each is)
    each (logged span) is =
        let was : FitSpan head history starts store span = span_fits head history starts store lines span fit is in
        span_grows head history more starts store span inside (omega (arith, was.agrees.first, some span.file was.agrees.some_file)) (closed span is) was
    each (gone copy) is = all_of (FitLine head history starts store lines) lines (gone copy) fit.each is

-- a file that begins behind the end

agrees_opens : (history : History) (starts : List ℕ) (span : Span) → Agrees history starts span → Agrees history (starts ++ suc (length history) ∷ []) span
agrees_opens history starts span agrees = record {
  some_file = agrees.some_file;
  there = omega (arith, agrees.there, length-append starts (suc (length history) ∷ []));
  first = agrees.first ∙ sym (first_opened starts (length history) (span.file - 1));
  last = agrees.last ∙ ap (λ (n : ℕ). n - 1) (sym (first_opened starts (length history) (span.file + 1 - 1)));
  some = agrees.some;
  target = agrees.target;
  before = agrees.before;
  time = agrees.time;
  kept = agrees.kept;
}

pub lines_open : (head : Head) (history : History) (starts : List ℕ) (store : Store) (lines : List Line)
    → FitLines head history starts store lines → FitLines head history (starts ++ suc (length history) ∷ []) store lines
lines_open head history starts store lines fit = record {
  each = all_weaker (FitLine head history starts store lines) (FitLine head history (starts ++ suc (length history) ∷ []) store lines) lines each fit.each;
  once = fit.once;
}
  where
    each : (line : Line) → FitLine head history starts store lines line → FitLine head history (starts ++ suc (length history) ∷ []) store lines line
    each (archived archive) is = is
    each (logged span) is = record { agrees = agrees_opens history starts span is.agrees; copy = is.copy; holds = is.holds }
    each (gone copy) is = is

-- more lines

level_more : (history : History) (lines more : List Line) (archive : Archive) (level : ℕ) → FitLevel history lines archive level → FitLevel history (lines ++ more) archive level
level_more history lines more archive zero fit = fit
level_more history lines more archive (suc level) fit = record {
  base = fit.base;
  line = Contains-append_left lines more (archived fit.base) fit.line;
  same_copy = fit.same_copy;
  same_space = fit.same_space;
  below = fit.below;
  same_base = fit.same_base;
  is_live = fit.is_live;
}

pub line_more : (head : Head) (history : History) (starts : List ℕ) (store : Store) (lines more : List Line) (line : Line)
    → FitLine head history starts store lines line → FitLine head history starts store (lines ++ more) line
line_more head history starts store lines more (archived archive) fit = record {
  space = fit.space;
  level = fit.level;
  reached = omega (arith, fit.reached, logged_append lines more);
  low = fit.low;
  builds = level_more history lines more archive archive.level fit.builds;
  copy = fit.copy;
  holds = fit.holds;
}
line_more head history starts store lines more (logged span) fit = fit
line_more head history starts store lines more (gone copy) fit = fit

pub is_logged_more : (lines more : List Line) (file : ℕ) → IsLogged lines file → IsLogged (lines ++ more) file
is_logged_more lines more file is = (is.0, Contains-append_left lines more (logged is.0) is.1, is.2)
