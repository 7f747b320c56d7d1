-- A fit site's log up to a position: its records, its files and the lines that speak of them fit.
use Rattle.std.specs.Prelude.{◌≡◌, ℕ, zero, suc, ◌+◌, ◌-◌, ◌<◌, ◌≤◌, List, [], ◌∷◌, ◌++◌, length, reverse, nat_le, Bool, true, false, if◌then◌else◌, Some, Contains}
use Rattle.std.specs.List.{AllByRecursion}
use Rattle.std.proofs.Common.{arith, refl, sym, ap, subst, ◌∙◌, ⊎_elim, length-append}
use Rattle.std.proofs.lemmas.Bool.{cases_lt}
use Rattle.std.proofs.lemmas.Bool.Decides.{nat_tests}
use Rattle.std.proofs.lemmas.List.{reverse-append}
use Rattle.log_history.specs.History.{LogEntry, History, reset, entry_at}
use Rattle.log_history.specs.Effects.{Change}
use Rattle.log_history.specs.Transactions.{InOrderBack}
use Rattle.onbar_grammar.specs.Script.{Space}
use Rattle.site_headers.specs.Heads.{Head}
use Rattle.backup_lines.specs.Lines.{Archive, Span, Line, archived, logged, gone}
use Rattle.site_worlds.specs.Worlds.{Store}
use Rattle.site_worlds.specs.Files.{first_from, first_of_file, last_of_file, target_of, Agrees, last_logged}
use Rattle.lane_ways.specs.Ways.{IsPlace, changes_behind, count_of_first}
use Rattle.site_worlds.specs.Lanes.{pages_of_space}
use Rattle.site_worlds.specs.Fitness.{IsWithin, IsBriefBack, FitHistory, FitLevel, FitLine, FitLines}
use Rattle.world_laws.specs.GrowthLaws.{archive_bytes_before, entry_before, entry_within, first_beyond, lane_before, live_before, log_bytes_before, low_before, time_before}
use Rattle.world_laws.specs.LinesLaws.{first_some, logged_reaches}
use Rattle.world_laws.specs.ListLaws.{all_from, all_of}
use Rattle.site_stories.specs.Events.{starts_within}

-- the files that begin up to a position

pub within_few : (end : ℕ) (starts : List ℕ) → length (starts_within end starts) ≤ length starts
within_few end [] = omega arith
within_few end (start ∷ starts) = by (nat_le start end) (within_few end starts)
  where
    by : (b : Bool) → length (starts_within end starts) ≤ length starts
        → length (if b then start ∷ starts_within end starts else []) ≤ suc (length starts)
    by true rest = omega (arith, rest)
    by false rest = omega arith

within_same : (end other : ℕ) (starts : List ℕ) (k : ℕ) → k < length (starts_within end starts)
    → first_from (starts_within end starts) end k ≡ first_from starts other k
within_same end other [] k lt = absurd (omega (arith, lt))
within_same end other (start ∷ starts) k lt = by (nat_le start end) k lt (within_same end other starts)
  where
    by : (b : Bool) (k : ℕ) → k < length (if b then start ∷ starts_within end starts else [])
        → ((i : ℕ) → i < length (starts_within end starts) → first_from (starts_within end starts) end i ≡ first_from starts other i)
        → first_from (if b then start ∷ starts_within end starts else []) end k ≡ first_from (start ∷ starts) other k
    by true zero lt rest = refl
    by true (suc k) lt rest = rest k (omega (arith, lt))
    by false k lt rest = absurd (omega (arith, lt))

within_reached : (end other : ℕ) (starts : List ℕ) (k : ℕ) → k < length (starts_within end starts) → first_from starts other k ≤ end
within_reached end other [] k lt = absurd (omega (arith, lt))
within_reached end other (start ∷ starts) k lt = by (nat_le start end) refl k lt (within_reached end other starts)
  where
    by : (b : Bool) → nat_le start end ≡ b → (k : ℕ) → k < length (if b then start ∷ starts_within end starts else [])
        → ((i : ℕ) → i < length (starts_within end starts) → first_from starts other i ≤ end)
        → first_from (start ∷ starts) other k ≤ end
    by true is zero lt rest = grind (arith, nat_tests, is)
    by true is (suc k) lt rest = rest k (omega (arith, lt))
    by false is k lt rest = absurd (omega (arith, lt))

-- the first file that isn't among them begins behind
within_beyond : (end other : ℕ) (starts : List ℕ) (k : ℕ) → end ≤ other → k ≡ length (starts_within end starts) → end < first_from starts other k
within_beyond end other [] k le is = omega (arith, le)
within_beyond end other (start ∷ starts) k le is = by (nat_le start end) refl k is (within_beyond end other starts)
  where
    by : (b : Bool) → nat_le start end ≡ b → (k : ℕ) → k ≡ length (if b then start ∷ starts_within end starts else [])
        → ((i : ℕ) → end ≤ other → i ≡ length (starts_within end starts) → end < first_from starts other i)
        → end < first_from (start ∷ starts) other k
    by true was zero is rest = absurd (omega (arith, is))
    by true was (suc k) is rest = rest k le (omega (arith, is))
    by false was zero is rest = grind (arith, nat_tests, was)
    by false was (suc k) is rest = absurd (omega (arith, is))

-- of two files the later one doesn't begin earlier
pub first_rises : (spaces : List Space) (history : History) (starts : List ℕ) → FitHistory spaces history starts → (file k : ℕ) → 1 ≤ file
    → first_of_file starts history file ≤ first_of_file starts history (file + k)
first_rises spaces history starts fit file zero some = omega (arith, ap (first_of_file starts history) (add_zero file))
  where
    add_zero : (n : ℕ) → n + 0 ≡ n
    add_zero n = omega arith
first_rises spaces history starts fit file (suc k) some =
    omega (arith, first_rises spaces history starts fit file k some, ap (first_of_file starts history) (add_one file k), next)
  where
    add_one : (n m : ℕ) → n + suc m ≡ n + m + 1
    add_one n m = omega arith

    next : first_of_file starts history (file + k) ≤ first_of_file starts history (file + k + 1)
    next = ⊎_elim
        (λ lt. omega (arith, fit.rising (file + k) (omega (arith, some)) lt))
        (λ ge. omega (arith, fit.inside (file + k), first_beyond starts (length history) (file + k + 1 - 1) (omega (arith, ge))))
        (cases_lt (file + k) (length starts))

-- records

order_back : (newer past : List LogEntry) → InOrderBack (newer ++ past) → InOrderBack past
order_back [] past order = order
order_back (entry ∷ newer) past order = order_back newer past order.1

brief_past : (newer past : List LogEntry) → IsBriefBack (newer ++ past) → IsBriefBack past
brief_past [] past brief = brief
brief_past (entry ∷ newer) past brief = brief_past newer past brief.1

pub brief_front : (past more : History) → IsBriefBack (reverse (past ++ more)) → IsBriefBack (reverse past)
brief_front past more brief = brief_past (reverse more) (reverse past) (subst IsBriefBack (reverse-append past more) brief)

all_front : (P : LogEntry → Type 0) (xs ys : List LogEntry) → AllByRecursion P (xs ++ ys) → AllByRecursion P xs
all_front P [] ys all = tt
all_front P (x ∷ xs) ys all = (all.0, all_front P xs ys all.1)

-- a record of the front stood there
pub entry_front : (past more : History) (x : ℕ) (entry : LogEntry) → entry_at past x ≡ Some entry → entry_at (past ++ more) x ≡ Some entry
entry_front past more x entry is = entry_before past more x (entry_within past x entry is) ∙ is

-- the files of a front

front_same : (past more : History) (starts : List ℕ) (file : ℕ) → 1 ≤ file → file ≤ length (starts_within (length past) starts)
    → first_of_file (starts_within (length past) starts) past file ≡ first_of_file starts (past ++ more) file
front_same past more starts file some le = within_same (length past) (length (past ++ more)) starts (file - 1) (omega (arith, some, le))

pub front_reached : (past more : History) (starts : List ℕ) (file : ℕ) → 1 ≤ file → file ≤ length (starts_within (length past) starts)
    → first_of_file starts (past ++ more) file ≤ length past
front_reached past more starts file some le = within_reached (length past) (length (past ++ more)) starts (file - 1) (omega (arith, some, le))

front_beyond : (past more : History) (starts : List ℕ) (file : ℕ) → file ≡ suc (length (starts_within (length past) starts))
    → length past < first_of_file starts (past ++ more) file
front_beyond past more starts file is =
    within_beyond (length past) (length (past ++ more)) starts (file - 1) (omega (arith, length-append past more)) (omega (arith, is))

front_end : (past : History) (starts : List ℕ) (file : ℕ) → length (starts_within (length past) starts) < file
    → first_of_file (starts_within (length past) starts) past file ≡ suc (length past)
front_end past starts file lt = first_beyond (starts_within (length past) starts) (length past) (file - 1) (omega (arith, lt))

-- a file that begins up to the end of the front is among its files
pub file_in_front : (spaces : List Space) (past more : History) (starts : List ℕ) → FitHistory spaces (past ++ more) starts → (file : ℕ) → 1 ≤ file
    → first_of_file starts (past ++ more) file ≤ length past → file ≤ length (starts_within (length past) starts)
file_in_front spaces past more starts fit file some le = ⊎_elim
    (λ lt. absurd (omega (
      arith,
      le,
      front_beyond past more starts (suc (length (starts_within (length past) starts))) refl,
      first_rises spaces (past ++ more) starts fit (suc (length (starts_within (length past) starts))) (file - suc (length (starts_within (length past) starts))) (omega arith),
      ap (first_of_file starts (past ++ more)) (back file (suc (length (starts_within (length past) starts))) lt),
    )))
    (λ ge. ge)
    (cases_lt (length (starts_within (length past) starts)) file)
  where
    back : (f n : ℕ) → n ≤ f → n + (f - n) ≡ f
    back f n le = omega (arith, le)

pub history_front : (spaces : List Space) (past more : History) (starts : List ℕ) → FitHistory spaces (past ++ more) starts
    → FitHistory spaces past (starts_within (length past) starts)
history_front spaces past more starts fit = record {
  order = order_back (reverse more) (reverse past) (subst InOrderBack (reverse-append past more) fit.order);
  within = all_front (IsWithin spaces) past more fit.within;
  few = omega (arith, fit.few, length-append past more);
  begins = ⊎_elim
      (λ lt. front_same past more starts 1 (omega arith) lt ∙ fit.begins)
      (λ ge. omega (arith, front_end past starts 1 (omega (arith, ge)), front_beyond past more starts 1 (omega (arith, ge)), fit.begins))
      (cases_lt 0 (length (starts_within (length past) starts)));
  rising = λ file one lt. omega (
    arith,
    fit.rising file one (omega (arith, lt, within_few (length past) starts)),
    front_same past more starts file one (omega (arith, lt)),
    front_same past more starts (file + 1) (omega arith) (omega (arith, lt)),
  );
  inside = λ file. inside file;
  small = λ file one le. omega (arith, fit.small file one (omega (arith, le, within_few (length past) starts)), front_same past more starts file one le, next_within file le);
  resets = λ x restore target time is.
      let old = fit.resets x restore target time (entry_front past more x (reset restore target time) is) in
      let le : old.0 ≤ length (starts_within (length past) starts) =
      file_in_front spaces past more starts fit old.0 old.1 (omega (arith, old.3, entry_within past x (reset restore target time) is)) in
      (old.0, old.1, le, front_same past more starts old.0 old.1 le ∙ old.3);
}
  where
    inside : (file : ℕ) → first_of_file (starts_within (length past) starts) past file ≤ suc (length past)
    inside file = ⊎_elim
        (λ lt. omega (arith, within_same (length past) (length (past ++ more)) starts (file - 1) lt, within_reached (length past) (length (past ++ more)) starts (file - 1) lt))
        (λ ge. omega (arith, first_beyond (starts_within (length past) starts) (length past) (file - 1) ge))
        (cases_lt (file - 1) (length (starts_within (length past) starts)))

    next_within : (file : ℕ) → file ≤ length (starts_within (length past) starts)
        → first_of_file (starts_within (length past) starts) past (file + 1) ≤ first_of_file starts (past ++ more) (file + 1)
    next_within file le = ⊎_elim
        (λ lt. omega (arith, front_same past more starts (file + 1) (omega arith) (omega (arith, lt))))
        (λ ge. omega (arith, front_end past starts (file + 1) (omega (arith, ge)), front_beyond past more starts (file + 1) (omega (arith, le, ge))))
        (cases_lt file (length (starts_within (length past) starts)))

-- lines

level_front : (past more : History) (lines : List Line) (archive : Archive) (level : ℕ) → archive.at ≤ length past
    → FitLevel (past ++ more) lines archive level → FitLevel past lines archive level
level_front past more lines archive zero le fit = fit
level_front past more lines archive (suc level) le fit = record {
  base = fit.base;
  line = fit.line;
  same_copy = fit.same_copy;
  same_space = fit.same_space;
  below = fit.below;
  same_base = fit.same_base;
  is_live = sym (live_before past more archive.at archive.base le) ∙ fit.is_live;
}

agrees_front : (spaces : List Space) (past more : History) (starts : List ℕ) (span : Span) → FitHistory spaces (past ++ more) starts → span.last ≤ length past
    → Agrees (past ++ more) starts span → Agrees past (starts_within (length past) starts) span
agrees_front spaces past more starts span fit le agrees = record {
  some_file = agrees.some_file;
  there = there;
  first = agrees.first ∙ sym (front_same past more starts span.file agrees.some_file there);
  last = last;
  some = agrees.some;
  target = agrees.target ∙ ap target_of (entry_before past more span.first (omega (arith, agrees.some, le)));
  before = agrees.before ∙ time_before past more (span.first - 1) (omega (arith, agrees.some, le));
  time = agrees.time ∙ time_before past more span.last le;
  kept = agrees.kept;
}
  where
    there : span.file ≤ length (starts_within (length past) starts)
    there = file_in_front spaces past more starts fit span.file agrees.some_file (omega (arith, agrees.first, agrees.some, le))

    last : span.last ≡ last_of_file (starts_within (length past) starts) past span.file
    last = ⊎_elim
        (λ lt. omega (arith, agrees.last, front_same past more starts (span.file + 1) (omega arith) (omega (arith, lt))))
        (λ ge. omega (arith, agrees.last, le, front_end past starts (span.file + 1) (omega (arith, ge)), front_beyond past more starts (span.file + 1) (omega (arith, there, ge))))
        (cases_lt span.file (length (starts_within (length past) starts)))

-- The lines fit a front that all log files with lines lie in.
pub lines_front : (head : Head) (past more : History) (starts : List ℕ) (store : Store) (lines : List Line) → FitHistory head.spaces (past ++ more) starts
    → last_logged lines ≤ length past → FitLines head (past ++ more) starts store lines → FitLines head past (starts_within (length past) starts) store lines
lines_front head past more starts store lines history le fit = record { each = all_from (FitLine head past (starts_within (length past) starts) store lines) lines each; once = fit.once }
  where
    each : (line : Line) → Contains lines line → FitLine head past (starts_within (length past) starts) store lines line
    each (archived archive) is =
        let was = all_of (FitLine head (past ++ more) starts store lines) lines (archived archive) fit.each is in
        let within : archive.at ≤ length past = omega (arith, was.reached, le) in
        record {
          space = was.space;
          level = was.level;
          reached = was.reached;
          low = was.low ∙ low_before past more archive.at within;
          builds = level_front past more lines archive archive.level within was.builds;
          copy = was.copy;
          holds = λ kept has same.
              let held = was.holds kept has same in
              (held.0 ∙ archive_bytes_before head.site (pages_of_space head.spaces archive.space) past more archive within, held.1);
        }
    each (logged span) is =
        let was = all_of (FitLine head (past ++ more) starts store lines) lines (logged span) fit.each is in
        let within : span.last ≤ length past = omega (arith, logged_reaches lines span is, le) in
        record {
          agrees = agrees_front head.spaces past more starts span history within was.agrees;
          copy = was.copy;
          holds = λ kept has same.
              let held = was.holds kept has same in (
                held.0
                    ∙ log_bytes_before head.site past more span
                    (omega (arith, was.agrees.first, first_some head.spaces (past ++ more) starts history span.file was.agrees.some_file)) was.agrees.some within,
                held.1,
              );
        }
    each (gone copy) is = all_of (FitLine head (past ++ more) starts store lines) lines (gone copy) fit.each is

-- a place on the way to a position of the front
pub place_front : (past more : History) (n space upto part : ℕ) → n ≤ length past → IsPlace (past ++ more) n space upto part → IsPlace past n space upto part
place_front past more n space upto part le place = record {
  is_live = sym (live_before past more n upto le) ∙ place.is_live;
  within = subst (λ (l : List Change). part ≤ count_of_first (changes_behind upto l)) (lane_before past more n space le) place.within;
}
