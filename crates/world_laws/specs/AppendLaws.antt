-- A fit site stays fit where records go into the current file: a batch, or the Reset of a restore.
use Rattle.std.specs.Prelude.{◌≡◌, ◌⊎◌, ℕ, zero, suc, ◌+◌, ◌-◌, ◌^◌, ◌*◌, ◌<◌, ◌≤◌, List, [], ◌∷◌, ◌++◌, length, reverse, take, Option, Some, None}
use Rattle.std.specs.List.{AllByRecursion}
use mathlib.Core.Logic.{inl}
use Rattle.std.proofs.Common.{arith, refl, sym, ap, subst, ◌∙◌, ⊎_elim, length-append}
use Rattle.std.proofs.lemmas.Bool.{cases_lt, false≢true}
use Rattle.std.proofs.lemmas.List.{reverse-append, length-reverse}
use Rattle.log_history.specs.History.{LogEntry, History, reset, entry_at}
use Rattle.log_history.specs.Live.{reset_points}
use Rattle.log_history.specs.Transactions.{InOrder, table_back, low, low_of}
use Rattle.onbar_grammar.specs.Script.{Space}
use Rattle.history_laws.specs.LiveLaws.{live_within}
use Rattle.backup_lines.specs.Lines.{Line}
use Rattle.backup_lines.specs.Spans.{Active}
use Rattle.site_worlds.specs.Worlds.{Ring, LaneState, Site, stands, blank, merges, replays, stale, lost}
use Rattle.site_worlds.specs.Files.{first_of_file}
use Rattle.site_worlds.specs.Lanes.{FitLane, IsAtRest, EachLane}
use Rattle.site_worlds.specs.Fitness.{IsWithin, IsBriefBack, FitHistory, FitRing, FitFiles, FitStep, AreAtRest, IsFitSite}
use Rattle.site_worlds.specs.Moves.{site_after, append_batch}
use Rattle.site_worlds.specs.Allowed.{IsNoReset, CanAppend}
use Rattle.world_laws.specs.TableLaws.{low_rises, brief_back}
use Rattle.world_laws.specs.GrowthLaws.{first_begun, first_beyond, place_at_new_end, reset_stood}
use Rattle.world_laws.specs.ListLaws.{all_append, all_weaker, none_some}
use Rattle.world_laws.specs.LinesLaws.{first_some, lines_grow}
use Rattle.world_laws.specs.RingLaws.{ring_of, step_of}

-- the files

-- each file that has begun begins where it did
first_same : (history more : History) (starts : List ℕ) (file : ℕ) → 1 ≤ length starts → file ≤ length starts
    → first_of_file starts (history ++ more) file ≡ first_of_file starts history file
first_same history more starts file some le = first_begun starts (length (history ++ more)) (length history) (file - 1) (omega (arith, some, le))

first_new : (history : History) (starts : List ℕ) (file : ℕ) → length starts < file → first_of_file starts history file ≡ suc (length history)
first_new history starts file lt = first_beyond starts (length history) (file - 1) (omega (arith, lt))

pub history_grows : (spaces : List Space) (history more : History) (starts : List ℕ) → 1 ≤ length starts → InOrder (history ++ more)
    → AllByRecursion (IsWithin spaces) more → length history + length more ≤ 2 ^ 48
    → length history + length more < first_of_file starts history (length starts) + 256
    → ((x restore target time : ℕ) → entry_at (history ++ more) x ≡ Some (reset restore target time)
    → (entry_at history x ≡ Some (reset restore target time)) ⊎ (first_of_file starts history (length starts) ≡ x))
    → FitHistory spaces history starts → FitHistory spaces (history ++ more) starts
history_grows spaces history more starts some order within few small stood fit = record {
  order = order;
  within = all_append (IsWithin spaces) history more fit.within within;
  few = omega (arith, few, length-append history more);
  begins = first_same history more starts 1 some some ∙ fit.begins;
  rising = λ file one lt. omega (arith, fit.rising file one lt, first_same history more starts file some (omega (arith, lt)), first_same history more starts (file + 1) some (omega (arith, lt)));
  inside = λ file. ⊎_elim
      (λ gt. omega (arith, first_new (history ++ more) starts file gt))
      (λ le. omega (arith, first_same history more starts file some le, fit.inside file, length-append history more))
      (cases_lt (length starts) file);
  small = λ file one le. ⊎_elim
      (λ lt. omega (arith, fit.small file one le, first_same history more starts file some le, first_same history more starts (file + 1) some (omega (arith, lt))))
      (λ ge. last file le ge)
      (cases_lt file (length starts));
  resets = λ x restore target time is. ⊎_elim
      (λ was.
      let old = fit.resets x restore target time was in
      (old.0, old.1, old.2, first_same history more starts old.0 some old.2 ∙ old.3))
      (λ here. (length starts, some, omega arith, first_same history more starts (length starts) some (omega arith) ∙ here))
      (stood x restore target time is);
}
  where
    last : (file : ℕ) → file ≤ length starts → length starts ≤ file → first_of_file starts (history ++ more) (file + 1) ≤ first_of_file starts (history ++ more) file + 256
    last file le ge =
        let same : length starts ≡ file = omega (arith, le, ge) in
        subst (λ (f : ℕ). first_of_file starts (history ++ more) (f + 1) ≤ first_of_file starts (history ++ more) f + 256) same
        (omega (arith, small, length-append history more, first_new (history ++ more) starts (length starts + 1) (omega arith), first_same history more starts (length starts) some (omega arith)))

-- the files from one on have at most 256 records each
span_of_files : (spaces : List Space) (history : History) (starts : List ℕ) → FitHistory spaces history starts → (file k : ℕ) → 1 ≤ file → file + k ≤ suc (length starts)
    → first_of_file starts history (file + k) ≤ first_of_file starts history file + 256 * k
span_of_files spaces history starts fit file zero some le = omega (arith, ap (first_of_file starts history) (add_zero file))
  where
    add_zero : (n : ℕ) → n + 0 ≡ n
    add_zero n = omega arith
span_of_files spaces history starts fit file (suc k) some le =
    omega (
      arith,
      span_of_files spaces history starts fit file k some (omega (arith, le)),
      fit.small (file + k) (omega (arith, some)) (omega (arith, le)),
      ap (first_of_file starts history) (add_suc file k),
    )
  where
    add_suc : (n k : ℕ) → n + suc k ≡ n + k + 1
    add_suc n k = omega arith

-- all records that are held are fewer than 2,048
held_within : (spaces : List Space) (history : History) (starts : List ℕ) (oldest : ℕ) → FitHistory spaces history starts → 1 ≤ oldest → oldest ≤ length starts
    → length starts < oldest + 8 → length history < first_of_file starts history oldest + 2048
held_within spaces history starts oldest fit some held few =
    let all : first_of_file starts history (oldest + (suc (length starts) - oldest)) ≤ first_of_file starts history oldest + 256 * (suc (length starts) - oldest) =
    span_of_files spaces history starts fit oldest (suc (length starts) - oldest) some (omega (arith, held)) in
    let end : first_of_file starts history (oldest + (suc (length starts) - oldest)) ≡ suc (length history) =
    first_new history starts (oldest + (suc (length starts) - oldest)) (omega (arith, held)) in
    omega (arith, all, end, few)

-- the batch

lane_grows : (spaces : List Space) (history more : History) (lines : List Line) (active : Option Active) (space : ℕ) (lane : LaneState) → active ≡ None
    → AllByRecursion IsNoReset more → FitLane spaces history lines active space lane → FitLane spaces (history ++ more) lines active space lane
lane_grows spaces history more lines active space (stands upto part) none plain fit =
    place_at_new_end history more space upto part plain (live_within (reset_points history) (length history) upto fit.is_live) fit
lane_grows spaces history more lines active space (blank restore) none plain fit = absurd (none_some (sym none ∙ fit.is))
lane_grows spaces history more lines active space (merges restore chain archive entries) none plain fit = absurd (none_some (sym none ∙ fit.under.is))
lane_grows spaces history more lines active space (replays restore chain upto part) none plain fit = absurd (none_some (sym none ∙ fit.under.is))
lane_grows spaces history more lines active space stale none plain fit = tt
lane_grows spaces history more lines active space lost none plain fit = tt

-- what holds of each lane, by what held of it
pub each_weaker : (P Q : ℕ → LaneState → Type 0) (space : ℕ) (lanes : List LaneState) → ((n : ℕ) (lane : LaneState) → P n lane → Q n lane)
    → EachLane P space lanes → EachLane Q space lanes
each_weaker P Q space [] means all = tt
each_weaker P Q space (lane ∷ lanes) means all = (means space lane all.0, each_weaker P Q (suc space) lanes means all.1)

take_more : (history more : History) (n : ℕ) → (further : History) × (take n (history ++ more) ≡ take n history ++ further)
take_more [] more n = (take n more, ap (λ (l : History). l ++ take n more) (sym (take_none n)))
  where
    take_none : (k : ℕ) → take {A = LogEntry} k [] ≡ []
    take_none zero = refl
    take_none (suc k) = refl
take_more (entry ∷ history) more zero = ([], refl)
take_more (entry ∷ history) more (suc n) = let rest = take_more history more n in (rest.0, ap (λ (l : History). entry ∷ l) rest.1)

rest_grows : (history more : History) (held : ℕ) (lane : LaneState) → IsAtRest history held lane → IsAtRest (history ++ more) held lane
rest_grows history more held (stands upto part) rests =
    let further = take_more history more upto in
    subst (λ (h : History). held ≤ low h) (sym further.1) (omega (arith, rests, low_rises (take upto history) further.0))
rest_grows history more held (blank restore) rests = rests
rest_grows history more held (merges restore chain archive entries) rests = rests
rest_grows history more held (replays restore chain upto part) rests = rests
rest_grows history more held stale rests = rests
rest_grows history more held lost rests = rests

-- the step of a site with the log there and no restore under way
at_rest : (history : History) (starts : List ℕ) (ring : Ring) (active : Option Active) (lanes : List LaneState) → active ≡ None
    → FitStep history starts (Some ring) active lanes → AreAtRest history starts ring lanes
at_rest history starts ring active lanes none step = subst (λ (a : Option Active). FitStep history starts (Some ring) a lanes) none step

rest_of_batch : (history more : History) (starts : List ℕ) (ring : Ring) (lanes : List LaneState) → 1 ≤ length starts → ring.oldest ≤ length starts
    → AreAtRest history starts ring lanes → AreAtRest (history ++ more) starts ring lanes
rest_of_batch history more starts ring lanes some held rests = record {
  low = omega (arith, first_same history more starts ring.oldest some held, rests.low, low_rises history more);
  each = subst (λ (n : ℕ). AllByRecursion (IsAtRest (history ++ more) n) lanes) (sym (first_same history more starts ring.oldest some held))
      (all_weaker (IsAtRest history (first_of_file starts history ring.oldest)) (IsAtRest (history ++ more) (first_of_file starts history ring.oldest)) lanes
      (rest_grows history more (first_of_file starts history ring.oldest)) rests.each);
}

brief_grows : (history more : History) (from : ℕ) → from ≤ low history → length (history ++ more) < from + 2048 → IsBriefBack (reverse history)
    → IsBriefBack (reverse (history ++ more))
brief_grows history more from le lt brief = subst IsBriefBack (sym (reverse-append history more))
    (brief_back (reverse more) (reverse history) from
    (subst (λ (n : ℕ). from ≤ low_of (table_back (reverse history)) n) (sym (length-reverse history)) le)
    (omega (arith, lt, length-append history more, length-append (reverse more) (reverse history), length-reverse history, length-reverse more)) brief)

pub kept_batch : (records : List LogEntry) (site : Site) → CanAppend records site → IsFitSite site → IsFitSite (site_after (append_batch records) site)
kept_batch records site can fit = record {
  head = fit.head;
  history = grown;
  brief = brief_grows site.history records (first_of_file site.starts site.history ring.oldest) rests.low
      (omega (
        arith,
        held_within site.head.spaces (site.history ++ records) site.starts ring.oldest grown holds.oldest holds.held holds.few,
        first_same site.history records site.starts ring.oldest some holds.held,
      )) fit.brief;
  files = files;
  store = fit.store;
  lines = lines_grow site.head site.history records site.starts site.store site.lines fit.history.inside
      (first_some site.head.spaces site.history site.starts fit.history) (λ span is. holds.closed span is can.open_file) fit.lines;
  restore = record {
    resets = λ x restore target time is. fit.restore.resets x restore target time (reset_stood site.history records x restore target time can.plain is).0;
    fits = λ restore active. absurd (none_some (sym can.none ∙ active));
  };
  lanes = record {
    count = fit.lanes.count;
    each = each_weaker (FitLane site.head.spaces site.history site.lines site.active) (FitLane site.head.spaces (site.history ++ records) site.lines site.active) 0 site.lanes
        (λ n lane. lane_grows site.head.spaces site.history records site.lines site.active n lane can.none can.plain) fit.lanes.each;
    step = step;
  };
}
  where
    ring : Ring
    ring = can.has.ring

    holds : FitRing site.history site.starts site.lines can.has.ring
    holds = ring_of site can.has.ring can.has.is fit

    some : 1 ≤ length site.starts
    some = omega (arith, holds.oldest, holds.held)

    rests : AreAtRest site.history site.starts can.has.ring site.lanes
    rests = at_rest site.history site.starts can.has.ring site.active site.lanes can.none (step_of site can.has.ring can.has.is fit)

    grown : FitHistory site.head.spaces (site.history ++ records) site.starts
    grown = history_grows site.head.spaces site.history records site.starts some can.order can.within can.few can.small
        (λ x restore target time is. inl (reset_stood site.history records x restore target time can.plain is).0) fit.history

    files : FitFiles (site.history ++ records) site.starts site.lines site.ring
    files = subst (λ (o : Option Ring). FitFiles (site.history ++ records) site.starts site.lines o) (sym can.has.is) (record {
      oldest = holds.oldest;
      held = holds.held;
      few = holds.few;
      dropped = holds.dropped;
      backed = holds.backed;
      saved = holds.saved;
      next = holds.next;
      closed = holds.closed;
      filled = λ shut. absurd (false≢true (sym shut ∙ can.open_file));
    })

    step : FitStep (site.history ++ records) site.starts site.ring site.active site.lanes
    step = subst (λ (o : Option Ring). FitStep (site.history ++ records) site.starts o site.active site.lanes) (sym can.has.is)
        (subst (λ (a : Option Active). FitStep (site.history ++ records) site.starts (Some can.has.ring) a site.lanes) (sym can.none)
        (rest_of_batch site.history records site.starts can.has.ring site.lanes some holds.held rests))
