-- A fit site stays fit where the next file of the log becomes the current one, and where a lost log is formatted.
use Rattle.std.specs.Prelude.{◌≡◌, ◌⊎◌, ℕ, suc, ◌+◌, ◌-◌, ◌<◌, ◌≤◌, List, [], ◌∷◌, ◌++◌, length, false, Option, Some, None, Contains}
use Rattle.std.specs.List.{AllByRecursion}
use Rattle.std.specs.Option.{option_map}
use mathlib.Core.Logic.{inl, inr}
use Rattle.std.proofs.Common.{arith, sym, ap, subst, ◌∙◌, ⊎_elim, length-append}
use Rattle.std.proofs.lemmas.Bool.{cases_lt, true≢false}
use Rattle.log_history.specs.History.{History}
use Rattle.log_history.specs.Transactions.{low}
use Rattle.onbar_grammar.specs.Script.{Space}
use Rattle.backup_lines.specs.Lines.{Span, logged}
use Rattle.backup_lines.specs.Spans.{Active}
use Rattle.site_worlds.specs.Worlds.{Ring, LaneState, Site}
use Rattle.site_worlds.specs.Files.{first_of_file, HasRecords, IsEmptyAtEnd, IsLogged, IsSaved, EndsInReset}
use Rattle.site_worlds.specs.Lanes.{IsAtRest}
use Rattle.site_worlds.specs.Fitness.{FitHistory, FitRing, FitLost, FitFiles, FitActive, FitStep, IsFitSite}
use Rattle.site_worlds.specs.Moves.{opened, ring_from, with_file, site_after, next_file, format_log}
use Rattle.site_worlds.specs.Allowed.{CanOpenNext, CanFormatLog}
use Rattle.world_laws.specs.GrowthLaws.{first_opened, first_beyond}
use Rattle.world_laws.specs.ListLaws.{none_some, some_same}
use Rattle.world_laws.specs.LinesLaws.{first_some, lines_open, span_fits}
use Rattle.world_laws.specs.RingLaws.{ring_of, step_of, saved_of}

-- the first positions of files, with one more that begins behind the end
abbrev pub with_next : History → List ℕ → List ℕ
with_next history starts = starts ++ suc (length history) ∷ []

same_first : (history : History) (starts : List ℕ) (file : ℕ) → first_of_file (with_next history starts) history file ≡ first_of_file starts history file
same_first history starts file = first_opened starts (length history) (file - 1)

one_more : (history : History) (starts : List ℕ) → length (with_next history starts) ≡ suc (length starts)
one_more history starts = length-append starts (suc (length history) ∷ []) ∙ omega arith

-- the file behind the last one begins behind the end
first_behind : (history : History) (starts : List ℕ) (file : ℕ) → length starts < file → first_of_file starts history file ≡ suc (length history)
first_behind history starts file lt = first_beyond starts (length history) (file - 1) (omega (arith, lt))

history_opens : (spaces : List Space) (history : History) (starts : List ℕ) → (1 ≤ length starts → HasRecords starts history (length starts))
    → FitHistory spaces history starts → FitHistory spaces history (with_next history starts)
history_opens spaces history starts filled fit = record {
  order = fit.order;
  within = fit.within;
  few = fit.few;
  begins = same_first history starts 1 ∙ fit.begins;
  rising = λ file some lt. has file (by file some (omega (arith, lt, one_more history starts)));
  inside = λ file. omega (arith, same_first history starts file, fit.inside file);
  small = λ file some le. by_small file some (omega (arith, le, one_more history starts));
  resets = λ x restore target time is.
      let was = fit.resets x restore target time is in
      (was.0, was.1, omega (arith, was.2, one_more history starts), same_first history starts was.0 ∙ was.3);
}
  where
    has : (file : ℕ) → HasRecords starts history file → HasRecords (with_next history starts) history file
    has file is = omega (arith, is, same_first history starts file, same_first history starts (file + 1))

    by : (file : ℕ) → 1 ≤ file → file ≤ length starts → HasRecords starts history file
    by file some le = ⊎_elim (λ lt. fit.rising file some lt)
        (λ ge. let last : length starts ≡ file = omega (arith, le, ge) in subst (HasRecords starts history) last (filled (omega (arith, some, le)))) (cases_lt file (length starts))

    by_small : (file : ℕ) → 1 ≤ file → file ≤ suc (length starts)
        → first_of_file (with_next history starts) history (file + 1) ≤ first_of_file (with_next history starts) history file + 256
    by_small file some le = ⊎_elim
        (λ gt. omega (
          arith,
          same_first history starts file,
          same_first history starts (file + 1),
          first_behind history starts file gt,
          first_behind history starts (file + 1) (omega (arith, gt)),
        ))
        (λ within. omega (arith, same_first history starts file, same_first history starts (file + 1), fit.small file some within))
        (cases_lt (length starts) file)

-- the new file has no records
new_is_empty : (history : History) (starts : List ℕ) → HasRecords (with_next history starts) history (suc (length starts)) → ⊥
new_is_empty history starts has = omega (
  arith,
  has,
  same_first history starts (suc (length starts)),
  same_first history starts (suc (length starts) + 1),
  first_behind history starts (suc (length starts)) (omega arith),
  first_behind history starts (suc (length starts) + 1) (omega arith),
)

pub empty_at_end : (history : History) (starts : List ℕ) → IsEmptyAtEnd (with_next history starts) history
empty_at_end history starts = ap (first_of_file (with_next history starts) history) (one_more history starts)
    ∙ same_first history starts (suc (length starts)) ∙ first_behind history starts (suc (length starts)) (omega arith)

saved_opens : (history : History) (starts : List ℕ) (ring : Ring) → IsSaved history starts ring → IsSaved history (with_next history starts) (opened ring)
saved_opens history starts ring saved = record {
  backed = λ file le within has. by file le (omega (arith, within, one_more history starts)) has (cases_lt (length starts) file);
  current = λ is. empty_at_end history starts;
}
  where
    by : (file : ℕ) → ring.oldest ≤ file → file ≤ suc (length starts) → HasRecords (with_next history starts) history file
        → (length starts < file) ⊎ (file ≤ length starts) → file ≤ ring.backed
    by file le within has (inl gt) =
        let last : file ≡ suc (length starts) = omega (arith, within, gt) in
        absurd (new_is_empty history starts (subst (HasRecords (with_next history starts) history) last has))
    by file le within has (inr old) = saved.backed file le old (omega (arith, has, same_first history starts file, same_first history starts (file + 1)))

step_opens : (history : History) (starts : List ℕ) (ring : Ring) (active : Option Active) (lanes : List LaneState)
    → FitStep history starts (Some ring) active lanes → FitStep history (with_next history starts) (Some (opened ring)) active lanes
step_opens history starts ring (Some restore) lanes step = step
step_opens history starts ring None lanes step =
    let held : first_of_file starts history ring.oldest ≡ first_of_file (with_next history starts) history ring.oldest = sym (same_first history starts ring.oldest) in
    record {
      low = subst (λ (n : ℕ). n ≤ low history) held step.low;
      each = subst (λ (n : ℕ). AllByRecursion (IsAtRest history n) lanes) held step.each;
    }

-- a site with a new current file
file_opens : (site : Site) (ring : Ring) → IsFitSite site → (1 ≤ length site.starts → HasRecords site.starts site.history (length site.starts))
    → FitRing site.history (with_next site.history site.starts) site.lines ring
    → ((restore : Active) → site.active ≡ Some restore → IsSaved site.history (with_next site.history site.starts) ring ⊎ EndsInReset site.history restore)
    → FitStep site.history (with_next site.history site.starts) (Some ring) site.active site.lanes → IsFitSite (with_file (Some ring) site)
file_opens site ring fit filled holds saved step = record {
  head = fit.head;
  history = history_opens site.head.spaces site.history site.starts filled fit.history;
  brief = fit.brief;
  files = holds;
  store = fit.store;
  lines = lines_open site.head site.history site.starts site.store site.lines fit.lines;
  restore = record {
    resets = fit.restore.resets;
    fits = λ restore active.
        let was : FitActive site.history site.starts site.lines site.ring site.number restore = fit.restore.fits restore active in
        record { same = was.same; some = was.some; reached = was.reached; saved = saved restore active; own = was.own };
  };
  lanes = record { count = fit.lanes.count; each = fit.lanes.each; step = step };
}

-- a line is of a file that had begun
line_there : (site : Site) (span : Span) → IsFitSite site → Contains site.lines (logged span) → span.file ≤ length site.starts
line_there site span fit is = (span_fits site.head site.history site.starts site.store site.lines span fit.lines is).agrees.there

pub kept_next : (site : Site) → CanOpenNext site → IsFitSite site → IsFitSite (site_after next_file site)
kept_next site can fit = subst (λ (o : Option Ring). IsFitSite (with_file (option_map opened o) site)) (sym can.has.is)
    (file_opens site (opened can.has.ring) fit (λ some. can.filled)
    (record {
      oldest = holds.oldest;
      held = omega (arith, holds.held, one_more site.history site.starts);
      few = omega (arith, can.room, one_more site.history site.starts);
      dropped = holds.dropped;
      backed = omega (arith, holds.backed, one_more site.history site.starts);
      saved = holds.saved;
      next = holds.next;
      closed = λ span is shut. omega (arith, line_there site span fit is, one_more site.history site.starts);
      filled = λ shut. absurd (true≢false shut);
    })
    (λ restore active. ⊎_elim (λ saved. inl (saved_opens site.history site.starts can.has.ring saved)) (λ ends. inr ends)
    (saved_of site can.has.ring restore can.has.is (fit.restore.fits restore active).saved))
    (step_opens site.history site.starts can.has.ring site.active site.lanes (step_of site can.has.ring can.has.is fit)))
  where
    holds : FitRing site.history site.starts site.lines can.has.ring
    holds = ring_of site can.has.ring can.has.is fit

step_unprepared : (history : History) (starts : List ℕ) (ring : Ring) (under : Active) (active : Option Active) (lanes : List LaneState)
    → active ≡ Some under → under.prepared ≡ false → FitStep history starts (Some ring) active lanes
step_unprepared history starts ring under None lanes is unprepared = absurd (none_some is)
step_unprepared history starts ring under (Some restore) lanes is unprepared = λ prepared.
    absurd (true≢false (sym prepared ∙ ap (λ (a : Active). a.prepared) (some_same is) ∙ unprepared))

pub kept_format : (site : Site) → CanFormatLog site → IsFitSite site → IsFitSite (site_after format_log site)
kept_format site can fit =
    file_opens site (ring_from (length site.starts)) fit (λ some. filled some)
    (record {
      oldest = omega arith;
      held = omega (arith, one_more site.history site.starts);
      few = omega (arith, one_more site.history site.starts);
      dropped = omega arith;
      backed = omega (arith, one_more site.history site.starts);
      saved = lost_log.saved;
      next = λ span is. omega (arith, line_there site span fit is);
      closed = λ span is shut. omega (arith, line_there site span fit is, one_more site.history site.starts);
      filled = λ shut. absurd (true≢false shut);
    })
    (λ restore active. inl (record {
      backed = λ file le within has.
          let last : file ≡ suc (length site.starts) = omega (arith, le, within, one_more site.history site.starts) in
          absurd (new_is_empty site.history site.starts (subst (HasRecords (with_next site.history site.starts) site.history) last has));
      current = λ is. empty_at_end site.history site.starts;
    }))
    (step_unprepared site.history (with_next site.history site.starts) (ring_from (length site.starts)) can.under site.active site.lanes can.is can.unprepared)
  where
    lost_log : FitLost site.history site.starts site.lines
    lost_log = subst (λ (o : Option Ring). FitFiles site.history site.starts site.lines o) can.is_lost fit.files

    filled : 1 ≤ length site.starts → HasRecords site.starts site.history (length site.starts)
    filled some =
        let line : IsLogged site.lines (length site.starts) = lost_log.saved (length site.starts) some (omega arith) in
        let agrees = (span_fits site.head site.history site.starts site.store site.lines line.0 fit.lines line.1).agrees in
        subst (HasRecords site.starts site.history) line.2
        (omega (
          arith,
          agrees.first,
          agrees.last,
          agrees.some,
          first_some site.head.spaces site.history site.starts fit.history line.0.file agrees.some_file,
        ))
