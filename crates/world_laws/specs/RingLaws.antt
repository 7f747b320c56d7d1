-- A fit site stays fit where a file of the log is closed, dropped or marked as backed up.
use Rattle.std.specs.Prelude.{◌≡◌, ◌⊎◌, ℕ, suc, ◌<◌, ◌≤◌, List, length, take, Option, Some, None}
use Rattle.std.specs.List.{AllByRecursion}
use Rattle.std.specs.Option.{option_map}
use mathlib.Core.Logic.{inl, inr}
use Rattle.std.proofs.Common.{arith, refl, sym, ap, subst, ◌∙◌, ⊎_elim, take_all}
use Rattle.std.proofs.lemmas.Bool.{cases_order, false≢true}
use Rattle.log_history.specs.History.{History}
use Rattle.log_history.specs.Transactions.{low}
use Rattle.backup_lines.specs.Spans.{Active}
use Rattle.site_worlds.specs.Worlds.{Ring, LaneState, Site, stands, blank, merges, replays, stale, lost}
use Rattle.site_worlds.specs.Files.{first_of_file, IsLogged, IsSaved, EndsInReset}
use Rattle.site_worlds.specs.Lanes.{IsAtRest, IsAtEnd}
use Rattle.site_worlds.specs.Fitness.{FitRing, FitFiles, FitSaved, FitActive, AreAtRest, FitStep, IsFitSite}
use Rattle.site_worlds.specs.Moves.{closed, less_oldest, with_backed, site_after, close_file, drop_oldest, mark_backed}
use Rattle.site_worlds.specs.Allowed.{CanClose, CanDrop, CanMark}
use Rattle.world_laws.specs.ListLaws.{all_weaker}
use Rattle.world_laws.specs.LinesLaws.{span_fits}

-- what is known of a fit site whose log is there

pub ring_of : (site : Site) (ring : Ring) → site.ring ≡ Some ring → IsFitSite site → FitRing site.history site.starts site.lines ring
ring_of site ring is fit = subst (λ (o : Option Ring). FitFiles site.history site.starts site.lines o) is fit.files

pub step_of : (site : Site) (ring : Ring) → site.ring ≡ Some ring → IsFitSite site → FitStep site.history site.starts (Some ring) site.active site.lanes
step_of site ring is fit = subst (λ (o : Option Ring). FitStep site.history site.starts o site.active site.lanes) is fit.lanes.step

pub saved_of : (site : Site) (ring : Ring) (restore : Active) → site.ring ≡ Some ring → FitSaved site.history site.starts site.ring restore
    → IsSaved site.history site.starts ring ⊎ EndsInReset site.history restore
saved_of site ring restore is saved = subst (λ (o : Option Ring). FitSaved site.history site.starts o restore) is saved

-- the disk of the log holds its files in another way
ring_kept : (site : Site) (ring new : Ring) → site.ring ≡ Some ring → IsFitSite site → FitRing site.history site.starts site.lines new
    → (IsSaved site.history site.starts ring → IsSaved site.history site.starts new)
    → FitStep site.history site.starts (Some new) site.active site.lanes → IsFitSite (record site { ring = Some new })
ring_kept site ring new is fit holds saved step = record {
  head = fit.head;
  history = fit.history;
  brief = fit.brief;
  files = holds;
  store = fit.store;
  lines = fit.lines;
  restore = record {
    resets = fit.restore.resets;
    fits = λ restore active.
        let was : FitActive site.history site.starts site.lines site.ring site.number restore = fit.restore.fits restore active in
        record {
          same = was.same;
          some = was.some;
          reached = was.reached;
          saved = ⊎_elim (λ s. inl (saved s)) (λ e. inr e) (saved_of site ring restore is was.saved);
          own = was.own;
        };
  };
  lanes = record { count = fit.lanes.count; each = fit.lanes.each; step = step };
}

step_same : (history : History) (starts : List ℕ) (ring new : Ring) (active : Option Active) (lanes : List LaneState) → new.oldest ≡ ring.oldest
    → FitStep history starts (Some ring) active lanes → FitStep history starts (Some new) active lanes
step_same history starts ring new (Some restore) lanes same step = step
step_same history starts ring new None lanes same step =
    let held : first_of_file starts history ring.oldest ≡ first_of_file starts history new.oldest = ap (first_of_file starts history) (sym same) in
    record {
      low = subst (λ (n : ℕ). n ≤ low history) held step.low;
      each = subst (λ (n : ℕ). AllByRecursion (IsAtRest history n) lanes) held step.each;
    }

pub kept_close : (site : Site) → CanClose site → IsFitSite site → IsFitSite (site_after close_file site)
kept_close site can fit = subst (λ (o : Option Ring). IsFitSite (record site { ring = option_map closed o })) (sym can.has.is)
    (ring_kept site can.has.ring (closed can.has.ring) can.has.is fit
    (record {
      oldest = holds.oldest;
      held = holds.held;
      few = holds.few;
      dropped = holds.dropped;
      backed = holds.backed;
      saved = holds.saved;
      next = holds.next;
      closed = λ span is shut. absurd (false≢true shut);
      filled = λ shut. can.filled;
    })
    (λ saved. record { backed = saved.backed; current = λ shut. absurd (false≢true shut) })
    (step_same site.history site.starts can.has.ring (closed can.has.ring) site.active site.lanes refl (step_of site can.has.ring can.has.is fit)))
  where
    holds : FitRing site.history site.starts site.lines can.has.ring
    holds = ring_of site can.has.ring can.has.is fit

at_end_rests : (history : History) (held : ℕ) → held ≤ low history → (lane : LaneState) → IsAtEnd (length history) lane → IsAtRest history held lane
at_end_rests history held le (stands upto part) at =
    subst (λ (h : History). held ≤ low h) (sym (ap (λ (n : ℕ). take n history) at.0 ∙ take_all (length history) history (omega arith))) le
at_end_rests history held le (blank restore) at = at
at_end_rests history held le (merges restore chain archive entries) at = at
at_end_rests history held le (replays restore chain upto part) at = at
at_end_rests history held le stale at = at
at_end_rests history held le lost at = at

-- with no restore under way, what open transactions and lanes need is held from a further position on
pub at_rest_from : (history : History) (starts : List ℕ) (ring : Ring) (lanes : List LaneState) → first_of_file starts history ring.oldest ≤ low history
    → AllByRecursion (IsAtEnd (length history)) lanes → AreAtRest history starts ring lanes
at_rest_from history starts ring lanes le all = record {
  low = le;
  each = all_weaker (IsAtEnd (length history)) (IsAtRest history (first_of_file starts history ring.oldest)) lanes
      (at_end_rests history (first_of_file starts history ring.oldest) le) all;
}

step_drops : (history : History) (starts : List ℕ) (ring : Ring) (active : Option Active) (lanes : List LaneState)
    → (active ≡ None → first_of_file starts history (suc ring.oldest) ≤ low history) → (active ≡ None → AllByRecursion (IsAtEnd (length history)) lanes)
    → FitStep history starts (Some ring) active lanes → FitStep history starts (Some (less_oldest ring)) active lanes
step_drops history starts ring (Some restore) lanes not_open not_needed step = step
step_drops history starts ring None lanes not_open not_needed step = at_rest_from history starts (less_oldest ring) lanes (not_open refl) (not_needed refl)

pub kept_drop : (site : Site) → CanDrop site → IsFitSite site → IsFitSite (site_after drop_oldest site)
kept_drop site can fit = subst (λ (o : Option Ring). IsFitSite (record site { ring = option_map less_oldest o })) (sym can.has.is)
    (ring_kept site can.has.ring (less_oldest can.has.ring) can.has.is fit
    (record {
      oldest = omega arith;
      held = can.not_last;
      few = omega (arith, holds.few);
      dropped = omega (arith, can.saved);
      backed = holds.backed;
      saved = holds.saved;
      next = holds.next;
      closed = holds.closed;
      filled = holds.filled;
    })
    (λ saved. record { backed = λ file le within has. saved.backed file (omega (arith, le)) within has; current = saved.current })
    (step_drops site.history site.starts can.has.ring site.active site.lanes can.not_open can.not_needed (step_of site can.has.ring can.has.is fit)))
  where
    holds : FitRing site.history site.starts site.lines can.has.ring
    holds = ring_of site can.has.ring can.has.is fit

pub kept_mark : (file : ℕ) (site : Site) → CanMark file site → IsFitSite site → IsFitSite (site_after (mark_backed file) site)
kept_mark file site can fit = subst (λ (o : Option Ring). IsFitSite (record site { ring = option_map (with_backed file) o })) (sym can.has.is)
    (ring_kept site can.has.ring (with_backed file can.has.ring) can.has.is fit
    (record {
      oldest = holds.oldest;
      held = holds.held;
      few = holds.few;
      dropped = omega (arith, holds.dropped, can.next);
      backed = omega (
        arith,
        can.is_logged.2,
        (span_fits site.head site.history site.starts site.store site.lines can.is_logged.0 fit.lines can.is_logged.1).agrees.there,
      );
      saved = saved;
      next = λ span is. omega (arith, holds.next span is, can.next);
      closed = holds.closed;
      filled = holds.filled;
    })
    (λ was. record { backed = λ f le within has. omega (arith, was.backed f le within has, can.next); current = was.current })
    (step_same site.history site.starts can.has.ring (with_backed file can.has.ring) site.active site.lanes refl (step_of site can.has.ring can.has.is fit)))
  where
    holds : FitRing site.history site.starts site.lines can.has.ring
    holds = ring_of site can.has.ring can.has.is fit

    saved : (other : ℕ) → 1 ≤ other → other ≤ file → IsLogged site.lines other
    saved other some le = by (cases_order other file)
      where
        by : (other ≡ file) ⊎ ((other < file) ⊎ (file < other)) → IsLogged site.lines other
        by (inl same) = subst (IsLogged site.lines) (sym same) can.is_logged
        by (inr (inl lt)) = holds.saved other some (omega (arith, lt, can.next))
        by (inr (inr gt)) = absurd (omega (arith, gt, le))
