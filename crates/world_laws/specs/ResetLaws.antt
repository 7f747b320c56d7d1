-- A fit site stays fit where a restore writes its Reset.
use Rattle.std.specs.Prelude.{◌≡◌, ◌⊎◌, ℕ, suc, ◌≤◌, List, [], ◌∷◌, ◌++◌, length, reverse, true, Option, Some}
use Rattle.std.specs.List.{AllByRecursion}
use mathlib.Core.Logic.{inl, inr}
use Rattle.std.proofs.Common.{arith, sym, ap, subst, ◌∙◌, ⊎_elim, length-append}
use Rattle.std.proofs.lemmas.Bool.{false≢true}
use Rattle.std.proofs.lemmas.List.{reverse-append, length-reverse}
use Rattle.std.specs.Option.{unwrap_or}
use Rattle.log_history.specs.History.{LogEntry, History, reset, entry_at}
use Rattle.log_history.specs.Transactions.{InOrder, InOrderBack, last_time_back}
use Rattle.onbar_grammar.specs.Script.{Space}
use Rattle.backup_lines.specs.Lines.{Line}
use Rattle.backup_lines.specs.Spans.{Active}
use Rattle.site_worlds.specs.Worlds.{Ring, LaneState, Site, stands, blank, merges, replays, stale, lost}
use Rattle.site_worlds.specs.Files.{first_of_file, EndsInReset, target_of}
use Rattle.site_worlds.specs.Lanes.{FitLane, IsReplayed, EachLane}
use Rattle.site_worlds.specs.Fitness.{IsBriefBack, FitRing, FitFiles, FitSaved, FitActive, FitStep, IsFinishing, IsFitSite}
use Rattle.site_worlds.specs.Moves.{site_after, append_reset}
use Rattle.site_worlds.specs.Allowed.{CanReset}
use Rattle.world_laws.specs.GrowthLaws.{entry_behind, entry_pushed, place_before}
use Rattle.world_laws.specs.ListLaws.{all_weaker, some_same}
use Rattle.world_laws.specs.LinesLaws.{first_some, lines_grow, reached_within}
use Rattle.world_laws.specs.RingLaws.{ring_of}
use Rattle.world_laws.specs.AppendLaws.{history_grows}

order_reset : (history : History) (restore target time : ℕ) → target ≤ length history → last_time_back (reverse history) ≤ time → InOrder history
    → InOrder (history ++ reset restore target time ∷ [])
order_reset history restore target time le in_time order =
    subst InOrderBack (sym (reverse-append history (reset restore target time ∷ []))) ((omega (arith, le, length-reverse history), in_time), order)

brief_reset : (history : History) (restore target time : ℕ) → IsBriefBack (reverse history) → IsBriefBack (reverse (history ++ reset restore target time ∷ []))
brief_reset history restore target time brief = subst IsBriefBack (sym (reverse-append history (reset restore target time ∷ []))) (tt, brief)

one_longer : (history : History) (entry : LogEntry) → length (history ++ entry ∷ []) ≡ suc (length history)
one_longer history entry = length-append history (entry ∷ []) ∙ omega arith

abbrev number_of : LogEntry → ℕ
number_of (reset restore target time) = restore
number_of entry = 0

same_target : (restore target time other to at : ℕ) → reset restore target time ≡ reset other to at → target ≡ to
same_target restore target time other to at is = ap (λ (e : LogEntry). unwrap_or (target_of (Some e)) 0) is

-- a lane at the restore's position, or lost
lane_at_reset : (spaces : List Space) (history more : History) (lines : List Line) (active : Option Active) (under : Active) (space : ℕ) (lane : LaneState)
    → active ≡ Some under → under.to ≤ length history → IsReplayed under lane → FitLane spaces history lines active space lane
    → FitLane spaces (history ++ more) lines active space lane
lane_at_reset spaces history more lines active under space (replays restore chain upto part) is le replayed fit = record {
  under = fit.under;
  is_chain = fit.is_chain;
  place = λ other active. place_before history more other.to space upto part
      (subst (λ (a : Active). a.to ≤ length history) (some_same (sym is ∙ active)) le) (fit.place other active);
  last = fit.last;
  is_last = fit.is_last;
  behind = fit.behind;
}
lane_at_reset spaces history more lines active under space lost is le replayed fit = tt
lane_at_reset spaces history more lines active under space (stands upto part) is le replayed fit = absurd replayed
lane_at_reset spaces history more lines active under space (blank restore) is le replayed fit = absurd replayed
lane_at_reset spaces history more lines active under space (merges restore chain archive entries) is le replayed fit = absurd replayed
lane_at_reset spaces history more lines active under space stale is le replayed fit = absurd replayed

lanes_at_reset : (spaces : List Space) (history more : History) (lines : List Line) (active : Option Active) (under : Active) (space : ℕ) (lanes : List LaneState)
    → active ≡ Some under → under.to ≤ length history → AllByRecursion (IsReplayed under) lanes → EachLane (FitLane spaces history lines active) space lanes
    → EachLane (FitLane spaces (history ++ more) lines active) space lanes
lanes_at_reset spaces history more lines active under space [] is le all fit = tt
lanes_at_reset spaces history more lines active under space (lane ∷ lanes) is le all fit = (
  lane_at_reset spaces history more lines active under space lane is le all.0 fit.0,
  lanes_at_reset spaces history more lines active under (suc space) lanes is le all.1 fit.1,
)

pub kept_reset : (restore target time : ℕ) (site : Site) → CanReset restore target time site → IsFitSite site → IsFitSite (site_after (append_reset restore target time) site)
kept_reset restore target time site can fit = record {
  head = fit.head;
  history = history_grows site.head.spaces site.history more site.starts some
      (order_reset site.history restore target time (omega (arith, can.goes_back, within)) can.in_time fit.history.order) (tt, tt)
      (omega (arith, can.few)) (omega (arith, can.empty)) stood fit.history;
  brief = brief_reset site.history restore target time fit.brief;
  files = files;
  store = fit.store;
  lines = lines_grow site.head site.history more site.starts site.store site.lines fit.history.inside
      (first_some site.head.spaces site.history site.starts fit.history) (λ span is. holds.closed span is can.open_file) fit.lines;
  restore = record { resets = resets; fits = λ other active. subst (λ (a : Active). FitActive (site.history ++ reset restore target time ∷ []) site.starts site.lines site.ring site.number a) (some_same (sym can.is ∙ active)) fits };
  lanes = record {
    count = fit.lanes.count;
    each = lanes_at_reset site.head.spaces site.history more site.lines site.active can.under 0 site.lanes can.is within can.replayed fit.lanes.each;
    step = subst (λ (o : Option Ring). FitStep (site.history ++ more) site.starts o site.active site.lanes) (sym can.has.is)
        (subst (λ (a : Option Active). FitStep (site.history ++ more) site.starts (Some can.has.ring) a site.lanes) (sym can.is)
        (λ prepared. inr (ends, all_weaker (IsReplayed can.under) (IsFinishing (site.history ++ more) can.under) site.lanes (λ lane is. inr is) can.replayed)));
  };
}
  where
    more : List LogEntry
    more = reset restore target time ∷ []

    holds : FitRing site.history site.starts site.lines can.has.ring
    holds = ring_of site can.has.ring can.has.is fit

    some : 1 ≤ length site.starts
    some = omega (arith, holds.oldest, holds.held)

    was : FitActive site.history site.starts site.lines site.ring site.number can.under
    was = fit.restore.fits can.under can.is

    within : can.under.to ≤ length site.history
    within = omega (arith, was.reached, reached_within site.head site.history site.starts site.store site.lines fit.history.inside fit.lines)

    stood : (x other to at : ℕ) → entry_at (site.history ++ reset restore target time ∷ []) x ≡ Some (reset other to at)
        → (entry_at site.history x ≡ Some (reset other to at)) ⊎ (first_of_file site.starts site.history (length site.starts) ≡ x)
    stood x other to at is = ⊎_elim (λ old. inl old) (λ new. inr (can.empty ∙ sym new.0)) (entry_pushed site.history (reset restore target time) (reset other to at) x is)

    files : FitFiles (site.history ++ reset restore target time ∷ []) site.starts site.lines site.ring
    files = subst (λ (o : Option Ring). FitFiles (site.history ++ reset restore target time ∷ []) site.starts site.lines o) (sym can.has.is) (record {
      oldest = holds.oldest;
      held = holds.held;
      few = holds.few;
      dropped = holds.dropped;
      backed = holds.backed;
      saved = holds.saved;
      next = holds.next;
      closed = holds.closed;
      filled = λ shut. absurd (false≢true (sym shut ∙ can.open_file));
    })

    same_number : (number to at : ℕ) → reset restore target time ≡ reset number to at → number ≡ restore
    same_number number to at is = ap number_of (sym is)

    resets : (x other to at : ℕ) → entry_at (site.history ++ reset restore target time ∷ []) x ≡ Some (reset other to at) → other ≤ site.number
    resets x other to at is = ⊎_elim
        (λ old. fit.restore.resets x other to at old)
        (λ new. omega (arith, same_number other to at new.1, can.same, was.same))
        (entry_pushed site.history (reset restore target time) (reset other to at) x is)

    ends : EndsInReset (site.history ++ reset restore target time ∷ []) can.under
    ends = record {
      time = time;
      is = ap (entry_at (site.history ++ reset restore target time ∷ [])) (one_longer site.history (reset restore target time))
          ∙ entry_behind site.history (reset restore target time)
          ∙ ap (λ (n : ℕ). Some (reset n target time)) can.same
          ∙ ap (λ (n : ℕ). Some (reset can.under.number n time)) can.goes_back;
    }

    own : (x to at : ℕ) → entry_at (site.history ++ reset restore target time ∷ []) x ≡ Some (reset can.under.number to at)
        → (x ≡ length (site.history ++ reset restore target time ∷ [])) × (to ≡ can.under.to) × (can.under.prepared ≡ true)
    own x to at is = ⊎_elim
        (λ old.
        let last = was.own x to at old in
        absurd (can.first (record {
          time = at;
          is = ap (entry_at site.history) (sym last.0) ∙ old ∙ ap (λ (n : ℕ). Some (reset can.under.number n at)) last.1;
        })))
        (λ new. (
          new.0 ∙ sym (one_longer site.history (reset restore target time)),
          sym (same_target restore target time can.under.number to at new.1) ∙ can.goes_back,
          can.prepared,
        ))
        (entry_pushed site.history (reset restore target time) (reset can.under.number to at) x is)

    fits : FitActive (site.history ++ reset restore target time ∷ []) site.starts site.lines site.ring site.number can.under
    fits = record {
      same = was.same;
      some = was.some;
      reached = was.reached;
      saved = subst (λ (o : Option Ring). FitSaved (site.history ++ reset restore target time ∷ []) site.starts o can.under) (sym can.has.is) (inr ends);
      own = own;
    }
