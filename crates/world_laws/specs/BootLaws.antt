-- A fit site stays fit where the boot file gets lines, and where a restore begins, is prepared and ends.
use Rattle.std.specs.Prelude.{◌≡◌, ℕ, suc, ◌≤◌, List, [], ◌∷◌, ◌++◌, length, map, reverse, Bool, true, false, slice_index, Option, Some, None}
use Rattle.std.specs.List.{AllByRecursion}
use Rattle.std.specs.Option.{option_map}
use mathlib.Core.Logic.{inl, inr}
use Rattle.std.proofs.Common.{arith, refl, sym, ap, subst, ◌∙◌, ⊎_elim}
use Rattle.std.proofs.lemmas.Bool.{true≢false}
use Rattle.std.proofs.lemmas.Bool.Decides.{nat_tests}
use Rattle.std.proofs.lemmas.List.{length-map, length-reverse, reverse-reverse}
use Rattle.std.proofs.lemmas.List.Elements.{Contains-append_left, Contains-append_cases}
use Rattle.log_history.specs.History.{LogEntry, History, reset, entry_at}
use Rattle.log_history.specs.Transactions.{after, table_back, low_of, low}
use Rattle.history_laws.specs.EffectiveLaws.{entry_at_back, entry_back}
use Rattle.onbar_grammar.specs.Script.{Space}
use Rattle.backup_lines.specs.Lines.{Archive, Line, archived, logged}
use Rattle.backup_lines.specs.Spans.{Active, Point}
use Rattle.site_worlds.specs.Worlds.{Ring, LaneState, Site, stands, blank, merges, replays, stale, lost}
use Rattle.site_worlds.specs.Files.{first_of_file, IsSaved, EndsInReset, last_logged}
use Rattle.lane_ways.specs.Ways.{IsPlace}
use Rattle.site_worlds.specs.Lanes.{IsArchived, IsChain, FitLane, IsAtEnd, IsOnTheWay, EachLane}
use Rattle.site_worlds.specs.Fitness.{FitFiles, FitLine, FitSaved, FitActive, FitStep, IsFitSite}
use Rattle.site_worlds.specs.Moves.{without_restore, with_prepared, site_after, append_lines, begin_restore, set_prepared, end_restore}
use Rattle.site_worlds.specs.Allowed.{HasRing, CanAddLines, CanBegin, CanSetPrepared, CanEnd}
use Rattle.world_laws.specs.ListLaws.{all_append, all_weaker, none_some, some_same}
use Rattle.world_laws.specs.LinesLaws.{is_logged_more, line_more, logged_append, logged_within}
use Rattle.world_laws.specs.RingLaws.{at_rest_from}
use Rattle.world_laws.specs.AppendLaws.{each_weaker}

-- lines

archived_more : (lines more : List Line) (space copy : ℕ) (archive : Archive) → IsArchived lines space copy archive → IsArchived (lines ++ more) space copy archive
archived_more lines more space copy archive is = record {
  line = Contains-append_left lines more (archived archive) is.line;
  same_space = is.same_space;
  same_copy = is.same_copy;
}

chain_more : (lines more : List Line) (space : ℕ) (chain : List ℕ) → IsChain lines space chain → IsChain (lines ++ more) space chain
chain_more lines more space chain is = record {
  some = is.some;
  few = is.few;
  each = λ k lt. let was = is.each k lt in (was.0, archived_more lines more space (slice_index chain k) was.0 was.1);
}

lane_more : (spaces : List Space) (history : History) (lines more : List Line) (active : Option Active) (space : ℕ) (lane : LaneState)
    → FitLane spaces history lines active space lane → FitLane spaces history (lines ++ more) active space lane
lane_more spaces history lines more active space (stands upto part) fit = fit
lane_more spaces history lines more active space (blank restore) fit = fit
lane_more spaces history lines more active space (merges restore chain archive entries) fit = record {
  under = fit.under;
  is_chain = chain_more lines more space chain fit.is_chain;
  in_chain = fit.in_chain;
  merged = fit.merged;
  is_merged = archived_more lines more space (slice_index chain archive) fit.merged fit.is_merged;
  within = fit.within;
}
lane_more spaces history lines more active space (replays restore chain upto part) fit = record {
  under = fit.under;
  is_chain = chain_more lines more space chain fit.is_chain;
  place = fit.place;
  last = fit.last;
  is_last = archived_more lines more space _ fit.last fit.is_last;
  behind = fit.behind;
}
lane_more spaces history lines more active space stale fit = tt
lane_more spaces history lines more active space lost fit = tt

same_ring : (site : Site) (ring : Ring) (has : HasRing site) → site.ring ≡ Some ring → has.ring ≡ ring
same_ring site ring has is = some_same (sym has.is ∙ is)

files_more : (site : Site) (more : List Line) → CanAddLines more site → (ring : Option Ring) → site.ring ≡ ring
    → FitFiles site.history site.starts site.lines ring → FitFiles site.history site.starts (site.lines ++ more) ring
files_more site more can None is fit = record {
  ends = omega (arith, fit.ends, logged_append site.lines more, none);
  saved = λ file some le. is_logged_more site.lines more file (fit.saved file some le);
}
  where
    none : last_logged more ≤ 0
    none = logged_within more 0 (λ span new. absurd (none_some (sym is ∙ (can.files span new).0.is)))
files_more site more can (Some ring) is fit = record {
  oldest = fit.oldest;
  held = fit.held;
  few = fit.few;
  dropped = fit.dropped;
  backed = fit.backed;
  saved = λ file some le. is_logged_more site.lines more file (fit.saved file some le);
  next = λ span has. ⊎_elim
      (λ old. fit.next span old)
      (λ new. let file = can.files span new in omega (arith, file.1, ap (λ (r : Ring). r.backed) (same_ring site ring file.0 is)))
      (Contains-append_cases site.lines more (logged span) has);
  closed = λ span has is_open. ⊎_elim
      (λ old. fit.closed span old is_open)
      (λ new. let file = can.files span new in file.2 (ap (λ (r : Ring). r.is_open) (same_ring site ring file.0 is) ∙ is_open))
      (Contains-append_cases site.lines more (logged span) has);
  filled = fit.filled;
}

saved_more : (site : Site) (more : List Line) (restore : Active) → FitActive site.history site.starts site.lines site.ring site.number restore
    → FitActive site.history site.starts (site.lines ++ more) site.ring site.number restore
saved_more site more restore fit = record {
  same = fit.same;
  some = fit.some;
  reached = omega (arith, fit.reached, logged_append site.lines more);
  saved = fit.saved;
  own = fit.own;
}

pub kept_lines : (more : List Line) (site : Site) → CanAddLines more site → IsFitSite site → IsFitSite (site_after (append_lines more) site)
kept_lines more site can fit = record {
  head = fit.head;
  history = fit.history;
  brief = fit.brief;
  files = files_more site more can site.ring refl fit.files;
  store = fit.store;
  lines = record {
    each = all_append (FitLine site.head site.history site.starts site.store (site.lines ++ more)) site.lines more
        (all_weaker (FitLine site.head site.history site.starts site.store site.lines) (FitLine site.head site.history site.starts site.store (site.lines ++ more)) site.lines
        (λ line. line_more site.head site.history site.starts site.store site.lines more line) fit.lines.each) can.each;
    once = can.once;
  };
  restore = record { resets = fit.restore.resets; fits = λ restore active. saved_more site more restore (fit.restore.fits restore active) };
  lanes = record {
    count = fit.lanes.count;
    each = each_weaker (FitLane site.head.spaces site.history site.lines site.active) (FitLane site.head.spaces site.history (site.lines ++ more) site.active) 0 site.lanes
        (λ n lane. lane_more site.head.spaces site.history site.lines more site.active n lane) fit.lanes.each;
    step = fit.lanes.step;
  };
}

-- a restore begins

lane_begins : (spaces : List Space) (history : History) (lines : List Line) (active other : Option Active) (space : ℕ) (lane : LaneState)
    → FitLane spaces history lines active space lane → FitLane spaces history lines other space (without_restore lane)
lane_begins spaces history lines active other space (stands upto part) fit = fit
lane_begins spaces history lines active other space (blank restore) fit = tt
lane_begins spaces history lines active other space (merges restore chain archive entries) fit = tt
lane_begins spaces history lines active other space (replays restore chain upto part) fit = tt
lane_begins spaces history lines active other space stale fit = tt
lane_begins spaces history lines active other space lost fit = tt

lanes_begin : (spaces : List Space) (history : History) (lines : List Line) (active other : Option Active) (space : ℕ) (lanes : List LaneState)
    → EachLane (FitLane spaces history lines active) space lanes → EachLane (FitLane spaces history lines other) space (map without_restore lanes)
lanes_begin spaces history lines active other space [] fit = tt
lanes_begin spaces history lines active other space (lane ∷ lanes) fit = (
  lane_begins spaces history lines active other space lane fit.0,
  lanes_begin spaces history lines active other (suc space) lanes fit.1,
)

saved_begins : (history : History) (starts : List ℕ) (ring : Option Ring) (restore : Active) → ((r : Ring) → ring ≡ Some r → IsSaved history starts r) → FitSaved history starts ring restore
saved_begins history starts None restore saved = tt
saved_begins history starts (Some ring) restore saved = inl (saved ring refl)

step_begins : (history : History) (starts : List ℕ) (ring : Option Ring) (restore : Active) (lanes : List LaneState) → restore.prepared ≡ false → FitStep history starts ring (Some restore) lanes
step_begins history starts None restore lanes unprepared = tt
step_begins history starts (Some ring) restore lanes unprepared = λ prepared. absurd (true≢false (sym prepared ∙ unprepared))

pub kept_begin : (point : Point) (to : ℕ) (site : Site) → CanBegin to site → IsFitSite site → IsFitSite (site_after (begin_restore point to) site)
kept_begin point to site can fit = record {
  head = fit.head;
  history = fit.history;
  brief = fit.brief;
  files = fit.files;
  store = fit.store;
  lines = fit.lines;
  restore = record {
    resets = λ x restore target time is. omega (arith, fit.restore.resets x restore target time is);
    fits = λ restore active. subst (λ (a : Active). FitActive site.history site.starts site.lines site.ring (suc site.number) a) (some_same active) (record {
      same = refl;
      some = omega arith;
      reached = can.reached;
      saved = saved_begins site.history site.starts site.ring begun can.saved;
      own = λ x target time is. absurd (omega (arith, fit.restore.resets x (suc site.number) target time is));
    });
  };
  lanes = record {
    count = length-map site.lanes without_restore ∙ fit.lanes.count;
    each = lanes_begin site.head.spaces site.history site.lines site.active (Some begun) 0 site.lanes fit.lanes.each;
    step = step_begins site.history site.starts site.ring begun (map without_restore site.lanes) refl;
  };
}
  where
    begun : Active
    begun = record { number = suc site.number; point = point; to = to; prepared = false }

-- its lanes are marked as prepared, or not

lane_prepares : (spaces : List Space) (history : History) (lines : List Line) (active : Option Active) (under other : Active) (space : ℕ) (lane : LaneState)
    → active ≡ Some under → other.number ≡ under.number → other.to ≡ under.to
    → FitLane spaces history lines active space lane → FitLane spaces history lines (Some other) space lane
lane_prepares spaces history lines active under other space (stands upto part) is number to fit = fit
lane_prepares spaces history lines active under other space (blank restore) is number to fit =
    record { restore = other; is = refl; same = number ∙ ap (λ (a : Active). a.number) (some_same (sym is ∙ fit.is)) ∙ fit.same }
lane_prepares spaces history lines active under other space (merges restore chain archive entries) is number to fit = record {
  under = record { restore = other; is = refl; same = number ∙ ap (λ (a : Active). a.number) (some_same (sym is ∙ fit.under.is)) ∙ fit.under.same };
  is_chain = fit.is_chain;
  in_chain = fit.in_chain;
  merged = fit.merged;
  is_merged = fit.is_merged;
  within = fit.within;
}
lane_prepares spaces history lines active under other space (replays restore chain upto part) is number to fit = record {
  under = record { restore = other; is = refl; same = number ∙ ap (λ (a : Active). a.number) (some_same (sym is ∙ fit.under.is)) ∙ fit.under.same };
  is_chain = fit.is_chain;
  place = λ restore same. subst (λ (n : ℕ). IsPlace history n space upto part) (sym to ∙ ap (λ (a : Active). a.to) (some_same same)) (fit.place under is);
  last = fit.last;
  is_last = fit.is_last;
  behind = fit.behind;
}
lane_prepares spaces history lines active under other space stale is number to fit = tt
lane_prepares spaces history lines active under other space lost is number to fit = tt

-- what ends in the Reset of a restore ends in that of one with the same number and position
ends_as : (history : History) (restore other : Active) → restore.number ≡ other.number → restore.to ≡ other.to → EndsInReset history restore → EndsInReset history other
ends_as history restore other number to ends = record {
  time = ends.time;
  is = ends.is ∙ ap (λ (n : ℕ). Some (reset n restore.to ends.time)) number ∙ ap (λ (n : ℕ). Some (reset other.number n ends.time)) to;
}

saved_prepares : (history : History) (starts : List ℕ) (ring : Option Ring) (under other : Active) → (EndsInReset history under → ⊥)
    → FitSaved history starts ring under → FitSaved history starts ring other
saved_prepares history starts None under other before saved = tt
saved_prepares history starts (Some ring) under other before (inl saved) = inl saved
saved_prepares history starts (Some ring) under other before (inr ends) = absurd (before ends)

step_prepares : (history : History) (starts : List ℕ) (ring : Option Ring) (other : Active) (lanes : List LaneState) → (EndsInReset history other → ⊥)
    → (other.prepared ≡ true → (r : Ring) → ring ≡ Some r → AllByRecursion (IsOnTheWay other.number) lanes) → FitStep history starts ring (Some other) lanes
step_prepares history starts None other lanes before all = tt
step_prepares history starts (Some ring) other lanes before all = λ prepared. inl (before, all prepared ring refl)

pub kept_prepared : (prepared : Bool) (site : Site) → CanSetPrepared prepared site → IsFitSite site → IsFitSite (site_after (set_prepared prepared) site)
kept_prepared prepared site can fit = subst (λ (o : Option Active). IsFitSite (record site { active = option_map (with_prepared prepared) o })) (sym can.is) (record {
  head = fit.head;
  history = fit.history;
  brief = fit.brief;
  files = fit.files;
  store = fit.store;
  lines = fit.lines;
  restore = record {
    resets = fit.restore.resets;
    fits = λ restore active. subst (λ (a : Active). FitActive site.history site.starts site.lines site.ring site.number a) (some_same active) (record {
      same = was.same;
      some = was.some;
      reached = was.reached;
      saved = saved_prepares site.history site.starts site.ring can.under (with_prepared prepared can.under) can.before was.saved;
      own = λ x target time is.
          let last = was.own x target time is in
          absurd (can.before (record {
            time = time;
            is = ap (entry_at site.history) (sym last.0) ∙ is ∙ ap (λ (n : ℕ). Some (reset can.under.number n time)) last.1;
          }));
    });
  };
  lanes = record {
    count = fit.lanes.count;
    each = each_weaker (FitLane site.head.spaces site.history site.lines site.active) (FitLane site.head.spaces site.history site.lines (Some (with_prepared prepared can.under))) 0 site.lanes
        (λ n lane. lane_prepares site.head.spaces site.history site.lines site.active can.under (with_prepared prepared can.under) n lane can.is refl refl) fit.lanes.each;
    step = step_prepares site.history site.starts site.ring (with_prepared prepared can.under) site.lanes
        (λ ends. can.before (ends_as site.history (with_prepared prepared can.under) can.under refl refl ends)) can.lanes;
  };
})
  where
    was : FitActive site.history site.starts site.lines site.ring site.number can.under
    was = fit.restore.fits can.under can.is

-- it ends

lane_ends : (spaces : List Space) (history : History) (lines : List Line) (active : Option Active) (space : ℕ) (lane : LaneState) → IsAtEnd (length history) lane
    → FitLane spaces history lines active space lane → FitLane spaces history lines None space lane
lane_ends spaces history lines active space (stands upto part) at fit = fit
lane_ends spaces history lines active space (blank restore) at fit = absurd at
lane_ends spaces history lines active space (merges restore chain archive entries) at fit = absurd at
lane_ends spaces history lines active space (replays restore chain upto part) at fit = absurd at
lane_ends spaces history lines active space stale at fit = tt
lane_ends spaces history lines active space lost at fit = tt

lanes_end : (spaces : List Space) (history : History) (lines : List Line) (active : Option Active) (space : ℕ) (lanes : List LaneState)
    → AllByRecursion (IsAtEnd (length history)) lanes → EachLane (FitLane spaces history lines active) space lanes → EachLane (FitLane spaces history lines None) space lanes
lanes_end spaces history lines active space [] all fit = tt
lanes_end spaces history lines active space (lane ∷ lanes) all fit = (
  lane_ends spaces history lines active space lane all.0 fit.0,
  lanes_end spaces history lines active (suc space) lanes all.1 fit.1,
)

last_in : (back : List LogEntry) (restore target time : ℕ) → entry_back back (length back) ≡ Some (reset restore target time) → low_of (table_back back) (length back) ≡ suc (length back)
last_in [] restore target time is = absurd cc
last_in (entry ∷ past) restore target time is =
    let last : entry ≡ reset restore target time = some_same (sym (here entry past) ∙ is) in
    ap (λ (e : LogEntry). low_of (after (suc (length past)) e (table_back past)) (suc (length past))) last ∙ omega arith
  where
    here : (e : LogEntry) (rest : List LogEntry) → entry_back (e ∷ rest) (suc (length rest)) ≡ Some e
    here e rest = grind (arith, nat_tests)

-- behind a Reset no transaction is open
pub low_at_reset : (history : History) (restore target time : ℕ) → entry_at history (length history) ≡ Some (reset restore target time) → low history ≡ suc (length history)
low_at_reset history restore target time is =
    ap (λ (n : ℕ). low_of (table_back (reverse history)) n) (sym (length-reverse history))
    ∙ last_in (reverse history) restore target time
    (sym (entry_at_back (reverse history) (length (reverse history)))
    ∙ ap (λ (h : History). entry_at h (length (reverse history))) (reverse-reverse history)
    ∙ ap (entry_at history) (length-reverse history) ∙ is)
    ∙ ap suc (length-reverse history)

step_ends : (history : History) (starts : List ℕ) (ring : Option Ring) (lanes : List LaneState) → ((file : ℕ) → first_of_file starts history file ≤ low history)
    → AllByRecursion (IsAtEnd (length history)) lanes → FitStep history starts ring None lanes
step_ends history starts None lanes le all = tt
step_ends history starts (Some ring) lanes le all = at_rest_from history starts ring lanes (le ring.oldest) all

pub kept_end : (site : Site) → CanEnd site → IsFitSite site → IsFitSite (site_after end_restore site)
kept_end site can fit = record {
  head = fit.head;
  history = fit.history;
  brief = fit.brief;
  files = fit.files;
  store = fit.store;
  lines = fit.lines;
  restore = record { resets = fit.restore.resets; fits = λ restore active. absurd (none_some active) };
  lanes = record {
    count = fit.lanes.count;
    each = lanes_end site.head.spaces site.history site.lines site.active 0 site.lanes can.lanes fit.lanes.each;
    step = step_ends site.history site.starts site.ring site.lanes
        (λ file. omega (arith, fit.history.inside file, low_at_reset site.history can.under.number can.under.to can.ends.time can.ends.is)) can.lanes;
  };
}
