-- A restore stays under way, back to the same position of the same history, until a restart is done with it; then all pages are those there.
use Rattle.std.specs.Prelude.{◌≡◌, ◌⊎◌, ℕ, zero, suc, ◌-◌, ◌<◌, ◌≤◌, List, [], ◌∷◌, ◌++◌, length, reverse, take, drop, Bool, false, Some, None}
use Rattle.std.specs.List.{AllByRecursion}
use Rattle.std.specs.Option.{option_map}
use mathlib.Core.Logic.{inl, inr}
use Rattle.std.proofs.Common.{arith, refl, sym, ap, subst, ◌∙◌, ⊎_elim, append_assoc, length-take, take-append-drop}
use Rattle.std.proofs.lemmas.Bool.Decides.{nat_tests}
use Rattle.std.proofs.lemmas.List.{length-reverse, reverse-reverse}
use Rattle.log_history.specs.History.{LogEntry, History, reset, entry_at}
use Rattle.log_history.specs.Transactions.{InOrder, InOrderBack, MayFollow}
use Rattle.log_history.specs.Effects.{page_at}
use Rattle.history_laws.specs.EffectiveLaws.{entry_at_back, entry_back}
use Rattle.history_laws.specs.PagesLaws.{page_at_reset, page_before}
use Rattle.backup_lines.specs.Spans.{Active, Point}
use Rattle.walks.specs.Courses.{after_all, IsOnWay}
use Rattle.site_worlds.specs.Worlds.{Site, stands}
use Rattle.site_worlds.specs.Files.{last_logged}
use Rattle.site_worlds.specs.Fitness.{IsFitSite}
use Rattle.site_worlds.specs.Moves.{Move, append_batch, append_reset, close_file, drop_oldest, next_file, mark_backed, format_log, commit_objects, append_lines, begin_restore, set_prepared, end_restore, move_lanes, with_prepared, site_after, StopsAt, site_rules}
use Rattle.site_worlds.specs.Allowed.{CanMove, CanBegin}
use Rattle.world_laws.specs.KeptLaws.{kept, kept_within, fit_on_way}
use Rattle.world_laws.specs.LinesLaws.{reached_within}
use Rattle.world_laws.specs.ListLaws.{none_some, some_same}
use Rattle.site_stories.specs.Events.{IsDamaged, Befalls, chunks_lost, damaged, log_lost}
use Rattle.site_stories.specs.EventLaws.{befallen_fits}
use Rattle.site_stories.specs.Restarts.{MayRestart, IsRestart, IsUnderway, IsRestored, IsAside, IsTurn, AreTurns, restarts, goes_aside, is_damaged, is_befallen}

-- it begins

pub restore_begins : (point : Point) (to : ℕ) (site : Site) → CanBegin to site → IsFitSite site
    → IsUnderway (suc site.number) (take to site.history) (site_after (begin_restore point to) site)
restore_begins point to site can fit = record {
  fit = kept (begin_restore point to) site can fit;
  under = record { number = suc site.number; point = point; to = to; prepared = false };
  is = refl;
  same = refl;
  to = omega (arith, length-take to site.history, can.reached, reached_within site.head site.history site.starts site.store site.lines fit.history.inside fit.lines);
  later = drop to site.history;
  holds = sym (take-append-drop to site.history);
}

-- a site with the same history and the same restore

same_restore : (number : ℕ) (past : History) (site other : Site) → IsFitSite other → other.active ≡ site.active → other.history ≡ site.history
    → IsUnderway number past site → IsUnderway number past other
same_restore number past site other fit active history underway = record {
  fit = fit;
  under = underway.under;
  is = active ∙ underway.is;
  same = underway.same;
  to = underway.to;
  later = underway.later;
  holds = history ∙ underway.holds;
}

-- the position that it goes back to is within the log files that have lines
past_logged : (number : ℕ) (past : History) (site : Site) → IsUnderway number past site → length past ≤ last_logged site.lines
past_logged number past site underway = omega (arith, underway.to, (underway.fit.restore.fits underway.under underway.is).reached)

-- a stop within a move

stops_same : (move : Move) (site other : Site) → StopsAt move site other → (other.active ≡ site.active) × (other.history ≡ site.history)
stops_same (append_batch records) site other is = (ap (λ (s : Site). s.active) is, ap (λ (s : Site). s.history) is)
stops_same (append_reset restore target time) site other is = (ap (λ (s : Site). s.active) is, ap (λ (s : Site). s.history) is)
stops_same close_file site other is = (ap (λ (s : Site). s.active) is, ap (λ (s : Site). s.history) is)
stops_same drop_oldest site other is = (ap (λ (s : Site). s.active) is, ap (λ (s : Site). s.history) is)
stops_same next_file site other is = (ap (λ (s : Site). s.active) is, ap (λ (s : Site). s.history) is)
stops_same (mark_backed file) site other is = (ap (λ (s : Site). s.active) is, ap (λ (s : Site). s.history) is)
stops_same format_log site other is = (ap (λ (s : Site). s.active) is, ap (λ (s : Site). s.history) is)
stops_same (commit_objects added deleted) site other is = (ap (λ (s : Site). s.active) is, ap (λ (s : Site). s.history) is)
stops_same (append_lines more) site other is = (ap (λ (s : Site). s.active) is, ap (λ (s : Site). s.history) is)
stops_same (begin_restore point to) site other is = (ap (λ (s : Site). s.active) is, ap (λ (s : Site). s.history) is)
stops_same (set_prepared prepared) site other is = (ap (λ (s : Site). s.active) is, ap (λ (s : Site). s.history) is)
stops_same end_restore site other is = (ap (λ (s : Site). s.active) is, ap (λ (s : Site). s.history) is)
stops_same (move_lanes goals) site other (inl is) = (ap (λ (s : Site). s.active) is, ap (λ (s : Site). s.history) is)
stops_same (move_lanes goals) site other (inr amid) = (ap (λ (s : Site). s.active) amid.is, ap (λ (s : Site). s.history) amid.is)

underway_within : (number : ℕ) (past : History) (move : Move) (site other : Site) → CanMove move site → StopsAt move site other
    → IsUnderway number past site → IsUnderway number past other
underway_within number past move site other can stops underway =
    let same = stops_same move site other stops in
    same_restore number past site other (kept_within move site other can stops underway.fit) same.0 same.1 underway

-- a move of a restart

reset_follows : (number : ℕ) (past : History) (restore target time : ℕ) (site : Site) → CanMove (append_reset restore target time) site
    → IsUnderway number past site → IsUnderway number past (site_after (append_reset restore target time) site)
reset_follows number past restore target time site can underway = record {
  fit = kept (append_reset restore target time) site can underway.fit;
  under = underway.under;
  is = underway.is;
  same = underway.same;
  to = underway.to;
  later = underway.later ++ reset restore target time ∷ [];
  holds = ap (λ (h : History). h ++ reset restore target time ∷ []) underway.holds ∙ append_assoc past underway.later (reset restore target time ∷ []);
}

prepared_set : (number : ℕ) (past : History) (prepared : Bool) (site : Site) → CanMove (set_prepared prepared) site
    → IsUnderway number past site → IsUnderway number past (site_after (set_prepared prepared) site)
prepared_set number past prepared site can underway = record {
  fit = kept (set_prepared prepared) site can underway.fit;
  under = with_prepared prepared underway.under;
  is = ap (option_map (with_prepared prepared)) underway.is;
  same = underway.same;
  to = underway.to;
  later = underway.later;
  holds = underway.holds;
}

restore_ended : (number : ℕ) (past : History) (site : Site) → MayRestart end_restore site → IsUnderway number past site
    → IsRestored number past (site_after end_restore site)
restore_ended number past site may underway =
    let under : may.can.under ≡ underway.under = some_same (sym may.can.is ∙ underway.is) in
    record {
      fit = kept end_restore site may.can underway.fit;
      none = refl;
      time = may.can.ends.time;
      ends = may.can.ends.is
          ∙ ap (λ (n : ℕ). Some (reset n may.can.under.to may.can.ends.time)) (ap (λ (a : Active). a.number) under ∙ underway.same)
          ∙ ap (λ (n : ℕ). Some (reset number n may.can.ends.time)) (ap (λ (a : Active). a.to) under ∙ underway.to);
      later = underway.later;
      holds = underway.holds;
      lanes = may.next;
    }

restart_moves : (number : ℕ) (past : History) (move : Move) (site : Site) → MayRestart move site → IsUnderway number past site
    → IsUnderway number past (site_after move site) ⊎ IsRestored number past (site_after move site)
restart_moves number past format_log site may underway = inl (same_restore number past site (site_after format_log site) (kept format_log site may.can underway.fit) refl refl underway)
restart_moves number past (move_lanes goals) site may underway =
    inl (same_restore number past site (site_after (move_lanes goals) site) (kept (move_lanes goals) site may.can underway.fit) refl refl underway)
restart_moves number past drop_oldest site may underway =
    inl (same_restore number past site (site_after drop_oldest site) (kept drop_oldest site may.can underway.fit) refl refl underway)
restart_moves number past next_file site may underway = inl (same_restore number past site (site_after next_file site) (kept next_file site may.can underway.fit) refl refl underway)
restart_moves number past (append_reset restore target time) site may underway = inl (reset_follows number past restore target time site may.can underway)
restart_moves number past (set_prepared prepared) site may underway = inl (prepared_set number past prepared site may.can underway)
restart_moves number past end_restore site may underway = inr (restore_ended number past site may underway)
restart_moves number past (append_batch records) site may underway = absurd may.next
restart_moves number past close_file site may underway = absurd may.next
restart_moves number past (mark_backed file) site may underway = absurd may.next
restart_moves number past (commit_objects added deleted) site may underway = absurd may.next
restart_moves number past (append_lines more) site may underway = absurd may.next
restart_moves number past (begin_restore point to) site may underway = absurd may.next

-- a restart

-- behind the end of the restore there is nothing to restart
none_left : (moves : List Move) (site other : Site) → site.active ≡ None → IsRestart moves site → IsOnWay site_rules moves site other → other ≡ site
none_left [] site other none restart stops = stops
none_left (move ∷ moves) site other none restart stops = absurd (none_some (sym none ∙ restart.0.is))

-- A restart that is stopped anywhere leaves the restore under way, or done.
pub restart_stops : (number : ℕ) (past : History) (moves : List Move) (site other : Site) → IsRestart moves site → IsOnWay site_rules moves site other
    → IsUnderway number past site → IsUnderway number past other ⊎ IsRestored number past other
unfolding site_rules
restart_stops number past [] site other restart stops underway = inl (subst (IsUnderway number past) (sym stops) underway)
restart_stops number past (move ∷ moves) site other restart (inl within) underway = inl (underway_within number past move site other restart.0.can within underway)
restart_stops number past (move ∷ moves) site other restart (inr later) underway = ⊎_elim
    (λ on. restart_stops number past moves (site_after move site) other restart.1 later on)
    (λ done. inr (subst (IsRestored number past) (sym (none_left moves (site_after move site) other done.none restart.1 later)) done))
    (restart_moves number past move site restart.0 underway)

-- the end of moves is on their way
end_on_way : (moves : List Move) (site : Site) → IsOnWay site_rules moves site (after_all site_rules moves site)
unfolding site_rules
end_on_way [] site = refl
end_on_way (move ∷ moves) site = inr (end_on_way moves (site_after move site))

-- One whose moves end the restore leaves it done.
pub restart_done : (number : ℕ) (past : History) (moves : List Move) (site : Site) → IsRestart moves site → (after_all site_rules moves site).active ≡ None
    → IsUnderway number past site → IsRestored number past (after_all site_rules moves site)
restart_done number past moves site restart none underway = ⊎_elim
    (λ on. absurd (none_some (sym none ∙ on.is)))
    (λ done. done)
    (restart_stops number past moves site (after_all site_rules moves site) restart (end_on_way moves site) underway)

-- what comes between

pub record IsLikeIt (site other : Site) : Type 0 where
  pub active : other.active ≡ site.active
  pub history : other.history ≡ site.history
  pub lanes : other.lanes ≡ site.lanes

aside_same : (moves : List Move) (site other : Site) → AllByRecursion IsAside moves → IsOnWay site_rules moves site other → IsLikeIt site other
unfolding site_rules
aside_same [] site other each is = record { active = ap (λ (s : Site). s.active) is; history = ap (λ (s : Site). s.history) is; lanes = ap (λ (s : Site). s.lanes) is }
aside_same (commit_objects added deleted ∷ moves) site other each (inl is) =
    record { active = ap (λ (s : Site). s.active) is; history = ap (λ (s : Site). s.history) is; lanes = ap (λ (s : Site). s.lanes) is }
aside_same (commit_objects added deleted ∷ moves) site other each (inr later) =
    let like = aside_same moves (site_after (commit_objects added deleted) site) other each.1 later in
    record { active = like.active; history = like.history; lanes = like.lanes }
aside_same (append_lines more ∷ moves) site other each (inl is) =
    record { active = ap (λ (s : Site). s.active) is; history = ap (λ (s : Site). s.history) is; lanes = ap (λ (s : Site). s.lanes) is }
aside_same (append_lines more ∷ moves) site other each (inr later) =
    let like = aside_same moves (site_after (append_lines more) site) other each.1 later in
    record { active = like.active; history = like.history; lanes = like.lanes }
aside_same (append_batch records ∷ moves) site other each is = absurd each.0
aside_same (append_reset restore target time ∷ moves) site other each is = absurd each.0
aside_same (close_file ∷ moves) site other each is = absurd each.0
aside_same (drop_oldest ∷ moves) site other each is = absurd each.0
aside_same (next_file ∷ moves) site other each is = absurd each.0
aside_same (mark_backed file ∷ moves) site other each is = absurd each.0
aside_same (format_log ∷ moves) site other each is = absurd each.0
aside_same (begin_restore point to ∷ moves) site other each is = absurd each.0
aside_same (set_prepared prepared ∷ moves) site other each is = absurd each.0
aside_same (end_restore ∷ moves) site other each is = absurd each.0
aside_same (move_lanes goals ∷ moves) site other each is = absurd each.0

damage_same : (site other : Site) → IsDamaged site other → IsLikeIt site other
damage_same site other damage = record {
  active = ap (λ (s : Site). s.active) damage.is;
  history = ap (λ (s : Site). s.history) damage.is;
  lanes = ap (λ (s : Site). s.lanes) damage.is;
}

same_restored : (number : ℕ) (past : History) (site other : Site) → IsFitSite other → IsLikeIt site other → IsRestored number past site → IsRestored number past other
same_restored number past site other fit like done = record {
  fit = fit;
  none = like.active ∙ done.none;
  time = done.time;
  ends = ap (λ (h : History). entry_at h (length h)) like.history ∙ done.ends;
  later = done.later;
  holds = like.history ∙ done.holds;
  lanes = subst (λ (h : History). AllByRecursion (λ lane. lane ≡ stands (length h) 0) other.lanes) (sym like.history)
      (subst (AllByRecursion (λ lane. lane ≡ stands (length site.history) 0)) (sym like.lanes) done.lanes);
}

take_behind : (past later : History) (n : ℕ) → length past ≤ n → take n (past ++ later) ≡ past ++ take (n - length past) later
take_behind [] later n le = ap (λ (k : ℕ). take k later) (omega arith)
take_behind (entry ∷ past) later zero le = absurd (omega (arith, le))
take_behind (entry ∷ past) later (suc n) le =
    ap (λ (h : History). entry ∷ h) (take_behind past later n (omega (arith, le)) ∙ ap (λ (k : ℕ). past ++ take k later) (omega arith))

befallen_underway : (number : ℕ) (past : History) (site other : Site) → Befalls site other → IsUnderway number past site → IsUnderway number past other
befallen_underway number past site other (chunks_lost loss) underway =
    same_restore number past site other (befallen_fits site other (chunks_lost loss) underway.fit)
    (ap (λ (s : Site). s.active) loss.is) (ap (λ (s : Site). s.history) loss.is) underway
befallen_underway number past site other (damaged damage) underway =
    same_restore number past site other (befallen_fits site other (damaged damage) underway.fit)
    (ap (λ (s : Site). s.active) damage.is) (ap (λ (s : Site). s.history) damage.is) underway
befallen_underway number past site other (log_lost is) underway = record {
  fit = befallen_fits site other (log_lost is) underway.fit;
  under = underway.under;
  is = ap (λ (s : Site). s.active) is ∙ underway.is;
  same = underway.same;
  to = underway.to;
  later = take (last_logged site.lines - length past) underway.later;
  holds = ap (λ (s : Site). s.history) is ∙ ap (take (last_logged site.lines)) underway.holds
      ∙ take_behind past underway.later (last_logged site.lines) (past_logged number past site underway);
}

underway_turns : (number : ℕ) (past : History) (site next : Site) → IsTurn site next → IsUnderway number past site
    → IsUnderway number past next ⊎ IsRestored number past next
underway_turns number past site next (restarts moves is stops) underway = restart_stops number past moves site next is stops underway
underway_turns number past site next (goes_aside moves can each stops) underway =
    let like = aside_same moves site next each stops in
    inl (same_restore number past site next (fit_on_way moves site next can underway.fit stops) like.active like.history underway)
underway_turns number past site next (is_damaged damage) underway = inl (befallen_underway number past site next (damaged damage) underway)
underway_turns number past site next (is_befallen under is befalls) underway = inl (befallen_underway number past site next befalls underway)

restored_turns : (number : ℕ) (past : History) (site next : Site) → IsTurn site next → IsRestored number past site → IsRestored number past next
restored_turns number past site next (restarts moves is stops) done = subst (IsRestored number past) (sym (none_left moves site next done.none is stops)) done
restored_turns number past site next (goes_aside moves can each stops) done =
    same_restored number past site next (fit_on_way moves site next can done.fit stops) (aside_same moves site next each stops) done
restored_turns number past site next (is_damaged damage) done =
    same_restored number past site next (befallen_fits site next (damaged damage) done.fit) (damage_same site next damage) done
restored_turns number past site next (is_befallen under is befalls) done = absurd (none_some (sym done.none ∙ is))

-- However often a restore is restarted, it is under way or done.
pub turns_restore : (number : ℕ) (past : History) (sites : List Site) (site last : Site) → AreTurns sites site last
    → IsUnderway number past site ⊎ IsRestored number past site → IsUnderway number past last ⊎ IsRestored number past last
turns_restore number past [] site last turns is = subst (λ (s : Site). IsUnderway number past s ⊎ IsRestored number past s) (sym turns) is
turns_restore number past (next ∷ sites) site last turns is = turns_restore number past sites next last turns.1
    (⊎_elim (λ on. underway_turns number past site next turns.0 on) (λ done. inr (restored_turns number past site next turns.0 done)) is)

-- pages

entry_first : (entry : LogEntry) (past : List LogEntry) → entry_back (entry ∷ past) (suc (length past)) ≡ Some entry
entry_first entry past = grind (arith, nat_tests)

goes_back : (back : List LogEntry) (restore target time : ℕ) → InOrderBack back → entry_back back (length back) ≡ Some (reset restore target time)
    → target < length back
goes_back [] restore target time order is = absurd cc
goes_back (entry ∷ past) restore target time order is =
    let last : entry ≡ reset restore target time = some_same (sym (entry_first entry past) ∙ is) in
    let follows : MayFollow past (reset restore target time) = subst (MayFollow past) last order.0 in
    omega (arith, follows.0)

last_goes_back : (history : History) (restore target time : ℕ) → InOrder history → entry_at history (length history) ≡ Some (reset restore target time)
    → target < length history
last_goes_back history restore target time order is = omega (
  arith,
  length-reverse history,
  goes_back (reverse history) restore target time order
      (sym (entry_at_back (reverse history) (length (reverse history)))
      ∙ ap (λ (h : History). entry_at h (length (reverse history))) (reverse-reverse history)
      ∙ ap (entry_at history) (length-reverse history) ∙ is),
)

-- Where a restore is done, each page at the end of the log is the page at the end of the history that it went back to.
pub restored_pages : (number : ℕ) (past : History) (site : Site) → IsRestored number past site → (space page : ℕ)
    → page_at site.history (length site.history) space page ≡ page_at past (length past) space page
restored_pages number past site done space page =
    page_at_reset site.history (length site.history) number (length past) done.time space page done.ends
    (last_goes_back site.history number (length past) done.time done.fit.history.order done.ends)
    ∙ ap (λ (h : History). page_at h (length past) space page) done.holds
    ∙ page_before past done.later (length past) space page (omega arith)
