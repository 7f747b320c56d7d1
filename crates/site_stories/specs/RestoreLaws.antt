-- A restore, and its restarts until one is done, leave in every space the pages at the position that it goes back to.
use Rattle.std.specs.Prelude.{◌≡◌, ◌⊎◌, ℕ, suc, ◌≤◌, List, [], ◌∷◌, length, take, drop, None}
use mathlib.Core.Logic.{inl, inr}
use Rattle.std.proofs.Common.{arith, refl, sym, ap, subst, ◌∙◌, ⊎_elim, length-take, take-append-drop}
use Rattle.log_history.specs.History.{History}
use Rattle.log_history.specs.Effects.{page_at}
use Rattle.history_laws.specs.PagesLaws.{page_before}
use Rattle.backup_lines.specs.Spans.{Point}
use Rattle.walks.specs.Courses.{IsOnWay}
use Rattle.site_worlds.specs.Worlds.{Site}
use Rattle.site_worlds.specs.Fitness.{IsFitSite}
use Rattle.site_worlds.specs.Moves.{Move, append_batch, append_reset, close_file, drop_oldest, next_file, mark_backed, format_log, commit_objects, append_lines, begin_restore, set_prepared, end_restore, move_lanes, site_after, site_rules}
use Rattle.site_worlds.specs.Allowed.{CanMove}
use Rattle.world_laws.specs.KeptLaws.{kept}
use Rattle.world_laws.specs.LinesLaws.{reached_within}
use Rattle.world_laws.specs.ListLaws.{none_some}
use Rattle.site_stories.specs.Restarts.{IsRestart, IsUnderway, IsRestored, AreTurns}
use Rattle.site_stories.specs.RestartLaws.{restore_begins, restart_stops, turns_restore, restored_pages}
use Rattle.site_stories.specs.Restores.{IsRestore, HasCome, not_begun, begun, IsBackAt}

come_from : (to : ℕ) (site mid other : Site) → mid.history ≡ site.history → mid.number ≡ site.number → HasCome to mid other → HasCome to site other
come_from to site mid other history number (not_begun fit same count) = not_begun fit (same ∙ history) (count ∙ number)
come_from to site mid other history number (begun within is) = begun
    (omega (arith, within, ap (λ (h : History). length h) history))
    (subst (λ (h : History). IsUnderway (suc site.number) (take to h) other ⊎ IsRestored (suc site.number) (take to h) other) history
    (subst (λ (n : ℕ). IsUnderway (suc n) (take to mid.history) other ⊎ IsRestored (suc n) (take to mid.history) other) number is))

stopped_before : (to : ℕ) (site other : Site) → other ≡ site → IsFitSite site → HasCome to site other
stopped_before to site other is fit = not_begun (subst IsFitSite (sym is) fit) (ap (λ (s : Site). s.history) is) (ap (λ (s : Site). s.number) is)

come_begun : (point : Point) (to : ℕ) (moves : List Move) (site other : Site) → CanMove (begin_restore point to) site
    → IsRestart moves (site_after (begin_restore point to) site) → IsOnWay site_rules moves (site_after (begin_restore point to) site) other → IsFitSite site
    → HasCome to site other
come_begun point to moves site other can restart stops fit = begun
    (omega (arith, can.reached, reached_within site.head site.history site.starts site.store site.lines fit.history.inside fit.lines))
    (restart_stops (suc site.number) (take to site.history) moves (site_after (begin_restore point to) site) other restart stops (restore_begins point to site can fit))

-- A restore that is stopped anywhere hasn't begun, is under way or is done.
pub restore_stops : (to : ℕ) (moves : List Move) (site other : Site) → IsRestore to moves site → IsOnWay site_rules moves site other → IsFitSite site
    → HasCome to site other
unfolding site_rules
restore_stops to [] site other restore stops fit = stopped_before to site other stops fit
restore_stops to (begin_restore point position ∷ moves) site other restore (inl within) fit = stopped_before to site other within fit
restore_stops to (begin_restore point position ∷ moves) site other restore (inr later) fit =
    subst (λ (n : ℕ). HasCome n site other) restore.0 (come_begun point position moves site other restore.1 restore.2 later fit)
restore_stops to (close_file ∷ moves) site other restore (inl within) fit = stopped_before to site other within fit
restore_stops to (close_file ∷ moves) site other restore (inr later) fit = come_from to site (site_after close_file site) other refl refl
    (restore_stops to moves (site_after close_file site) other restore.2 later (kept close_file site restore.1 fit))
restore_stops to (mark_backed file ∷ moves) site other restore (inl within) fit = stopped_before to site other within fit
restore_stops to (mark_backed file ∷ moves) site other restore (inr later) fit = come_from to site (site_after (mark_backed file) site) other refl refl
    (restore_stops to moves (site_after (mark_backed file) site) other restore.2 later (kept (mark_backed file) site restore.1 fit))
restore_stops to (commit_objects added deleted ∷ moves) site other restore (inl within) fit = stopped_before to site other within fit
restore_stops to (commit_objects added deleted ∷ moves) site other restore (inr later) fit = come_from to site (site_after (commit_objects added deleted) site) other refl refl
    (restore_stops to moves (site_after (commit_objects added deleted) site) other restore.2 later (kept (commit_objects added deleted) site restore.1 fit))
restore_stops to (append_lines more ∷ moves) site other restore (inl within) fit = stopped_before to site other within fit
restore_stops to (append_lines more ∷ moves) site other restore (inr later) fit = come_from to site (site_after (append_lines more) site) other refl refl
    (restore_stops to moves (site_after (append_lines more) site) other restore.2 later (kept (append_lines more) site restore.1 fit))
restore_stops to (append_batch records ∷ moves) site other restore stops fit = absurd restore.0
restore_stops to (append_reset number target time ∷ moves) site other restore stops fit = absurd restore.0
restore_stops to (drop_oldest ∷ moves) site other restore stops fit = absurd restore.0
restore_stops to (next_file ∷ moves) site other restore stops fit = absurd restore.0
restore_stops to (format_log ∷ moves) site other restore stops fit = absurd restore.0
restore_stops to (set_prepared prepared ∷ moves) site other restore stops fit = absurd restore.0
restore_stops to (end_restore ∷ moves) site other restore stops fit = absurd restore.0
restore_stops to (move_lanes goals ∷ moves) site other restore stops fit = absurd restore.0

back_at : (to : ℕ) (site last : Site) → to ≤ length site.history → IsRestored (suc site.number) (take to site.history) last → IsBackAt to site last
back_at to site last within done = record {
  lanes = done.lanes;
  pages = λ space page. restored_pages (suc site.number) (take to site.history) last done space page
      ∙ ap (λ (n : ℕ). page_at (take to site.history) n space page) long
      ∙ sym (page_before (take to site.history) (drop to site.history) to space page (omega (arith, long)))
      ∙ ap (λ (h : History). page_at h to space page) (take-append-drop to site.history);
}
  where
    long : length (take to site.history) ≡ to
    long = omega (arith, length-take to site.history, within)

-- A restore to a position has begun, was stopped or not, and was restarted until none is under way: each chunk stands at the end of the
-- log, and all pages there are those at the position.
pub restore_is_back : (to : ℕ) (moves : List Move) (sites : List Site) (site next last : Site) → IsFitSite site → IsRestore to moves site
    → IsOnWay site_rules moves site next → next.number ≡ suc site.number → AreTurns sites next last → last.active ≡ None → IsBackAt to site last
restore_is_back to moves sites site next last fit restore stops begins turns none = from (restore_stops to moves site next restore stops fit)
  where
    from : HasCome to site next → IsBackAt to site last
    from (not_begun still history number) = absurd (omega (arith, number, begins))
    from (begun within is) = ⊎_elim
        (λ on. absurd (none_some (sym none ∙ on.is)))
        (λ done. back_at to site last within done)
        (turns_restore (suc site.number) (take to site.history) sites next last turns is)
