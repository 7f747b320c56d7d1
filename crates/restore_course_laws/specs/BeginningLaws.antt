-- A new restore makes the moves of one: the log is saved, the restore begins, and goes on as a restart does.
use Rattle.std.specs.Prelude.{◌≡◌, ℕ, suc, ◌+◌, ◌^◌, ◌<◌, ◌≤◌, List, [], ◌∷◌, ◌++◌, length, map, Bool, true, false, Option, None, Some}
use Rattle.std.proofs.Common.{arith, refl, sym, ap, subst, ◌∙◌}
use Rattle.std.proofs.lemmas.List.{append-nil}
use Rattle.std.proofs.lemmas.List.Sums.{prefix_len-le-length}
use Rattle.log_history.specs.History.{History}
use Rattle.log_history.specs.Live.{reset_points}
use Rattle.backup_lines.specs.Lines.{Archive, live_archives}
use Rattle.backup_lines.specs.Spans.{Active, Point, at_end, at_file, at_time, is_by}
use Rattle.backup_lines.specs.Chains.{chain_of}
use Rattle.walks.specs.Courses.{make, after_all}
use Rattle.site_headers.specs.Heads.{Head}
use Rattle.onbar_grammar.specs.Script.{Space}
use Rattle.site_worlds.specs.Worlds.{Ring, Site}
use Rattle.site_worlds.specs.Files.{IsEmptyAtEnd, IsSaved}
use Rattle.site_worlds.specs.Fitness.{FitFiles, IsFitSite}
use Rattle.site_worlds.specs.Moves.{Move, begin_restore, with_prepared, site_after, site_rules}
use Rattle.site_worlds.specs.Allowed.{HasRing, CanBegin}
use Rattle.world_laws.specs.ListLaws.{none_some, some_same}
use Rattle.world_laws.specs.KeptLaws.{CanAll, fit_after_all}
use Rattle.backup_lines.specs.declared.objects.Lacking.{Lacking}
use Rattle.site_courses.specs.Faults.{Fault}
use Rattle.site_courses.specs.Courses.{SiteCourse, check, in_turn, close_current}
use Rattle.site_courses.specs.Backups.{save_files, if_lines_full}
use Rattle.site_courses.specs.Plans.{position_of, if_no_log, chain_ids, lacking_look, lacking_at, first_of_lists, if_any}
use Rattle.site_courses.specs.Restores.{if_no_position, prepare, go_on, if_no_number, save_log, restore_to, restore_course}
use Rattle.site_stories.specs.Restarts.{IsRestart}
use Rattle.site_stories.specs.Restores.{IsRestore}
use Rattle.course_laws.specs.Leading.{LeadsBy, both_lead}
use Rattle.backup_course_laws.specs.SavingLaws.{AreSaving, saving_can, SavesFrom, saves_then, saves_none, IsSavedFrom, saved_from_itself}
use Rattle.backup_course_laws.specs.SavedLaws.{AreMarked, leads_save, IsClosed, leads_close, marked_saved, saved_reaches}
use Rattle.restore_course_laws.specs.Restarting.{RestartsFrom, restarts_then, restarts_none, restart_can}
use Rattle.restore_course_laws.specs.PreparingLaws.{IsBefore, IsReady, leads_prepare}
use Rattle.restore_course_laws.specs.RestoringLaws.{HasEnded, leads_go_on}
use Rattle.restore_course_laws.specs.RestartLaws.{chains_there, position_there}

later_none : (first later : List Lacking) → if_any (first_of_lists first later) ≡ None → if_any later ≡ None
later_none [] later none = none
later_none (one ∷ more) later none = absurd (none_some (sym none))

-- a position that a point comes to is one of the log
pub position_within : (point : Point) (site : Site) → IsFitSite site → position_of point site ≤ length site.history
position_within at_end site fit = omega arith
position_within (at_file file) site fit = omega (arith, fit.history.inside (file + 1))
position_within (at_time time) site fit = prefix_len-le-length (is_by time) site.history

-- moves that save the log, and then those of a restore
saving_restore : (to : ℕ) (moves : List Move) (site : Site) → AreSaving moves site → IsRestore to moves site
saving_restore to [] site are = tt
saving_restore to (begin_restore point position ∷ moves) site are = absurd are.0
saving_restore to (move ∷ moves) site are = (are.0, are.1, saving_restore to moves (site_after move site) are.2)

saved_then : (to : ℕ) (moves more : List Move) (site : Site) → AreSaving moves site → IsRestore to more (after_all site_rules moves site) → IsRestore to (moves ++ more) site
unfolding site_rules
saved_then to [] more site are rest = rest
saved_then to (begin_restore point position ∷ moves) more site are rest = absurd are.0
saved_then to (move ∷ moves) more site are rest = (are.0, are.1, saved_then to moves more (site_after move site) are.2 rest)

-- a restore's moves may be made
pub restore_can : (to : ℕ) (moves : List Move) (site : Site) → IsRestore to moves site → CanAll moves site
restore_can to [] site is = tt
restore_can to (begin_restore point position ∷ moves) site is = (is.1, restart_can moves (site_after (begin_restore point position) site) is.2)
restore_can to (move ∷ moves) site is = (is.1, restore_can to moves (site_after move site) is.2)

restore_alone : (to : ℕ) (moves more : List Move) (site : Site) → IsRestore to moves site → more ≡ [] → IsRestore to (moves ++ more) site
restore_alone to moves more site is none = subst (λ (l : List Move). IsRestore to (moves ++ l) site) (sym none)
    (subst (λ (l : List Move). IsRestore to l site) (sym (append-nil moves)) is)

-- the one move by which a restore to a position begins
abbrev IsBegin : ℕ → List Move → Site → Type 0
IsBegin to moves site = (point : Point) × (moves ≡ begin_restore point to ∷ []) × CanBegin to site

begin_can : (to : ℕ) (moves : List Move) (site : Site) → IsBegin to moves site → CanAll moves site
begin_can to moves site is = subst (λ (m : List Move). CanAll m site) (sym is.1) (is.2, tt)

begin_alone : (to : ℕ) (moves : List Move) (site : Site) → IsBegin to moves site → IsRestore to moves site
begin_alone to moves site is = subst (λ (m : List Move). IsRestore to m site) (sym is.1) (refl, is.2, tt)

begin_then : (to : ℕ) (moves more : List Move) (site : Site) → IsBegin to moves site → IsRestart more (after_all site_rules moves site) → IsRestore to (moves ++ more) site
unfolding site_rules
begin_then to moves more site is rest = subst (λ (m : List Move). IsRestart more (after_all site_rules m site) → IsRestore to (m ++ more) site) (sym is.1)
    (λ later. (refl, is.2, later)) rest

module _ (first : Site) (moment : ℕ) (early : moment < 2 ^ 64) (point : Point) (to : ℕ) where
  -- the restore that begins
  abbrev pub restore : Active
  restore = record { number = suc first.number; point = point; to = to; prepared = false }

  -- the log is saved
  record IsSavedFor (site : Site) : Type 0 where
    same : IsSavedFrom first site
    can : CanBegin to site

  -- the log is saved, where it is there

  closed_for : to ≤ length first.history → SavesFrom (IsClosed first) (save_files moment) IsSavedFor
  closed_for within site fit is = record {
    can = leads.can;
    then_holds = λ none. saved (fit_after_all (save_files moment site).moves site (saving_can (save_files moment site).moves site leads.can) fit) (leads.then_holds none);
  }
    where
      leads : LeadsBy AreSaving site (save_files moment site) (AreMarked first is.has.ring.is_open)
      leads = leads_save first is.has.ring.is_open moment early site fit (record { same = is.same; has = is.has; is_open = refl })

      saved : {other : Site} → IsFitSite other → AreMarked first is.has.ring.is_open other → IsSavedFor other
      saved {other} fits marked = record {
        same = marked.log.same;
        can = record {
          reached = omega (
            arith,
            within,
            ap (λ (h : History). length h) marked.log.same.history,
            saved_reaches other marked.log.has fits all,
          );
          saved = λ ring there. subst (IsSaved other.history other.starts) (some_same (sym marked.log.has.is ∙ there)) all;
        };
      }
        where
          empty : marked.log.has.ring.is_open ≡ true → IsEmptyAtEnd other.starts other.history
          empty is_open = subst (λ (h : History). IsEmptyAtEnd other.starts h) (is.same.history ∙ sym marked.log.same.history)
              (subst (λ (l : List ℕ). IsEmptyAtEnd l site.history) (is.same.starts ∙ sym marked.log.same.starts)
              (is.empty (sym marked.log.is_open ∙ is_open)))

          all : IsSaved other.history other.starts marked.log.has.ring
          all = marked_saved other marked.log.has fits empty marked.all

  saved_for : to ≤ length first.history → IsFitSite first → LeadsBy AreSaving first (save_log moment first.ring first) IsSavedFor
  saved_for within fit = by first.ring refl
    where
      by : (ring : Option Ring) → first.ring ≡ ring → LeadsBy AreSaving first (save_log moment ring first) IsSavedFor
      by None is =
          let files : FitFiles first.history first.starts first.lines None = subst (λ (o : Option Ring). FitFiles first.history first.starts first.lines o) is fit.files in
          record {
            can = tt;
            then_holds = λ none. record {
              same = saved_from_itself first;
              can = record { reached = omega (arith, within, files.ends); saved = λ ring there. absurd (none_some (sym is ∙ there)) };
            };
          }
      by (Some ring) is =
          saves_then (λ site. IsSavedFrom first site × HasRing site) (IsClosed first) IsSavedFor close_current (in_turn (check (if_lines_full 0) ∷ save_files moment ∷ []))
          (leads_close first)
          (saves_then (IsClosed first) (IsClosed first) IsSavedFor (check (if_lines_full 0)) (in_turn (save_files moment ∷ []))
          (λ site f c. record { can = tt; then_holds = λ none. c })
          (saves_then (IsClosed first) IsSavedFor IsSavedFor (save_files moment) (in_turn []) (closed_for within) (saves_none IsSavedFor)))
          first fit (saved_from_itself first, record { ring = ring; is = is })

  -- it begins

  module _ (chains : (space : ℕ) → space < length first.head.spaces → 1 ≤ length (chain_ids first space to)) (few : length first.history < 2 ^ 48) where
    same_chain : (site : Site) → IsSavedFrom first site → (space : ℕ) → chain_ids site space to ≡ chain_ids first space to
    same_chain site same space =
        ap (λ (archives : List Archive). map (λ archive. archive.copy) (chain_of archives (reset_points site.history) space to)) same.archives
        ∙ ap (λ (h : History). map (λ archive. archive.copy) (chain_of (live_archives first.lines) (reset_points h) space to)) same.history

    begun : (site : Site) → IsFitSite site → IsSavedFor site → IsBefore restore false (site_after (begin_restore point to) site)
    begun site fit saved = record {
      is = ap (λ (n : ℕ). Some (record { number = suc n; point = point; to = to; prepared = false })) saved.same.number;
      before = λ ends. absurd (omega (
        arith,
        fit.restore.resets (length site.history) (suc first.number) to ends.time ends.is,
        saved.same.number,
      ));
      chains = λ space lt. subst (λ (l : List ℕ). 1 ≤ length l) (sym (same_chain site saved.same space))
          (chains space (omega (arith, lt, ap (λ (h : List Space). length h) spaces)));
      few = omega (arith, few, ap (λ (h : History). length h) saved.same.history);
    }
      where
        spaces : site.head.spaces ≡ first.head.spaces
        spaces = ap (λ (h : Head). h.spaces) saved.same.head

    leads_begin : (site : Site) → IsFitSite site → IsSavedFor site → LeadsBy (IsBegin to) site (make (begin_restore point to ∷ [])) (IsBefore restore false)
    unfolding site_rules
    leads_begin site fit saved = record { can = (point, refl, saved.can); then_holds = λ none. begun site fit saved }

    number_is : (prepared : Bool) (site : Site) → IsFitSite site → site.active ≡ Some (with_prepared prepared restore) → restore.number ≡ site.number
    number_is prepared site fit is = (fit.restore.fits (with_prepared prepared restore) is).same

    leads_first_lanes : RestartsFrom (IsBefore restore false) (λ site. prepare site.number to site) (IsReady restore true)
    leads_first_lanes site fit before = subst (λ (n : ℕ). LeadsBy IsRestart site (prepare n to site) (IsReady restore true)) (number_is false site fit before.is)
        (leads_prepare restore site fit before)

    leads_then_on : RestartsFrom (IsReady restore true) (λ site. go_on site.number to moment site) (HasEnded restore)
    leads_then_on site fit ready = subst (λ (n : ℕ). LeadsBy IsRestart site (go_on n to moment site) (HasEnded restore)) (number_is true site fit ready.state.is)
        (leads_go_on restore moment site fit ready)

    leads_rest : RestartsFrom (IsBefore restore false) (in_turn ((λ site. prepare site.number to site) ∷ (λ site. go_on site.number to moment site) ∷ [])) (HasEnded restore)
    leads_rest =
        restarts_then (IsBefore restore false) (IsReady restore true) (HasEnded restore) (λ site. prepare site.number to site)
        (in_turn ((λ site. go_on site.number to moment site) ∷ [])) leads_first_lanes
        (restarts_then (IsReady restore true) (HasEnded restore) (HasEnded restore) (λ site. go_on site.number to moment site) (in_turn []) leads_then_on
        (restarts_none (HasEnded restore)))

    leads_restore_to : to ≤ length first.history → IsFitSite first → LeadsBy (IsRestore to) first (restore_to moment point to first) (HasEnded restore)
    leads_restore_to within fit =
        both_lead AreSaving (IsRestore to) (IsRestore to) saving_can (saving_restore to) (saved_then to) IsSavedFor (HasEnded restore)
        (λ site. save_log moment site.ring site)
        (in_turn (check if_no_number ∷ (λ site. make (begin_restore point to ∷ [])) ∷ (λ site. prepare site.number to site) ∷ (λ site. go_on site.number to moment site) ∷ []))
        first fit (saved_for within fit)
        (λ site fits saved. both_lead AreSaving (IsRestore to) (IsRestore to) saving_can (saving_restore to) (saved_then to) IsSavedFor (HasEnded restore)
        (check if_no_number)
        (in_turn ((λ site. make (begin_restore point to ∷ [])) ∷ (λ site. prepare site.number to site) ∷ (λ site. go_on site.number to moment site) ∷ []))
        site fits (record { can = tt; then_holds = λ none. saved })
        (λ other f s. both_lead (IsBegin to) IsRestart (IsRestore to) (begin_can to) (begin_alone to) (begin_then to) (IsBefore restore false) (HasEnded restore)
        (λ site. make (begin_restore point to ∷ []))
        (in_turn ((λ site. prepare site.number to site) ∷ (λ site. go_on site.number to moment site) ∷ []))
        other f (leads_begin other f s) leads_rest))

-- the checks

module _ (first : Site) (moment : ℕ) (early : moment < 2 ^ 64) (point : Point) (fit : IsFitSite first) where
  abbrev to : ℕ
  to = position_of point first

  abbrev lacks : Site → Option Fault
  lacks site = if_any (first_of_lists (lacking_look point site) (lacking_at site (suc site.number) (position_of point site)))

  abbrev goes : SiteCourse
  goes site = restore_to moment point (position_of point site) site

  abbrev Still : Site → Type 0
  Still site = site ≡ first

  abbrev Ends : Site → Type 0
  Ends site = HasEnded (restore first moment early point to) site

  abbrev Found : Site → Type 0
  Found site = Still site × (lacks site ≡ None)

  abbrev Checked : Site → Type 0
  Checked site = Found site × (if_no_position site ≡ None)

  goes_on : (site : Site) → IsFitSite site → Checked site → LeadsBy (IsRestore to) site (in_turn (goes ∷ []) site) Ends
  goes_on site fits checked = subst (λ (s : Site). (lacks s ≡ None) → (if_no_position s ≡ None) → LeadsBy (IsRestore to) s (in_turn (goes ∷ []) s) Ends) (sym checked.0.0)
      (λ found position. ended (leads_restore_to first moment early point to
      (chains_there first (suc first.number) to (later_none (lacking_look point first) (lacking_at first (suc first.number) to) found)) (position_there first position)
      (position_within point first fit) fit))
      checked.0.1 checked.1
    where
      ended : LeadsBy (IsRestore to) first (goes first) Ends → LeadsBy (IsRestore to) first (in_turn (goes ∷ []) first) Ends
      ended leads = both_lead (IsRestore to) (λ moves site. moves ≡ []) (IsRestore to) (restore_can to) (λ moves site is. is) (restore_alone to) Ends Ends goes (in_turn [])
          first fit leads (λ site fits end. record { can = refl; then_holds = λ none. end })

  -- A new restore makes the moves of one, and where it answers well it has ended.
  pub leads_restore : LeadsBy (IsRestore to) first (restore_course moment point first) Ends
  leads_restore =
      both_lead AreSaving (IsRestore to) (IsRestore to) saving_can (saving_restore to) (saved_then to) Still Ends (check (if_no_log point))
      (in_turn (check lacks ∷ check if_no_position ∷ goes ∷ [])) first fit (record { can = tt; then_holds = λ none. refl })
      (λ site fits still. both_lead AreSaving (IsRestore to) (IsRestore to) saving_can (saving_restore to) (saved_then to) Found Ends (check lacks)
      (in_turn (check if_no_position ∷ goes ∷ [])) site fits (record { can = tt; then_holds = λ none. (still, none) })
      (λ other f found. both_lead AreSaving (IsRestore to) (IsRestore to) saving_can (saving_restore to) (saved_then to) Checked Ends (check if_no_position)
      (in_turn (goes ∷ [])) other f (record { can = tt; then_holds = λ none. (found, none) }) goes_on))
