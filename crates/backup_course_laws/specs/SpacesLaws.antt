-- A backup of spaces makes moves that may be made: the log is closed, all lanes go to its end, it is saved, and the spaces are archived.
use Rattle.std.specs.Prelude.{◌≡◌, ℕ, ◌^◌, ◌<◌, ◌≤◌, List, [], ◌∷◌, length, map, Bool, true, false, if◌then◌else◌, None}
use Rattle.std.specs.List.{list_all}
use Rattle.std.proofs.Common.{refl, sym, subst, ◌∙◌}
use Rattle.log_history.specs.History.{History}
use Rattle.site_headers.specs.Heads.{Head}
use Rattle.walks.specs.Courses.{make}
use Rattle.site_worlds.specs.Worlds.{Site}
use Rattle.site_worlds.specs.Files.{IsEmptyAtEnd, last_logged}
use Rattle.site_worlds.specs.Fitness.{IsFitSite}
use Rattle.site_worlds.specs.Moves.{move_lanes, site_rules}
use Rattle.site_worlds.specs.Allowed.{HasRing}
use Rattle.world_laws.specs.KeptLaws.{fit_after_all}
use Rattle.site_courses.specs.Courses.{check, in_turn, if_active, if_log_lost, if_any_lost, close_current, is_at, to_end, lanes_to_end}
use Rattle.site_courses.specs.Backups.{save_files, if_lines_full, archive_spaces, spaces_course}
use Rattle.course_laws.specs.Leading.{LeadsBy, Leads, LeadsFrom, leads_none, leads_then}
use Rattle.course_laws.specs.AppendingLaws.{active_none, ring_there, lanes_can}
use Rattle.backup_course_laws.specs.UpkeepLaws.{Any}
use Rattle.backup_course_laws.specs.SavingLaws.{AreSaving, saving_can, IsSavedFrom, saved_from_itself}
use Rattle.backup_course_laws.specs.SavedLaws.{AreMarked, leads_save, IsClosed, leads_close, log_now, marked_saved, saved_reaches}
use Rattle.backup_course_laws.specs.ArchivingLaws.{AreSpaces, leads_archives}

module _ (level : ℕ) (spaces : List ℕ) (moment : ℕ) (early : moment < 2 ^ 64) where
  -- the spaces are of the site; with no restore under way; and with the log there
  abbrev pub AreOf : Site → Type 0
  AreOf site = AreSpaces (length site.head.spaces) spaces

  abbrev Idle : Site → Type 0
  Idle site = AreOf site × (site.active ≡ None)

  abbrev Usable : Site → Type 0
  Usable site = Idle site × HasRing site

  -- the current file is closed or empty
  record IsToSave (site : Site) : Type 0 where
    are : AreOf site
    none : site.active ≡ None
    has : HasRing site
    empty : has.ring.is_open ≡ true → IsEmptyAtEnd site.starts site.history

  -- files with lines reach the end of the log
  record IsToArchive (site : Site) : Type 0 where
    are : AreOf site
    reached : length site.history ≤ last_logged site.lines

  of_same : (site other : Site) → IsSavedFrom site other → AreOf site → AreOf other
  of_same site other same are = subst (λ (h : Head). AreSpaces (length h.spaces) spaces) (sym same.head) are

  closes : LeadsFrom Usable close_current IsToSave
  closes site fit usable =
      let leads : LeadsBy AreSaving site (close_current site) (IsClosed site) = leads_close site site fit (saved_from_itself site, usable.1) in
      record {
        can = saving_can (close_current site).moves site leads.can;
        then_holds = λ no_fault. to_save (leads.then_holds no_fault);
      }
    where
      to_save : {other : Site} → IsClosed site other → IsToSave other
      to_save {other} is = record { are = of_same site other is.same usable.0.0; none = is.same.active ∙ usable.0.1; has = is.has; empty = is.empty }

  lanes_end : LeadsFrom IsToSave (λ site. make (lanes_to_end site)) IsToSave
  unfolding site_rules
  lanes_end site fit is = by (list_all (is_at (length site.history)) site.lanes)
    where
      by : (b : Bool) → Leads site (make (if b then [] else move_lanes (map (to_end (length site.history)) site.lanes) ∷ [])) IsToSave
      by true = record { can = tt; then_holds = λ no_fault. is }
      by false = record {
        can = (lanes_can site 0 site.lanes is.none is.has, tt);
        then_holds = λ no_fault. record { are = is.are; none = is.none; has = record { ring = is.has.ring; is = is.has.is }; empty = is.empty };
      }

  saves : LeadsFrom IsToSave (save_files moment) IsToArchive
  saves site fit is = record {
    can = saving_can (save_files moment site).moves site leads.can;
    then_holds = λ no_fault. to_archive (fit_after_all (save_files moment site).moves site (saving_can (save_files moment site).moves site leads.can) fit) (leads.then_holds no_fault);
  }
    where
      leads : LeadsBy AreSaving site (save_files moment site) (AreMarked site is.has.ring.is_open)
      leads = leads_save site is.has.ring.is_open moment early site fit (log_now site is.has)

      to_archive : {other : Site} → IsFitSite other → AreMarked site is.has.ring.is_open other → IsToArchive other
      to_archive {other} fits marked = record {
        are = of_same site other marked.log.same is.are;
        reached = saved_reaches other marked.log.has fits (marked_saved other marked.log.has fits empty marked.all);
      }
        where
          empty : marked.log.has.ring.is_open ≡ true → IsEmptyAtEnd other.starts other.history
          empty is_open = subst (λ (h : History). IsEmptyAtEnd other.starts h) (sym marked.log.same.history)
              (subst (λ (l : List ℕ). IsEmptyAtEnd l site.history) (sym marked.log.same.starts) (is.empty (sym marked.log.is_open ∙ is_open)))

  archives : LeadsFrom IsToArchive (archive_spaces moment level spaces) Any
  archives site fit is = leads_archives site moment level fit early is.reached spaces is.are

  -- `-b`
  pub leads_spaces : LeadsFrom AreOf (spaces_course level spaces moment) Any
  leads_spaces =
      leads_then AreOf Idle Any (check if_active)
      (in_turn (check if_log_lost ∷ check if_any_lost ∷ close_current ∷ (λ site. make (lanes_to_end site)) ∷ check (if_lines_full (length spaces)) ∷ save_files moment
      ∷ archive_spaces moment level spaces ∷ []))
      (λ site fit are. record { can = tt; then_holds = λ none. (are, active_none site.active none) })
      (leads_then Idle Usable Any (check if_log_lost)
      (in_turn (check if_any_lost ∷ close_current ∷ (λ site. make (lanes_to_end site)) ∷ check (if_lines_full (length spaces)) ∷ save_files moment
      ∷ archive_spaces moment level spaces ∷ []))
      (λ site fit idle. record { can = tt; then_holds = λ none. (idle, ring_there site site.ring refl none) })
      (leads_then Usable Usable Any (check if_any_lost)
      (in_turn (close_current ∷ (λ site. make (lanes_to_end site)) ∷ check (if_lines_full (length spaces)) ∷ save_files moment ∷ archive_spaces moment level spaces ∷ []))
      (λ site fit usable. record { can = tt; then_holds = λ none. usable })
      (leads_then Usable IsToSave Any close_current
      (in_turn ((λ site. make (lanes_to_end site)) ∷ check (if_lines_full (length spaces)) ∷ save_files moment ∷ archive_spaces moment level spaces ∷ [])) closes
      (leads_then IsToSave IsToSave Any (λ site. make (lanes_to_end site))
      (in_turn (check (if_lines_full (length spaces)) ∷ save_files moment ∷ archive_spaces moment level spaces ∷ [])) lanes_end
      (leads_then IsToSave IsToSave Any (check (if_lines_full (length spaces))) (in_turn (save_files moment ∷ archive_spaces moment level spaces ∷ []))
      (λ site fit is. record { can = tt; then_holds = λ none. is })
      (leads_then IsToSave IsToArchive Any (save_files moment) (in_turn (archive_spaces moment level spaces ∷ [])) saves
      (leads_then IsToArchive Any Any (archive_spaces moment level spaces) (in_turn []) archives (leads_none Any))))))))
