-- What restores and restarts make, and what is on their way.
use Rattle.std.specs.Prelude.{◌≡◌, ℕ, suc, ◌<◌, ◌^◌, List, Option, None, Some, false}
use Rattle.std.proofs.Common.{refl, sym, subst}
use Rattle.walks.specs.Courses.{IsOnWay, after_all}
use Rattle.site_worlds.specs.Fitness.{IsFitSite}
use Rattle.site_worlds.specs.Moves.{site_rules}
use Rattle.site_worlds.specs.Worlds.{Site}
use Rattle.world_laws.specs.KeptLaws.{fit_on_way}
use Rattle.backup_lines.specs.Spans.{Active, Point}
use Rattle.site_courses.specs.Plans.{position_of}
use Rattle.site_courses.specs.Restores.{restart_of, restart_course, restore_course}
use Rattle.site_stories.specs.Restarts.{IsRestart, IsTurn, AreTurns, restarts}
use Rattle.site_stories.specs.Restores.{IsRestore, IsBackAt}
use Rattle.site_stories.specs.RestoreLaws.{restore_is_back}
use Rattle.restore_course_laws.specs.Restarting.{Restarts, restart_can}
use Rattle.restore_course_laws.specs.RestoringLaws.{HasEnded}
use Rattle.restore_course_laws.specs.RestartLaws.{leads_restart_from}
use Rattle.restore_course_laws.specs.BeginningLaws.{restore_can, leads_restore}

restart_leads : (moment : ℕ) (restore : Active) (site : Site) → IsFitSite site → site.active ≡ Some restore → Restarts site (restart_course moment site) (HasEnded restore)
restart_leads moment restore site fit is =
    subst (λ (a : Option Active). Restarts site (restart_of a moment site) (HasEnded restore)) (sym is) (leads_restart_from restore moment site fit is)

-- A restart makes the moves of one.
pub restart_moves : (moment : ℕ) (site : Site) → IsFitSite site → IsRestart (restart_course moment site).moves site
restart_moves moment site fit = by site.active refl
  where
    by : (active : Option Active) → site.active ≡ active → IsRestart (restart_of active moment site).moves site
    by None is = tt
    by (Some restore) is = (leads_restart_from restore moment site fit is).can

-- A restart, ended or stopped, is a turn of the restore under way.
pub restart_turns : (moment : ℕ) (site next : Site) → IsFitSite site → IsOnWay site_rules (restart_course moment site).moves site next → IsTurn site next
restart_turns moment site next fit on = restarts (restart_course moment site).moves (restart_moves moment site fit) on

pub restart_passes : (moment : ℕ) (site other : Site) → IsFitSite site → IsOnWay site_rules (restart_course moment site).moves site other → IsFitSite other
restart_passes moment site other fit on =
    fit_on_way (restart_course moment site).moves site other (restart_can (restart_course moment site).moves site (restart_moves moment site fit)) fit on

-- A restart that ends without a refusal has ended the restore: its Reset is the last record, and each lane stands there.
pub restart_ends : (moment : ℕ) (restore : Active) (site : Site) → IsFitSite site → site.active ≡ Some restore → (restart_course moment site).fault ≡ None
    → HasEnded restore (after_all site_rules (restart_course moment site).moves site)
restart_ends moment restore site fit is none = (restart_leads moment restore site fit is).then_holds none

-- So does a new restore, to the position that its point comes to as it begins.
pub restore_moves : (moment : ℕ) (point : Point) (site : Site) → moment < 2 ^ 64 → IsFitSite site
    → IsRestore (position_of point site) (restore_course moment point site).moves site
restore_moves moment point site early fit = (leads_restore site moment early point fit).can

pub restore_passes : (moment : ℕ) (point : Point) (site other : Site) → moment < 2 ^ 64 → IsFitSite site
    → IsOnWay site_rules (restore_course moment point site).moves site other → IsFitSite other
restore_passes moment point site other early fit on = fit_on_way (restore_course moment point site).moves site other
    (restore_can (position_of point site) (restore_course moment point site).moves site (restore_moves moment point site early fit)) fit on

pub restore_ends : (moment : ℕ) (point : Point) (site : Site) → moment < 2 ^ 64 → IsFitSite site → (restore_course moment point site).fault ≡ None
    → HasEnded (record { number = suc site.number; point = point; to = position_of point site; prepared = false })
    (after_all site_rules (restore_course moment point site).moves site)
restore_ends moment point site early fit none = (leads_restore site moment early point fit).then_holds none

-- A new restore has begun, stopped or not, and restarts came behind it until none is under way: all pages are those at the position.
pub restored_by_courses : (moment : ℕ) (point : Point) (sites : List Site) (site next last : Site) → moment < 2 ^ 64 → IsFitSite site
    → IsOnWay site_rules (restore_course moment point site).moves site next → next.number ≡ suc site.number → AreTurns sites next last → last.active ≡ None
    → IsBackAt (position_of point site) site last
restored_by_courses moment point sites site next last early fit on begun turns none =
    restore_is_back (position_of point site) (restore_course moment point site).moves sites site next last fit (restore_moves moment point site early fit) on begun turns none
