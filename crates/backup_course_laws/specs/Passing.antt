-- What is on the way of a backup, or of upkeep, is fit.
use Rattle.std.specs.Prelude.{Bool, List, length, ℕ, ◌<◌, ◌^◌}
use Rattle.walks.specs.Courses.{IsOnWay}
use Rattle.site_worlds.specs.Worlds.{Site}
use Rattle.site_worlds.specs.Fitness.{IsFitSite}
use Rattle.site_worlds.specs.Moves.{site_rules}
use Rattle.site_courses.specs.Backups.{logs_course, spaces_course}
use Rattle.site_courses.specs.Courses.{SiteCourse}
use Rattle.site_courses.specs.Upkeep.{sync_course, expire_one, generations_course}
use Rattle.course_laws.specs.Leading.{LeadsFrom, leads_fit}
use Rattle.backup_course_laws.specs.UpkeepLaws.{Any, leads_sync, leads_expire_one, leads_generations}
use Rattle.backup_course_laws.specs.SavedLaws.{leads_logs}
use Rattle.backup_course_laws.specs.ArchivingLaws.{AreSpaces}
use Rattle.backup_course_laws.specs.SpacesLaws.{leads_spaces}

passes : (course : SiteCourse) → LeadsFrom Any course Any → (site other : Site) → IsFitSite site → IsOnWay site_rules (course site).moves site other → IsFitSite other
passes course leads site other fit on = leads_fit site (course site) Any (leads site fit tt) fit other on

pub logs_pass : (closes salvages : Bool) (moment : ℕ) (site other : Site) → moment < 2 ^ 64 → IsFitSite site
    → IsOnWay site_rules (logs_course closes salvages moment site).moves site other → IsFitSite other
logs_pass closes salvages moment site other early fit on = passes (logs_course closes salvages moment) (leads_logs closes salvages moment early) site other fit on

pub spaces_pass : (level : ℕ) (spaces : List ℕ) (moment : ℕ) (site other : Site) → moment < 2 ^ 64 → AreSpaces (length site.head.spaces) spaces → IsFitSite site
    → IsOnWay site_rules (spaces_course level spaces moment site).moves site other → IsFitSite other
spaces_pass level spaces moment site other early are fit on =
    leads_fit site (spaces_course level spaces moment site) Any (leads_spaces level spaces moment early site fit are) fit other on

pub sync_passes : (site other : Site) → IsFitSite site → IsOnWay site_rules (sync_course site).moves site other → IsFitSite other
sync_passes site other fit on = passes sync_course leads_sync site other fit on

pub expire_passes : (copy : ℕ) (site other : Site) → IsFitSite site → IsOnWay site_rules (expire_one copy site).moves site other → IsFitSite other
expire_passes copy site other fit on = passes (expire_one copy) (leads_expire_one copy) site other fit on

pub generations_pass : (keep : ℕ) (site other : Site) → IsFitSite site → IsOnWay site_rules (generations_course keep site).moves site other → IsFitSite other
generations_pass keep site other fit on = passes (generations_course keep) (leads_generations keep) site other fit on
