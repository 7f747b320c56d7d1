-- What is on the way of a course is fit.
use Rattle.std.specs.Prelude.{List, Option, ℕ}
use Rattle.walks.specs.Courses.{IsOnWay}
use Rattle.log_history.specs.History.{LogEntry}
use Rattle.site_headers.specs.Heads.{Head, IsHead}
use Rattle.site_worlds.specs.Fitness.{IsFit, IsFitSite}
use Rattle.site_worlds.specs.Moves.{site_rules, world_rules}
use Rattle.site_worlds.specs.Worlds.{Site, World}
use Rattle.world_laws.specs.NewLaws.{world_fit_on_way}
use Rattle.site_courses.specs.Appending.{transactions_course}
use Rattle.site_courses.specs.Courses.{init_course, show_course}
use Rattle.site_courses.specs.Faults.{Fault}
use Rattle.course_laws.specs.Leading.{leads_fit}
use Rattle.course_laws.specs.AppendingLaws.{MayCome, leads_transactions}
use Rattle.course_laws.specs.ShowingLaws.{init_can, leads_show}

pub init_passes : (head : Head) (world other : World) → IsHead head → IsFit world → IsOnWay world_rules (init_course head world).moves world other → IsFit other
init_passes head world other is fit on = world_fit_on_way (init_course head world).moves world other (init_can head world is) fit on

pub transactions_pass : (batches : List (List LogEntry)) (ending : Option Fault) (site other : Site) → MayCome batches site → IsFitSite site
    → IsOnWay site_rules (transactions_course batches ending site).moves site other → IsFitSite other
transactions_pass batches ending site other may fit on =
    leads_fit site (transactions_course batches ending site) (λ s. Unit {0}) (leads_transactions batches ending site fit may) fit other on

pub show_passes : (name : List ℕ) (page : Option ℕ) (site other : Site) → IsFitSite site → IsOnWay site_rules (show_course name page site).moves site other → IsFitSite other
show_passes name page site other fit on = leads_fit site (show_course name page site) (λ s. Unit {0}) (leads_show name page site fit tt) fit other on
