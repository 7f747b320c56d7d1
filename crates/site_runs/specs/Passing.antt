-- What is on the way of a run is fit.
use Rattle.std.specs.Prelude.{List, ℕ}
use Rattle.walks.specs.Courses.{IsOnWay}
use Rattle.site_worlds.specs.Fitness.{IsFitSite}
use Rattle.site_worlds.specs.Moves.{site_rules}
use Rattle.site_worlds.specs.Worlds.{Site}
use Rattle.course_laws.specs.Leading.{leads_fit}
use Rattle.site_runs.specs.Scripts.{transactions_of}
use Rattle.site_runs.specs.ScriptLaws.{transactions_lead}

pub transactions_pass : (moment : ℕ) (text : List ℕ) (site other : Site) → IsFitSite site
    → IsOnWay site_rules (transactions_of moment text site).moves site other → IsFitSite other
transactions_pass moment text site other fit on = leads_fit site (transactions_of moment text site) (λ s. Unit {0}) (transactions_lead moment text site fit tt) fit other on
