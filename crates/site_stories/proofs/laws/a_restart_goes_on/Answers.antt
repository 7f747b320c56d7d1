use Rattle.site_stories.specs.RestartLaws.{restart_done, restart_stops}
use Rattle.site_stories.proofs.laws.a_restart_goes_on.Goals as goal

pub returns-clause-stops : goal.returns-clause-stops
returns-clause-stops c = restart_stops

pub returns-clause-done : goal.returns-clause-done
returns-clause-done c = restart_done
