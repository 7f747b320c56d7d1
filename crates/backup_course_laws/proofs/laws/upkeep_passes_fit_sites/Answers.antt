use Rattle.backup_course_laws.specs.Passing.{expire_passes, generations_pass, sync_passes}
use Rattle.backup_course_laws.proofs.laws.upkeep_passes_fit_sites.Goals as goal

pub returns-clause-syncs : goal.returns-clause-syncs
returns-clause-syncs c = sync_passes

pub returns-clause-expires : goal.returns-clause-expires
returns-clause-expires c = expire_passes

pub returns-clause-generations : goal.returns-clause-generations
returns-clause-generations c = generations_pass
