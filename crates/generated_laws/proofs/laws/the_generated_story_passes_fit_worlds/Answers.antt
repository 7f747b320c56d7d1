use Rattle.generated_laws.specs.GeneratedLaws.{generated_can, generated_passes}
use Rattle.generated_laws.proofs.laws.the_generated_story_passes_fit_worlds.Goals as goal

pub returns-clause-may : goal.returns-clause-may
returns-clause-may c = generated_can

pub returns-clause-passes : goal.returns-clause-passes
returns-clause-passes c = generated_passes
