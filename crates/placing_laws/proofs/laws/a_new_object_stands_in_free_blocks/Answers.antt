use Rattle.placing_laws.specs.PlacingLaws.{new_runs_are, new_stands}
use Rattle.placing_laws.proofs.laws.a_new_object_stands_in_free_blocks.Goals as goal

pub returns : goal.returns
returns c site volume size runs is = new_stands site volume size runs (new_runs_are site volume size runs is)
