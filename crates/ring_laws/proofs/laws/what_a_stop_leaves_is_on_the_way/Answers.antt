use Rattle.ring_laws.specs.PassedLaws.{opened_passes, headed_passes, way_holds}
use Rattle.ring_laws.proofs.laws.what_a_stop_leaves_is_on_the_way.Goals as goal

pub returns-clause-opening : goal.returns-clause-opening
returns-clause-opening c = opened_passes

pub returns-clause-heading : goal.returns-clause-heading
returns-clause-heading c = headed_passes

pub returns-clause-way : goal.returns-clause-way
returns-clause-way c = way_holds
