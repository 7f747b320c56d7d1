use Rattle.std.proofs.Common.{refl}
use Rattle.before_images.specs.Saved.{are_distinct, is_among}
use Rattle.before_images.proofs.tests.a_failing_disk_fails_each_call.Goals as goal

pub save-requires-clause-distinct : goal.save-requires-clause-distinct
unfolding are_distinct is_among
save-requires-clause-distinct g c = refl
