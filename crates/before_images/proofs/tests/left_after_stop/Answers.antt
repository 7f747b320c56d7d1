use Rattle.std.proofs.Common.{refl}
use Rattle.before_images.specs.Saved.{are_distinct, is_among}
use Rattle.before_images.proofs.tests.left_after_stop.Goals as goal

pub save-requires-clause-distinct : goal.save-requires-clause-distinct
unfolding are_distinct is_among
save-requires-clause-distinct c = refl

pub save-requires-2-clause-distinct : goal.save-requires-2-clause-distinct
unfolding are_distinct is_among
save-requires-2-clause-distinct c = refl
