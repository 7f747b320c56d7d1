use Rattle.std.specs.Prelude.{IsSome}
use Rattle.std.proofs.Common.{ℕ, ◌<◌}
use Rattle.lane_restore.specs.Jobs.{image_of}
use Rattle.restore_trials.proofs.calls.has_images.Given as goal

abbrev pub invariant-loop-level : goal.invariant-loop-level
invariant-loop-level l = (k : ℕ) → k < l.level → IsSome (image_of k l.images)
