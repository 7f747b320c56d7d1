use Rattle.std.proofs.Common.{◌≡◌, drop}
use Rattle.before_images.specs.Saved.{is_among}
use Rattle.lane_steps.proofs.choosing.is_among.Given as goal

abbrev pub invariant-loop-other : goal.invariant-loop-other
invariant-loop-other l = is_among l.page l.pages ≡ is_among l.page (drop l.other-index l.pages)
