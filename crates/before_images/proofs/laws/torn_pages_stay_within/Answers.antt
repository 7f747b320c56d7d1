use Rattle.before_images.specs.RestoredLaws.{stays_within}
use Rattle.before_images.proofs.laws.torn_pages_stay_within.Goals as goal

pub returns : goal.returns
returns c pages_at limit k pages old mid new = stays_within pages_at limit k pages old mid new
