use Rattle.before_images.specs.RestoredLaws.{stays_at_other}
use Rattle.before_images.proofs.laws.another_place_keeps_its_pages.Goals as goal

pub returns : goal.returns
returns c base pages_at limit upto part saved bytes = stays_at_other base pages_at limit upto part saved bytes
