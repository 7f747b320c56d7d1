use Rattle.before_images.specs.RestoredLaws.{same_restored}
use Rattle.before_images.proofs.laws.restored_pages_agree.Goals as goal

pub returns : goal.returns
returns c base pages_at limit upto part one other = same_restored base pages_at limit upto part one other
