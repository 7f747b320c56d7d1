use Rattle.before_images.specs.RestoredLaws.{only_pages}
use Rattle.before_images.proofs.laws.only_pages_are_put_back.Goals as goal

pub returns : goal.returns
returns c base pages_at limit upto part bytes = only_pages base pages_at limit upto part bytes
