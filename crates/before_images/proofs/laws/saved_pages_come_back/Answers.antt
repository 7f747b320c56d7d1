use Rattle.before_images.specs.RegionLaws.{comes_back}
use Rattle.before_images.proofs.laws.saved_pages_come_back.Goals as goal

pub returns : goal.returns
returns c base pages_at limit upto part pages old saved since apart below reaches saves within = comes_back base pages_at limit upto part pages old saved since apart below reaches saves within
