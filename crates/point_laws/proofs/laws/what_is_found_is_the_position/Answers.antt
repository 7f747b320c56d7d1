use Rattle.point_laws.specs.PointLaws.{found_is_position}
use Rattle.point_laws.proofs.laws.what_is_found_is_the_position.Goals as goal

pub returns : goal.returns
returns c = found_is_position
