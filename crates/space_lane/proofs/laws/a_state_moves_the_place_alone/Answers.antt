use Rattle.space_lane.proofs.ShowLemmas.{moved}
use Rattle.space_lane.proofs.laws.a_state_moves_the_place_alone.Goals as goal

pub returns : goal.returns
returns c space upto part to more before state pages bytes new shows stand may = moved space upto part to more before state pages bytes shows stand new may
