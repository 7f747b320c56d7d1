use Rattle.lane_steps.specs.OwnLaws.{step_along}
use Rattle.lane_steps.proofs.laws.a_chosen_step_leads_along_the_way.Goals as goal

pub returns : goal.returns
returns c = λ way space count laid list front pages rest chooses. step_along way space count laid list front pages rest chooses
