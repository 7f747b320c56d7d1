use Rattle.site_layouts.specs.MarkLaws.{one_state}
use Rattle.site_layouts.specs.TellsLaws.{one_lane}
use Rattle.site_layouts.proofs.laws.a_mark_tells_its_state.Goals as goal

pub returns-clause-state : goal.returns-clause-state
returns-clause-state c = one_state

pub returns-clause-chunk : goal.returns-clause-chunk
returns-clause-chunk c = one_lane
