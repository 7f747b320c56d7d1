use Rattle.backup_lines.specs.declared.lanes.LaneState.TheVariants.{At, Replay}
use Rattle.space_lane.proofs.ShowLemmas.{shown}
use Rattle.space_lane.proofs.laws.what_stands_is_shown.Goals as goal

pub returns-clause-standing : goal.returns-clause-standing
returns-clause-standing c site space upto part bytes pages holds is stand = shown site space upto part (At upto part) pages bytes holds is stand

pub returns-clause-replaying : goal.returns-clause-replaying
returns-clause-replaying c site space restore upto part chain bytes pages holds is stand = shown site space upto part (Replay restore chain upto part) pages bytes holds is stand
