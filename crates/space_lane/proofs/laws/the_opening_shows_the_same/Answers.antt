use Rattle.backup_lines.specs.declared.lanes.LaneState.TheVariants.{At, Replay}
use Rattle.space_lane.specs.Shown.{picture_of}
use Rattle.space_lane.proofs.ShowLemmas.{shown_back}
use Rattle.space_lane.proofs.laws.the_opening_shows_the_same.Goals as goal

pub returns-clause-standing : goal.returns-clause-standing
returns-clause-standing c space upto part pages first old new has may shows =
    shown_back (picture_of space (At upto part) upto part pages first) old new (may.settles (At upto part) has) shows

pub returns-clause-replaying : goal.returns-clause-replaying
returns-clause-replaying c space restore upto part chain pages first old new has may shows =
    shown_back (picture_of space (Replay restore chain upto part) upto part pages first) old new (may.settles (Replay restore chain upto part) has) shows
