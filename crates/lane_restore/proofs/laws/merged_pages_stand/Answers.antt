use Rattle.lane_restore.proofs.LawLemmas.{replayed_shows}
use Rattle.lane_restore.proofs.laws.merged_pages_stand.Goals as goal

pub returns : goal.returns
returns c = replayed_shows
