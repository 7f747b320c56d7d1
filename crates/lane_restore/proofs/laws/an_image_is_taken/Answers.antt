use Rattle.lane_restore.proofs.LawLemmas.{is_taken}
use Rattle.lane_restore.proofs.laws.an_image_is_taken.Goals as goal

pub returns : goal.returns
returns c pages entries image own bytes has = is_taken pages image own bytes has entries
