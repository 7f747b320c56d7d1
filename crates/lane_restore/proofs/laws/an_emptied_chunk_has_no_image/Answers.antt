use Rattle.lane_restore.proofs.LawLemmas.{emptied_shows, shows_emptied}
use Rattle.lane_restore.proofs.laws.an_emptied_chunk_has_no_image.Goals as goal

pub returns : goal.returns
returns c = record { shows = emptied_shows; stands = shows_emptied }
