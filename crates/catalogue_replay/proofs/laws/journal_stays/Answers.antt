use Rattle.catalogue_replay.proofs.SameLemmas.{stays}
use Rattle.catalogue_replay.proofs.laws.journal_stays.Goals as goal

pub returns : goal.returns
returns c = stays
