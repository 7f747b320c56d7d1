use Rattle.catalogue_replay.proofs.SameLemmas.{slot_not_bad, not_refused}
use Rattle.catalogue_replay.proofs.laws.journal_not_bad.Goals as goal

pub returns-clause-slots : goal.returns-clause-slots
returns-clause-slots c = slot_not_bad

pub returns-clause-opens : goal.returns-clause-opens
returns-clause-opens c capacity head contents bytes spare fault is =
    not_refused capacity head contents bytes spare fault is.heads is.mark is.journal is.spare
