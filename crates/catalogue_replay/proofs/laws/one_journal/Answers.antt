use Rattle.gated_slots.specs.Slots.{used}
use Rattle.catalogue_replay.specs.Contents.{AreContents}
use Rattle.std.proofs.Common.{subst}
use Rattle.catalogue_replay.specs.Places.{slots_on}
use Rattle.catalogue_replay.proofs.SameLemmas.{journals_once}
use Rattle.catalogue_replay.proofs.SoundLemmas.{contents_sound}
use Rattle.catalogue_replay.proofs.laws.one_journal.Goals as goal

pub returns-clause-once : goal.returns-clause-once
returns-clause-once c = journals_once

pub returns-clause-sound : goal.returns-clause-sound
returns-clause-sound c area contents bytes journal = subst AreContents journal.same (contents_sound (used area bytes) (slots_on bytes) journal.state journal.reads)
