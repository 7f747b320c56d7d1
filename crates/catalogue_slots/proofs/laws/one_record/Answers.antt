use Rattle.catalogue_slots.specs.SlotLaws.{length-spelling}
use Rattle.catalogue_slots.proofs.OnceLemmas.{record_once}
use Rattle.catalogue_slots.proofs.laws.one_record.Goals as goal

pub returns-clause-once : goal.returns-clause-once
returns-clause-once c = record_once

pub returns-clause-fills : goal.returns-clause-fills
returns-clause-fills c = length-spelling
