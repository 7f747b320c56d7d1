use Rattle.catalogue_slots.specs.SlotLaws.{records_are_records, length-records_of}
use Rattle.catalogue_slots.proofs.laws.an_object_has_its_records.Goals as goal

pub returns-clause-records : goal.returns-clause-records
returns-clause-records c = records_are_records

pub returns-clause-count : goal.returns-clause-count
returns-clause-count c = length-records_of
