-- The program's additions as the definitions have them.
use Rattle.catalogue_journal.specs.Transactions.{Addition}
use Rattle.catalogue_journal.specs.declared.entries.NewObject.{NewObject}

abbrev pub addition_of : NewObject → Addition
addition_of object = record {
  volume = object.volume;
  size = object.size;
  digest = object.digest;
  runs = object.runs.items;
  descriptor = object.descriptor;
}
