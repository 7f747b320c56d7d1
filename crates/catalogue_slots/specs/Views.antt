-- The program's entries and slots as the definitions have them.
use Rattle.catalogue_slots.specs.Records.{Object, Record, add, more, del, base}
use Rattle.catalogue_slots.specs.declared.entry.ObjectEntry.{ObjectEntry}
use Rattle.catalogue_slots.specs.declared.slot.Slot.{Slot}
use Rattle.catalogue_slots.specs.declared.slot.Slot.TheVariants.{Add, More, Del, Base}

abbrev pub object_of : ObjectEntry → Object
object_of entry = record {
  copy = entry.copy;
  volume = entry.volume;
  size = entry.size;
  digest = entry.digest;
  runs = entry.runs.items;
  descriptor = entry.descriptor;
}

abbrev pub record_of : Slot → Record
record_of (Add count entry) = add count (object_of entry)
record_of (More copy runs) = more copy runs.items
record_of (Del copy) = del copy
record_of (Base last) = base last
