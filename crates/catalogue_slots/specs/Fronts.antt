-- The program's fronts as the layout has them.
use Rattle.catalogue_slots.specs.Layout.{Front}
use Rattle.catalogue_slots.specs.declared.front.Front.{Front as RustFront}

abbrev pub front_in : RustFront → Front
front_in front = record { kind = front.kind; word = front.word; double = front.double; copy = front.copy }
