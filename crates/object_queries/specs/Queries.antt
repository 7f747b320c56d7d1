-- What a query finds among objects in order of copy id, and how each of them is described.
use Rattle.std.specs.Prelude.{ℕ, Bool, List, [], ◌∷◌, nat_eq, if◌then◌else◌, Option, Some, None}
use Rattle.std.specs.List.{list_any}
use Rattle.bsa_descriptor.specs.declared.descriptor.Descriptor.{Descriptor}
use Rattle.bsa_descriptor.specs.declared.kinds.ObjectStatus.TheVariants as status
use Rattle.bsa_match.specs.Match.{is_match, is_same_name}
use Rattle.catalogue_slots.specs.Records.{Object}

-- one of the later objects has the name of this descriptor
abbrev pub is_superseded : Descriptor → List Object → Bool
is_superseded descriptor later = list_any (λ other. is_same_name descriptor other.descriptor) later

-- how an object is described, with those of greater copy ids behind it: it is the most recent of its name where none of them has it
abbrev pub with_status : Object → List Object → Descriptor
with_status object later = record object.descriptor {
  status = if is_superseded object.descriptor later then status.NotMostRecent else status.MostRecent;
}

-- the copy ids of the objects that a query finds, in order
abbrev pub found_by : Descriptor → List Object → List ℕ
found_by query [] = []
found_by query (object ∷ later) = if is_match query (with_status object later) then object.copy ∷ found_by query later else found_by query later

-- how the object of a copy id is described, if it is there
abbrev pub description_of : ℕ → List Object → Option Descriptor
description_of copy [] = None
description_of copy (object ∷ later) = if nat_eq object.copy copy then Some (with_status object later) else description_of copy later
