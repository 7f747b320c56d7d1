-- Objects one after another.
use Rattle.std.proofs.Common.{◌≡◌, ℕ, ◌+◌, ◌<◌, true, false, List, [], ◌∷◌, ◌++◌, map, length, drop, get_or, refl, sym, ap, ◌∙◌, append_assoc}
use Rattle.std.proofs.lemmas.List.{drop_more}
use Rattle.std.specs.List.{list_any}
use Rattle.bsa_descriptor.specs.declared.descriptor.Descriptor.{Descriptor}
use Rattle.bsa_match.specs.Match.{is_match, is_same_name}
use Rattle.catalogue_slots.specs.Records.{Object}
use Rattle.catalogue_slots.specs.Views.{object_of}
use Rattle.catalogue_slots.specs.declared.entry.ObjectEntry.{ObjectEntry}
use Rattle.object_queries.specs.Queries.{is_superseded, with_status, found_by}

-- a test of the objects of entries is one of the entries
pub superseded_map : (descriptor : Descriptor) (later : List ObjectEntry)
    → list_any (λ (other : ObjectEntry). is_same_name descriptor other.descriptor) later ≡ is_superseded descriptor (map object_of later)
superseded_map descriptor [] = refl
superseded_map descriptor (entry ∷ later) = rw (superseded_map descriptor later) refl

-- the objects from a place on begin with the one that stands there
pub objects_from_place : (objects : List ObjectEntry) (i : ℕ) (object : ObjectEntry) → i < length objects → object ≡ get_or objects i object
    → map object_of (drop i objects) ≡ object_of object ∷ map object_of (drop (i + 1) objects)
objects_from_place objects i object lt is = ap (map object_of) (drop_more objects i object lt) ∙ ap (λ (o : ObjectEntry). object_of o ∷ map object_of (drop (i + 1) objects)) (sym is)

-- one object more, that is found or not
pub finds_next : (query : Descriptor) (objects : List Object) (object : Object) (later : List Object) (before all : List ℕ) → objects ≡ object ∷ later
    → before ++ found_by query objects ≡ all → is_match query (with_status object later) ≡ true → (before ++ object.copy ∷ []) ++ found_by query later ≡ all
finds_next query objects object later before all is so_far is_so =
    append_assoc before (object.copy ∷ []) (found_by query later) ∙ ap (λ (l : List ℕ). before ++ l) (sym (ap (found_by query) is ∙ rw (is_so) refl)) ∙ so_far

pub passes_next : (query : Descriptor) (objects : List Object) (object : Object) (later : List Object) (before all : List ℕ) → objects ≡ object ∷ later
    → before ++ found_by query objects ≡ all → is_match query (with_status object later) ≡ false → before ++ found_by query later ≡ all
passes_next query objects object later before all is so_far isnt =
    ap (λ (l : List ℕ). before ++ l) (sym (ap (found_by query) is ∙ rw (isnt) refl)) ∙ so_far
