-- The live objects, and which copy ids they may have.
use Rattle.std.specs.Prelude.{◌≡◌, ℕ, ◌+◌, ◌<◌, List, map, Option, Some, None}
use Rattle.std.specs.List.{AllByRecursion, AllByRecursion-prop}
use Rattle.std.specs.Coded.{le_prop}
use Rattle.catalogue_slots.specs.Records.{Object}
use Rattle.catalogue_slots.specs.Views.{object_of}
use Rattle.catalogue_slots.specs.declared.entry.ObjectEntry.{ObjectEntry}
use Rattle.catalogue_replay.specs.declared.replay.Rest.{Rest}

-- the objects of a map by copy ids
abbrev pub objects_in : List (ℕ × ObjectEntry) → List Object
objects_in entries = map (λ e. object_of e.1) entries

-- an entry stands under its own copy id
abbrev pub IsUnderItsCopy : ℕ × ObjectEntry → Type 0
IsUnderItsCopy e = e.0 ≡ e.1.copy

-- all copy ids are below this one
abbrev pub AreBelow : ℕ → List Object → Type 0
AreBelow above objects = AllByRecursion (λ object. object.copy < above) objects

pub AreBelow-prop : (above : ℕ) (objects : List Object) → IsProp (AreBelow above objects)
AreBelow-prop above objects = AllByRecursion-prop (λ object. object.copy < above) (λ object. le_prop) objects

-- Where this is the copy id of the last Add, those of the live objects are below this number: its object is live unless it waits for its
-- Mores.
abbrev pub live_below : ℕ → Option Rest → ℕ
live_below added None = added + 1
live_below added (Some rest) = added

-- the copy id of the object that waits for its Mores, or else that of the last Add
abbrev pub waiting : ℕ → Option Rest → ℕ
waiting added None = added
waiting added (Some rest) = rest.entry.copy
