-- What the catalogue, the spare disk and the volumes show of the store.
use Rattle.std.specs.Prelude.{◌≡◌, ℕ, ◌≤◌, List, map, Bool, true, false}
use Rattle.std.specs.List.{AllByRecursion}
use Rattle.site_headers.specs.Heads.{Head}
use Rattle.site_headers.specs.Headers.{HasHeader, spare_tail}
use Rattle.site_headers.specs.Areas.{slot_count}
use Rattle.gated_slots.specs.Slots.{Area, used}
use Rattle.catalogue_replay.specs.Contents.{Contents}
use Rattle.catalogue_replay.specs.Places.{area_of, NamesArea, Journals}
use Rattle.catalogue_replay.specs.Answers.{HasHead}
use Rattle.object_volume.specs.Objects.{object}
use Rattle.object_volume.specs.Answers.{Judges}
use Rattle.object_volume.specs.Headers.{HasVolume}
use Rattle.object_volume.specs.declared.faults.Soundness.TheVariants.{Damaged}
use Rattle.site_worlds.specs.Worlds.{Kept, Store}
use Rattle.site_worlds.specs.Moves.{is_among}

-- What bytes alone decide of a formatted site, and no command speaks of: which area of the catalogue is in use. 0 is the one on its own
-- disk, so far the only one.
pub record Held : Type 0 where
  pub area : ℕ

-- the catalogue's area
abbrev pub catalogue_area : Area
catalogue_area = area_of slot_count

-- what the catalogue has of the store: all but the bytes of the objects
abbrev pub contents_of : Store → Contents
contents_of store = record { last = store.last; objects = map (λ kept. kept.object) store.kept }

-- the catalogue: its header, its mark, which names the area in use, and there the journal, which makes the store
pub record HoldsCatalogue (head : Head) (store : Store) (held : Held) (bytes : List ℕ) : Type 0 where
  pub heads : HasHead head bytes
  pub own_area : held.area ≡ 0
  pub mark : NamesArea bytes
  pub journal : Journals catalogue_area (contents_of store) bytes
  pub used : used catalogue_area bytes ≡ store.used

-- the spare disk: its header, while its area isn't in use
abbrev pub HoldsSpare : Head → List ℕ → Type 0
HoldsSpare head bytes = HasHeader (spare_tail head.site) bytes

-- what an object reads as on its volume
abbrev pub read_of : Kept → List ℕ → List ℕ
read_of kept bytes = object kept.object.runs kept.object.size bytes

-- an object reads as its sent bytes
abbrev pub IsSound : Kept → List ℕ → Type 0
IsSound kept bytes = read_of kept bytes ≡ kept.bytes

-- or, all of it, as bytes with another digest
abbrev pub IsDamaged : Kept → List ℕ → Type 0
IsDamaged kept bytes = (found : List ℕ) × Judges (read_of kept bytes) kept.object.size kept.object.digest (Damaged found)

-- what is there of an object, damaged or not
abbrev pub StandsAs : Bool → Kept → List ℕ → Type 0
StandsAs false kept bytes = IsSound kept bytes
StandsAs true kept bytes = IsDamaged kept bytes

-- a live object of this volume stands there, damaged where its copy id is among these
abbrev pub HoldsObject : ℕ → List ℕ → List ℕ → Kept → Type 0
HoldsObject volume damaged bytes kept = kept.object.volume ≡ volume → StandsAs (is_among damaged kept.object.copy) kept bytes

-- a volume: its header, and each live object that stands on it
pub record HoldsVolume (head : Head) (store : Store) (volume : ℕ) (bytes : List ℕ) : Type 0 where
  pub header : HasVolume volume head.site head.blocks bytes
  pub objects : AllByRecursion (HoldsObject volume store.damaged bytes) store.kept

-- there are the volumes 0 to 16
abbrev pub ShowsVolume : Head → Store → ℕ → List ℕ → Type 0
ShowsVolume head store volume bytes = volume ≤ 16 → HoldsVolume head store volume bytes
