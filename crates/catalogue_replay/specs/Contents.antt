-- What the catalogue has.
use Rattle.std.specs.Prelude.{◌≡◌, ℕ, ◌^◌, ◌<◌, ◌≤◌, Bool, false, ◌||◌, nat_eq, if◌then◌else◌, List, [], ◌∷◌}
use Rattle.std.specs.List.{AllByRecursion}
use Rattle.block_chain.specs.Blocks.{blocks_for, blocks_in}
use Rattle.catalogue_slots.specs.Records.{Object, IsObject}

-- the last copy id that was given, and the live objects in order of copy id
pub record Contents : Type 0 where
  pub last : ℕ
  pub objects : List Object

-- no object was ever added
abbrev pub empty : Contents
empty = record { last = 0; objects = [] }

-- an object with this copy id is live
abbrev pub has_copy : ℕ → List Object → Bool
has_copy copy [] = false
has_copy copy (object ∷ objects) = nat_eq object.copy copy || has_copy copy objects

-- all but the object with this copy id
abbrev pub without : ℕ → List Object → List Object
without copy [] = []
without copy (object ∷ objects) = if nat_eq object.copy copy then objects else object ∷ without copy objects

-- each copy id is above the one before it, the first one above this
abbrev pub AreRising : ℕ → List Object → Type 0
AreRising below [] = Unit {0}
AreRising below (object ∷ objects) = (below < object.copy) × AreRising object.copy objects

-- an object of a journal: its records may be spelled, and its runs have exactly the blocks that its bytes take
pub record IsKept (object : Object) : Type 0 where
  pub fits : IsObject object
  pub blocks : blocks_in object.runs ≡ blocks_for object.size

-- what the contents of each journal meet: the copy ids of the objects rise, up to the last one at most, which has its bound, and each
-- object is kept
pub record AreContents (contents : Contents) : Type 0 where
  pub rising : AreRising 0 contents.objects
  pub below : AllByRecursion (λ object. object.copy ≤ contents.last) contents.objects
  pub bound : contents.last ≤ 2 ^ 48
  pub each : AllByRecursion IsKept contents.objects
