-- What a transaction makes of the catalogue.
use Rattle.std.specs.Prelude.{◌≡◌, ℕ, suc, ◌+◌, ◌-◌, ◌^◌, ◌≤◌, List, [], ◌∷◌, ◌++◌, length, sum_by, IsTrue}
use Rattle.block_chain.specs.declared.runs.Run.{Run}
use Rattle.bsa_descriptor.specs.declared.descriptor.Descriptor.{Descriptor}
use Rattle.bsa_descriptor.specs.declared.kinds.ObjectStatus.TheVariants as status
use Rattle.catalogue_slots.specs.Records.{Object, AreRuns, slots_for}
use Rattle.block_chain.specs.Blocks.{blocks_for, blocks_in}
use Rattle.catalogue_replay.specs.Contents.{Contents, has_copy, without}

-- an object that a transaction adds, before it has a copy id
pub record Addition : Type 0 where
  pub volume : ℕ
  pub size : ℕ
  pub digest : List ℕ
  pub runs : List Run
  pub descriptor : Descriptor

-- what may be added: a volume of the site, and runs that have exactly the blocks that the object's bytes take
pub record IsAddition (addition : Addition) : Type 0 where
  pub volume : addition.volume ≤ 16
  pub runs : AreRuns addition.runs
  pub blocks : blocks_in addition.runs ≡ blocks_for addition.size

-- the object with its copy id, which its descriptor has too, and without a status
abbrev pub object_with : ℕ → Addition → Object
object_with copy addition = record {
  copy = copy;
  volume = addition.volume;
  size = addition.size;
  digest = addition.digest;
  runs = addition.runs;
  descriptor = record addition.descriptor { copy = copy; status = status.Any };
}

-- objects with the copy ids from one on
abbrev pub objects_from : ℕ → List Addition → List Object
objects_from copy [] = []
objects_from copy (addition ∷ additions) = object_with copy addition ∷ objects_from (suc copy) additions

-- the objects without those with these copy ids
abbrev pub without_all : List ℕ → List Object → List Object
without_all [] objects = objects
without_all (copy ∷ copies) objects = without_all copies (without copy objects)

-- each copy id is that of a live object, and none is named twice
abbrev pub AreLive : List ℕ → List Object → Type 0
AreLive [] objects = Unit {0}
AreLive (copy ∷ copies) objects = IsTrue (has_copy copy objects) × AreLive copies (without copy objects)

-- what a transaction makes of the catalogue: deletions first, then additions with the ids that follow the last one
abbrev pub ended : List ℕ → List Addition → Contents → Contents
ended deletions additions before = record {
  last = before.last + length additions;
  objects = without_all deletions before.objects ++ objects_from (suc before.last) additions;
}

-- the slots that it takes: one for each deletion, and those of its objects
abbrev pub slots_wanted : List ℕ → List Addition → ℕ
slots_wanted deletions additions = length deletions + sum_by (λ addition. slots_for (length addition.runs)) additions

-- the objects that are live after it
abbrev pub live_after : List ℕ → List Addition → Contents → ℕ
live_after deletions additions before = length before.objects - length deletions + length additions

-- at most 16,384 objects are live, and copy ids go up to 2^48
pub record IsWithin (deletions : List ℕ) (additions : List Addition) (before : Contents) : Type 0 where
  pub live : live_after deletions additions before ≤ 16384
  pub ids : before.last + length additions ≤ 2 ^ 48
