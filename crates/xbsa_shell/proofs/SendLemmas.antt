-- What the calls of an object make of its volume.
use Rattle.std.proofs.Common.{◌≡◌, ◌≢◌, ℕ, ◌+◌, ◌<◌, Bool, true, false, List, [], ◌∷◌, ◌++◌, map, Option, None, Some, Result, Ok, Err, refl, sym, ap, ◌∙◌, subst, arith, append_assoc}
use Rattle.std.proofs.lemmas.List.{append-nil, map_push}
use Rattle.std.specs.List.{AllByRecursion}
use Rattle.site_disk.specs.Ledger.{EraView, MayUse, Uses}
use Rattle.site_disk.specs.declared.disk.Disk.{Ghosts}
use Rattle.block_chain.specs.Blocks.{times, ArePartition, blocks_of_runs}
use Rattle.block_chain.specs.BlocksLaws.{times-append, ArePartition-moved}
use Rattle.block_chain.specs.declared.runs.Run.{Run}
use Rattle.catalogue_slots.specs.Records.{Object}
use Rattle.catalogue_journal.specs.Transactions.{Addition}
use Rattle.object_volume.specs.Volumes.{disk_of, blocks_in, free_of, blocks_sent, IsLive}
use Rattle.object_volume.specs.declared.volume.Volume.{Volume}
use Rattle.object_store.specs.Endings.{places}
use Rattle.object_store.specs.Holdings.{Holds, blocks_of_all}
use Rattle.object_store.specs.Returns.{Placed, place_of_object, place_of_addition, runs_on, HoldsAmong}
use Rattle.object_store.proofs.ReturnLemmas.{runs_on-append, runs_on-here, runs_on-elsewhere}

-- ---- the runs of what a transaction adds last

placed_last : (objects : List Object) (added : List Addition) (a : Addition) → places objects (added ++ a ∷ []) ≡ places objects added ++ place_of_addition a ∷ []
placed_last objects added a =
    ap (λ (l : List Placed). map place_of_object objects ++ l) (map_push place_of_addition added a)
    ∙ sym (append_assoc (map place_of_object objects) (map place_of_addition added) (place_of_addition a ∷ []))

pub last_here : (at : ℕ) (objects : List Object) (added : List Addition) (a : Addition) → at ≡ a.volume
    → runs_on at (places objects (added ++ a ∷ [])) ≡ runs_on at (places objects added) ++ a.runs ∷ []
last_here at objects added a same =
    ap (runs_on at) (placed_last objects added a)
    ∙ runs_on-append at (places objects added) (place_of_addition a ∷ [])
    ∙ ap (λ (l : List (List Run)). runs_on at (places objects added) ++ l) (runs_on-here at (place_of_addition a) [] same)

pub last_elsewhere : (place : ℕ) (objects : List Object) (added : List Addition) (a : Addition) → place ≢ a.volume
    → runs_on place (places objects (added ++ a ∷ [])) ≡ runs_on place (places objects added)
last_elsewhere place objects added a other =
    ap (runs_on place) (placed_last objects added a)
    ∙ runs_on-append place (places objects added) (place_of_addition a ∷ [])
    ∙ ap (λ (l : List (List Run)). runs_on place (places objects added) ++ l) (runs_on-elsewhere place (place_of_addition a) [] other)
    ∙ append-nil (runs_on place (places objects added))

-- ---- the object that was ended goes behind the others

all_moved : (P : List Run → Type 0) (runs : List Run) (xs ys : List (List Run)) → P runs → AllByRecursion P (xs ++ ys) → AllByRecursion P ((xs ++ runs ∷ []) ++ ys)
all_moved P runs [] ys here each = (here, each)
all_moved P runs (x ∷ xs) ys here each = (each.0, all_moved P runs xs ys here each.1)

all_times : (block : ℕ) (runs : List Run) (objects : List (List Run))
    → times block (blocks_of_all (runs ∷ objects)) ≡ times block (blocks_of_runs runs) + times block (blocks_of_all objects)
all_times block runs objects = times-append block (blocks_of_runs runs) (blocks_of_all objects)

moved_times : (block : ℕ) (runs : List Run) (xs ys : List (List Run))
    → times block (blocks_of_all ((xs ++ runs ∷ []) ++ ys)) ≡ times block (blocks_of_all (runs ∷ (xs ++ ys)))
moved_times block runs [] ys = refl
moved_times block runs (x ∷ xs) ys = omega (
  arith,
  moved_times block runs xs ys,
  all_times block x ((xs ++ runs ∷ []) ++ ys),
  all_times block x (xs ++ ys),
  all_times block runs (xs ++ ys),
  all_times block runs (x ∷ (xs ++ ys)),
)

module _ {D : Type 0} where
  pub holds_behind : (volume : Volume D) (runs : List Run) (xs ys : List (List Run)) → Holds volume (runs ∷ (xs ++ ys)) → Holds volume ((xs ++ runs ∷ []) ++ ys)
  holds_behind volume runs xs ys holds =
      let free = free_of volume in
      let sent = blocks_sent volume in
      let before = blocks_of_all (runs ∷ (xs ++ ys)) in
      let behind = blocks_of_all ((xs ++ runs ∷ []) ++ ys) in
      record {
        each = all_moved (IsLive volume) runs xs ys holds.each.0 holds.each.1;
        parted = ArePartition-moved (blocks_in volume) (blocks_in volume) (free ++ (sent ++ before)) (free ++ (sent ++ behind)) refl
            (λ block. omega (
              arith,
              times-append block free (sent ++ before),
              times-append block sent before,
              times-append block free (sent ++ behind),
              times-append block sent behind,
              moved_times block runs xs ys,
            ))
            holds.parted;
      }

  -- what was ended is one of the objects that the volume holds
  pub among_ended : (was is : Volume D) (runs : List Run) (xs : List (List Run)) → ((objects : List (List Run)) → Holds was objects → Holds is (runs ∷ objects))
      → HoldsAmong was xs → HoldsAmong is (xs ++ runs ∷ [])
  among_ended was is runs xs kept before = record { others = before.others; holds = holds_behind is runs xs before.others (kept (xs ++ before.others) before.holds) }
