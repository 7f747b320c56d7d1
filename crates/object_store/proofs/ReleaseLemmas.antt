-- Live objects whose blocks go back.
use Rattle.std.proofs.Common.{◌≡◌, ℕ, ◌+◌, ◌<◌, List, [], ◌∷◌, ◌++◌, refl, arith}
use Rattle.std.specs.List.{AllByRecursion}
use Rattle.block_chain.specs.Blocks.{times, ArePartition, AreApart, blocks_of_runs}
use Rattle.block_chain.specs.BlocksLaws.{times-append, ArePartition-moved}
use Rattle.block_chain.specs.declared.runs.Run.{Run}
use Rattle.object_volume.specs.Volumes.{blocks_in, free_of, blocks_sent, IsLive}
use Rattle.object_volume.specs.declared.volume.Volume.{Volume}
use Rattle.object_store.specs.Holdings.{Holds, blocks_of_all}

-- a block of one of some objects is among all their blocks
among_all : (block : ℕ) (runs : List Run) (objects : List (List Run)) → times block (blocks_of_all (runs ∷ objects)) ≡ times block (blocks_of_runs runs) + times block (blocks_of_all objects)
among_all block runs objects = times-append block (blocks_of_runs runs) (blocks_of_all objects)

-- where each block stands once, the blocks of an object are apart from those of the others
pub apart_from : (n : ℕ) (free sent own rest : List ℕ) → ArePartition n (free ++ (sent ++ (own ++ rest))) → (block : ℕ) → 0 < times block own → times block rest ≡ 0
apart_from n free sent own rest are block some =
    let all = times-append block free (sent ++ (own ++ rest)) in
    let most = times-append block sent (own ++ rest) in
    let both = times-append block own rest in
    let below : block < n = are.below block (omega (arith, all, most, both, some)) in
    omega (arith, are.each block below, all, most, both, some)

-- the blocks of an object go before those of the one that is being sent
pub moved_before : (n : ℕ) (free sent own rest : List ℕ) → ArePartition n (free ++ (sent ++ (own ++ rest))) → ArePartition n (free ++ (own ++ (sent ++ rest)))
moved_before n free sent own rest are =
    ArePartition-moved n n (free ++ (sent ++ (own ++ rest))) (free ++ (own ++ (sent ++ rest))) refl
    (λ block. omega (
      arith,
      times-append block free (sent ++ (own ++ rest)),
      times-append block sent (own ++ rest),
      times-append block own rest,
      times-append block free (own ++ (sent ++ rest)),
      times-append block own (sent ++ rest),
      times-append block sent rest,
    ))
    are

module _ {D : Type 0} where
  -- each of the others stays live
  others_live : (old new : Volume D) (runs : List Run) → ((others : List Run) → IsLive old others → AreApart (blocks_of_runs runs) (blocks_of_runs others) → IsLive new others)
      → (objects : List (List Run)) → ((block : ℕ) → 0 < times block (blocks_of_runs runs) → times block (blocks_of_all objects) ≡ 0)
      → AllByRecursion (IsLive old) objects → AllByRecursion (IsLive new) objects
  others_live old new runs live [] apart each = tt
  others_live old new runs live (others ∷ objects) apart each = (
    live others each.0 (λ block some. omega (arith, apart block some, among_all block others objects)),
    others_live old new runs live objects (λ block some. omega (arith, apart block some, among_all block others objects)) each.1,
  )

  -- the blocks of an object go back, and the others are left
  pub holds_released : (old new : Volume D) (runs : List Run) (objects : List (List Run))
      → ((others : List Run) → IsLive old others → AreApart (blocks_of_runs runs) (blocks_of_runs others) → IsLive new others)
      → ((others : List ℕ) → ArePartition (blocks_in old) (free_of old ++ (blocks_of_runs runs ++ others)) → ArePartition (blocks_in new) (free_of new ++ others))
      → blocks_sent new ≡ blocks_sent old → Holds old (runs ∷ objects) → Holds new objects
  holds_released old new runs objects live parted sent holds =
      let own = blocks_of_runs runs in
      let rest = blocks_of_all objects in
      record {
        each = others_live old new runs live objects (apart_from (blocks_in old) (free_of old) (blocks_sent old) own rest holds.parted) holds.each.1;
        parted = rw sent (parted (blocks_sent old ++ rest) (moved_before (blocks_in old) (free_of old) (blocks_sent old) own rest holds.parted));
      }
