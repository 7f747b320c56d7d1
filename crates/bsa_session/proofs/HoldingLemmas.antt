-- The live objects of a volume over the calls of an object.
use Rattle.std.proofs.Common.{◌≡◌, ℕ, List, [], ◌∷◌, ap}
use Rattle.std.specs.List.{AllByRecursion}
use Rattle.block_chain.specs.Blocks.{blocks_of_runs}
use Rattle.block_chain.specs.declared.runs.Run.{Run}
use Rattle.object_volume.specs.Volumes.{blocks_in, free_of, blocks_sent, blocks_or_none, table_of, IsIdle, IsLive, Grows}
use Rattle.object_volume.specs.declared.volume.Volume.{Volume}
use Rattle.object_store.specs.Holdings.{Holds, blocks_of_all}

-- what follows for each follows for all
pub each_more : {P Q : List Run → Type 0} → ((runs : List Run) → P runs → Q runs) → (objects : List (List Run)) → AllByRecursion P objects → AllByRecursion Q objects
each_more more [] each = tt
each_more more (runs ∷ objects) each = (more runs each.0, each_more more objects each.1)

module _ {D : Type 0} where
  -- where no object is being sent, none of its blocks are there
  pub idle_sends : (volume : Volume D) → IsIdle volume → blocks_sent volume ≡ []
  idle_sends volume idle = ap (blocks_or_none (table_of volume)) idle

  -- the blocks are where they were
  pub holds_again : (old new : Volume D) (objects : List (List Run)) → ((runs : List Run) → IsLive old runs → IsLive new runs) → blocks_in new ≡ blocks_in old
      → free_of new ≡ free_of old → blocks_sent new ≡ blocks_sent old → Holds old objects → Holds new objects
  holds_again old new objects live blocks free sent holds = record {
    each = each_more live objects holds.each;
    parted = rw (blocks, free, sent) holds.parted;
  }

  -- the object that is being sent took free ones
  pub holds_grown : (old new : Volume D) (count : ℕ) (objects : List (List Run)) → ((runs : List Run) → IsLive old runs → IsLive new runs) → Grows old new count
      → Holds old objects → Holds new objects
  holds_grown old new count objects live grows holds = record {
    each = each_more live objects holds.each;
    parted = grows.parted (blocks_of_all objects) holds.parted;
  }

  -- the object that was being sent is one of them
  pub holds_ended : (old new : Volume D) (runs : List Run) (objects : List (List Run)) → ((others : List Run) → IsLive old others → IsLive new others) → IsLive new runs
      → blocks_in new ≡ blocks_in old → free_of new ≡ free_of old → IsIdle new → blocks_of_runs runs ≡ blocks_sent old → Holds old objects → Holds new (runs ∷ objects)
  holds_ended old new runs objects others live blocks free idle listed holds = record {
    each = (live, each_more others objects holds.each);
    parted = rw (blocks, free, idle_sends new idle, listed) holds.parted;
  }
