-- A volume that is opened by the objects that stand on it.
use Rattle.std.proofs.Common.{◌≡◌, ℕ, ◌<◌, IsTrue, List, [], ◌∷◌, ◌++◌, map, All, inl, inr, refl, sym, ap, subst, ◌∙◌, arith}
use Rattle.std.proofs.lemmas.Bool.{cases_lt}
use Rattle.std.proofs.lemmas.List.Elements.{recursion_from_All}
use Rattle.std.specs.List.{AllByRecursion}
use Rattle.std.specs.Prelude.{◌==◌, filter}
use Rattle.std.specs.declared.vec.Vec.{Vec}
use Rattle.std.specs.declared.alloc.Global.{Global}
use Rattle.block_chain.specs.Blocks.{times, ascending, AreSound, ArePartition, RefusesFirst, blocks_of_lists}
use Rattle.block_chain.specs.BlocksLaws.{times-append}
use Rattle.block_chain.specs.declared.runs.Run.{Run}
use Rattle.site_disk.specs.Bytes.{Same}
use Rattle.site_disk.specs.CallsLaws.{uses_nothing, uses_more}
use Rattle.site_disk.specs.Causes.{Rose}
use Rattle.site_disk.specs.Images.{Leaves, OnlyAfter}
use Rattle.site_disk.specs.ImagesLaws.{begins}
use Rattle.site_disk.specs.Ledger.{EraView, MayUse, Uses}
use Rattle.site_disk.specs.declared.disk.Disk.{Ghosts}
use Rattle.catalogue_slots.specs.Records.{Object}
use Rattle.object_volume.specs.Headers.{HasVolume, Overlaps}
use Rattle.object_volume.specs.Volumes.{disk_of, number_of, table_of, blocks_in, free_of, blocks_sent, blocks_or_none, IsOpen, IsIdle, IsLive}
use Rattle.object_volume.specs.declared.faults.VolumeFault.{VolumeFault}
use Rattle.object_volume.specs.declared.faults.VolumeFault.TheVariants.{NoHeader, Overlap, Failed, OutOfMemory}
use Rattle.object_volume.specs.declared.volume.Volume.{Volume}
use Rattle.object_store.specs.Holdings.{blocks_of_all}
use Rattle.store_opening.specs.Faults.{fault_of_volume}
use Rattle.store_opening.specs.Opening.{live_on, OpensVolume, MissesVolume}
use Rattle.store_opening.specs.declared.faults.StoreFault.TheVariants.{OutOfMemory as NoMemory}
use Rattle.store_opening.proofs.LiveLemmas.{runs_in, blocks_of_lists-all}

-- where each block stands once, some of them lie apart
sound_part : (n : ℕ) (free xs : List ℕ) → ArePartition n (free ++ xs) → AreSound n xs
sound_part n free xs are = record {
  once = λ block. elim (cases_lt 0 (times block xs)) [
    | inl some ↦ omega (arith, times-append block free xs, are.each block (within block some))
    | inr none ↦ omega (arith, none)
  ];
  below = within;
}
  where
    within : (block : ℕ) → 0 < times block xs → block < n
    within block some = are.below block (omega (arith, some, times-append block free xs))

module _ {D : Type 0} where
  each_live : (volume : Volume D) (live : List (Vec Run Global)) → AllByRecursion (λ runs. IsLive volume runs.items) live → AllByRecursion (IsLive volume) (map runs_in live)
  each_live volume [] each = tt
  each_live volume (runs ∷ live) each = (each.0, each_live volume live each.1)

  none_sent : (volume : Volume D) → IsIdle volume → blocks_sent volume ≡ []
  none_sent volume is = ap (blocks_or_none (table_of volume)) is

module _ {D : Type 0} (disk : Ghosts D) (era : EraView) (site : ℕ) (objects : List Object) (number : ℕ) where
  -- nothing was done for want of memory
  pub misses_none : (volume : Volume D) → MayUse era (disk.ledger (disk_of volume)) → MissesVolume disk era site objects number NoMemory volume volume
  misses_none volume may = record {
    stays = refl;
    own = tt;
    bad = λ tells refusal. absurd refusal;
    rose = λ fault. absurd fault;
    bytes = λ none. refl;
    crash = begins Same Same era.number (disk.image (disk_of volume)) (disk.image (disk_of volume)) (disk.image (disk_of volume)) (λ c. refl);
    ledger = uses_more (uses_nothing may) (omega arith) (omega arith);
  }

  module _ (live : List (Vec Run Global)) (was is : Volume D) (lists : map runs_in live ≡ live_on number objects) (own : number_of was ≡ number) (stays : number_of is ≡ number_of was)
      (crash : Leaves era.number Same (disk.image (disk_of was)) (disk.image (disk_of is))) (ledger : Uses era 4096 0 (disk.ledger (disk_of was)) (disk.ledger (disk_of is))) where
    blocks : blocks_of_lists live ≡ blocks_of_all (live_on number objects)
    blocks = blocks_of_lists-all live ∙ ap blocks_of_all lists

    pub opens : IsOpen is → IsIdle is → (IsTrue disk.is_modelled → HasVolume (number_of was) site (blocks_in is) (disk.bytes (disk_of was)))
        → free_of is ≡ filter (λ block. times block (blocks_of_lists live) == 0) (ascending 0 (blocks_in is))
        → All (λ runs. IsLive is runs.items) live → ArePartition (blocks_in is) (free_of is ++ blocks_of_lists live)
        → disk.bytes (disk_of is) ≡ disk.bytes (disk_of was) → (IsTrue disk.is_modelled → OnlyAfter era.number (disk.bytes (disk_of is)) (disk.image (disk_of is)))
        → OpensVolume disk era site objects number was is
    opens opened idle header free each parted bytes durable =
        let part : ArePartition (blocks_in is) (free_of is ++ blocks_of_all (live_on number objects)) =
        subst (λ (l : List ℕ). ArePartition (blocks_in is) (free_of is ++ l)) blocks parted in
        record {
          stays = stays;
          opened = opened;
          idle = idle;
          header = λ tells. subst (λ (n : ℕ). HasVolume n site (blocks_in is) (disk.bytes (disk_of was))) own (header tells);
          sound = sound_part (blocks_in is) (free_of is) (blocks_of_all (live_on number objects)) part;
          holds = record {
            each = subst (AllByRecursion (IsLive is)) lists (each_live is live (recursion_from_All (λ (runs : Vec Run Global). IsLive is runs.items) live each));
            parted = subst (λ (sent : List ℕ). ArePartition (blocks_in is) (free_of is ++ (sent ++ blocks_of_all (live_on number objects)))) (sym (none_sent is idle)) part;
          };
          free = free ∙ ap (λ (l : List ℕ). filter (λ block. times block l == 0) (ascending 0 (blocks_in is))) blocks;
          bytes = bytes;
          durable = durable;
          crash = crash;
          ledger = ledger;
        }

    pub misses : (fault : VolumeFault)
        → (IsTrue disk.is_modelled → fault ≡ NoHeader → (n : ℕ) → HasVolume (number_of was) site n (disk.bytes (disk_of was)) → ⊥)
        → ((block : ℕ) → fault ≡ Overlap block → Overlaps disk.is_modelled (number_of was) site (disk.bytes (disk_of was)) (blocks_of_lists live) block)
        → (fault ≡ Failed → Rose (disk.ledger (disk_of was)).faults (disk.ledger (disk_of is)).faults)
        → (fault ≡ NoHeader → disk.bytes (disk_of is) ≡ disk.bytes (disk_of was))
        → ((block : ℕ) → fault ≡ Overlap block → disk.bytes (disk_of is) ≡ disk.bytes (disk_of was))
        → (fault ≡ OutOfMemory → disk.bytes (disk_of is) ≡ disk.bytes (disk_of was))
        → MissesVolume disk era site objects number (fault_of_volume number fault) was is
    misses NoHeader none overlap rose none_bytes overlap_bytes memory_bytes = record {
      stays = stays;
      own = (refl, refl);
      bad = λ tells refusal. inl (λ n has. none tells refl n (subst (λ (k : ℕ). HasVolume k site n (disk.bytes (disk_of was))) (sym own) has));
      rose = λ fault. absurd fault;
      bytes = λ no. none_bytes refl;
      crash = crash;
      ledger = ledger;
    }
    misses (Overlap block) none overlap rose none_bytes overlap_bytes memory_bytes = record {
      stays = stays;
      own = (refl, refl);
      bad = λ tells refusal. let over = overlap block refl in inr (
        block,
        record {
          blocks = over.blocks;
          header = λ true_is. subst (λ (k : ℕ). HasVolume k site over.blocks (disk.bytes (disk_of was))) own (over.header tells);
          refused = subst (λ (l : List ℕ). RefusesFirst over.blocks l block) blocks over.refused;
        },
      );
      rose = λ fault. absurd fault;
      bytes = λ no. overlap_bytes block refl;
      crash = crash;
      ledger = ledger;
    }
    misses Failed none overlap rose none_bytes overlap_bytes memory_bytes = record {
      stays = stays;
      own = refl;
      bad = λ tells refusal. absurd refusal;
      rose = λ fault. rose refl;
      bytes = λ no. absurd no;
      crash = crash;
      ledger = ledger;
    }
    misses OutOfMemory none overlap rose none_bytes overlap_bytes memory_bytes = record {
      stays = stays;
      own = tt;
      bad = λ tells refusal. absurd refusal;
      rose = λ fault. absurd fault;
      bytes = λ no. memory_bytes refl;
      crash = crash;
      ledger = ledger;
    }
