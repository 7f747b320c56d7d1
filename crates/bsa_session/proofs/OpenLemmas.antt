-- Blocks that sending may write.
use Rattle.std.proofs.Common.{◌≡◌, ℕ, ◌≤◌, List, [], length, refl, ap, arith}
use Rattle.block_chain.specs.Blocks.{times}
use Rattle.block_chain.specs.BlocksLaws.{times-append}
use Rattle.object_volume.specs.Volumes.{disk_of, blocks_in, free_of, blocks_sent, Grows}
use Rattle.object_volume.specs.declared.volume.Volume.{Volume}
use Rattle.bsa_session.specs.Sessions.{LeavesOpen}

module _ {D : Type 0} (bytes : D → List ℕ) (old new : Volume D) where
  pub leaves_same : new ≡ old → LeavesOpen bytes old new
  leaves_same is = rw is (record { among = λ block some. some; blocks = refl; no_shorter = omega arith })

  -- an object that is sent on takes free blocks
  pub leaves_grown : (count : ℕ) → Grows old new count → length (bytes (disk_of old)) ≤ length (bytes (disk_of new)) → LeavesOpen bytes old new
  leaves_grown count grows le = record {
    among = λ block some.
        let free = ap (λ (l : List ℕ). times block l) grows.free in
        let sent = ap (λ (l : List ℕ). times block l) grows.sent in
        omega (
          arith,
          some,
          free,
          sent,
          times-append block grows.taken (free_of new),
          times-append block (blocks_sent old) grows.taken,
          times-append block (blocks_sent new) (free_of new),
          times-append block (blocks_sent old) (free_of old),
        );
    blocks = grows.blocks;
    no_shorter = le;
  }

  -- an object that is begun or ended leaves the free blocks alone
  pub leaves_free : free_of new ≡ free_of old → blocks_sent new ≡ [] → blocks_in new ≡ blocks_in old → length (bytes (disk_of old)) ≤ length (bytes (disk_of new))
      → LeavesOpen bytes old new
  leaves_free free none blocks le = record {
    among = λ block some.
        let same = ap (λ (l : List ℕ). times block l) free in
        let own = ap (λ (l : List ℕ). times block l) none in
        omega (arith, some, same, own, times-append block (blocks_sent new) (free_of new), times-append block (blocks_sent old) (free_of old));
    blocks = blocks;
    no_shorter = le;
  }
