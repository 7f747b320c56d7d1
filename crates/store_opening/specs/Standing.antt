-- What the value of an open store knows of what its disks hold.
use Rattle.std.specs.Prelude.{◌≡◌, ℕ, ◌<◌, ◌≤◌}
use Rattle.site_disk.specs.Ledger.{Ledger}
use Rattle.site_disk.specs.Seen.{seen}
use Rattle.site_disk.specs.declared.disk.Disk.{Ghosts}
use Rattle.site_headers.specs.Areas.{slot_count}
use Rattle.site_headers.specs.Heads.{Head}
use Rattle.catalogue_replay.specs.Contents.{Contents}
use Rattle.catalogue_journal.specs.Catalogues.{cat_of, spare_of, capacity_of, used_of, objects_of, contents_in, Stands}
use Rattle.object_volume.specs.Volumes.{disk_of, blocks_in, free_of, IsIdle}
use Rattle.object_store.specs.Holdings.{Holds}
use Rattle.object_store.specs.Stores.{OfEach, IsOpenStore}
use Rattle.object_store.specs.declared.store.Store.{Store}
use Rattle.store_opening.specs.Opening.{live_on, blocks_beside}

module _ {D : Type 0} where
  -- An open store in which no object is being sent: each volume holds just the live objects that stand on it.
  pub record IsSettled (store : Store D) : Type 0 where
    pub opened : IsOpenStore store
    pub idle : OfEach (λ place volume. IsIdle volume) store.volumes.items
    pub holds : OfEach (λ place volume. Holds volume (live_on place (objects_of store.cat))) store.volumes.items

  -- the free blocks of each volume are in ascending order
  abbrev pub FreeInOrder : Store D → Type 0
  FreeInOrder store = OfEach (λ place volume. free_of volume ≡ blocks_beside (live_on place (objects_of store.cat)) (blocks_in volume)) store.volumes.items

-- a disk was used last before an era
pub record IsBehind {D : Type 0} (ledger : D → Ledger) (from : ℕ) (disk : D) : Type 0 where
  pub last : (ledger disk).last < from
  pub synced : (ledger disk).synced ≤ (ledger disk).last

-- From an era on an open store agrees with its disks: it has these contents, in so many slots, and stands on the catalogue's disk; no
-- object is being sent, and each volume has the blocks of the head and holds just the live objects that stand on it.
pub record Agrees {D : Type 0} (disk : Ghosts D) (from : ℕ) (store : Store D) (contents : Contents) (taken : ℕ) (head : Head) : Type 0 where
  pub opened : IsOpenStore store
  pub stands : Stands (seen disk (cat_of store.cat)) store.cat
  pub contents_are : contents_in store.cat ≡ contents
  pub used : used_of store.cat ≡ taken
  pub capacity : capacity_of store.cat ≡ slot_count
  pub blocks : OfEach (λ place volume. blocks_in volume ≡ head.blocks) store.volumes.items
  pub idle : OfEach (λ place volume. IsIdle volume) store.volumes.items
  pub holds : OfEach (λ place volume. Holds volume (live_on place contents.objects)) store.volumes.items
  pub cat_behind : IsBehind disk.ledger from (cat_of store.cat)
  pub spare_behind : IsBehind disk.ledger from (spare_of store.cat)
  pub volumes_behind : OfEach (λ place volume. IsBehind disk.ledger from (disk_of volume)) store.volumes.items
