-- What the calls of a session leave of the store's value, in one transaction.
use Rattle.std.specs.Prelude.{◌≡◌, ℕ, ◌+◌, ◌≤◌, List, [], ◌++◌, map}
use Rattle.site_disk.specs.Seen.{seen}
use Rattle.site_disk.specs.declared.disk.Disk.{Ghosts}
use Rattle.block_chain.specs.declared.runs.Run.{Run}
use Rattle.catalogue_journal.specs.Catalogues.{cat_of, spare_of, capacity_of, used_of, objects_of, contents_in, Stands}
use Rattle.catalogue_journal.specs.Transactions.{Addition, ended, slots_wanted}
use Rattle.object_volume.specs.Volumes.{disk_of, blocks_in, IsIdle}
use Rattle.object_volume.specs.declared.volume.Volume.{Volume}
use Rattle.object_store.specs.Holdings.{Holds}
use Rattle.object_store.specs.Returns.{AllGiveBack, place_of_addition, place_of_object, objects_with, runs_on}
use Rattle.object_store.specs.Endings.{places, HoldWith}
use Rattle.object_store.specs.Stores.{IsOpenStore}
use Rattle.object_store.specs.declared.store.Store.{Store}
use Rattle.store_opening.specs.Disks.{EachFrom}
use Rattle.store_opening.specs.Standing.{IsBehind}

module _ {D : Type 0} (disk : Ghosts D) where
  -- objects were sent to a volume in one era, and ended: they are live beside those that were
  pub record HasTaken (from : ℕ) (taken : List (List Run)) (was is : Volume D) : Type 0 where
    pub blocks : blocks_in is ≡ blocks_in was
    pub idle : IsIdle is
    pub holds : (objects : List (List Run)) → Holds was objects → Holds is (objects ++ taken)
    pub last : (disk.ledger (disk_of is)).last ≤ from
    pub synced : (disk.ledger (disk_of is)).synced ≤ (disk.ledger (disk_of is)).last

  -- the objects of a transaction were sent, and it isn't voted on
  pub record HasSent (from : ℕ) (additions : List Addition) (old mid : Store D) : Type 0 where
    pub cat : mid.cat ≡ old.cat
    pub volumes : EachFrom (λ place was is. HasTaken from (runs_on place (map place_of_addition additions)) was is) old.volumes.items mid.volumes.items

  -- a vote to commit, by the clauses of its call; the catalogue's disk was used last before an era
  pub record HasCommitted (to : ℕ) (deleted : List ℕ) (additions : List Addition) (mid new : Store D) : Type 0 where
    pub opened : IsOpenStore new
    pub contents : contents_in new.cat ≡ ended deleted additions (contents_in mid.cat)
    pub used : used_of new.cat ≡ used_of mid.cat + slots_wanted deleted additions
    pub capacity : capacity_of new.cat ≡ capacity_of mid.cat
    pub stands : Stands (seen disk (cat_of mid.cat)) mid.cat → Stands (seen disk (cat_of new.cat)) new.cat
    pub spare : spare_of new.cat ≡ spare_of mid.cat
    pub behind : IsBehind disk.ledger to (cat_of new.cat)
    pub returned : AllGiveBack disk.is_modelled disk.bytes (map place_of_object (objects_with deleted (objects_of mid.cat))) mid.volumes.items new.volumes.items
    pub holds : (others : ℕ → List (List Run)) → HoldWith (places (objects_of mid.cat) additions) others mid.volumes.items
        → HoldWith (places (objects_of new.cat) []) others new.volumes.items
