-- What the vote on one object that was sent leaves of a store.
use Rattle.std.specs.Prelude.{◌≡◌, ℕ, suc, ◌+◌, ◌≤◌, IsTrue, List, [], map, Result, Ok, Err}
use Rattle.site_disk.specs.Causes.{Rose}
use Rattle.site_disk.specs.Ledger.{EraView, MayUse}
use Rattle.site_disk.specs.Seen.{seen}
use Rattle.site_disk.specs.declared.disk.Disk.{Ghosts}
use Rattle.block_chain.specs.declared.runs.Run.{Run}
use Rattle.catalogue_journal.specs.Catalogues.{cat_of, spare_of, capacity_of, objects_of, contents_in, Stands}
use Rattle.catalogue_journal.specs.Commits.{Ends}
use Rattle.catalogue_journal.specs.Transactions.{Addition, ended, slots_wanted}
use Rattle.object_store.specs.Endings.{places, HoldWith}
use Rattle.object_store.specs.Returns.{AllGiveBack, place_of_addition}
use Rattle.object_store.specs.Stores.{IsOpenStore}
use Rattle.object_store.specs.declared.store.Store.{Store}
use Rattle.site_model.specs.declared.disk_name.DiskName.TheVariants.{Cat, Spare}
use Rattle.site_core.specs.declared.faults.SiteFault.{SiteFault}
use Rattle.site_core.specs.declared.faults.SiteFault.TheVariants.{OutOfMemory, DiskFault, CatalogueFull, TooManyObjects}
use Rattle.store_calls.specs.Sessions.{HasCommitted}

module _ {D : Type 0} (disk : Ghosts D) (from to : EraView) (additions : List Addition) (mid new : Store D) where
  -- From the next era on each image of the catalogue has the objects or is without them, and the volumes are as they were.
  pub record MayHaveCommitted : Type 0 where
    pub spare : spare_of new.cat ≡ spare_of mid.cat
    pub ends : IsTrue disk.is_modelled → Stands (seen disk (cat_of mid.cat)) mid.cat
        → Ends (from.number + 1) (capacity_of mid.cat) (slots_wanted [] additions) (contents_in mid.cat) (ended [] additions (contents_in mid.cat))
        (disk.image (cat_of mid.cat)) (disk.image (spare_of mid.cat)) (disk.image (cat_of new.cat)) (disk.image (spare_of new.cat))

  pub record IsCommitted (copy : ℕ) : Type 0 where
    pub copy_is : copy ≡ suc (contents_in mid.cat).last
    pub later : from.number + 1 ≤ to.number
    pub contents : contents_in new.cat ≡ ended [] additions (contents_in mid.cat)
    pub may : MayHaveCommitted
    pub by : IsTrue disk.is_modelled → Stands (seen disk (cat_of mid.cat)) mid.cat → HasCommitted disk to.number [] additions mid new
    pub returned : AllGiveBack disk.is_modelled disk.bytes [] mid.volumes.items new.volumes.items
    pub opened : IsOpenStore new
    pub holds : (others : ℕ → List (List Run)) → HoldWith (places (objects_of mid.cat) additions) others mid.volumes.items
        → HoldWith (places (objects_of new.cat) []) others new.volumes.items
    pub usable : MayUse to (disk.ledger (cat_of new.cat))

  -- The vote was refused, and the blocks of the objects went back.
  pub record IsGivenUp : Type 0 where
    pub next : from.number + 1 ≤ to.number
    pub cat : new.cat ≡ mid.cat
    pub opened : IsOpenStore new
    pub returned : AllGiveBack disk.is_modelled disk.bytes (map place_of_addition additions) mid.volumes.items new.volumes.items

  pub record IsCutShort : Type 0 where
    pub may : MayHaveCommitted
    pub volumes : new.volumes ≡ mid.volumes

  pub record FailsOnCatalogue : Type 0 where
    pub cut : IsCutShort
    pub rose : Rose (disk.ledger (cat_of mid.cat)).faults (disk.ledger (cat_of new.cat)).faults

  abbrev pub EndsVote : SiteFault → Type 0
  EndsVote CatalogueFull = IsGivenUp
  EndsVote TooManyObjects = IsGivenUp
  EndsVote (DiskFault Cat) = FailsOnCatalogue
  EndsVote (DiskFault Spare) = IsCutShort
  EndsVote OutOfMemory = IsCutShort
  EndsVote fault = ⊥

  abbrev pub VoteEnds : Result ℕ SiteFault → Type 0
  VoteEnds (Ok copy) = IsCommitted copy
  VoteEnds (Err fault) = EndsVote fault
