-- What a transaction of the store leaves of a site's disks.
use Rattle.std.specs.Prelude.{◌≡◌, ℕ, ◌+◌, ◌<◌, ◌≤◌, List, length}
use Rattle.std.specs.List.{AllByRecursion}
use Rattle.site_disk.specs.Images.{Leaves}
use Rattle.site_disk.specs.declared.disk.Disk.{Ghosts}
use Rattle.catalogue_replay.specs.Contents.{Contents}
use Rattle.catalogue_journal.specs.Catalogues.{cat_of, spare_of, capacity_of, used_of, contents_in}
use Rattle.catalogue_journal.specs.Commits.{Ends}
use Rattle.catalogue_journal.specs.Transactions.{Addition, ended, slots_wanted}
use Rattle.object_volume.specs.Objects.{Spares}
use Rattle.object_volume.specs.Volumes.{disk_of, open_blocks}
use Rattle.object_volume.specs.declared.volume.Volume.{Volume}
use Rattle.object_store.specs.Stores.{OfEach}
use Rattle.store_opening.specs.Disks.{EachFrom}
use Rattle.store_opening.specs.Standing.{Agrees}
use Rattle.site_headers.specs.Heads.{Head}
use Rattle.site_worlds.specs.Worlds.{Kept, Site}
use Rattle.site_worlds.specs.Moves.{commit_objects}
use Rattle.site_worlds.specs.Allowed.{CanMove}
use Rattle.site_layouts.specs.VoteLaws.{AreAdded}
use Rattle.site_layouts.specs.VolumeLaws.{IsSentTo}
use Rattle.site_core.specs.declared.site.Site.{Site as Values}

-- from these sites a vote may be made
abbrev pub MayVote : List Kept → List ℕ → Site → Type 0
MayVote added deleted site = CanMove (commit_objects added deleted) site

module _ {D : Type 0} (disk : Ghosts D) where
  -- what a read gives of a disk is an image of each era from the last one used on
  abbrev pub ReadsAsImages : Type 0
  ReadsAsImages = (it : D) (f : ℕ) → (disk.ledger it).last ≤ f → disk.image it f (disk.bytes it)

  -- in one era only blocks of a volume were written that were free before
  abbrev pub WritesFree : ℕ → Volume D → Volume D → Type 0
  WritesFree from was is = Leaves from (Spares (open_blocks was) (length (disk.bytes (disk_of was)))) (disk.image (disk_of was)) (disk.image (disk_of is))

  -- Objects were sent to the volumes, and the catalogue may have been written: all else of the site is as it was.
  pub record WorksOnStore (from : ℕ) (old new : Values D) : Type 0 where
    pub others : new ≡ record old { store = new.store }
    pub spare : spare_of new.store.cat ≡ spare_of old.store.cat
    pub volumes : EachFrom (λ place was is. WritesFree from was is) old.store.volumes.items new.store.volumes.items

  -- Objects were sent, and no transaction was committed.
  pub record OnlySends (from : ℕ) (old new : Values D) : Type 0 where
    pub works : WorksOnStore from old new
    pub catalogue : (f : ℕ) (bytes : List ℕ) → disk.image (cat_of new.store.cat) f bytes → disk.image (cat_of old.store.cat) f bytes

  -- A transaction was voted on from an era on, behind the one in which its objects were sent. By then each image of the volumes reads
  -- these objects as they were sent.
  pub record Transacts (from e : ℕ) (added : List Kept) (deleted : List ℕ) (additions : List Addition) (old new : Values D) : Type 0 where
    pub later : from < e
    pub works : WorksOnStore from old new
    pub are : AreAdded (contents_in old.store.cat).last added additions
    pub commits : Ends e (capacity_of old.store.cat) (slots_wanted deleted additions) (contents_in old.store.cat) (ended deleted additions (contents_in old.store.cat))
        (disk.image (cat_of old.store.cat)) (disk.image (spare_of old.store.cat)) (disk.image (cat_of new.store.cat)) (disk.image (spare_of new.store.cat))
    pub sent : OfEach (λ place volume. (f : ℕ) (bytes : List ℕ) → e ≤ f → disk.image (disk_of volume) f bytes → AllByRecursion (IsSentTo place bytes) added)
        new.store.volumes.items

  -- At its end the value of the store, where it agreed with its disks before, agrees with them by the contents behind the transaction.
  abbrev pub AgreesBehind : (from to : ℕ) → List ℕ → List Addition → (old new : Values D) → Type 0
  AgreesBehind from to deleted additions old new = (head : Head)
      → Agrees disk from old.store (contents_in old.store.cat) (used_of old.store.cat) head
      → Agrees disk to new.store (ended deleted additions (contents_in old.store.cat)) (used_of old.store.cat + slots_wanted deleted additions) head

  -- where none was committed, by those that it had
  abbrev pub AgreesStill : (from to : ℕ) → (old new : Values D) → Type 0
  AgreesStill from to old new = (head : Head) (contents : Contents) (taken : ℕ)
      → Agrees disk from old.store contents taken head → Agrees disk to new.store contents taken head
