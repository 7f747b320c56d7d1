-- What a shell finds on the disks of its store.
use Rattle.std.specs.Prelude.{◌≡◌, ◌⊎◌, ℕ, List, IsTrue}
use Rattle.site_disk.specs.declared.disk.Disk.{Ghosts}
use Rattle.site_headers.specs.Areas.{slot_count}
use Rattle.site_headers.specs.Heads.{Head}
use Rattle.bsa_descriptor.specs.Descriptor.{empty_descriptor}
use Rattle.catalogue_replay.specs.Contents.{Contents}
use Rattle.catalogue_journal.specs.Catalogues.{cat_of, capacity_of, contents_in, spare_of, used_of}
use Rattle.object_store.specs.Reading.{part_on, reads_on}
use Rattle.object_store.specs.declared.store.Store.{Store}
use Rattle.session_machine.specs.States.{none}
use Rattle.bsa_transcripts.specs.Lines.{Setting, Stand}
use Rattle.site_model.specs.declared.status.Status.{Status}
use Rattle.store_opening.specs.Disks.{files_of}
use Rattle.store_opening.specs.Faults.{IsRefusal, NamesAsWell}
use Rattle.store_opening.specs.Opening.{ShowsStore, StoreRefuses}
use Rattle.store_opening.specs.declared.faults.StoreFault.{StoreFault}
use Rattle.xbsa_shell.specs.Statuses.{status_of_store}

module _ {D : Type 0} (disk : Ghosts D) (store : Store D) where
  -- by what a read gives: a store with these contents, in so many slots; or why there is none
  abbrev pub Shows : Head → Contents → ℕ → Type 0
  Shows head contents taken =
      ShowsStore head contents taken (disk.bytes (cat_of store.cat)) (disk.bytes (spare_of store.cat)) (files_of disk.bytes store.volumes.items)

  abbrev pub RefusedBy : StoreFault → Type 0
  RefusedBy fault = StoreRefuses (disk.bytes (cat_of store.cat)) (disk.bytes (spare_of store.cat)) (files_of disk.bytes store.volumes.items) fault

  -- what stands before the first line of a script over it
  abbrev pub opening_stand : Contents → ℕ → Stand
  opening_stand contents taken = record {
    descriptor = empty_descriptor;
    session = none;
    contents = contents;
    used = taken;
    reads = reads_on disk.bytes store.volumes.items;
    part = part_on disk.bytes store.volumes.items;
  }

  abbrev pub opening_setting : ℕ → Setting
  opening_setting moment = record { tells = disk.is_modelled; moment = moment; capacity = slot_count }

  -- this status says why there is none
  pub record SaysWhy (status : Status) : Type 0 where
    pub fault : StoreFault
    pub is : status ≡ status_of_store fault
    pub refused : RefusedBy fault

module _ {D : Type 0} where
  -- the store was opened with these contents
  pub record HasOpened (disk : Ghosts D) (contents : Contents) (taken : ℕ) (old new : Store D) : Type 0 where
    pub contents_are : contents_in new.cat ≡ contents
    pub used : used_of new.cat ≡ taken
    pub capacity : capacity_of new.cat ≡ slot_count
    pub reads : reads_on disk.bytes new.volumes.items ≡ reads_on disk.bytes old.volumes.items
    pub part : part_on disk.bytes new.volumes.items ≡ part_on disk.bytes old.volumes.items

-- this status is that of a fault, which names the same disk as another one; or of a failure
pub record IsRefusedAs (fault : StoreFault) (status : Status) : Type 0 where
  pub found : StoreFault
  pub is : status ≡ status_of_store found
  pub names : IsRefusal found → NamesAsWell found fault
