-- What contracts see of a catalogue.
use Rattle.std.specs.Prelude.{◌≡◌, ℕ, ◌<◌, ◌≤◌, List, map}
use Rattle.site_disk.specs.Images.{Seen}
use Rattle.gated_slots.specs.Slots.{Agrees as SlotsAgree}
use Rattle.catalogue_slots.specs.Records.{Object}
use Rattle.catalogue_slots.specs.Views.{object_of}
use Rattle.catalogue_replay.specs.Contents.{Contents, AreContents}
use Rattle.catalogue_journal.specs.Transactions.{Addition, objects_from, ended, slots_wanted}
use Rattle.catalogue_replay.specs.Places.{area_of, Journals}
use Rattle.catalogue_journal.specs.Views.{addition_of}
use Rattle.catalogue_journal.specs.declared.catalogue.Catalogue.{Catalogue}
use Rattle.catalogue_journal.specs.declared.entries.Staged.{Staged}

-- the additions of a transaction
abbrev pub additions_of : Staged → List Addition
additions_of staged = map addition_of staged.add.items

-- the copy ids from one on
abbrev pub ids_from : ℕ → List Addition → List ℕ
ids_from copy additions = map (λ object. object.copy) (objects_from copy additions)

-- what a transaction makes of the catalogue, and the slots that it takes
abbrev pub ended_by : Staged → Contents → Contents
ended_by staged before = ended staged.delete.items (additions_of staged) before

abbrev pub wanted_by : Staged → ℕ
wanted_by staged = slots_wanted staged.delete.items (additions_of staged)

module _ {D : Type 0} where
  -- its disks
  abbrev pub cat_of : Catalogue D → D
  cat_of catalogue = catalogue.cat

  abbrev pub spare_of : Catalogue D → D
  spare_of catalogue = catalogue.spare

  -- how many slots it has, and how many of them are used
  abbrev pub capacity_of : Catalogue D → ℕ
  capacity_of catalogue = catalogue.capacity

  abbrev pub used_of : Catalogue D → ℕ
  used_of catalogue = catalogue.slots.used

  -- the live objects, in order of copy id
  abbrev pub objects_of : Catalogue D → List Object
  objects_of catalogue = map object_of catalogue.objects.items

  -- what it has
  abbrev pub contents_in : Catalogue D → Contents
  contents_in catalogue = record { last = catalogue.last; objects = objects_of catalogue }

  -- nothing of it but the disks is another
  abbrev pub with_disks : Catalogue D → D → D → Catalogue D
  with_disks catalogue cat spare = record catalogue { cat = cat; spare = spare }

  -- its places are those of the layout
  pub record IsMade (catalogue : Catalogue D) : Type 0 where
    pub area : catalogue.slots.area ≡ area_of catalogue.capacity
    pub mark : catalogue.mark.base ≡ 4096
    pub some : 2 ≤ catalogue.capacity
    pub few : catalogue.capacity ≤ 65536

  -- it was opened: its contents are those that a journal may have
  pub record IsOpen (catalogue : Catalogue D) : Type 0 where
    pub made : IsMade catalogue
    pub contents : AreContents (contents_in catalogue)

  -- nothing of it has changed that a caller sees
  pub record IsAsItWas (old new : Catalogue D) : Type 0 where
    pub cat : cat_of new ≡ cat_of old
    pub spare : spare_of new ≡ spare_of old
    pub capacity : capacity_of new ≡ capacity_of old
    pub used : used_of new ≡ used_of old
    pub contents : contents_in new ≡ contents_in old

  -- it agrees with its disk: what a read gives and every image of later eras have the journal of its contents
  pub record Stands (cat : Seen) (catalogue : Catalogue D) : Type 0 where
    pub agrees : SlotsAgree catalogue.slots cat
    pub now : Journals (area_of catalogue.capacity) (contents_in catalogue) cat.bytes
    pub later : (f : ℕ) (c : List ℕ) → cat.last < f → cat.images f c → Journals (area_of catalogue.capacity) (contents_in catalogue) c
