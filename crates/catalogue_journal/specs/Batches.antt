-- The slots of a transaction, one after another.
use Rattle.std.specs.Prelude.{◌≡◌, ℕ, ◌<◌, ◌^◌, suc, List, ◌++◌, length, map, sum_by}
use Rattle.std.specs.List.{AllByRecursion, flat_map}
use Rattle.bsa_descriptor.specs.Descriptor.{IsDescriptor}
use Rattle.catalogue_slots.specs.Records.{Record, del, IsRecord, IsObject, slots_for, records_of}
use Rattle.catalogue_slots.specs.Layout.{spelling}
use Rattle.catalogue_slots.specs.Views.{object_of}
use Rattle.catalogue_slots.specs.declared.entry.ObjectEntry.{ObjectEntry}
use Rattle.catalogue_replay.specs.Contents.{Contents}
use Rattle.catalogue_journal.specs.Transactions.{Addition, IsAddition, AreLive, objects_from, slots_wanted}

-- a count of runs has 32 bits
abbrev pub HasFewRuns : ObjectEntry → Type 0
HasFewRuns entry = length entry.runs.items < 2 ^ 32

-- what each entry of a program meets: its size has 64 bits, its digest 32 bytes, and its descriptor fits its record
pub record IsEntry (entry : ObjectEntry) : Type 0 where
  pub size : entry.size < 2 ^ 64
  pub digest : length entry.digest ≡ 32
  pub descriptor : IsDescriptor entry.descriptor

-- the slots of entries
abbrev pub slots_of_entries : List ObjectEntry → ℕ
slots_of_entries entries = sum_by (λ entry. slots_for (length entry.runs.items)) entries

-- the bytes of a deletion, and of an object that is added
abbrev pub del_bytes : ℕ → List ℕ
del_bytes copy = spelling (del copy)

abbrev pub entry_bytes : ObjectEntry → List ℕ
entry_bytes entry = flat_map spelling (records_of (object_of entry))

-- deletions first, then additions
abbrev pub batch_bytes : List ℕ → List ObjectEntry → List ℕ
batch_bytes copies entries = flat_map del_bytes copies ++ flat_map entry_bytes entries

-- the records of a transaction on these contents
abbrev pub records_of_transaction : List ℕ → List Addition → Contents → List Record
records_of_transaction deletions additions before =
    map del deletions ++ flat_map records_of (objects_from (suc before.last) additions)

-- these bytes are the slots of a transaction on these contents
pub record IsBatch (deletions : List ℕ) (additions : List Addition) (before : Contents) (batch : List ℕ) : Type 0 where
  pub each : AllByRecursion IsRecord (records_of_transaction deletions additions before)
  pub count : length (records_of_transaction deletions additions before) ≡ slots_wanted deletions additions
  pub spelled : batch ≡ flat_map spelling (records_of_transaction deletions additions before)
  pub live : AreLive deletions before.objects
  pub additions_are : AllByRecursion IsAddition additions
  pub objects : AllByRecursion IsObject (objects_from (suc before.last) additions)
