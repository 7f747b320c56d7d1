-- The objects that backups add: where they come to stand, what they are called, and when there is no room for them.
use Rattle.std.specs.Prelude.{ℕ, suc, ◌+◌, ◌^◌, ◌==◌, List, [], ◌∷◌, ◌++◌, length, take, filter, nat_lt, if◌then◌else◌, slice_get, Option, None, Some, codes}
use Rattle.std.specs.Fmt.{decimal}
use Rattle.sha2.specs.Sha256.{sha256}
use Rattle.onbar_grammar.specs.Script.{Space}
use Rattle.block_chain.specs.Blocks.{times, blocks_for}
use Rattle.block_chain.specs.declared.runs.Run.{Run}
use Rattle.bsa_descriptor.specs.declared.descriptor.Descriptor.{Descriptor}
use Rattle.bsa_descriptor.specs.declared.kinds.CopyType.TheVariants as copy_type
use Rattle.bsa_descriptor.specs.declared.kinds.ObjectType.{ObjectType}
use Rattle.bsa_descriptor.specs.declared.kinds.ObjectType.TheVariants as object_type
use Rattle.bsa_descriptor.specs.declared.kinds.ObjectStatus.TheVariants as status
use Rattle.walks.specs.Courses.{Course, only, make}
use Rattle.site_worlds.specs.Worlds.{Kept, Store, Site}
use Rattle.site_worlds.specs.Objects.{numbers, blocks_on}
use Rattle.site_worlds.specs.Moves.{Move, commit_objects, kept_after, slots_of}
use Rattle.site_courses.specs.Faults.{Fault, too_many_objects, catalogue_full}
use Rattle.site_courses.specs.Courses.{SiteCourse}

-- the free blocks of a volume in the order in which an object takes them: ascending
abbrev pub free_blocks : Site → ℕ → List ℕ
free_blocks site volume = filter (λ block. times block (blocks_on volume site.store.kept) == 0) (numbers site.head.blocks)

-- a block before runs: it lengthens the first one where that begins behind it
abbrev pub with_block : ℕ → List Run → List Run
with_block block [] = record { first = block; count = 1 } ∷ []
with_block block (run ∷ runs) =
    if run.first == suc block then record { first = block; count = suc run.count } ∷ runs else record { first = block; count = 1 } ∷ run ∷ runs

-- the longest runs of blocks in order
abbrev pub runs_of : List ℕ → List Run
runs_of [] = []
runs_of (block ∷ blocks) = with_block block (runs_of blocks)

-- where an object of this size comes to stand on a volume, if that has the room
abbrev pub new_runs : Site → ℕ → ℕ → Option (List Run)
new_runs site volume size =
    if nat_lt (length (free_blocks site volume)) (blocks_for size) then None else Some (runs_of (take (blocks_for size) (free_blocks site volume)))

-- what an object of a backup is called
pub record Label : Type 0 where
  pub path : List ℕ
  pub object_type : ObjectType
  pub order : ℕ

abbrev pub name_of : Option Space → List ℕ
name_of None = []
name_of (Some space) = space.name

-- `/space/NAME/LEVEL`, in a restore by level
abbrev pub archive_label : Site → ℕ → ℕ → Label
archive_label site space level = record {
  path = codes "/space/" ++ (name_of (slice_get site.head.spaces space) ++ (codes "/" ++ decimal level));
  object_type = object_type.Database;
  order = level;
}

-- `/log/ID`, in a restore by file
abbrev pub log_label : ℕ → Label
log_label file = record { path = codes "/log/" ++ decimal file; object_type = object_type.Log; order = file }

abbrev pub descriptor_of : Site → ℕ → ℕ → Label → Descriptor
descriptor_of site moment copy label = record {
  bsa_owner = codes "onbar";
  app_owner = decimal site.head.site;
  space = codes "site";
  path = label.path;
  create_time = moment;
  copy = copy;
  restore_order = label.order;
  estimated_size = 0;
  copy_type = copy_type.Backup;
  object_type = label.object_type;
  status = status.Any;
  resource = codes "onbar";
  description = [];
  info = [];
}

-- an object of these bytes, in these runs
abbrev pub new_kept : Site → ℕ → ℕ → ℕ → Label → List ℕ → List Run → Kept
new_kept site moment copy volume label bytes runs = record {
  object = record {
    copy = copy;
    volume = volume;
    size = length bytes;
    digest = sha256 bytes;
    runs = runs;
    descriptor = descriptor_of site moment copy label;
  };
  bytes = bytes;
}

-- 16,384 objects may live, copy ids go up to 2^48, and the catalogue has 65,536 slots
abbrev pub commit_fault : Store → List Kept → List ℕ → Option Fault
commit_fault store added deleted =
    if nat_lt 16384 (length (kept_after added deleted store.kept)) then Some too_many_objects
    else (if nat_lt (2 ^ 48) (store.last + length added) then Some too_many_objects
    else (if nat_lt 65536 (store.used + slots_of added deleted) then Some catalogue_full else None))

abbrev pub unless_full : Option Fault → List Kept → List ℕ → Course Move Fault
unless_full None added deleted = make (commit_objects added deleted ∷ [])
unless_full (Some fault) added deleted = only (Some fault)

-- a transaction of the store
abbrev pub commit_course : List Kept → List ℕ → SiteCourse
commit_course added deleted site = unless_full (commit_fault site.store added deleted) added deleted
