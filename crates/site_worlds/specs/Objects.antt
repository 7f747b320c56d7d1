-- The bytes of backup objects: of an archive of a space, and of a file of the log. All numbers are big-endian.
use Rattle.std.specs.Prelude.{◌≡◌, ℕ, zero, suc, ◌+◌, ◌-◌, ◌==◌, List, [], ◌∷◌, ◌++◌, length, take, drop, filter, flat_map, replicate, nat_lt, if◌then◌else◌, codes, Contains}
use Rattle.std.specs.Int.{w16, w64, to_be_bytes}
use Rattle.log_history.specs.History.{LogEntry, History}
use Rattle.log_history.specs.Effects.{page_at}
use Rattle.log_record.specs.Layout.{spelling}
use Rattle.space_pages.specs.Layout.{page_bytes}
use Rattle.block_chain.specs.Blocks.{blocks_of_runs, blocks_in, blocks_for}
use Rattle.catalogue_slots.specs.Records.{IsObject}
use Rattle.backup_lines.specs.Lines.{Archive, Span}
use Rattle.sha2.specs.Sha256.{sha256}
use Rattle.site_worlds.specs.Worlds.{Kept, Store}

-- 0 to n - 1
abbrev pub numbers : ℕ → List ℕ
numbers zero = []
numbers (suc n) = numbers n ++ n ∷ []

-- the pages of an archive, of a space with so many: at its position, those with a stamp above its base, ascending
abbrev pub pages_in : History → ℕ → Archive → List ℕ
pages_in history pages archive = filter (λ number. nat_lt archive.base (page_at history archive.at archive.space number).stamp) (numbers pages)

-- how many entries an archive has
abbrev pub entries_in : History → ℕ → Archive → ℕ
entries_in history pages archive = length (pages_in history pages archive)

-- `OBIM`, version 1, 5 level, 6 space, 8 site, 16 position, 24 base, zeros to 4,096
unfoldable pub archive_head : ℕ → Archive → List ℕ
archive_head site archive =
    codes "OBIM" ++ 1 ∷ archive.level ∷ [] ++ to_be_bytes w16 archive.space ++ to_be_bytes w64 site ++ to_be_bytes w64 archive.at
    ++ to_be_bytes w64 archive.base ++ replicate 4064 0

-- the object of an archive: its head, then its pages
abbrev pub archive_bytes : ℕ → History → ℕ → Archive → List ℕ
archive_bytes site history pages archive =
    archive_head site archive
    ++ flat_map (λ number. page_bytes archive.space number (page_at history archive.at archive.space number)) (pages_in history pages archive)

-- `OBLG`, version 1, 8 site, 16 file, 24 first position, 32 last position, zeros to 128
unfoldable pub log_head : ℕ → Span → List ℕ
log_head site span =
    codes "OBLG" ++ 1 ∷ 0 ∷ 0 ∷ 0 ∷ [] ++ to_be_bytes w64 site ++ to_be_bytes w64 span.file ++ to_be_bytes w64 span.first
    ++ to_be_bytes w64 span.last ++ replicate 88 0

-- the records of a file
abbrev pub records_in : History → Span → List LogEntry
records_in history span = take (span.last + 1 - span.first) (drop (span.first - 1) history)

-- the object of a log file: its head, then its records
abbrev pub log_bytes : ℕ → History → Span → List ℕ
log_bytes site history span = log_head site span ++ flat_map spelling (records_in history span)

-- a live object: one that may be added, with the size and digest of its bytes, in as many blocks as they take
pub record IsKept (kept : Kept) : Type 0 where
  pub object : IsObject kept.object
  pub size : kept.object.size ≡ length kept.bytes
  pub digest : kept.object.digest ≡ sha256 kept.bytes
  pub blocks : blocks_in kept.object.runs ≡ blocks_for kept.object.size

-- the blocks that live objects have on a volume
abbrev pub blocks_on : ℕ → List Kept → List ℕ
blocks_on volume kept = flat_map (λ k. if k.object.volume == volume then blocks_of_runs k.object.runs else []) kept

-- if the object of this copy id is live, it has these bytes and stands on this volume
abbrev pub Holds : Store → ℕ → ℕ → List ℕ → Type 0
Holds store copy volume bytes =
    (kept : Kept) → Contains store.kept kept → kept.object.copy ≡ copy → (kept.bytes ≡ bytes) × (kept.object.volume ≡ volume)
