-- A line of the boot file in its slot of 128 bytes: the lines that have a spelling, and the spelling of each. Numbers are big-endian; bytes not
-- named are 0.
use Rattle.std.specs.Prelude.{◌≡◌, ℕ, ◌^◌, ◌==◌, ◌<◌, ◌≤◌, List, [], ◌∷◌, ◌++◌, length, replicate, slice_index, Bool, false, if◌then◌else◌, Option, None, Some, IfSome, map}
use Rattle.std.specs.Int.{w16, w64, to_be_bytes}
use Rattle.byte_fields.specs.Fields.{number_at}
use Rattle.backup_lines.specs.Lines.{Archive, Span, Line, archived, logged, gone}
use Rattle.backup_lines.specs.Views.{line_of}
use Rattle.backup_lines.specs.declared.lines.Line.{Line as RustLine}

-- copy ids, file ids, positions and times go up to 2^48
abbrev pub IsBounded : ℕ → Type 0
IsBounded n = n ≤ 2 ^ 48

-- the copy id of an object
pub record IsCopy (copy : ℕ) : Type 0 where
  pub some : 1 ≤ copy
  pub bounded : copy ≤ 2 ^ 48

-- an archive of level 0 builds on nothing, and one of level 1 or 2 on another archive
pub record IsArchive (archive : Archive) : Type 0 where
  pub level : archive.level ≤ 2
  pub space : archive.space < 16
  pub copy : IsCopy archive.copy
  pub at : IsBounded archive.at
  pub base : IsBounded archive.base
  pub base_copy : IsBounded archive.base_copy
  pub low : IsBounded archive.low
  pub lowest : archive.level ≡ 0 → (archive.base ≡ 0) × (archive.base_copy ≡ 0)
  pub higher : 1 ≤ archive.level → 1 ≤ archive.base_copy

-- a file has as many records as its positions, the first not below its id, and a Reset at its head goes back to a position before it
pub record IsSpan (span : Span) : Type 0 where
  pub copy : IsCopy span.copy
  pub file : 1 ≤ span.file
  pub first : span.file ≤ span.first
  pub last : span.first ≤ span.last
  pub bounded : IsBounded span.last
  pub reset : IfSome span.reset (λ target. target < span.first)
  pub before : IsBounded span.before
  pub time : IsBounded span.time
  pub kept : span.gone ≡ false

-- the lines that have a spelling
abbrev pub IsLine : Line → Type 0
IsLine (archived archive) = IsArchive archive
IsLine (logged span) = IsSpan span
IsLine (gone copy) = IsCopy copy

-- kind 1, level 1, space 2, four zeros, copy id 8, position 16, base 24, base copy id 32, low 40
unfoldable pub archive_bytes : Archive → List ℕ
archive_bytes archive =
    1 ∷ archive.level ∷ [] ++ to_be_bytes w16 archive.space ++ replicate 4 0 ++ to_be_bytes w64 archive.copy ++ to_be_bytes w64 archive.at
    ++ to_be_bytes w64 archive.base ++ to_be_bytes w64 archive.base_copy ++ to_be_bytes w64 archive.low ++ replicate 80 0

-- whether the first record is a Reset, and the position that it goes back to
abbrev pub reset_code : Option ℕ → ℕ
reset_code None = 0
reset_code (Some target) = 1

abbrev pub target_of : Option ℕ → ℕ
target_of None = 0
target_of (Some target) = target

-- kind 2, the Reset 1, six zeros, copy id 8, file id 16, first position 24, last position 32, target 40, time before 48, time 56
unfoldable pub span_bytes : Span → List ℕ
span_bytes span =
    2 ∷ reset_code span.reset ∷ replicate 6 0 ++ to_be_bytes w64 span.copy ++ to_be_bytes w64 span.file ++ to_be_bytes w64 span.first
    ++ to_be_bytes w64 span.last ++ to_be_bytes w64 (target_of span.reset) ++ to_be_bytes w64 span.before ++ to_be_bytes w64 span.time ++ replicate 64 0

-- kind 3, seven zeros, copy id 8
unfoldable pub gone_bytes : ℕ → List ℕ
gone_bytes copy = 3 ∷ replicate 7 0 ++ to_be_bytes w64 copy ++ replicate 112 0

-- the bytes of a line
abbrev pub spelling : Line → List ℕ
spelling (archived archive) = archive_bytes archive
spelling (logged span) = span_bytes span
spelling (gone copy) = gone_bytes copy

-- the fields that stand in 128 bytes
unfoldable pub archive_at : List ℕ → Archive
archive_at bytes = record {
  space = number_at w16 2 bytes;
  level = slice_index bytes 1;
  at = number_at w64 16 bytes;
  base = number_at w64 24 bytes;
  base_copy = number_at w64 32 bytes;
  low = number_at w64 40 bytes;
  copy = number_at w64 8 bytes;
}

unfoldable pub span_at : List ℕ → Span
span_at bytes = record {
  file = number_at w64 16 bytes;
  first = number_at w64 24 bytes;
  last = number_at w64 32 bytes;
  reset = if slice_index bytes 1 == 1 then Some (number_at w64 40 bytes) else None;
  before = number_at w64 48 bytes;
  time = number_at w64 56 bytes;
  copy = number_at w64 8 bytes;
  gone = false;
}

-- the line whose fields these are
unfoldable pub line_at : List ℕ → Line
line_at bytes =
    if slice_index bytes 0 == 1 then archived (archive_at bytes)
    else (if slice_index bytes 0 == 2 then logged (span_at bytes) else gone (number_at w64 8 bytes))

-- the program's lines as the definitions have them
abbrev pub lines_of : List RustLine → List Line
lines_of lines = map line_of lines
