-- The boot file's lines: what was backed up, in the order in which it was, and what is gone.
use Rattle.std.specs.Prelude.{ℕ, List, Bool, false, ◌==◌, not, filter, Option, None, Some}
use Rattle.std.specs.List.{list_any, filter_map}

-- an archive of a space: level, position, what it builds on, the position from which the log is wanted, copy id
pub record Archive : Type 0 where
  pub space : ℕ
  pub level : ℕ
  pub at : ℕ
  pub base : ℕ
  pub base_copy : ℕ
  pub low : ℕ
  pub copy : ℕ

-- a file of the log: its id, its first and last position, the target of its first record where that is a Reset, the times before it and
-- at its end, the copy id of its object and whether that is gone
pub record Span : Type 0 where
  pub file : ℕ
  pub first : ℕ
  pub last : ℕ
  pub reset : Option ℕ
  pub before : ℕ
  pub time : ℕ
  pub copy : ℕ
  pub gone : Bool

pub data Line : Type 0 where
  archived : (archive : Archive) → Line
  logged : (span : Span) → Line
  gone : (copy : ℕ) → Line

-- a line says that this copy is gone
abbrev pub tells_gone : ℕ → Line → Bool
tells_gone copy (gone other) = other == copy
tells_gone copy line = false

-- no line says that this copy is gone
abbrev pub is_live : List Line → ℕ → Bool
is_live lines copy = not (list_any (tells_gone copy) lines)

abbrev pub archive_in : Line → Option Archive
archive_in (archived archive) = Some archive
archive_in line = None

abbrev pub span_in : Line → Option Span
span_in (logged span) = Some span
span_in line = None

-- the archives that aren't gone, in the order of their lines
abbrev pub live_archives : List Line → List Archive
live_archives lines = filter (λ archive. is_live lines archive.copy) (filter_map archive_in lines)

-- all log files that were backed up, those whose copy is gone too
abbrev pub all_spans : List Line → List Span
all_spans lines = filter_map span_in lines
