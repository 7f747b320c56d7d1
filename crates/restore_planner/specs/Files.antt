-- What a map has of each file of the log.
use Rattle.std.specs.Prelude.{◌≡◌, ℕ, List, Bool, true, false, ◌||◌, ◌==◌, nat_lt, if◌then◌else◌, filter, Option, None, Some}
use Rattle.std.specs.BTreeMap.{BTreeMap, get}
use Rattle.std.specs.Option.{option_or, option_map}
use Rattle.std.specs.Ordering.{nat_cmp}
use Rattle.backup_lines.specs.Lines.{Span, Line, is_live}
use Rattle.backup_lines.specs.Spans.{held_span, marked, newest, spans_of_file}
use Rattle.backup_lines.specs.Views.{span_view}
use Rattle.backup_lines.specs.declared.lines.FileSpan.{FileSpan}

-- file ids begin at 1
abbrev pub at_file_id : ℕ → Option Span → Option Span
at_file_id file span = if nat_lt 0 file then span else None

-- the newest line of a file, as of a copy that is gone
abbrev pub by_line : List Line → ℕ → Option Span
by_line lines file = option_map (marked true) (newest (spans_of_file lines file))

-- the newest live line among some lines
abbrev pub live_line : List Line → List Line → ℕ → Option Span
live_line lines some file = option_map (marked false) (newest (filter (λ span. is_live lines span.copy) (spans_of_file some file)))

abbrev pub by_live_line : List Line → ℕ → Option Span
by_live_line lines file = option_or (live_line lines lines file) (by_line lines file)

-- the span that a map has of a file
abbrev pub span_at : BTreeMap ℕ FileSpan → ℕ → Option Span
span_at files file = option_map span_view (get nat_cmp files file)

-- a span comes before what is known of its file, where that is gone or has a smaller copy id
abbrev pub displaces : Span → Option Span → Bool
displaces span None = true
displaces span (Some best) = best.gone || nat_lt best.copy span.copy

-- a span in the place of what a map had of its file
abbrev pub Puts : Span → BTreeMap ℕ FileSpan → BTreeMap ℕ FileSpan → Type 0
Puts span old new = (file : ℕ) → span_at new file ≡ (if (span.file == file) then Some span else span_at old file)

-- a map has these spans of the files
abbrev pub HasSpans : BTreeMap ℕ FileSpan → (ℕ → Option Span) → Type 0
HasSpans files spans = (file : ℕ) → span_at files file ≡ at_file_id file (spans file)

-- the files that the log's disk holds and that aren't backed up have its spans, and the others what they had
abbrev pub PutsHeld : List Span → ℕ → BTreeMap ℕ FileSpan → BTreeMap ℕ FileSpan → Type 0
PutsHeld held backed old new = (file : ℕ) → span_at new file ≡ option_or (held_span held backed file) (span_at old file)
