-- The files of the log: what is known of each, and the position that a point in time comes to.
use Rattle.std.specs.Prelude.{◌≡◌, ℕ, ◌+◌, ◌-◌, ◌<◌, List, [], ◌∷◌, Bool, true, false, ◌&&◌, ◌==◌, nat_lt, nat_le, if◌then◌else◌, filter, reverse, fold, Option, None, Some, Contains}
use Rattle.std.specs.List.{filter_map, prefix_len}
use Rattle.std.specs.Option.{option_or, option_map}
use Rattle.log_history.specs.History.{LogEntry, commit, reset}
use Rattle.log_history.specs.Live.{ResetPoint}
use Rattle.backup_lines.specs.Lines.{Span, Line, is_live, all_spans}

-- of two spans of a file the one with the greater copy id
abbrev pub is_newer : Span → Option Span → Bool
is_newer span None = true
is_newer span (Some best) = nat_lt best.copy span.copy

abbrev pub newest : List Span → Option Span
newest spans = fold (λ best span. if is_newer span best then Some span else best) None spans

abbrev pub marked : Bool → Span → Span
marked is_gone span = record span { gone = is_gone }

-- of those that the log's disk holds, the span of a file that isn't backed up
abbrev pub held_span : List Span → ℕ → ℕ → Option Span
held_span [] backed file = None
held_span (span ∷ held) backed file =
    if ((span.file == file) && nat_lt backed file) then Some (marked false (record span { copy = 0 })) else held_span held backed file

-- the lines of a file
abbrev pub spans_of_file : List Line → ℕ → List Span
spans_of_file lines file = filter (λ span. span.file == file) (all_spans lines)

-- What is known of a file: as the log's disk holds it where it isn't backed up, whatever lines it has; else by its live line with
-- the greatest copy id; else by its gone line with the greatest, so that its positions stay known.
abbrev pub span_of : List Line → List Span → ℕ → ℕ → Option Span
span_of lines held backed file =
    option_or (held_span held backed file)
    (option_or (option_map (marked false) (newest (filter (λ span. is_live lines span.copy) (spans_of_file lines file))))
    (option_map (marked true) (newest (spans_of_file lines file))))

abbrev pub FilesRise : ℕ → List Span → Type 0
FilesRise last [] = Unit {0}
FilesRise last (span ∷ spans) = (last < span.file) × FilesRise span.file spans

-- one span for each file of which anything is known, in ascending order
pub record AreSpans (lines : List Line) (held : List Span) (backed : ℕ) (spans : List Span) : Type 0 where
  pub rise : FilesRise 0 spans
  pub known : (span : Span) → Contains spans span → span_of lines held backed span.file ≡ Some span
  pub all : (file : ℕ) (span : Span) → 0 < file → span_of lines held backed file ≡ Some span → Contains spans span

abbrev pub reset_at : ℕ → ℕ → ResetPoint
reset_at at target = record { at = at; target = target }

abbrev pub reset_in : Span → Option ResetPoint
reset_in span = option_map (reset_at span.first) span.reset

-- the Resets of files in ascending order, the last first: a Reset is the first record of its file
abbrev pub resets_of : List Span → List ResetPoint
resets_of spans = reverse (filter_map reset_in spans)

-- where a point lies: at a position, or in a file whose records have to be looked at
pub data Found : Type 0 where
  at_position : (position : ℕ) → Found
  look_in : (file : ℕ) → Found
  no_such_log : (file : ℕ) → Found

-- the end of files in ascending order
abbrev pub end_of : List Span → ℕ
end_of spans = fold (λ last span. span.last) 0 spans

-- the end of a file
abbrev pub end_of_file : ℕ → List Span → Found
end_of_file file [] = no_such_log file
end_of_file file (span ∷ spans) = if (span.file == file) then at_position span.last else end_of_file file spans

-- The first file whose time passes a time holds the first Commit or Reset that passes it, unless the time before it does too; where
-- no file's does, the time comes to the end.
abbrev pub by_time : ℕ → ℕ → List Span → Found
by_time time last [] = at_position last
by_time time last (span ∷ spans) =
    if nat_lt time span.time then (if nat_lt time span.before then at_position (span.first - 1) else look_in span.file)
    else by_time time span.last spans

pub data Point : Type 0 where
  at_end : Point
  at_file : (file : ℕ) → Point
  at_time : (time : ℕ) → Point

-- a restore that is under way: its number, the point that was asked for, the position that this comes to, and whether all lanes were
-- prepared for it
pub record Active : Type 0 where
  pub number : ℕ
  pub point : Point
  pub to : ℕ
  pub prepared : Bool

abbrev pub find_point : Point → List Span → Found
find_point at_end spans = at_position (end_of spans)
find_point (at_file file) spans = end_of_file file spans
find_point (at_time time) spans = by_time time 0 spans

-- no Commit or Reset that is later than a time
abbrev pub is_by : ℕ → LogEntry → Bool
is_by time (commit txn at) = nat_le at time
is_by time (reset restore target at) = nat_le at time
is_by time entry = true

-- The position that a time comes to in a file, whose records these are: that of the record before the first Commit or Reset that is
-- later.
abbrev pub time_within : Span → ℕ → List LogEntry → ℕ
time_within span time entries = (span.first - 1) + prefix_len (is_by time) entries
