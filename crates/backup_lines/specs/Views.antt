-- The program's lines, spans and points as the definitions have them.
use Rattle.std.specs.Prelude.{ℕ, List, take}
use Rattle.backup_lines.specs.declared.lanes.Chain.{Chain}
use Rattle.backup_lines.specs.declared.lines.Archive.{Archive as RustArchive}
use Rattle.backup_lines.specs.declared.lines.FileSpan.{FileSpan}
use Rattle.backup_lines.specs.declared.lines.Line.{Line as RustLine}
use Rattle.backup_lines.specs.declared.lines.Line.TheVariants.{Archive as ArchiveLine, Log as LogLine, Gone as GoneLine}
use Rattle.backup_lines.specs.declared.points.Point.{Point as RustPoint}
use Rattle.backup_lines.specs.declared.points.Point.TheVariants.{End, File, Time}
use Rattle.backup_lines.specs.Lines.{Archive, Span, Line, archived, logged, gone}
use Rattle.backup_lines.specs.Spans.{Point, at_end, at_file, at_time}

abbrev pub archive_of : RustArchive → Archive
archive_of archive = record {
  space = archive.space;
  level = archive.level;
  at = archive.at;
  base = archive.base;
  base_copy = archive.base_copy;
  low = archive.low;
  copy = archive.copy;
}

abbrev pub span_view : FileSpan → Span
span_view span = record {
  file = span.file;
  first = span.first;
  last = span.last;
  reset = span.reset;
  before = span.before;
  time = span.time;
  copy = span.copy;
  gone = span.gone;
}

abbrev pub line_of : RustLine → Line
line_of (ArchiveLine archive) = archived (archive_of archive)
line_of (LogLine span) = logged (span_view span)
line_of (GoneLine copy) = gone copy

abbrev pub point_of : RustPoint → Point
point_of End = at_end
point_of (File file) = at_file file
point_of (Time time) = at_time time

-- the copy ids of a chain, in order of level
abbrev pub copies_of : Chain → List ℕ
copies_of chain = take chain.len chain.copies
