-- The program's spans as the definitions have them.
use Rattle.std.specs.Prelude.{◌+◌, List, length, map}
use Rattle.log_history.specs.History.{History}
use Rattle.log_files.specs.Files.{time_at}
use Rattle.backup_lines.specs.Lines.{Span}
use Rattle.backup_lines.specs.declared.lines.FileSpan.{FileSpan}

abbrev pub span_in : FileSpan → Span
span_in span = record {
  file = span.file;
  first = span.first;
  last = span.last;
  reset = span.reset;
  before = span.before;
  time = span.time;
  copy = span.copy;
  gone = span.gone;
}

abbrev pub spans_in : List FileSpan → List Span
spans_in spans = map span_in spans

-- a span with records behind those that it has
abbrev pub longer : Span → History → Span
longer span batch = record span { last = span.last + length batch; time = time_at span.time batch }
