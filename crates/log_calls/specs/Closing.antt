-- The current file of a log closed, if that is open and has records.
use Rattle.std.specs.Prelude.{List, [], ◌∷◌, length, Bool, ◌&&◌, not, nat_le, if◌then◌else◌}
use Rattle.log_files.specs.Files.{LogFiles, closed}
use Rattle.site_worlds.specs.Worlds.{Site}
use Rattle.site_worlds.specs.Moves.{Move, close_file}
use Rattle.site_courses.specs.Courses.{is_closable}

-- the moves of that, seen from a site
abbrev pub close_moves : Site → List Move
close_moves site = if is_closable site site.ring then close_file ∷ [] else []

-- and from the files that its log holds
abbrev pub takes_closing : LogFiles → Bool
takes_closing files = not files.is_closed && nat_le 1 (length files.current)

abbrev pub close_by : LogFiles → List Move
close_by files = if takes_closing files then close_file ∷ [] else []

-- those files then
abbrev pub with_closed : LogFiles → LogFiles
with_closed files = if takes_closing files then closed files else files
