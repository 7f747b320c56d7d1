-- The courses of backups: of the log's files, and of spaces.
use Rattle.std.specs.Prelude.{ℕ, zero, suc, ◌+◌, ◌-◌, List, [], ◌∷◌, length, map, take, Bool, false, if◌then◌else◌, Option, None, Some, Result, Ok, Err}
use Rattle.log_history.specs.History.{History, entry_at}
use Rattle.log_history.specs.Live.{reset_points}
use Rattle.log_history.specs.Transactions.{last_time}
use Rattle.block_chain.specs.declared.runs.Run.{Run}
use Rattle.backup_lines.specs.Lines.{Archive, Span, archived, logged, live_archives}
use Rattle.backup_lines.specs.Chains.{last_link}
use Rattle.walks.specs.Courses.{only, make, for_each}
use Rattle.site_worlds.specs.Worlds.{Kept, Ring, Site}
use Rattle.site_worlds.specs.Files.{first_of_file, last_of_file, target_of, low_at}
use Rattle.site_worlds.specs.Objects.{archive_bytes, log_bytes}
use Rattle.site_worlds.specs.Lanes.{pages_of_space}
use Rattle.site_worlds.specs.Moves.{append_lines, mark_backed, site_rules}
use Rattle.site_courses.specs.Faults.{Fault, store_full}
use Rattle.site_courses.specs.Courses.{SiteCourse, check, in_turn, if_active, if_log_lost, if_any_lost, if_boot_full, close_current, lanes_to_end}
use Rattle.site_courses.specs.NewObjects.{new_runs, archive_label, log_label, new_kept, commit_course}

-- files of the log

-- what the line of a file says, with the copy id of its object
abbrev pub span_at : History → List ℕ → ℕ → ℕ → Span
span_at history starts file copy = record {
  file = file;
  first = first_of_file starts history file;
  last = last_of_file starts history file;
  reset = target_of (entry_at history (first_of_file starts history file));
  before = last_time (take (first_of_file starts history file - 1) history);
  time = last_time (take (last_of_file starts history file) history);
  copy = copy;
  gone = false;
}

-- the span of a file once it is backed up: its object gets the next copy id
abbrev pub next_span : Site → ℕ → Span
next_span site file = span_at site.history site.starts file (suc site.store.last)

-- volume 16 has the log's objects
abbrev pub send_file : ℕ → Span → Option (List Run) → SiteCourse
send_file moment span None = λ site. only (Some (store_full 16))
send_file moment span (Some runs) =
    in_turn ((λ site. commit_course (new_kept site moment span.copy 16 (log_label span.file) (log_bytes site.head.site site.history span) runs ∷ []) [] site)
    ∷ (λ site. make (append_lines (logged span ∷ []) ∷ mark_backed span.file ∷ [])) ∷ [])

-- a file is backed up: its object, its line, the mark
abbrev pub back_up_file : ℕ → ℕ → SiteCourse
back_up_file moment file site =
    send_file moment (next_span site file) (new_runs site 16 (length (log_bytes site.head.site site.history (next_span site file)))) site

-- so many files from one on
abbrev pub files_from : ℕ → ℕ → List ℕ
files_from file zero = []
files_from file (suc count) = file ∷ files_from (suc file) count

-- the closed files that aren't backed up, ascending
abbrev pub files_to_save : List ℕ → Option Ring → List ℕ
files_to_save starts None = []
files_to_save starts (Some ring) = files_from (suc ring.backed) ((if ring.is_open then length starts - 1 else length starts) - ring.backed)

abbrev pub save_files : ℕ → SiteCourse
save_files moment site = for_each site_rules (back_up_file moment) (files_to_save site.starts site.ring) site

-- room for so many lines more than those of the files is there before the first object is sent
abbrev pub if_lines_full : ℕ → Site → Option Fault
if_lines_full more site = if_boot_full (length (files_to_save site.starts site.ring) + more) site

-- `-b -l`: with -c or -s the current file is closed first; with -s no lane is needed
abbrev pub logs_course : Bool → Bool → ℕ → SiteCourse
logs_course closes salvages moment =
    in_turn (check if_active ∷ check if_log_lost ∷ (if salvages then (λ site. only None) else check if_any_lost)
    ∷ (if closes then close_current else (λ site. only None)) ∷ check (if_lines_full 0) ∷ save_files moment ∷ [])

-- spaces

-- what an archive builds on: its level, the position and the copy id of its base
pub record Basis : Type 0 where
  pub level : ℕ
  pub base : ℕ
  pub base_copy : ℕ

abbrev pub on_nothing : Basis
on_nothing = record { level = 0; base = 0; base_copy = 0 }

abbrev pub on_archive : ℕ → Option Archive → Basis → Basis
on_archive level None lower = lower
on_archive level (Some archive) lower = record { level = level; base = archive.at; base_copy = archive.copy }

abbrev pub on_level_0 : Site → ℕ → ℕ → Option Archive
on_level_0 site space end = last_link (reset_points site.history) space 0 0 end (live_archives site.lines)

abbrev pub on_level_1 : Site → ℕ → ℕ → Option Archive → Option Archive
on_level_1 site space end None = None
on_level_1 site space end (Some below) = last_link (reset_points site.history) space 1 below.copy end (live_archives site.lines)

-- A level 1 builds on the level 0 of the space's chain at the end of the log, a level 2 on its level 1; where that isn't there the lower
-- level is made.
abbrev pub basis_of : Site → ℕ → ℕ → Basis
basis_of site space zero = on_nothing
basis_of site space (suc zero) = on_archive 1 (on_level_0 site space (length site.history)) on_nothing
basis_of site space (suc (suc level)) =
    on_archive 2 (on_level_1 site space (length site.history) (on_level_0 site space (length site.history)))
    (on_archive 1 (on_level_0 site space (length site.history)) on_nothing)

-- an archive of a space at the end of the log
abbrev pub archive_at_end : Site → ℕ → ℕ → Basis → Archive
archive_at_end site space copy basis = record {
  space = space;
  level = basis.level;
  at = length site.history;
  base = basis.base;
  base_copy = basis.base_copy;
  low = low_at site.history (length site.history);
  copy = copy;
}

-- an archive that is made, and its object
pub record Made : Type 0 where
  pub archive : Archive
  pub kept : Kept

abbrev pub with_archive : Made → Result (List Made) ℕ → Result (List Made) ℕ
with_archive made (Err volume) = Err volume
with_archive made (Ok others) = Ok (made ∷ others)

-- each space's volume has its objects
abbrev pub placed : Site → ℕ → Archive → List ℕ → Option (List Run) → Result (List Made) ℕ → Result (List Made) ℕ
placed site moment archive bytes None others = Err archive.space
placed site moment archive bytes (Some runs) others =
    with_archive (record {
      archive = archive;
      kept = new_kept site moment archive.copy archive.space (archive_label site archive.space archive.level) bytes runs;
    }) others

abbrev pub sent : Site → ℕ → Archive → Result (List Made) ℕ → Result (List Made) ℕ
sent site moment archive others =
    let bytes = archive_bytes site.head.site site.history (pages_of_space site.head.spaces archive.space) archive in
    placed site moment archive bytes (new_runs site archive.space (length bytes)) others

-- the archives of spaces at the end of the log, or the first volume that has no room for its own
abbrev pub made_of : Site → ℕ → ℕ → ℕ → List ℕ → Result (List Made) ℕ
made_of site moment level copy [] = Ok []
made_of site moment level copy (space ∷ spaces) =
    sent site moment (archive_at_end site space copy (basis_of site space level)) (made_of site moment level (suc copy) spaces)

-- all objects are sent before the first is committed; the lines of all are added at once
abbrev pub commit_archives : Result (List Made) ℕ → SiteCourse
commit_archives (Err volume) = λ site. only (Some (store_full volume))
commit_archives (Ok made) =
    in_turn (for_each site_rules (λ one. commit_course (one.kept ∷ []) []) made
    ∷ (λ site. make (append_lines (map (λ one. archived one.archive) made) ∷ [])) ∷ [])

abbrev pub archive_spaces : ℕ → ℕ → List ℕ → SiteCourse
archive_spaces moment level spaces site = commit_archives (made_of site moment level (suc site.store.last) spaces) site

-- `-b`, of spaces by their numbers, ascending
abbrev pub spaces_course : ℕ → List ℕ → ℕ → SiteCourse
spaces_course level spaces moment =
    in_turn (check if_active ∷ check if_log_lost ∷ check if_any_lost ∷ close_current ∷ (λ site. make (lanes_to_end site))
    ∷ check (if_lines_full (length spaces)) ∷ save_files moment ∷ archive_spaces moment level spaces ∷ [])
