-- The courses that bring the boot file and the store in line: `-sync`, `-x` and `-g`.
use Rattle.std.specs.Prelude.{ℕ, zero, suc, ◌==◌, nat_eq, List, [], ◌∷◌, ◌++◌, length, map, filter, count_by, Bool, true, not, ◌&&◌, nat_lt, if◌then◌else◌, Option, None, Some, codes}
use Rattle.std.specs.List.{list_any, list_all}
use Rattle.std.specs.Fmt.{decimal}
use Rattle.std.specs.Cmp.Lexicographic.{pointwise}
use Rattle.bsa_descriptor.specs.declared.descriptor.Descriptor.{Descriptor}
use Rattle.backup_lines.specs.Lines.{Archive, Span, gone, is_live, live_archives, all_spans}
use Rattle.walks.specs.Courses.{only, make}
use Rattle.site_worlds.specs.Worlds.{Kept, Site}
use Rattle.site_worlds.specs.Objects.{numbers}
use Rattle.site_worlds.specs.Fitness.{copies_in}
use Rattle.site_worlds.specs.Moves.{append_lines, is_among}
use Rattle.site_courses.specs.Faults.{Fault, no_such_copy}
use Rattle.site_courses.specs.Courses.{SiteCourse, check, in_turn, if_active, if_boot_full}
use Rattle.site_courses.specs.NewObjects.{commit_course}

abbrev pub live_copies : Site → List ℕ
live_copies site = map (λ kept. kept.object.copy) site.store.kept

-- the copy ids of archives and log files that aren't gone, in the order of their lines
abbrev pub live_lines : Site → List ℕ
live_lines site = filter (is_live site.lines) (copies_in site.lines)

-- lines that say that copies are gone, if there are any
abbrev pub gone_lines : List ℕ → SiteCourse
gone_lines copies site = make (if length copies == 0 then [] else append_lines (map gone copies) ∷ [])

-- the objects of these copy ids are deleted, if there are any
abbrev pub delete_objects : List ℕ → SiteCourse
delete_objects copies site = if length copies == 0 then only None else commit_course [] copies site

-- of copy ids those of live objects
abbrev pub there : Site → List ℕ → List ℕ
there site copies = filter (is_among (live_copies site)) copies

-- `-sync`: a line is gone whose object isn't there; then an object of this site's backups is deleted that no live line names

abbrev pub to_be_gone : Site → List ℕ
to_be_gone site = filter (λ copy. not (is_among (live_copies site) copy)) (live_lines site)

abbrev pub is_own : Site → Descriptor → Bool
is_own site d = pointwise nat_eq (codes "onbar") d.bsa_owner && pointwise nat_eq (decimal site.head.site) d.app_owner

abbrev pub is_unnamed : Site → Kept → Bool
is_unnamed site kept = is_own site kept.object.descriptor && not (is_among (live_lines site) kept.object.copy)

abbrev pub unnamed : Site → List ℕ
unnamed site = map (λ kept. kept.object.copy) (filter (is_unnamed site) site.store.kept)

abbrev pub sync_course : SiteCourse
sync_course =
    in_turn (check (λ site. if_boot_full (length (to_be_gone site)) site) ∷ (λ site. gone_lines (to_be_gone site) site) ∷ (λ site. delete_objects (unnamed site) site) ∷ [])

-- copies expire: their lines are gone, then those of their objects that are there are deleted
abbrev pub expire_course : List ℕ → SiteCourse
expire_course copies = in_turn (check (if_boot_full (length copies)) ∷ gone_lines copies ∷ (λ site. delete_objects (there site copies) site) ∷ [])

-- `-x`
abbrev pub if_no_copy : ℕ → Site → Option Fault
if_no_copy copy site = if is_among (live_lines site) copy then None else Some (no_such_copy copy)

abbrev pub expire_one : ℕ → SiteCourse
expire_one copy = in_turn (check if_active ∷ check (if_no_copy copy) ∷ expire_course (copy ∷ []) ∷ [])

-- `-g`: of each space the last so many generations stay

abbrev pub of_level : ℕ → Site → List Archive
of_level level site = filter (λ archive. archive.level == level) (live_archives site.lines)

-- of level 0 those stay that have fewer live ones of their space behind them, by copy id
abbrev pub staying_0 : ℕ → Site → List Archive
staying_0 keep site =
    filter (λ archive. nat_lt (count_by (λ other. (other.space == archive.space) && nat_lt archive.copy other.copy) (of_level 0 site)) keep) (of_level 0 site)

-- of the other levels those whose base stays
abbrev pub on_these : List Archive → Archive → Bool
on_these below archive = list_any (λ base. base.copy == archive.base_copy) below

abbrev pub staying_1 : ℕ → Site → List Archive
staying_1 keep site = filter (on_these (staying_0 keep site)) (of_level 1 site)

abbrev pub staying_2 : ℕ → Site → List Archive
staying_2 keep site = filter (on_these (staying_1 keep site)) (of_level 2 site)

abbrev pub staying : ℕ → Site → List Archive
staying keep site = staying_0 keep site ++ (staying_1 keep site ++ staying_2 keep site)

-- each space from one on keeps an archive
abbrev pub all_keep : List Archive → ℕ → ℕ → Bool
all_keep archives space zero = true
all_keep archives space (suc count) = list_any (λ archive. archive.space == space) archives && all_keep archives (suc space) count

-- no archive that stays needs a position up to this one
abbrev pub is_below : List Archive → ℕ → Bool
is_below archives last = list_all (λ archive. nat_lt last archive.low) archives

abbrev pub live_spans : Site → List Span
live_spans site = filter (λ span. is_live site.lines span.copy) (all_spans site.lines)

-- log files expire that no archive needs, once each space keeps one
abbrev pub expired_logs : List Archive → Site → List ℕ
expired_logs archives site =
    if all_keep archives 0 (length site.head.spaces) then map (λ span. span.copy) (filter (λ span. is_below archives span.last) (live_spans site)) else []

abbrev pub expired_archives : List Archive → Site → List ℕ
expired_archives archives site =
    map (λ archive. archive.copy) (filter (λ archive. not (is_among (map (λ a. a.copy) archives) archive.copy)) (live_archives site.lines))

-- all that expires, ascending
abbrev pub expired : ℕ → Site → List ℕ
expired keep site =
    filter (is_among (expired_archives (staying keep site) site ++ expired_logs (staying keep site) site)) (map suc (numbers site.store.last))

abbrev pub generations_course : ℕ → SiteCourse
generations_course keep = in_turn (check if_active ∷ (λ site. expire_course (expired keep site) site) ∷ [])
