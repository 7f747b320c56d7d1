-- Moves of appending and of backups leave a site's head and restore as they are, and its history but for what is appended.
use Rattle.std.specs.Prelude.{◌≡◌, ℕ, suc, List, [], ◌∷◌, ◌++◌, map, length, Bool, true, false, if◌then◌else◌, Option, None, Some, Result, Ok, Err}
use Rattle.std.specs.List.{AllByRecursion, list_all}
use Rattle.std.specs.Option.{option_map}
use Rattle.std.proofs.Common.{refl, sym, ap, subst, ◌∙◌}
use Rattle.log_history.specs.History.{History}
use Rattle.block_chain.specs.declared.runs.Run.{Run}
use Rattle.backup_lines.specs.Lines.{Span, archived, logged}
use Rattle.walks.specs.Courses.{after_all, for_each, make, then_do}
use Rattle.walks.specs.CoursesLaws.{after_all-append, then_next, then_none}
use Rattle.site_worlds.specs.Worlds.{Kept, Ring, Site}
use Rattle.site_worlds.specs.Moves.{Move, append_batch, append_reset, close_file, drop_oldest, next_file, mark_backed, format_log, commit_objects, append_lines, begin_restore, set_prepared, end_restore, move_lanes, opened, closed, less_oldest, with_backed, site_after, site_rules}
use Rattle.site_worlds.specs.Allowed.{HasRing}
use Rattle.world_laws.specs.ListLaws.{all_append, none_some}
use Rattle.site_courses.specs.Faults.{Fault}
use Rattle.site_courses.specs.Courses.{SiteCourse, check, in_turn, if_active, if_log_lost, if_any_lost, close_current, is_closable, is_at, to_end, lanes_to_end}
use Rattle.site_courses.specs.NewObjects.{commit_course, commit_fault, unless_full}
use Rattle.site_courses.specs.Backups.{next_span, send_file, back_up_file, files_to_save, save_files, if_lines_full, Made, made_of, commit_archives, archive_spaces, spaces_course}
use Rattle.site_courses.specs.Appending.{Room, fits, wants_next, wants_drop, is_full, room, append_with, append_to, append_course}

-- moves

-- the move leaves head, history and restore as they are, and the log there
abbrev pub IsQuiet : Move → Type 0
IsQuiet close_file = Unit {0}
IsQuiet drop_oldest = Unit {0}
IsQuiet next_file = Unit {0}
IsQuiet (mark_backed file) = Unit {0}
IsQuiet (commit_objects added deleted) = Unit {0}
IsQuiet (append_lines more) = Unit {0}
IsQuiet (move_lanes goals) = Unit {0}
IsQuiet (append_batch records) = ⊥
IsQuiet (append_reset restore target time) = ⊥
IsQuiet format_log = ⊥
IsQuiet (begin_restore point to) = ⊥
IsQuiet (set_prepared prepared) = ⊥
IsQuiet end_restore = ⊥

pub record IsAppended (records : History) (site other : Site) : Type 0 where
  pub head : other.head ≡ site.head
  pub history : other.history ≡ site.history ++ records
  pub active : other.active ≡ site.active
  pub has : HasRing site → HasRing other

pub no_more : (history : History) → history ≡ history ++ []
no_more [] = refl
no_more (entry ∷ history) = ap (λ (l : History). entry ∷ l) (no_more history)

quiet_one : (move : Move) (site : Site) → IsQuiet move → IsAppended [] site (site_after move site)
quiet_one close_file site quiet = record {
  head = refl;
  history = no_more site.history;
  active = refl;
  has = λ has. record { ring = closed has.ring; is = ap (option_map closed) has.is };
}
quiet_one drop_oldest site quiet = record {
  head = refl;
  history = no_more site.history;
  active = refl;
  has = λ has. record { ring = less_oldest has.ring; is = ap (option_map less_oldest) has.is };
}
quiet_one next_file site quiet = record {
  head = refl;
  history = no_more site.history;
  active = refl;
  has = λ has. record { ring = opened has.ring; is = ap (option_map opened) has.is };
}
quiet_one (mark_backed file) site quiet = record {
  head = refl;
  history = no_more site.history;
  active = refl;
  has = λ has. record { ring = with_backed file has.ring; is = ap (option_map (with_backed file)) has.is };
}
quiet_one (commit_objects added deleted) site quiet = record { head = refl; history = no_more site.history; active = refl; has = λ has. record { ring = has.ring; is = has.is } }
quiet_one (append_lines more) site quiet = record { head = refl; history = no_more site.history; active = refl; has = λ has. record { ring = has.ring; is = has.is } }
quiet_one (move_lanes goals) site quiet = record { head = refl; history = no_more site.history; active = refl; has = λ has. record { ring = has.ring; is = has.is } }
quiet_one (append_batch records) site quiet = absurd quiet
quiet_one (append_reset restore target time) site quiet = absurd quiet
quiet_one format_log site quiet = absurd quiet
quiet_one (begin_restore point to) site quiet = absurd quiet
quiet_one (set_prepared prepared) site quiet = absurd quiet
quiet_one end_restore site quiet = absurd quiet

appended_then : (records : History) (site mid other : Site) → IsAppended [] site mid → IsAppended records mid other → IsAppended records site other
appended_then records site mid other first next = record {
  head = next.head ∙ first.head;
  history = next.history ∙ ap (λ (h : History). h ++ records) (first.history ∙ sym (no_more site.history));
  active = next.active ∙ first.active;
  has = λ has. next.has (first.has has);
}

pub quiet_same : (moves : List Move) (site : Site) → AllByRecursion IsQuiet moves → IsAppended [] site (after_all site_rules moves site)
unfolding site_rules
quiet_same [] site quiet = record { head = refl; history = no_more site.history; active = refl; has = λ has. has }
quiet_same (move ∷ moves) site quiet =
    appended_then [] site (site_after move site) (after_all site_rules moves (site_after move site)) (quiet_one move site quiet.0) (quiet_same moves (site_after move site) quiet.1)

-- courses

abbrev pub IsQuietCourse : SiteCourse → Type 0
IsQuietCourse course = (site : Site) → AllByRecursion IsQuiet (course site).moves

quiet_then : (first next : SiteCourse) → IsQuietCourse first → IsQuietCourse next → IsQuietCourse (then_do site_rules first next)
quiet_then first next one other site = by (first site).fault refl
  where
    by : (fault : Option Fault) → (first site).fault ≡ fault → AllByRecursion IsQuiet (then_do site_rules first next site).moves
    by None is = subst (λ c. AllByRecursion IsQuiet c.moves) (sym (then_next site_rules first next site is))
        (all_append IsQuiet (first site).moves (next (after_all site_rules (first site).moves site)).moves (one site) (other (after_all site_rules (first site).moves site)))
    by (Some fault) is = subst (λ c. AllByRecursion IsQuiet c.moves) (sym (then_none site_rules first next site fault is)) (one site)

quiet_none : IsQuietCourse (in_turn [])
quiet_none site = tt

quiet_check : (test : Site → Option Fault) → IsQuietCourse (check test)
quiet_check test site = tt

quiet_each : {A : Type 0} (course : A → SiteCourse) → ((x : A) → IsQuietCourse (course x)) → (xs : List A) → IsQuietCourse (for_each site_rules course xs)
quiet_each course quiet [] site = tt
quiet_each course quiet (x ∷ xs) site = quiet_then (course x) (for_each site_rules course xs) (quiet x) (quiet_each course quiet xs) site

quiet_if : (b : Bool) (move : Move) → IsQuiet move → AllByRecursion IsQuiet (if b then [] else move ∷ [])
quiet_if true move quiet = tt
quiet_if false move quiet = (quiet, tt)

quiet_close : IsQuietCourse close_current
quiet_close site = by (is_closable site site.ring)
  where
    by : (b : Bool) → AllByRecursion IsQuiet (if b then close_file ∷ [] else [])
    by true = (tt, tt)
    by false = tt

pub quiet_lanes : (site : Site) → AllByRecursion IsQuiet (lanes_to_end site)
quiet_lanes site = quiet_if (list_all (is_at (length site.history)) site.lanes) (move_lanes (map (to_end (length site.history)) site.lanes)) tt

quiet_commit : (added : List Kept) (deleted : List ℕ) → IsQuietCourse (commit_course added deleted)
quiet_commit added deleted site = by (commit_fault site.store added deleted)
  where
    by : (o : Option Fault) → AllByRecursion IsQuiet (unless_full o added deleted).moves
    by None = (tt, tt)
    by (Some fault) = tt

quiet_send : (moment : ℕ) (span : Span) (runs : Option (List Run)) → IsQuietCourse (send_file moment span runs)
quiet_send moment span None site = tt
quiet_send moment span (Some runs) site =
    quiet_then _ (in_turn ((λ s. make (append_lines (logged span ∷ []) ∷ mark_backed span.file ∷ [])) ∷ [])) (λ s. quiet_commit _ [] s)
    (quiet_then (λ s. make (append_lines (logged span ∷ []) ∷ mark_backed span.file ∷ [])) (in_turn []) (λ s. (tt, (tt, tt))) quiet_none) site

quiet_save : (moment : ℕ) → IsQuietCourse (save_files moment)
quiet_save moment site = quiet_each (back_up_file moment) (λ file s. quiet_send moment (next_span s file) _ s) (files_to_save site.starts site.ring) site

quiet_made : (made : Result (List Made) ℕ) → IsQuietCourse (commit_archives made)
quiet_made (Err volume) site = tt
quiet_made (Ok made) site =
    quiet_then (for_each site_rules (λ one. commit_course (one.kept ∷ []) []) made) (in_turn ((λ s. make (append_lines (map (λ one. archived one.archive) made) ∷ [])) ∷ []))
    (quiet_each (λ (one : Made). commit_course (one.kept ∷ []) []) (λ one. quiet_commit (one.kept ∷ []) []) made)
    (quiet_then (λ s. make (append_lines (map (λ one. archived one.archive) made) ∷ [])) (in_turn []) (λ s. (tt, tt)) quiet_none) site

quiet_archives : (moment level : ℕ) (spaces : List ℕ) → IsQuietCourse (archive_spaces moment level spaces)
quiet_archives moment level spaces site = quiet_made (made_of site moment level (suc site.store.last) spaces) site

-- A backup of spaces leaves head, history and restore as they are.
pub quiet_spaces : (level : ℕ) (spaces : List ℕ) (moment : ℕ) → IsQuietCourse (spaces_course level spaces moment)
quiet_spaces level spaces moment =
    quiet_then (check if_active) _ (quiet_check if_active)
    (quiet_then (check if_log_lost) _ (quiet_check if_log_lost)
    (quiet_then (check if_any_lost) _ (quiet_check if_any_lost)
    (quiet_then close_current _ quiet_close
    (quiet_then (λ site. make (lanes_to_end site)) _ quiet_lanes
    (quiet_then (check (if_lines_full (length spaces))) _ (quiet_check (if_lines_full (length spaces)))
    (quiet_then (save_files moment) _ (quiet_save moment)
    (quiet_then (archive_spaces moment level spaces) (in_turn []) (quiet_archives moment level spaces) quiet_none)))))))

-- appending

batch_behind : (moves : List Move) (records : History) (site : Site) → AllByRecursion IsQuiet moves
    → IsAppended records site (after_all site_rules (moves ++ append_batch records ∷ []) site)
unfolding site_rules
batch_behind moves records site quiet =
    subst (IsAppended records site) (sym (after_all-append site_rules moves (append_batch records ∷ []) site))
    (appended_then records site (after_all site_rules moves site) (site_after (append_batch records) (after_all site_rules moves site)) (quiet_same moves site quiet)
    (record { head = refl; history = refl; active = refl; has = λ has. record { ring = has.ring; is = has.is } }))

with_room : (found : Room) (records : History) (site : Site) → (append_with found records site).fault ≡ None
    → IsAppended records site (after_all site_rules (append_with found records site).moves site)
with_room fits records site none = batch_behind [] records site tt
with_room wants_next records site none = batch_behind (next_file ∷ []) records site (tt, tt)
with_room wants_drop records site none =
    subst (λ (moves : List Move). IsAppended records site (after_all site_rules moves site)) (same (lanes_to_end site))
    (batch_behind (lanes_to_end site ++ drop_oldest ∷ next_file ∷ []) records site
    (all_append IsQuiet (lanes_to_end site) (drop_oldest ∷ next_file ∷ []) (quiet_lanes site) (tt, (tt, tt))))
  where
    same : (moves : List Move) → (moves ++ drop_oldest ∷ next_file ∷ []) ++ append_batch records ∷ [] ≡ moves ++ drop_oldest ∷ next_file ∷ append_batch records ∷ []
    same [] = refl
    same (move ∷ moves) = ap (λ (l : List Move). move ∷ l) (same moves)
with_room (is_full why) records site none = absurd (none_some (sym none))

-- Behind a batch that was appended the history has it, and all else of these is as it was.
pub appended_behind : (records : History) (site : Site) → HasRing site → (append_course records site).fault ≡ None
    → IsAppended records site (after_all site_rules (append_course records site).moves site)
appended_behind records site has none =
    subst (λ (o : Option Ring). (append_to o records site).fault ≡ None → IsAppended records site (after_all site_rules (append_to o records site).moves site)) (sym has.is)
    (λ no_fault. with_room (room site.history site.starts has.ring (length records)) records site no_fault) none
