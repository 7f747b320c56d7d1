-- The moves of upkeep may be made: lines that say that copies are gone, and deletions.
use Rattle.std.specs.Prelude.{◌≡◌, ℕ, zero, suc, ◌+◌, ◌==◌, ◌<◌, ◌≤◌, List, [], ◌∷◌, ◌++◌, length, map, Bool, true, false, not, ◌||◌, if◌then◌else◌, Option, None, Some, Contains}
use Rattle.std.specs.List.{AllByRecursion}
use Rattle.std.proofs.Common.{arith, refl, sym, ap, subst, ⊎_elim}
use Rattle.std.proofs.lemmas.Bool.{false≢true}
use Rattle.std.proofs.lemmas.Bool.Decides.{nat_tests}
use Rattle.log_history.specs.History.{History}
use Rattle.site_headers.specs.Heads.{Head}
use Rattle.block_chain.specs.Blocks.{times}
use Rattle.backup_lines.specs.Lines.{Span, Line, archived, logged, gone, is_live}
use Rattle.walks.specs.Courses.{only}
use Rattle.site_worlds.specs.Worlds.{Store, Site}
use Rattle.site_worlds.specs.Objects.{numbers, blocks_on}
use Rattle.site_worlds.specs.Fitness.{FitLine, copies_in, copy_in, IsFitSite}
use Rattle.site_worlds.specs.Moves.{is_among, append_lines}
use Rattle.site_worlds.specs.Allowed.{CanCommit, CanAddLines}
use Rattle.world_laws.specs.ListLaws.{all_append, all_filter, all_weaker, contains_cases, contains_none, none_some}
use Rattle.world_laws.specs.KeptLaws.{CanAll}
use Rattle.site_courses.specs.Faults.{Fault, no_such_copy}
use Rattle.site_courses.specs.Courses.{check, in_turn, if_active, if_boot_full}
use Rattle.site_courses.specs.NewObjects.{commit_fault, unless_full, commit_course}
use Rattle.site_courses.specs.Upkeep.{live_lines, live_copies, gone_lines, delete_objects, there, to_be_gone, unnamed, sync_course, expire_course, if_no_copy, expire_one, expired, expired_archives, expired_logs, staying, generations_course}
use Rattle.course_laws.specs.Leading.{Leads, LeadsFrom, leads_none, leads_then}
use Rattle.placing_laws.specs.PlacingLaws.{none_stand, sound_behind}

-- copy ids that were given
abbrev pub AreGiven : ℕ → List ℕ → Type 0
AreGiven last copies = AllByRecursion (λ copy. copy ≤ last) copies

pub copies_given : (head : Head) (history : History) (starts : List ℕ) (store : Store) (all lines : List Line)
    → AllByRecursion (FitLine head history starts store all) lines → AreGiven store.last (copies_in lines)
copies_given head history starts store all [] fit = tt
copies_given head history starts store all (archived archive ∷ lines) fit = (fit.0.copy, copies_given head history starts store all lines fit.1)
copies_given head history starts store all (logged span ∷ lines) fit = (fit.0.copy, copies_given head history starts store all lines fit.1)
copies_given head history starts store all (gone copy ∷ lines) fit = copies_given head history starts store all lines fit.1

live_given : (site : Site) → IsFitSite site → AreGiven site.store.last (live_lines site)
live_given site fit = all_filter (λ copy. copy ≤ site.store.last) (is_live site.lines) (copies_in site.lines)
    (copies_given site.head site.history site.starts site.store site.lines site.lines fit.lines.each)

-- lines that say that copies are gone

no_copies : (copies : List ℕ) → copies_in (map gone copies) ≡ []
no_copies [] = refl
no_copies (copy ∷ copies) = no_copies copies

same_times : (lines : List Line) (copies : List ℕ) (copy : ℕ) → times copy (copies_in (lines ++ map gone copies)) ≡ times copy (copies_in lines)
same_times [] copies copy = ap (times copy) (no_copies copies)
same_times (archived archive ∷ lines) copies copy = ap (λ (n : ℕ). (if archive.copy == copy then 1 else 0) + n) (same_times lines copies copy)
same_times (logged span ∷ lines) copies copy = ap (λ (n : ℕ). (if span.copy == copy then 1 else 0) + n) (same_times lines copies copy)
same_times (gone other ∷ lines) copies copy = same_times lines copies copy

not_logged : (copies : List ℕ) (span : Span) → Contains (map gone copies) (logged span) → ⊥
not_logged [] span is = contains_none (logged span) is
not_logged (copy ∷ copies) span is = ⊎_elim (λ same. none_some (ap copy_in same)) (λ later. not_logged copies span later)
    (contains_cases (logged span) (gone copy) (map gone copies) is)

all_gone : (head : Head) (history : History) (starts : List ℕ) (store : Store) (all : List Line) (copies : List ℕ) → AreGiven store.last copies
    → AllByRecursion (FitLine head history starts store all) (map gone copies)
all_gone head history starts store all [] given = tt
all_gone head history starts store all (copy ∷ copies) given = (given.0, all_gone head history starts store all copies given.1)

can_be_gone : (copies : List ℕ) (site : Site) → IsFitSite site → AreGiven site.store.last copies → CanAddLines (map gone copies) site
can_be_gone copies site fit given = record {
  each = all_gone site.head site.history site.starts site.store (site.lines ++ map gone copies) copies given;
  once = λ copy. subst (λ (n : ℕ). n ≤ 1) (sym (same_times site.lines copies copy)) (fit.lines.once copy);
  files = λ span is. absurd (not_logged copies span is);
}

pub gone_can : (copies : List ℕ) (site : Site) → IsFitSite site → AreGiven site.store.last copies → CanAll (gone_lines copies site).moves site
gone_can copies site fit given = by (length copies == 0)
  where
    by : (b : Bool) → CanAll (if b then [] else append_lines (map gone copies) ∷ []) site
    by true = tt
    by false = (can_be_gone copies site fit given, tt)

-- deletions

abbrev pub Any : Site → Type 0
Any site = Unit {0}

can_delete : (copies : List ℕ) (site : Site) → IsFitSite site → CanCommit [] copies site
can_delete copies site fit = record {
  follow = tt;
  each = tt;
  apart = λ volume. sound_behind site.head.blocks site.store.kept [] copies volume (fit.store.apart volume)
      (none_stand site.head.blocks (blocks_on volume site.store.kept));
}

pub delete_leads : (copies : List ℕ) (site : Site) → IsFitSite site → Leads site (delete_objects copies site) Any
delete_leads copies site fit = by (length copies == 0)
  where
    full : (fault : Option Fault) → Leads site (unless_full fault [] copies) Any
    full None = record { can = (can_delete copies site fit, tt); then_holds = λ none. tt }
    full (Some fault) = record { can = tt; then_holds = λ none. tt }

    by : (b : Bool) → Leads site (if b then only None else commit_course [] copies site) Any
    by true = record { can = tt; then_holds = λ none. tt }
    by false = full (commit_fault site.store [] copies)

-- `-sync`
pub leads_sync : LeadsFrom Any sync_course Any
leads_sync =
    leads_then Any Any Any (check (λ site. if_boot_full (length (to_be_gone site)) site))
    (in_turn ((λ site. gone_lines (to_be_gone site) site) ∷ (λ site. delete_objects (unnamed site) site) ∷ []))
    (λ site fit any. record { can = tt; then_holds = λ none. tt })
    (leads_then Any Any Any (λ site. gone_lines (to_be_gone site) site) (in_turn ((λ site. delete_objects (unnamed site) site) ∷ []))
    (λ site fit any. record {
      can = gone_can (to_be_gone site) site fit
          (all_filter (λ copy. copy ≤ site.store.last) (λ copy. not (is_among (live_copies site) copy)) (live_lines site) (live_given site fit));
      then_holds = λ none. tt;
    })
    (leads_then Any Any Any (λ site. delete_objects (unnamed site) site) (in_turn []) (λ site fit any. delete_leads (unnamed site) site fit) (leads_none Any)))

-- copies that expire
leads_expire : (copies : List ℕ) → LeadsFrom (λ site. AreGiven site.store.last copies) (expire_course copies) Any
leads_expire copies =
    leads_then Given Given Any (check (if_boot_full (length copies)))
    (in_turn (gone_lines copies ∷ (λ site. delete_objects (there site copies) site) ∷ []))
    (λ site fit given. record { can = tt; then_holds = λ none. given })
    (leads_then Given Any Any (gone_lines copies) (in_turn ((λ site. delete_objects (there site copies) site) ∷ []))
    (λ site fit given. record { can = gone_can copies site fit given; then_holds = λ none. tt })
    (leads_then Any Any Any (λ site. delete_objects (there site copies) site) (in_turn []) (λ site fit any. delete_leads (there site copies) site fit) (leads_none Any)))
  where
    Given : Site → Type 0
    Given site = AreGiven site.store.last copies

-- what is among numbers has what each of them has
among_holds : (P : ℕ → Type 0) (list : List ℕ) (n : ℕ) → AllByRecursion P list → is_among list n ≡ true → P n
among_holds P [] n all is = absurd (false≢true is)
among_holds P (other ∷ list) n all is = by (other == n) refl is (among_holds P list n all.1)
  where
    by : (b : Bool) → (other == n) ≡ b → (b || is_among list n) ≡ true → (is_among list n ≡ true → P n) → P n
    by true same found later = let e : other ≡ n = grind (arith, nat_tests, same) in subst P e all.0
    by false same found later = later found

-- `-x`
pub leads_expire_one : (copy : ℕ) → LeadsFrom Any (expire_one copy) Any
leads_expire_one copy =
    leads_then Any Any Any (check if_active) (in_turn (check (if_no_copy copy) ∷ expire_course (copy ∷ []) ∷ []))
    (λ site fit any. record { can = tt; then_holds = λ none. tt })
    (leads_then Any Given Any (check (if_no_copy copy)) (in_turn (expire_course (copy ∷ []) ∷ []))
    (λ site fit any. record { can = tt; then_holds = λ none. (found site fit (is_among (live_lines site) copy) refl none, tt) })
    (leads_then Given Any Any (expire_course (copy ∷ [])) (in_turn []) (leads_expire (copy ∷ [])) (leads_none Any)))
  where
    Given : Site → Type 0
    Given site = AreGiven site.store.last (copy ∷ [])

    found : (site : Site) → IsFitSite site → (b : Bool) → is_among (live_lines site) copy ≡ b → (if b then None else Some (no_such_copy copy)) ≡ None → copy ≤ site.store.last
    found site fit true is none = among_holds (λ c. c ≤ site.store.last) (live_lines site) copy (live_given site fit) is
    found site fit false is none = absurd (none_some (sym none))

all_numbers : (n : ℕ) → AllByRecursion (λ k. k < n) (numbers n)
all_numbers zero = tt
all_numbers (suc n) = all_append (λ k. k < suc n) (numbers n) (n ∷ [])
    (all_weaker (λ k. k < n) (λ k. k < suc n) (numbers n) (λ k lt. omega (arith, lt)) (all_numbers n)) (omega arith, tt)

all_next : (n : ℕ) (list : List ℕ) → AllByRecursion (λ k. k < n) list → AreGiven n (map suc list)
all_next n [] all = tt
all_next n (k ∷ list) all = (omega (arith, all.0), all_next n list all.1)

expired_given : (keep : ℕ) (site : Site) → AreGiven site.store.last (expired keep site)
expired_given keep site = all_filter (λ copy. copy ≤ site.store.last) (is_among (expired_archives (staying keep site) site ++ expired_logs (staying keep site) site))
    (map suc (numbers site.store.last)) (all_next site.store.last (numbers site.store.last) (all_numbers site.store.last))

-- `-g`
pub leads_generations : (keep : ℕ) → LeadsFrom Any (generations_course keep) Any
leads_generations keep =
    leads_then Any Any Any (check if_active) (in_turn ((λ site. expire_course (expired keep site) site) ∷ []))
    (λ site fit any. record { can = tt; then_holds = λ none. tt })
    (leads_then Any Any Any (λ site. expire_course (expired keep site) site) (in_turn [])
    (λ site fit any. leads_expire (expired keep site) site fit (expired_given keep site)) (leads_none Any))
