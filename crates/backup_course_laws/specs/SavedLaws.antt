-- Once the log is saved each of its records is in a file with a line.
use Rattle.std.specs.Prelude.{◌≡◌, ℕ, zero, suc, ◌+◌, ◌-◌, ◌^◌, ◌<◌, ◌≤◌, List, [], ◌∷◌, length, Bool, true, false, ◌&&◌, nat_le, if◌then◌else◌, Option, None}
use Rattle.std.specs.Option.{option_map}
use Rattle.std.proofs.Common.{arith, refl, sym, ap, subst, ◌∙◌, ⊎_elim}
use Rattle.std.proofs.lemmas.Bool.{cases_lt, false≢true}
use Rattle.walks.specs.Courses.{only, make, for_each}
use Rattle.site_worlds.specs.Worlds.{Ring, Site}
use Rattle.site_worlds.specs.Files.{first_of_file, last_of_file, HasRecords, IsEmptyAtEnd, IsLogged, last_logged, IsSaved}
use Rattle.site_worlds.specs.Fitness.{FitRing, IsFitSite}
use Rattle.site_worlds.specs.Moves.{closed, close_file, site_rules}
use Rattle.site_worlds.specs.Allowed.{HasRing}
use Rattle.world_laws.specs.GrowthLaws.{first_beyond}
use Rattle.world_laws.specs.LinesLaws.{logged_reaches, span_fits}
use Rattle.world_laws.specs.RingLaws.{ring_of}
use Rattle.site_courses.specs.Courses.{SiteCourse, check, in_turn, if_active, if_log_lost, if_any_lost, is_closable, close_current}
use Rattle.site_courses.specs.Backups.{back_up_file, files_from, files_to_save, save_files, if_lines_full, logs_course}
use Rattle.course_laws.specs.Leading.{LeadsBy, LeadsFrom, leads_none, leads_then}
use Rattle.course_laws.specs.AppendingLaws.{at_most, not_at_most, second_true, ring_there}
use Rattle.backup_course_laws.specs.UpkeepLaws.{Any}
use Rattle.backup_course_laws.specs.SavingLaws.{AreSaving, saving_can, SavesFrom, saves_then, IsSavedFrom, saved_from_itself, last_closed, next_file_is, IsBackedUp, leads_file}

-- with the log there no more files are marked as backed up than are closed
backed_closed : (site : Site) (has : HasRing site) → IsFitSite site → has.ring.backed ≤ last_closed (length site.starts) has.ring
backed_closed site has fit = by has.ring.is_open refl
  where
    holds : FitRing site.history site.starts site.lines has.ring
    holds = ring_of site has.ring has.is fit

    by : (b : Bool) → has.ring.is_open ≡ b → has.ring.backed ≤ (if b then length site.starts - 1 else length site.starts)
    by false is = holds.backed
    by true is = ⊎_elim
        (λ some. let logged : IsLogged site.lines has.ring.backed = holds.saved has.ring.backed some (omega arith) in
        omega (arith, holds.closed logged.0 logged.1 is, logged.2))
        (λ none. omega (arith, none))
        (cases_lt 0 has.ring.backed)

module _ (first : Site) (opened : Bool) where
  -- the log is there, and the saving has left all else as it was
  pub record HasLog (site : Site) : Type 0 where
    pub same : IsSavedFrom first site
    pub has : HasRing site
    pub is_open : has.ring.is_open ≡ opened

  -- a file's turn has come, and those behind it, so many in all
  record IsTurnOf (file count : ℕ) (site : Site) : Type 0 where
    log : HasLog site
    next : file ≡ suc log.has.ring.backed
    upto : file + count ≡ suc (last_closed (length site.starts) log.has.ring)

  -- all closed files are marked as backed up
  pub record AreMarked (site : Site) : Type 0 where
    pub log : HasLog site
    pub all : log.has.ring.backed ≡ last_closed (length site.starts) log.has.ring

  module _ (moment : ℕ) (early : moment < 2 ^ 64) where
    leads_turn : (file count : ℕ) → SavesFrom (IsTurnOf file (suc count)) (back_up_file moment file) (IsTurnOf (suc file) count)
    leads_turn file count site fit turn = record {
      can = leads.can;
      then_holds = λ none. behind (leads.then_holds none);
    }
      where
        log : HasLog site
        log = turn.log

        leads : LeadsBy AreSaving site (back_up_file moment file site) (IsBackedUp first moment early site fit log.same log.has file
            (next_file_is site log.has file fit turn.next (omega (arith, turn.upto))))
        leads = leads_file first moment early site fit log.same log.has file (next_file_is site log.has file fit turn.next (omega (arith, turn.upto)))

        behind : {other : Site} → IsBackedUp first moment early site fit log.same log.has file (next_file_is site log.has file fit turn.next (omega (arith, turn.upto))) other
            → IsTurnOf (suc file) count other
        behind {other} up = record {
          log = record { same = up.same; has = up.has_ring; is_open = ap (λ (r : Ring). r.is_open) up.ring ∙ log.is_open };
          next = ap suc (sym (ap (λ (r : Ring). r.backed) up.ring));
          upto = omega (
            arith,
            turn.upto,
            ap (λ (r : Ring). last_closed (length other.starts) r) up.ring,
            ap (λ (l : List ℕ). last_closed (length l) log.has.ring) (up.same.starts ∙ sym log.same.starts),
          );
        }

    leads_turns : (file count : ℕ) → SavesFrom (IsTurnOf file count) (for_each site_rules (back_up_file moment) (files_from file count)) AreMarked
    leads_turns file zero site fit turn = record { can = tt; then_holds = λ none. record { log = turn.log; all = omega (arith, turn.next, turn.upto) } }
    leads_turns file (suc count) site fit turn =
        saves_then (IsTurnOf file (suc count)) (IsTurnOf (suc file) count) AreMarked (back_up_file moment file)
        (for_each site_rules (back_up_file moment) (files_from (suc file) count)) (leads_turn file count) (leads_turns (suc file) count) site fit turn

    -- The files of the log are saved by moves that may be made.
    pub leads_save : SavesFrom HasLog (save_files moment) AreMarked
    leads_save site fit log = subst (λ (o : Option Ring). LeadsBy AreSaving site (for_each site_rules (back_up_file moment) (files_to_save site.starts o) site) AreMarked)
        (sym log.has.is)
        (leads_turns (suc log.has.ring.backed) (last_closed (length site.starts) log.has.ring - log.has.ring.backed) site fit (record {
          log = log;
          next = refl;
          upto = omega (arith, backed_closed site log.has fit);
        }))

-- the current file is closed

-- the current file is closed or empty
pub record IsClosed (first site : Site) : Type 0 where
  pub same : IsSavedFrom first site
  pub has : HasRing site
  pub empty : has.ring.is_open ≡ true → IsEmptyAtEnd site.starts site.history

pub leads_close : (first : Site) → SavesFrom (λ site. IsSavedFrom first site × HasRing site) close_current (IsClosed first)
unfolding site_rules
leads_close first site fit before = subst (λ (o : Option Ring). LeadsBy AreSaving site (make (if is_closable site o then close_file ∷ [] else [])) (IsClosed first)) (sym before.1.is)
    (by (before.1.ring.is_open && nat_le (first_of_file site.starts site.history (length site.starts)) (length site.history)) refl)
  where
    ring : Ring
    ring = before.1.ring

    by : (b : Bool) → (before.1.ring.is_open && nat_le (first_of_file site.starts site.history (length site.starts)) (length site.history)) ≡ b
        → LeadsBy AreSaving site (make (if b then close_file ∷ [] else [])) (IsClosed first)
    by true is = record {
      can = (
        tt,
        record {
          has = before.1;
          filled = omega (
            arith,
            at_most (first_of_file site.starts site.history (length site.starts)) (length site.history) (second_true before.1.ring.is_open _ is),
            first_beyond site.starts (length site.history) (length site.starts + 1 - 1) (omega arith),
          );
        },
        tt,
      );
      then_holds = λ none. record {
        same = record {
          head = before.0.head;
          history = before.0.history;
          starts = before.0.starts;
          number = before.0.number;
          active = before.0.active;
          lanes = before.0.lanes;
          archives = before.0.archives;
        };
        has = record { ring = closed before.1.ring; is = ap (option_map closed) before.1.is };
        empty = λ o. absurd (false≢true o);
      };
    }
    by false is = record {
      can = tt;
      then_holds = λ none. record {
        same = before.0;
        has = before.1;
        empty = λ o. omega (
          arith,
          fit.history.inside (length site.starts),
          not_at_most (first_of_file site.starts site.history (length site.starts)) (length site.history)
              (sym (ap (λ (b : Bool). b && nat_le (first_of_file site.starts site.history (length site.starts)) (length site.history)) o) ∙ is),
        );
      };
    }

-- what is saved

pub marked_saved : (site : Site) (has : HasRing site) → IsFitSite site → (has.ring.is_open ≡ true → IsEmptyAtEnd site.starts site.history)
    → has.ring.backed ≡ last_closed (length site.starts) has.ring → IsSaved site.history site.starts has.ring
marked_saved site has fit empty all = record {
  backed = λ file from le filled. subst (λ (n : ℕ). file ≤ n) (sym all) (by has.ring.is_open refl file le filled);
  current = empty;
}
  where
    end : first_of_file site.starts site.history (length site.starts + 1) ≡ suc (length site.history)
    end = first_beyond site.starts (length site.history) (length site.starts + 1 - 1) (omega arith)

    by : (b : Bool) → has.ring.is_open ≡ b → (file : ℕ) → file ≤ length site.starts → HasRecords site.starts site.history file
        → file ≤ (if b then length site.starts - 1 else length site.starts)
    by false is file le filled = le
    by true is file le filled = ⊎_elim
        (λ lt. omega (arith, lt))
        (λ last. let same : file ≡ length site.starts = omega (arith, last, le) in
        let full : HasRecords site.starts site.history (length site.starts) = subst (HasRecords site.starts site.history) same filled in
        absurd (omega (arith, full, end, empty is)))
        (cases_lt file (length site.starts))

-- a file that is backed up reaches its last position
logged_to : (site : Site) → IsFitSite site → (file : ℕ) → IsLogged site.lines file → last_of_file site.starts site.history file ≤ last_logged site.lines
logged_to site fit file logged =
    let agrees = (span_fits site.head site.history site.starts site.store site.lines logged.0 fit.lines logged.1).agrees in
    omega (arith, agrees.last, ap (last_of_file site.starts site.history) logged.2, logged_reaches site.lines logged.0 logged.1)

-- Once the log is saved, files with lines reach its end.
pub saved_reaches : (site : Site) (has : HasRing site) → IsFitSite site → IsSaved site.history site.starts has.ring → length site.history ≤ last_logged site.lines
saved_reaches site has fit saved = ⊎_elim full empty (cases_lt (first_of_file site.starts site.history (length site.starts)) (suc (length site.history)))
  where
    holds : FitRing site.history site.starts site.lines has.ring
    holds = ring_of site has.ring has.is fit

    end : first_of_file site.starts site.history (length site.starts + 1) ≡ suc (length site.history)
    end = first_beyond site.starts (length site.history) (length site.starts + 1 - 1) (omega arith)

    backed : (file : ℕ) → 1 ≤ file → file ≤ length site.starts → HasRecords site.starts site.history file → IsLogged site.lines file
    backed file some le filled = ⊎_elim
        (λ dropped. holds.saved file some (omega (arith, dropped, holds.dropped)))
        (λ held. holds.saved file some (saved.backed file held le filled))
        (cases_lt file has.ring.oldest)

    full : first_of_file site.starts site.history (length site.starts) < suc (length site.history) → length site.history ≤ last_logged site.lines
    full lt = omega (
      arith,
      end,
      logged_to site fit (length site.starts) (backed (length site.starts) (omega (arith, holds.oldest, holds.held)) (omega arith) (omega (arith, lt, end))),
    )

    earlier : (count : ℕ) → length site.starts ≡ count → suc (length site.history) ≤ first_of_file site.starts site.history count → length site.history ≤ last_logged site.lines
    earlier zero is late = absurd (omega (arith, is, holds.oldest, holds.held))
    earlier (suc zero) is late = omega (arith, late, fit.history.begins)
    earlier (suc (suc count)) is late =
        let filled : HasRecords site.starts site.history (suc count) = fit.history.rising (suc count) (omega arith) (omega (arith, is)) in
        let next : first_of_file site.starts site.history (suc count + 1) ≡ first_of_file site.starts site.history (suc (suc count)) =
        ap (first_of_file site.starts site.history) (omega arith) in
        omega (arith, next, late, logged_to site fit (suc count) (backed (suc count) (omega arith) (omega (arith, is)) filled))

    empty : suc (length site.history) ≤ first_of_file site.starts site.history (length site.starts) → length site.history ≤ last_logged site.lines
    empty late = earlier (length site.starts) refl late

-- `-b -l`

saving_leads : (Before Next : Site → Type 0) (course : SiteCourse) → SavesFrom Before course Next → LeadsFrom Before course Next
saving_leads Before Next course saves site fit before =
    let leads : LeadsBy AreSaving site (course site) Next = saves site fit before in
    record { can = saving_can (course site).moves site leads.can; then_holds = leads.then_holds }

pub log_now : (site : Site) (has : HasRing site) → HasLog site has.ring.is_open site
log_now site has = record { same = saved_from_itself site; has = has; is_open = refl }

-- the log is there
abbrev WithLog : Site → Type 0
WithLog site = HasRing site

leads_save_now : (moment : ℕ) → moment < 2 ^ 64 → LeadsFrom WithLog (save_files moment) Any
leads_save_now moment early site fit has =
    let leads : LeadsBy AreSaving site (save_files moment site) (AreMarked site has.ring.is_open) = leads_save site has.ring.is_open moment early site fit (log_now site has) in
    record { can = saving_can (save_files moment site).moves site leads.can; then_holds = λ none. tt }

pub leads_close_now : LeadsFrom WithLog close_current WithLog
leads_close_now site fit has =
    let leads : LeadsBy AreSaving site (close_current site) (IsClosed site) = leads_close site site fit (saved_from_itself site, has) in
    record { can = saving_can (close_current site).moves site leads.can; then_holds = λ none. (leads.then_holds none).has }

abbrev nothing : SiteCourse
nothing = λ site. only None

if_salvages : (b : Bool) → LeadsFrom WithLog (if b then nothing else check if_any_lost) WithLog
if_salvages true site fit has = record { can = tt; then_holds = λ none. has }
if_salvages false site fit has = record { can = tt; then_holds = λ none. has }

if_closes : (b : Bool) → LeadsFrom WithLog (if b then close_current else nothing) WithLog
if_closes true site fit has = leads_close_now site fit has
if_closes false site fit has = record { can = tt; then_holds = λ none. has }

pub leads_logs : (closes salvages : Bool) (moment : ℕ) → moment < 2 ^ 64 → LeadsFrom Any (logs_course closes salvages moment) Any
leads_logs closes salvages moment early =
    leads_then Any Any Any (check if_active) _ (λ site fit any. record { can = tt; then_holds = λ none. tt })
    (leads_then Any WithLog Any (check if_log_lost) _ (λ site fit any. record { can = tt; then_holds = λ none. ring_there site site.ring refl none })
    (leads_then WithLog WithLog Any (if salvages then nothing else check if_any_lost) _ (if_salvages salvages)
    (leads_then WithLog WithLog Any (if closes then close_current else nothing) _ (if_closes closes)
    (leads_then WithLog WithLog Any (check (if_lines_full 0)) _ (λ site fit has. record { can = tt; then_holds = λ none. has })
    (leads_then WithLog Any Any (save_files moment) (in_turn []) (leads_save_now moment early) (leads_none Any))))))
