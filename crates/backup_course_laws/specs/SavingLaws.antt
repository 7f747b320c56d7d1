-- The log is saved by moves that may be made: each closed file gets an object, a line and the mark.
use Rattle.std.specs.Prelude.{◌≡◌, ◌⊎◌, ℕ, zero, suc, ◌+◌, ◌-◌, ◌^◌, ◌==◌, ◌<◌, ◌≤◌, List, [], ◌∷◌, ◌++◌, length, filter, Bool, true, false, not, ◌||◌, if◌then◌else◌, Option, None, Some, Contains}
use Rattle.std.specs.List.{filter_map, list_any}
use Rattle.std.specs.Option.{option_map}
use mathlib.Core.Logic.{inl, inr}
use Rattle.std.proofs.Common.{arith, refl, sym, ap, subst, ◌∙◌, ⊎_elim}
use Rattle.std.proofs.lemmas.Bool.{cases_lt, false≢true}
use Rattle.std.proofs.lemmas.Bool.Decides.{nat_tests}
use Rattle.std.proofs.lemmas.List.Elements.{Contains-append_cases, Contains-append_right, filter_agree}
use Rattle.block_chain.specs.Blocks.{times}
use Rattle.block_chain.specs.declared.runs.Run.{Run}
use Rattle.backup_lines.specs.Lines.{Archive, Span, Line, archived, logged, gone, tells_gone, is_live, archive_in, span_in, live_archives}
use Rattle.walks.specs.Courses.{after_all, make, then_do}
use Rattle.site_worlds.specs.Worlds.{Kept, Store, Ring, Site}
use Rattle.site_worlds.specs.Files.{first_of_file, HasRecords, Agrees}
use Rattle.site_worlds.specs.Objects.{Holds, log_bytes}
use Rattle.site_worlds.specs.Fitness.{AscendWithin, FitRing, copies_in, IsFitSite}
use Rattle.site_worlds.specs.Moves.{Move, is_among, with_backed, commit_objects, append_lines, mark_backed, store_after, site_after, site_rules}
use Rattle.site_worlds.specs.Allowed.{HasRing, CanMove, CanAddLines}
use Rattle.world_laws.specs.ListLaws.{contains_cases, contains_filter, contains_here, contains_none, none_some, some_same}
use Rattle.world_laws.specs.RingLaws.{ring_of}
use Rattle.world_laws.specs.KeptLaws.{CanAll}
use Rattle.site_courses.specs.Faults.{Fault}
use Rattle.site_courses.specs.Courses.{SiteCourse, in_turn}
use Rattle.site_courses.specs.NewObjects.{new_runs, log_label, new_kept, commit_fault, unless_full, commit_course}
use Rattle.site_courses.specs.Backups.{next_span, send_file, back_up_file}
use Rattle.site_stories.specs.Restores.{IsSaving}
use Rattle.course_laws.specs.Leading.{LeadsBy, both_lead}
use Rattle.placing_laws.specs.PlacingLaws.{AreNewRuns, new_runs_are, new_stands, one_stands}
use Rattle.placing_laws.specs.ObjectLaws.{log_label_fits, new_is_kept, ids_left, can_add}
use Rattle.backup_course_laws.specs.UpkeepLaws.{AreGiven, copies_given}

-- moves that save the log, each of which may be made
abbrev pub AreSaving : List Move → Site → Type 0
AreSaving [] site = Unit {0}
AreSaving (move ∷ moves) site = IsSaving move × CanMove move site × AreSaving moves (site_after move site)

pub saving_can : (moves : List Move) (site : Site) → AreSaving moves site → CanAll moves site
saving_can [] site are = tt
saving_can (move ∷ moves) site are = (are.1, saving_can moves (site_after move site) are.2)

pub saving_append : (moves more : List Move) (site : Site) → AreSaving moves site → AreSaving more (after_all site_rules moves site) → AreSaving (moves ++ more) site
unfolding site_rules
saving_append [] more site are rest = rest
saving_append (move ∷ moves) more site are rest = (are.0, are.1, saving_append moves more (site_after move site) are.2 rest)

abbrev pub SavesFrom : (Site → Type 0) → SiteCourse → (Site → Type 0) → Type 0
SavesFrom Before course Next = (site : Site) → IsFitSite site → Before site → LeadsBy AreSaving site (course site) Next

module _ (Before Mid Next : Site → Type 0) (first next : SiteCourse) where
  pub saves_then : SavesFrom Before first Mid → SavesFrom Mid next Next → SavesFrom Before (then_do site_rules first next) Next
  saves_then one other site fit before =
      both_lead AreSaving AreSaving AreSaving saving_can (λ moves s are. are) saving_append Mid Next first next site fit (one site fit before) other

pub saves_none : (Before : Site → Type 0) → SavesFrom Before (in_turn []) Before
saves_none Before site fit before = record { can = tt; then_holds = λ none. before }

-- What the saving of the log leaves as it was.
pub record IsSavedFrom (first site : Site) : Type 0 where
  pub head : site.head ≡ first.head
  pub history : site.history ≡ first.history
  pub starts : site.starts ≡ first.starts
  pub number : site.number ≡ first.number
  pub active : site.active ≡ first.active
  pub lanes : site.lanes ≡ first.lanes
  pub archives : live_archives site.lines ≡ live_archives first.lines

pub saved_from_itself : (site : Site) → IsSavedFrom site site
saved_from_itself site = record { head = refl; history = refl; starts = refl; number = refl; active = refl; lanes = refl; archives = refl }

-- lines of log files leave the archives as they were

archives_logged : (lines : List Line) (span : Span) → filter_map archive_in (lines ++ logged span ∷ []) ≡ filter_map archive_in lines
archives_logged [] span = refl
archives_logged (archived archive ∷ lines) span = ap (λ (l : List Archive). archive ∷ l) (archives_logged lines span)
archives_logged (logged other ∷ lines) span = archives_logged lines span
archives_logged (gone copy ∷ lines) span = archives_logged lines span

told_logged : (lines : List Line) (span : Span) (copy : ℕ) → list_any (tells_gone copy) (lines ++ logged span ∷ []) ≡ list_any (tells_gone copy) lines
told_logged [] span copy = refl
told_logged (line ∷ lines) span copy = ap (λ (b : Bool). tells_gone copy line || b) (told_logged lines span copy)

pub live_logged : (lines : List Line) (span : Span) → live_archives (lines ++ logged span ∷ []) ≡ live_archives lines
live_logged lines span =
    ap (filter (λ archive. is_live (lines ++ logged span ∷ []) archive.copy)) (archives_logged lines span)
    ∙ filter_agree (λ archive. is_live (lines ++ logged span ∷ []) archive.copy) (λ archive. is_live lines archive.copy)
    (λ archive. ap not (told_logged lines span archive.copy)) (filter_map archive_in lines)

-- the copy id of a new line

ascend_le : (before last : ℕ) (kept : List Kept) → AscendWithin before last kept → before ≤ last
ascend_le before last [] ascend = ascend
ascend_le before last (k ∷ kept) ascend = omega (arith, ascend.0, ascend_le k.object.copy last kept ascend.1)

pub kept_given : (before last : ℕ) (kept : List Kept) (one : Kept) → AscendWithin before last kept → Contains kept one → one.object.copy ≤ last
kept_given before last [] one ascend is = absurd (contains_none one is)
kept_given before last (k ∷ kept) one ascend is = ⊎_elim
    (λ same. subst (λ (o : Kept). o.object.copy ≤ last) same (ascend_le k.object.copy last kept ascend.1))
    (λ later. kept_given k.object.copy last kept one ascend.1 later)
    (contains_cases one k kept is)

-- a new object has its bytes and stands on its volume
pub holds_new : (one : Kept) (store : Store) → AscendWithin 0 store.last store.kept → one.object.copy ≡ suc store.last
    → Holds (store_after (one ∷ []) [] store) one.object.copy one.object.volume one.bytes
holds_new one store ascend new kept contains copy =
    by (Contains-append_cases (filter (λ k. not (is_among [] k.object.copy)) store.kept) (one ∷ []) kept contains)
  where
    by : Contains (filter (λ k. not (is_among [] k.object.copy)) store.kept) kept ⊎ Contains (one ∷ []) kept → (kept.bytes ≡ one.bytes) × (kept.object.volume ≡ one.object.volume)
    by (inl old) = absurd (omega (
      arith,
      kept_given 0 store.last store.kept kept ascend (contains_filter (λ k. not (is_among [] k.object.copy)) store.kept kept old),
      copy,
      new,
    ))
    by (inr added) = ⊎_elim
        (λ it. (sym (ap (λ (k : Kept). k.bytes) it), sym (ap (λ (k : Kept). k.object.volume) it)))
        (λ none. absurd (contains_none kept none))
        (contains_cases kept one [] added)

pub none_given : (last : ℕ) (copies : List ℕ) (copy : ℕ) → AreGiven last copies → last < copy → times copy copies ≡ 0
none_given last [] copy given lt = refl
none_given last (other ∷ copies) copy given lt = by (other == copy) refl (none_given last copies copy given.1 lt)
  where
    by : (b : Bool) → (other == copy) ≡ b → times copy copies ≡ 0 → (if b then 1 else 0) + times copy copies ≡ 0
    by true is none = let same : other ≡ copy = grind (arith, nat_tests, is) in absurd (omega (arith, given.0, lt, same))
    by false is none = omega (arith, none)

times_logged : (lines : List Line) (span : Span) (copy : ℕ)
    → times copy (copies_in (lines ++ logged span ∷ [])) ≡ times copy (copies_in lines) + (if span.copy == copy then 1 else 0)
times_logged [] span copy = by (span.copy == copy)
  where
    by : (b : Bool) → (if b then 1 else 0) + 0 ≡ 0 + (if b then 1 else 0)
    by true = refl
    by false = refl
times_logged (archived archive ∷ lines) span copy = omega (arith, times_logged lines span copy)
times_logged (logged other ∷ lines) span copy = omega (arith, times_logged lines span copy)
times_logged (gone other ∷ lines) span copy = times_logged lines span copy

-- a new line has a new copy id
once_more : (lines : List Line) (span : Span) (last : ℕ) → ((copy : ℕ) → times copy (copies_in lines) ≤ 1) → AreGiven last (copies_in lines) → last < span.copy
    → (copy : ℕ) → times copy (copies_in (lines ++ logged span ∷ [])) ≤ 1
once_more lines span last once given lt copy = by (span.copy == copy) refl (times_logged lines span copy)
  where
    by : (b : Bool) → (span.copy == copy) ≡ b
        → times copy (copies_in (lines ++ logged span ∷ [])) ≡ times copy (copies_in lines) + (if b then 1 else 0) → times copy (copies_in (lines ++ logged span ∷ [])) ≤ 1
    by true is sum =
        let same : span.copy ≡ copy = grind (arith, nat_tests, is) in
        omega (arith, sum, none_given last (copies_in lines) copy given (omega (arith, lt, same)))
    by false is sum = omega (arith, sum, once copy)

-- files

-- the last closed file
abbrev pub last_closed : ℕ → Ring → ℕ
last_closed count ring = if ring.is_open then count - 1 else count

-- a file begins at its number at the earliest
file_behind : (site : Site) → IsFitSite site → (file : ℕ) → 1 ≤ file → file ≤ length site.starts → file ≤ first_of_file site.starts site.history file
file_behind site fit zero some le = absurd (omega (arith, some))
file_behind site fit (suc zero) some le = omega (arith, fit.history.begins)
file_behind site fit (suc (suc file)) some le =
    let rises : HasRecords site.starts site.history (suc file) = fit.history.rising (suc file) (omega arith) (omega (arith, le)) in
    let same : first_of_file site.starts site.history (suc file + 1) ≡ first_of_file site.starts site.history (suc (suc file)) =
    ap (first_of_file site.starts site.history) (omega arith) in
    omega (arith, file_behind site fit (suc file) (omega arith) (omega (arith, le)), rises, same)

-- A file that can be backed up: the next one, closed, with records.
pub record IsNextFile (site : Site) (has : HasRing site) (file : ℕ) : Type 0 where
  pub next : file ≡ suc has.ring.backed
  pub there : file ≤ length site.starts
  pub is_closed : has.ring.is_open ≡ true → file < length site.starts
  pub filled : HasRecords site.starts site.history file

pub next_file_is : (site : Site) (has : HasRing site) (file : ℕ) → IsFitSite site → file ≡ suc has.ring.backed → file ≤ last_closed (length site.starts) has.ring → IsNextFile site has file
next_file_is site has file fit next le = by has.ring.is_open refl le
  where
    holds : FitRing site.history site.starts site.lines has.ring
    holds = ring_of site has.ring has.is fit

    earlier : file < length site.starts → IsNextFile site has file
    earlier lt = record { next = next; there = omega (arith, lt); is_closed = λ o. lt; filled = fit.history.rising file (omega (arith, next)) lt }

    by : (b : Bool) → has.ring.is_open ≡ b → file ≤ (if b then length site.starts - 1 else length site.starts) → IsNextFile site has file
    by true is most = earlier (omega (arith, most, holds.oldest, holds.held))
    by false is most = ⊎_elim earlier
        (λ last. let same : file ≡ length site.starts = omega (arith, last, most) in
        record {
          next = next;
          there = most;
          is_closed = λ o. absurd (false≢true (sym is ∙ o));
          filled = subst (HasRecords site.starts site.history) (sym same) (holds.filled is);
        })
        (cases_lt file (length site.starts))

-- a file is backed up

module _ (first : Site) (moment : ℕ) (early : moment < 2 ^ 64) (site : Site) (fit : IsFitSite site) (like : IsSavedFrom first site) (has : HasRing site) (file : ℕ)
    (is : IsNextFile site has file) where
  abbrev span : Span
  span = next_span site file

  abbrev bytes : List ℕ
  bytes = log_bytes site.head.site site.history span

  -- behind it the next file's turn has come
  pub record IsBackedUp (other : Site) : Type 0 where
    pub same : IsSavedFrom first other
    pub has_ring : HasRing other
    pub ring : has_ring.ring ≡ record has.ring { backed = file }

  module _ (runs : List Run) (new : AreNewRuns site 16 (length bytes) runs) where
    abbrev one : Kept
    one = new_kept site moment span.copy 16 (log_label span.file) bytes runs

    abbrev sent : Site
    sent = site_after (commit_objects (one ∷ []) []) site

    abbrev listed : Site
    listed = site_after (append_lines (logged span ∷ [])) sent

    file_small : file < 2 ^ 64
    file_small = omega (arith, file_behind site fit file (omega (arith, is.next)) is.there, fit.history.inside file, fit.history.few)

    can_send : suc site.store.last ≤ 2 ^ 48 → CanMove (commit_objects (one ∷ []) []) site
    can_send few = can_add one site fit refl
        (new_is_kept site moment span.copy 16 (log_label span.file) bytes runs fit.head early few (omega arith) (log_label_fits file file_small) new)
        (one_stands site.head.blocks site.store.kept one (new_stands site 16 (length bytes) runs new))

    agrees : Agrees site.history site.starts span
    agrees = record {
      some_file = omega (arith, is.next);
      there = is.there;
      first = refl;
      last = refl;
      some = omega (arith, is.filled);
      target = refl;
      before = refl;
      time = refl;
      kept = refl;
    }

    holds_bytes : Holds sent.store span.copy 16 bytes
    holds_bytes = holds_new one site.store fit.store.ascend refl

    span_is : (other : Span) → Contains (logged span ∷ []) (logged other) → span ≡ other
    span_is other contains = ⊎_elim
        (λ it. some_same (ap span_in it))
        (λ none. absurd (contains_none (logged other) none))
        (contains_cases (logged other) (logged span) [] contains)

    can_list : CanAddLines (logged span ∷ []) sent
    can_list = record {
      each = (record { agrees = agrees; copy = omega arith; holds = holds_bytes }, tt);
      once = once_more site.lines span site.store.last fit.lines.once
          (copies_given site.head site.history site.starts site.store site.lines site.lines fit.lines.each) (omega arith);
      files = λ other contains. subst (λ (s : Span). (h : HasRing sent) × (s.file ≡ suc h.ring.backed) × (h.ring.is_open ≡ true → s.file < length site.starts))
          (span_is other contains) (record { ring = has.ring; is = has.is }, is.next, is.is_closed);
    }

    saves_file : (fault : Option Fault) → commit_fault site.store (one ∷ []) [] ≡ fault
        → LeadsBy AreSaving site (unless_full fault (one ∷ []) []) (λ other. other ≡ sent)
    unfolding site_rules
    saves_file (Some fault) full = record { can = tt; then_holds = λ none. absurd (none_some (sym none)) }
    saves_file None full = record {
      can = (tt, can_send (omega (arith, ids_left site.store (one ∷ []) [] full)), tt);
      then_holds = λ none. refl;
    }

    lists_file : LeadsBy AreSaving sent (make (append_lines (logged span ∷ []) ∷ mark_backed span.file ∷ [])) IsBackedUp
    unfolding site_rules
    lists_file = record {
      can = (
        tt,
        can_list,
        (
          tt,
          record {
            has = record { ring = has.ring; is = has.is };
            next = is.next;
            is_logged = (span, Contains-append_right site.lines (logged span ∷ []) (logged span) (contains_here (logged span) []), refl);
          },
          tt,
        ),
      );
      then_holds = λ none. record {
        same = record {
          head = like.head;
          history = like.history;
          starts = like.starts;
          number = like.number;
          active = like.active;
          lanes = like.lanes;
          archives = live_logged site.lines span ∙ like.archives;
        };
        has_ring = record { ring = record has.ring { backed = file }; is = ap (option_map (with_backed file)) has.is };
        ring = refl;
      };
    }

    abbrev sends : SiteCourse
    sends s = commit_course (new_kept s moment span.copy 16 (log_label span.file) (log_bytes s.head.site s.history span) runs ∷ []) [] s

    abbrev lists : SiteCourse
    lists s = make (append_lines (logged span ∷ []) ∷ mark_backed span.file ∷ [])

    lists_behind : (other : Site) → IsFitSite other → other ≡ sent → LeadsBy AreSaving other (in_turn (lists ∷ []) other) IsBackedUp
    lists_behind other fits it = both_lead AreSaving AreSaving AreSaving saving_can (λ moves s are. are) saving_append IsBackedUp IsBackedUp lists (in_turn []) other fits
        (subst (λ (s : Site). LeadsBy AreSaving s (lists s) IsBackedUp) (sym it) lists_file)
        (λ s f up. record { can = tt; then_holds = λ none. up })

    saves_runs : LeadsBy AreSaving site (send_file moment span (Some runs) site) IsBackedUp
    saves_runs = both_lead AreSaving AreSaving AreSaving saving_can (λ moves s are. are) saving_append (λ other. other ≡ sent) IsBackedUp sends (in_turn (lists ∷ [])) site fit
        (saves_file (commit_fault site.store (one ∷ []) []) refl) lists_behind

  -- A file is backed up by moves that may be made.
  pub leads_file : LeadsBy AreSaving site (back_up_file moment file site) IsBackedUp
  leads_file = by (new_runs site 16 (length bytes)) refl
    where
      by : (o : Option (List Run)) → new_runs site 16 (length bytes) ≡ o → LeadsBy AreSaving site (send_file moment span o site) IsBackedUp
      by None none = record { can = tt; then_holds = λ full. absurd (none_some (sym full)) }
      by (Some runs) some = saves_runs runs (new_runs_are site 16 (length bytes) runs some)
