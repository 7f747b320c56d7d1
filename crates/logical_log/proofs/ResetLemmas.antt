-- A Reset at the head of the next file.
use Rattle.std.specs.Prelude.{Result, Ok, Err, IfOk}
use Rattle.std.proofs.Common.{◌≡◌, ℕ, ◌+◌, ◌^◌, ◌<◌, ◌≤◌, List, [], ◌∷◌, ◌++◌, Bool, true, false, if◌then◌else◌, length, refl, arith, ap, sym, ◌∙◌, inl, inr}
use Rattle.log_history.specs.History.{LogEntry, History, reset}
use Rattle.log_record.specs.Layout.{IsRecord}
use Rattle.log_mark.specs.declared.mark.LogMark.{LogMark}
use Rattle.log_files.specs.Files.{LogFiles, AreFiles, FitFile, count_in, current_first, next_of, end_of, appended, with_next, with_place, without_oldest, from_past, is_full, next_unless_empty, passed_to_head, AreSaved}
use Rattle.log_files.specs.FilesLaws.{fit_reset, fit_appended_with, count_in-one}
use Rattle.log_files.specs.Rooms.{HasNext}
use Rattle.log_files.specs.Ring.{HoldsOneOf}
use Rattle.logical_log.specs.Rings.{TellsOf}
use Rattle.logical_log.specs.declared.ring.LogRing.{LogRing}

pub if_ok : {T E : Type 0} {P Q : T → Type 0} (result : Result T E) → ((x : T) → P x → Q x) → IfOk result P → IfOk result Q
if_ok (Ok x) means is = means x is
if_ok (Err e) means is = is

pub empty_some : (files : LogFiles) (current : History) → 1 ≤ length current → next_unless_empty files current ≡ with_next (with_place files)
empty_some files [] some = absurd (omega (arith, some))
empty_some files (entry ∷ current) some = refl

pub passed_some : (files : LogFiles) (current : History) (entry : LogEntry) → 1 ≤ length current
    → passed_to_head files current entry ≡ with_place files ∷ with_next (with_place files) ∷ appended (with_next (with_place files)) (entry ∷ []) ∷ []
passed_some files [] entry some = absurd (omega (arith, some))
passed_some files (other ∷ current) entry some = refl

-- the next position stays
next_past : (files : LogFiles) (past : List History) → files.past ≡ past → next_of (from_past files past) ≡ next_of files
next_past files [] is = refl
next_past files (entries ∷ past) is = omega (arith, ap count_in is)

next_place : (files : LogFiles) → next_of (with_place files) ≡ next_of files
next_place files = by (is_full files)
  where
    by : (full : Bool) → next_of (if full then without_oldest files else files) ≡ next_of files
    by true = next_past files files.past refl
    by false = refl

pub first_next : (files : LogFiles) → current_first (with_next (with_place files)) ≡ next_of files
first_next files = omega (arith, count_in-one (with_place files).past (with_place files).current, next_place files)

pub end_reset : (files : LogFiles) (entry : LogEntry) → AreFiles files → end_of (appended (with_next (with_place files)) (entry ∷ [])) ≡ end_of files + 1
end_reset files entry fits = omega (arith, first_next files, fits.some, fits.first)

fit_reset_behind : (first restore target time : ℕ) (current : History) → length current ≡ 0 → IsRecord (reset restore target time) → target < first
    → FitFile first (current ++ reset restore target time ∷ [])
fit_reset_behind first restore target time [] none ok lt = fit_reset first restore target time ok lt
fit_reset_behind first restore target time (entry ∷ current) none ok lt = absurd (omega (arith, none))

-- whatever files the value tells of behind a next file, they fit with a Reset at its head
pub fit_head : {D : Type 0} (files others : LogFiles) (ring : LogRing D) (restore target time : ℕ) → AreFiles files → end_of files < 2 ^ 48 → target ≤ end_of files → IsRecord (reset restore target time)
    → TellsOf (with_next (with_place files)) ring → TellsOf others ring → AreFiles (appended others (reset restore target time ∷ []))
fit_head files others ring restore target time fits lt goes_back ok told tells =
    let none : length others.current ≡ 0 = sym tells.used ∙ told.used in
    let first : current_first others ≡ next_of files = sym tells.held.first ∙ told.held.first ∙ first_next files in
    let open_file : others.is_closed ≡ false = sym (ap (λ (m : LogMark). m.is_closed) tells.held.mark) ∙ ap (λ (m : LogMark). m.is_closed) told.held.mark in
    fit_appended_with others tells.fits (reset restore target time ∷ [])
    (fit_reset_behind (current_first others) restore target time others.current none ok (omega (arith, first, goes_back, fits.some, fits.first))) (omega arith)
    (record { open_file = open_file; few = omega (arith, none); positions = omega (arith, none, first, lt, fits.some, fits.first) })

pub one_more : (site : ℕ) (a b d last : LogFiles) (c : List ℕ) → HoldsOneOf site (a ∷ b ∷ d ∷ []) c → HoldsOneOf site (a ∷ b ∷ d ∷ last ∷ []) c
one_more site a b d last c (inl was) = inl was
one_more site a b d last c (inr (inl is)) = inr (inl is)
one_more site a b d last c (inr (inr (inl is))) = inr (inr (inl is))
one_more site a b d last c (inr (inr (inr none))) = absurd none

-- a log that is saved and has records in its current file may go on to the next one
pub next_saved : (files : LogFiles) → AreFiles files → AreSaved files → end_of files < 2 ^ 48 → 1 ≤ length files.current → HasNext files
next_saved files fits saved lt some = record { position = lt; some = some; backed = λ full. omega (arith, (saved.current some).1, fits.some) }
