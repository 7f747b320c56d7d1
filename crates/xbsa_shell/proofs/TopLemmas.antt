-- How the shell ends, and what it has printed then.
use Rattle.std.specs.Prelude.{IfErr, MatchResult, OnOk}
use Rattle.std.proofs.Common.{◌≡◌, ◌⊎◌, ℕ, ◌+◌, ◌<◌, ◌≤◌, Bool, true, false, IsTrue, List, [], ◌∷◌, ◌++◌, length, Option, None, Some, Result, Ok, Err, inl, inr, refl, sym, ap, ◌∙◌, subst, arith, append_assoc}
use Rattle.std.proofs.lemmas.List.{append-nil}
use Rattle.onbar_grammar.specs.Script.{Raw}
use Rattle.bsa_transcripts.specs.Lines.{Setting, Stand}
use Rattle.site_model.specs.Texts.{status_text}
use Rattle.site_model.specs.declared.status.Status.{Status}
use Rattle.site_model.specs.declared.status.Status.TheVariants.{Ok as Done, OutOfMemory, ReadFault, WriteFault, DiskFault, Usage, ScriptFault, NotFormatted, BadRecord}
use Rattle.site_disk.specs.declared.disk.Disk.{Ghosts}
use Rattle.catalogue_replay.specs.Contents.{Contents}
use Rattle.onbar_grammar.specs.declared.Why.{Why}
use Rattle.onbar_grammar.specs.declared.Why.TheVariants.{Words, TooLong as LineTooLong, ScriptTooLong as ScriptPasses}
use Rattle.object_store.specs.declared.store.Store.{Store}
use Rattle.store_opening.specs.Faults.{IsFailure, IsRefusal, NamesAsWell}
use Rattle.store_opening.specs.declared.faults.StoreFault.{StoreFault}
use Rattle.store_opening.specs.declared.faults.StoreFault.TheVariants.{OutOfMemory as NoMemoryForStore, DiskFault as StoreFails, NotFormatted as StoreHasNone, BadRecord as StoreHasBad}
use Rattle.xbsa_shell.specs.Opened.{HasOpened, IsRefusedAs, SaysWhy, opening_setting, opening_stand}
use Rattle.xbsa_shell.specs.Printing.{PrintsFront}
use Rattle.xbsa_shell.specs.Running.{EndsShell, HasPrinted, PrintsShell, PrintsShellPart, Runs, RunsSome, RunsWhole, good_lines, status_in}
use Rattle.xbsa_shell.specs.Serving.{first_stand, setting_of}
use Rattle.xbsa_shell.specs.Statuses.{status_of_store, CutsShort, EndsEarly, IsOfDisks, IsOfRun}
use Rattle.xbsa_shell.proofs.EnterLemmas.{setting_shown, stand_shown}
use Rattle.xbsa_shell.proofs.RunLemmas.{printed_both, printed_none, printed_part}

-- ---- statuses

pub store_is_shell : (fault : StoreFault) → EndsEarly (status_of_store fault)
store_is_shell NoMemoryForStore = tt
store_is_shell (StoreFails disk) = tt
store_is_shell StoreHasNone = tt
store_is_shell (StoreHasBad disk slot) = tt

pub run_is_shell : (status : Status) → IsOfRun status → EndsEarly status
run_is_shell OutOfMemory is = tt
run_is_shell ReadFault is = tt
run_is_shell WriteFault is = tt
run_is_shell (DiskFault disk) is = tt
run_is_shell (ScriptFault line Words) is = tt
run_is_shell (ScriptFault line LineTooLong) is = tt
run_is_shell (ScriptFault line ScriptPasses) is = tt
run_is_shell status is = absurd is

-- a run that has begun isn't refused
pub run_not_refused : (status : Status) → IsOfRun status → IsOfDisks status → ⊥
run_not_refused NotFormatted is refused = absurd is
run_not_refused (BadRecord disk slot) is refused = absurd is
run_not_refused status is refused = absurd refused

pub run_no_usage : (status : Status) (n : ℕ) → IsOfRun status → status ≡ Usage n → ⊥
run_no_usage status n is same = let bad : IsOfRun (Usage n) = subst IsOfRun same is in absurd bad

pub store_no_usage : (fault : StoreFault) (n : ℕ) → status_of_store fault ≡ Usage n → ⊥
store_no_usage NoMemoryForStore n same = cc same
store_no_usage (StoreFails disk) n same = cc same
store_no_usage StoreHasNone n same = cc same
store_no_usage (StoreHasBad disk slot) n same = cc same

pub shell_of : (done : Result (Unit {0}) Status) → IfErr done EndsEarly → (status_in done ≡ Done) ⊎ EndsEarly (status_in done)
shell_of (Ok value) is = inl refl
shell_of (Err status) is = inr is

-- what ended a run that is told
pub err_of : (done : Result (Unit {0}) Status) (status : Status) → (status ≡ Done → ⊥) → status_in done ≡ status → done ≡ Err status
err_of (Ok value) status not is = absurd (not (sym is))
err_of (Err other) status not is = ap Err is

-- what a run leaves that came to its end
pub ok_of : (P : Type 0) (done : Result (Unit {0}) Status) → IfErr done EndsEarly → OnOk done P → status_in done ≡ Done → P
ok_of P (Ok value) early is same = is
ok_of P (Err status) early is same = let bad : EndsEarly Done = subst EndsEarly same early in absurd bad

pub status_refused : (P : Status → Type 0) (done : Result (Unit {0}) Status) → MatchResult done (λ value. ⊥) P → P (status_in done)
status_refused P (Ok value) is = absurd is
status_refused P (Err status) is = is

pub of_disks : (P : Status → Type 0) (done : Result (Unit {0}) Status) → IfErr done (λ status. IsOfDisks status → P status) → IsOfDisks (status_in done) → P (status_in done)
of_disks P (Ok value) is refused = absurd refused
of_disks P (Err status) is refused = is refused

-- a status with which a text is cut short
pub cuts : (status : Status) → (status ≡ OutOfMemory) ⊎ (status ≡ WriteFault) → CutsShort status
cuts status (inl is) = subst CutsShort (sym is) tt
cuts status (inr is) = subst CutsShort (sym is) tt

pub cuts_shell : (status : Status) → (status ≡ OutOfMemory) ⊎ (status ≡ WriteFault) → EndsEarly status
cuts_shell status (inl is) = subst EndsEarly (sym is) tt
cuts_shell status (inr is) = subst EndsEarly (sym is) tt

pub cuts_not_of_disks : (status : Status) → (status ≡ OutOfMemory) ⊎ (status ≡ WriteFault) → IsOfDisks status → ⊥
cuts_not_of_disks status (inl is) refused = let bad : IsOfDisks OutOfMemory = subst IsOfDisks is refused in absurd bad
cuts_not_of_disks status (inr is) refused = let bad : IsOfDisks WriteFault = subst IsOfDisks is refused in absurd bad

pub cuts_none : (status other : Status) → (status ≡ OutOfMemory) ⊎ (status ≡ WriteFault) → status ≡ other → (other ≡ OutOfMemory → ⊥) → (other ≡ WriteFault → ⊥) → ⊥
cuts_none status other (inl is) same no_memory no_write = no_memory (sym same ∙ is)
cuts_none status other (inr is) same no_memory no_write = no_write (sym same ∙ is)

-- ---- texts

module _ (setting : Setting) (script : List Raw) (old : Stand) where
  some_none : RunsSome setting script old []
  some_none = record { done = []; later = good_lines 0 script; good = refl; new = old; rest = []; transcript = (refl, refl) }

  -- a store that wasn't opened since a disk failed or memory ran out
  pub failed_runs : (tell : Bool) (taken : List ℕ) (fault : StoreFault) → IsFailure fault → HasPrinted tell (Runs setting script old (status_of_store fault)) taken taken
  failed_runs tell taken NoMemoryForStore is = printed_none tell taken (RunsSome setting script old) some_none
  failed_runs tell taken (StoreFails disk) is = printed_none tell taken (RunsSome setting script old) some_none
  failed_runs tell taken StoreHasNone is = absurd is
  failed_runs tell taken (StoreHasBad disk slot) is = absurd is

  -- the line of the status is printed

  LineOf : Status → List ℕ → Type 0
  LineOf status text = text ≡ status_text status

  whole : (status : Status) (a b : List ℕ) → Runs setting script old status a → b ≡ status_text status → EndsShell setting script old status (a ++ b)
  whole Done a b runs is = record { transcript = a; runs = runs; is = ap (λ (t : List ℕ). a ++ t) is }
  whole (ScriptFault line why) a b runs is = record { transcript = a; runs = runs; is = ap (λ (t : List ℕ). a ++ t) is }
  whole OutOfMemory a b runs is = inl (subst (RunsSome setting script old) (sym (ap (λ (t : List ℕ). a ++ t) is ∙ append-nil a)) runs)
  whole ReadFault a b runs is = subst (RunsSome setting script old) (sym (ap (λ (t : List ℕ). a ++ t) is ∙ append-nil a)) runs
  whole WriteFault a b runs is = inl (subst (RunsSome setting script old) (sym (ap (λ (t : List ℕ). a ++ t) is ∙ append-nil a)) runs)
  whole (DiskFault disk) a b runs is = subst (RunsSome setting script old) (sym (ap (λ (t : List ℕ). a ++ t) is ∙ append-nil a)) runs
  whole status a b runs is = absurd runs

  pub shell_whole : (tell : Bool) (status : Status) (before between after : List ℕ) → HasPrinted tell (Runs setting script old status) before between
      → (IsTrue tell → after ≡ between ++ status_text status) → HasPrinted tell (EndsShell setting script old status) before after
  shell_whole tell status before between after runs line =
      printed_both tell (Runs setting script old status) (λ b. b ≡ status_text status) (EndsShell setting script old status) before between after (whole status) runs
      (record { text = status_text status; is = refl; taken = line })

  -- a front of it is

  EndsCut : List ℕ → Type 0
  EndsCut text = RunsSome setting script old text ⊎ PrintsShellPart setting script old text

  none_in : (a b : List ℕ) → [] ≡ a ++ b → a ≡ []
  none_in [] b is = refl
  none_in (x ∷ a) b is = cc is

  some_still : (a b rest : List ℕ) → RunsSome setting script old a → [] ≡ b ++ rest → EndsCut (a ++ b)
  unfolding EndsCut
  some_still a b rest runs parts = inl (subst (RunsSome setting script old) (sym (ap (λ (t : List ℕ). a ++ t) (none_in b rest parts) ∙ append-nil a)) runs)

  part_of : (status : Status) (a b rest : List ℕ) → RunsWhole setting script old status a → status_text status ≡ b ++ rest → EndsCut (a ++ b)
  unfolding EndsCut
  part_of status a b rest runs parts = inr (record {
    status = status;
    rest = rest;
    whole = record { transcript = a; runs = runs; is = append_assoc a b rest ∙ ap (λ (t : List ℕ). a ++ t) (sym parts) };
  })

  part : (status : Status) (a b rest : List ℕ) → Runs setting script old status a → status_text status ≡ b ++ rest → EndsCut (a ++ b)
  part Done a b rest runs parts = part_of Done a b rest runs parts
  part (ScriptFault line why) a b rest runs parts = part_of (ScriptFault line why) a b rest runs parts
  part OutOfMemory a b rest runs parts = some_still a b rest runs parts
  part ReadFault a b rest runs parts = some_still a b rest runs parts
  part WriteFault a b rest runs parts = some_still a b rest runs parts
  part (DiskFault disk) a b rest runs parts = some_still a b rest runs parts
  part status a b rest runs parts = absurd runs

  as_cut : (cut : Status) → (cut ≡ OutOfMemory) ⊎ (cut ≡ WriteFault) → (text : List ℕ) → EndsCut text → EndsShell setting script old cut text
  unfolding EndsCut
  as_cut cut (inl is) text ends = subst (λ (s : Status). EndsShell setting script old s text) (sym is) ends
  as_cut cut (inr is) text ends = subst (λ (s : Status). EndsShell setting script old s text) (sym is) ends

  abbrev PartOf : Status → List ℕ → Type 0
  PartOf status b = (rest : List ℕ) × (status_text status ≡ b ++ rest)

  pub shell_part : (tell : Bool) (status cut : Status) → (cut ≡ OutOfMemory) ⊎ (cut ≡ WriteFault) → (before between after : List ℕ)
      → HasPrinted tell (Runs setting script old status) before between → (IsTrue tell → PrintsFront (status_text status) between after)
      → HasPrinted tell (EndsShell setting script old cut) before after
  shell_part tell status cut is before between after runs front =
      printed_both tell (Runs setting script old status) (PartOf status) (EndsShell setting script old cut) before between after
      (λ a b ran line. as_cut cut is (a ++ b) (part status a b line.0 ran line.1)) runs
      (printed_part tell (status_text status) between after (PartOf status) front (status_text status, refl) (λ printed rest parts. (rest, parts)))

-- by what the disks show
module _ {D : Type 0} (disk : Ghosts D) where
  pub runs_shown : (moment : ℕ) (contents : Contents) (taken : ℕ) (old new : Store D) → HasOpened disk contents taken old new → (script : List Raw) (status : Status) (tell : Bool)
      (a b : List ℕ) → HasPrinted tell (Runs (setting_of disk moment new) script (first_stand disk new) status) a b
      → HasPrinted tell (Runs (opening_setting disk old moment) script (opening_stand disk old contents taken) status) a b
  runs_shown moment contents taken old new opened script status tell a b runs =
      subst (λ (s : Setting). HasPrinted tell (Runs s script (opening_stand disk old contents taken) status) a b) (setting_shown disk moment contents taken old new opened)
      (subst (λ (s : Stand). HasPrinted tell (Runs (setting_of disk moment new) script s status) a b) (stand_shown disk contents taken old new opened) runs)
