-- What a command answers, by what its form came to.
use Rattle.std.specs.Prelude.{IfErr, OnOk}
use Rattle.std.proofs.Common.{◌≡◌, ◌⊎◌, ⊎_elim, inl, inr, ℕ, List, [], ◌++◌, Result, Ok, Err, IfOk, refl, sym, ◌∙◌, ap, subst}
use Rattle.command_grammar.specs.Words.{Command, command_of}
use Rattle.site_model.specs.declared.disk_name.DiskName.{DiskName}
use Rattle.site_model.specs.declared.status.Status.{Status}
use Rattle.site_model.specs.declared.status.Status.TheVariants.{Ok as Done, OutOfMemory, ReadFault, WriteFault, DiskFault, Usage, NotFormatted, AlreadyFormatted, BadRecord, NoSuchSpace, NoSuchPage, NeedsRestart, ChunkLost, LogLost}
use Rattle.site_model.specs.Texts.{status_text}
use Rattle.site_scripts.specs.declared.outcomes.ScriptEnd.{ScriptEnd}
use Rattle.site_scripts.specs.declared.outcomes.ScriptEnd.TheVariants.{Done as AllTaken, Fault as LineFault, Full}
use Rattle.site_commands.specs.Commands.{CutsShort}
use Rattle.site_openings.specs.Openings.{Contents_of, DisksRefuse, checks_of, IsOfDisks, IsRefused, NamesAsWell, OpensFor}
use Rattle.site_openings.proofs.CheckLemmas.{never_both, refused_alike}
use Rattle.site_forms.specs.declared.report.Report.{Report}
use Rattle.site_forms.specs.declared.report.Report.TheVariants.{Formatted, Extended as LogExtended, Shown}
use Rattle.site_forms.specs.Reports.{status_of_end, status_told, text_told}
use Rattle.onbar_command.specs.Answers.{IsMet, IsOfWork, IsUsage}

-- ---- statuses

of_end : (ending : ScriptEnd) → IsOfWork (status_of_end ending)
of_end AllTaken = tt
of_end (LineFault line why) = tt
of_end (Full why) = tt

-- a report tells of work
pub of_report : (report : Report) → IsOfWork (status_told (Ok report))
of_report (LogExtended told) = of_end told.ending
of_report (Formatted spaces) = tt
of_report (Shown text) = tt

not_both : (status : Status) → IsOfWork status → IsOfDisks status → ⊥
not_both NotFormatted work of = work
not_both AlreadyFormatted work of = work
not_both LogLost work of = work
not_both (BadRecord disk slot) work of = work
not_both (NoSuchSpace name) work of = work
not_both (NoSuchPage n) work of = work
not_both (NeedsRestart number) work of = work
not_both (ChunkLost name) work of = work
not_both status work of = of

pub uncut : (status : Status) → IsOfWork status → CutsShort status → ⊥
uncut OutOfMemory work cut = work
uncut ReadFault work cut = work
uncut WriteFault work cut = work
uncut (DiskFault name) work cut = work
uncut status work cut = cut

pub not_cut_of_disks : (status : Status) → IsOfDisks status → CutsShort status → ⊥
not_cut_of_disks OutOfMemory of cut = of
not_cut_of_disks ReadFault of cut = of
not_cut_of_disks WriteFault of cut = of
not_cut_of_disks (DiskFault name) of cut = of
not_cut_of_disks status of cut = cut

-- a stop is told by an error
pub is_err : (result : Result Report Status) (status : Status) → CutsShort status → status_told result ≡ status → result ≡ Err status
is_err (Ok report) status cut is = absurd (uncut (status_told (Ok report)) (of_report report) (subst CutsShort (sym is) cut))
is_err (Err found) status cut is = ap Err is

-- ---- refusals by what the disks hold

-- nothing is written then
pub kept_so : (A : Status → Type 0) (result : Result Report Status) → IfErr result (λ status. CutsShort status ⊎ A status) → IsOfDisks (status_told result) → A (status_told result)
kept_so A (Ok report) kept is = absurd (not_both (status_told (Ok report)) (of_report report) is)
kept_so A (Err status) kept is = ⊎_elim (λ cut. absurd (not_cut_of_disks status is cut)) (λ other. other) kept

pub same_command : {a b : Command} → ◌≡◌ {A = Result Command ℕ} (Ok a) (Ok b) → a ≡ b
same_command {a} {b} e = cc e

-- the words open what they don't refuse
unrefused : (words : List (List ℕ)) (contents : Contents_of) → OpensFor words contents → (status : Status) → IsRefused words contents status → ⊥
unrefused words contents opens status is =
    never_both contents (checks_of opens.0.form) status opens.2
    (subst (λ (c : Command). DisksRefuse c.form contents status) (same_command (sym is.1 ∙ opens.1)) is.2)

-- words that aren't read aren't refused by the disks
unread : (words : List (List ℕ)) (contents : Contents_of) (n : ℕ) → command_of words ≡ Err n → (status : Status) → IsRefused words contents status → ⊥
unread words contents n order status is = differ (sym order ∙ is.1)
  where
    differ : {a : Command} → ◌≡◌ {A = Result Command ℕ} (Err n) (Ok a) → ⊥
    differ {a} e = cc e

module _ (words : List (List ℕ)) (contents : Contents_of) where
  abbrev pub Refused : Result Report Status → Type 0
  Refused result = IfErr result (λ status. CutsShort status ⊎ (IsUsage words status ⊎ (IsRefused words contents status ⊎ IsMet words contents status)))

  -- the disks' bytes are the cause
  pub cause_of_disks : (result : Result Report Status) → Refused result → IsOfDisks (status_told result)
      → IsRefused words contents (status_told result) ⊎ IsMet words contents (status_told result)
  cause_of_disks (Ok report) refused is = absurd (not_both (status_told (Ok report)) (of_report report) is)
  cause_of_disks (Err status) refused is = ⊎_elim
      (λ cut. absurd (not_cut_of_disks status is cut))
      (λ other. ⊎_elim (λ (usage : IsUsage words status). absurd (subst IsOfDisks usage.2 is)) (λ why. why) other)
      refused

  -- a form that they refuse ends so, or is cut short
  pub refused_so : (result : Result Report Status) → Refused result → OnOk result (OpensFor words contents) → (status : Status) → IsRefused words contents status
      → CutsShort (status_told result) ⊎ ((text_told result ≡ status_text (status_told result)) × IsRefused words contents (status_told result))
  refused_so (Ok report) refused opens status is = absurd (unrefused words contents opens status is)
  refused_so (Err found) refused opens status is = ⊎_elim
      (λ cut. inl cut)
      (λ other. ⊎_elim (λ (usage : IsUsage words found). absurd (unread words contents usage.0 usage.1 status is)) (λ why. ⊎_elim
      (λ refuses. inr (refl, refuses))
      (λ (met : IsMet words contents found). absurd (unrefused words contents (met.0, met.1, met.2.1) status is))
      why) other)
      refused

  -- with one status
  pub refused_once : (found status : Status) → IsRefused words contents found → IsRefused words contents status → NamesAsWell found status
  refused_once found status first second =
      refused_alike contents (checks_of second.0.form) found status
      (subst (λ (c : Command). DisksRefuse c.form contents found) (same_command (sym first.1 ∙ second.1)) first.2) second.2

  -- the statuses that a command may answer
  pub answered_so : (result : Result Report Status) → IfErr result (λ status. CutsShort status ⊎ (IsUsage words status ⊎ IsOfDisks status))
      → CutsShort (status_told result) ⊎ (IsUsage words (status_told result) ⊎ (IsOfDisks (status_told result) ⊎ IsOfWork (status_told result)))
  answered_so (Ok report) answered = inr (inr (inr (of_report report)))
  answered_so (Err status) answered = ⊎_elim (λ cut. inl cut) (λ other. ⊎_elim (λ usage. inr (inl usage)) (λ of. inr (inr (inl of))) other) answered

  -- what the disks are where it isn't refused
  pub opened_so : (result : Result Report Status) → IfErr result (λ status. CutsShort status ⊎ (IsUsage words status ⊎ IsOfDisks status)) → OnOk result (OpensFor words contents)
      → CutsShort (status_told result) ⊎ (IsUsage words (status_told result) ⊎ (IsOfDisks (status_told result) ⊎ OpensFor words contents))
  opened_so (Ok report) answered opens = inr (inr (inr opens))
  opened_so (Err status) answered opens = ⊎_elim (λ cut. inl cut) (λ other. ⊎_elim (λ usage. inr (inl usage)) (λ of. inr (inr (inl of))) other) answered

  -- work is told by a report
  pub work_so : {A : Type 0} (result : Result Report Status) → IfErr result (λ status. CutsShort status ⊎ (IsUsage words status ⊎ IsOfDisks status)) → OnOk result A
      → IsOfWork (status_told result) → A
  work_so {A} (Ok report) answered is work = is
  work_so {A} (Err status) answered is work = ⊎_elim
      (λ cut. absurd (uncut status work cut))
      (λ other. ⊎_elim (λ (usage : IsUsage words status). absurd (subst IsOfWork usage.2 work)) (λ of. absurd (not_both status work of)) other)
      answered

  -- at Ok the script was read to its end
  pub end_so : (result : Result Report Status) (left : List ℕ) → IfErr result (λ status. CutsShort status ⊎ (IsUsage words status ⊎ IsOfDisks status))
      → IfOk result (λ report. status_told (Ok report) ≡ Done → left ≡ []) → status_told result ≡ Done → left ≡ []
  end_so (Ok report) left answered to_end is = to_end is
  end_so (Err status) left answered to_end is =
      work_so {A = left ≡ []} (Err status) answered tt (subst IsOfWork (sym is) tt)

pub usage_told : (result : Result Report Status) (before now : List ℕ) → now ≡ before ++ text_told result → (n : ℕ)
    → status_told result ≡ Usage n → now ≡ before ++ status_text (Usage n)
usage_told (Ok report) before now text n is = absurd (subst IsOfWork is (of_report report))
usage_told (Err status) before now text n is = text ∙ ap (λ (s : Status). before ++ status_text s) is

-- a status that isn't that of the run has a cause
pub complete_so : (status said : Status) → ((CutsShort status → ⊥) → status ≡ said) → (status ≡ ReadFault → ⊥) → (status ≡ WriteFault → ⊥)
    → ((name : DiskName) → status ≡ DiskFault name → ⊥) → (status ≡ said) ⊎ (status ≡ OutOfMemory)
complete_so OutOfMemory said whole read write disk = inr refl
complete_so ReadFault said whole read write disk = absurd (read refl)
complete_so WriteFault said whole read write disk = absurd (write refl)
complete_so (DiskFault name) said whole read write disk = absurd (disk name refl)
complete_so status said whole read write disk = inl (whole (λ cut. cut))
