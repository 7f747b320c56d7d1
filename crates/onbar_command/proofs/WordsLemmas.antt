-- What the words of a command say of its run.
use Rattle.std.proofs.Common.{◌≡◌, ◌⊎◌, inl, inr, ℕ, ◌≤◌, ◌^◌, List, Result, Ok, Err, Option, true, refl, ap, subst, sym, arith, ⊎_elim, ◌∙◌}
use Rattle.std.specs.Prelude.{Bool, IfErr, OnOk}
use Rattle.command_grammar.specs.Words.{Command, command_of, show_form, transactions_form, is_transactions}
use Rattle.site_model.specs.declared.status.Status.{Status}
use Rattle.site_model.specs.declared.status.Status.TheVariants.{Usage, BadRecord}
use Rattle.site_model.specs.declared.disk_name.DiskName.TheVariants.{Log, Chunk}
use Rattle.onbar_words.specs.Order.{form_in, FitsASite}
use Rattle.onbar_words.specs.declared.words.Form.{Form}
use Rattle.onbar_words.specs.declared.words.Form.TheVariants.{Init, Transactions, Show}
use Rattle.site_worlds.specs.Fitness.{IsFit}
use Rattle.site_layouts.specs.Layouts.{HeldWorld}
use Rattle.site_disk.specs.declared.disk.Disk.{Ghosts}
use Rattle.site_core.specs.declared.site.Site.{Site}
use Rattle.site_core.specs.Disks.{contents_of, images_of}
use Rattle.site_core.specs.Quiet.{IsQuiet}
use Rattle.site_forms.specs.declared.report.Report.{Report}
use Rattle.site_forms.specs.Forms.{Finishes}
use Rattle.site_forms.specs.Starts.{start_of, IsOfChunk}
use Rattle.site_commands.specs.Commands.{uses, CutsShort, IsPassed}
use Rattle.site_commands.specs.PassLaws.{MakesAHead, run_passes}
use Rattle.site_commands.specs.Runs.{reads_script, run_command, run_form}
use Rattle.site_openings.specs.Openings.{Contents_of, DisksRefuse, IsOfDisks, IsOpenFor, IsRefused, OpensFor}
use Rattle.transactions_command.specs.Entering.{IsOfLog}
use Rattle.show_command.specs.Showing.{IsOfReading}
use Rattle.onbar_command.specs.Answers.{IsMet, IsUsage, MayMeet, Meets, WordsMayMeet}
use Rattle.onbar_command.specs.Commands.{ComesTo, IsOver}
use Rattle.onbar_command.proofs.RefusalLemmas.{same_command}

module _ (words : List (List ℕ)) (command : Command) (order : command_of words ≡ Ok command) where
  -- the words are one command
  pub one_command : (other : Command) → command_of words ≡ Ok other → command ≡ other
  one_command other is = same_command (sym order ∙ is)

  pub words_refused : {T : Type 0} (contents : Contents_of) (result : Result T Status)
      → IfErr result (λ status. CutsShort status ⊎ (DisksRefuse command.form contents status ⊎ Meets command.form contents status))
      → IfErr result (λ status. CutsShort status ⊎ (IsUsage words status ⊎ (IsRefused words contents status ⊎ IsMet words contents status)))
  words_refused contents (Ok value) is = tt
  words_refused contents (Err status) is =
      ⊎_elim (λ cut. inl cut) (λ other. inr (inr (⊎_elim (λ refuses. inl (command, order, refuses)) (λ meets. inr (command, order, meets)) other))) is

  pub words_open : {T : Type 0} (contents : Contents_of) (result : Result T Status) → OnOk result (IsOpenFor command.form contents) → OnOk result (OpensFor words contents)
  words_open contents (Ok value) is = (command, order, is)
  words_open contents (Err status) is = tt

  pub words_answered : {T : Type 0} (result : Result T Status) → IfErr result (λ status. CutsShort status ⊎ IsOfDisks status)
      → IfErr result (λ status. CutsShort status ⊎ (IsUsage words status ⊎ IsOfDisks status))
  words_answered (Ok value) is = tt
  words_answered (Err status) is = ⊎_elim (λ cut. inl cut) (λ of. inr (inr of)) is

  -- whether it reads a script
  pub reads_as : {b : Bool} → reads_script (command_of words) ≡ b → is_transactions command.form ≡ b
  reads_as is = sym (ap reads_script order) ∙ is

  -- what its form leaves of the disks
  pub words_kept : {T : Type 0} (A : Type 0) (result : Result T Status) → IfErr result (λ status. CutsShort status ⊎ ((IsOfChunk status ⊎ A) ⊎ MayMeet command.form status))
      → IfErr result (λ status. CutsShort status ⊎ ((IsOfChunk status ⊎ A) ⊎ WordsMayMeet words status))
  words_kept A (Ok value) is = tt
  words_kept A (Err status) is = ⊎_elim (λ cut. inl cut) (λ other. inr (⊎_elim (λ kept. inl kept) (λ late. inr (command, order, late)) other)) is

  -- what refuses the words refuses their form
  pub form_refused : (contents : Contents_of) (status : Status) → IsRefused words contents status → DisksRefuse command.form contents status
  form_refused contents status refused =
      subst (λ (c : Command). DisksRefuse c.form contents status) (sym (one_command refused.0 refused.1)) refused.2

  -- and what is known of a script that the words ask for is known where their form does
  pub known_so : {A : Type 0} → (reads_script (command_of words) ≡ true → A) → is_transactions command.form ≡ true → A
  known_so known is = known (ap reads_script order ∙ is)

  -- what is said of an order that is read is said of the words
  pub of_order : (P : Result Command ℕ → Type 0) → P (Ok command) → P (command_of words)
  of_order P is = subst P (sym order) is

  -- from a fit world their run passes fit worlds alone
  pub runs_fit : (moment : ℕ) (script : List ℕ) → MakesAHead moment command.form → (begun other : HeldWorld) → IsFit begun.world
      → IsPassed begun (run_command moment script (command_of words) begun.world) other → IsFit other.world
  runs_fit moment script head begun other fit is =
      run_passes moment script command.form begun.world other.world head fit
      (subst (λ (r : Result Command ℕ). IsPassed begun (run_command moment script r begun.world) other) order is)

-- a form that is refused before its work
pub early : {T : Type 0} (A B : Status → Type 0) (result : Result T Status) → IfErr result (λ status. CutsShort status ⊎ A status) → IfErr result (λ status. CutsShort status ⊎ (A status ⊎ B status))
early A B (Ok value) is = tt
early A B (Err status) is = ⊎_elim (λ cut. inl cut) (λ a. inr (inl a)) is

-- or by a record of the log that `-T` met in the midst of it
of_log : (status : Status) → IsOfLog status → MayMeet transactions_form status
of_log (BadRecord Log slot) is = tt
of_log status is = absurd is

pub late_record : {T : Type 0} (A : Status → Type 0) (contents : Contents_of) (result : Result T Status)
    → IfErr result (λ status. CutsShort status ⊎ (A status ⊎ (IsOfLog status × IsOpenFor transactions_form contents)))
    → IfErr result (λ status. CutsShort status ⊎ (A status ⊎ Meets transactions_form contents status))
late_record A contents (Ok value) is = tt
late_record A contents (Err status) is = ⊎_elim (λ cut. inl cut) (λ other. inr (⊎_elim (λ a. inl a) (λ late. inr (of_log status late.0, late.1)) other)) is

pub late_kept : {T : Type 0} (A : Status → Type 0) (result : Result T Status) → IfErr result (λ status. CutsShort status ⊎ (A status ⊎ IsOfLog status))
    → IfErr result (λ status. CutsShort status ⊎ (A status ⊎ MayMeet transactions_form status))
late_kept A (Ok value) is = tt
late_kept A (Err status) is = ⊎_elim (λ cut. inl cut) (λ other. inr (⊎_elim (λ a. inl a) (λ late. inr (of_log status late)) other)) is

-- or by a record of the log or a page that `-D` met
of_reading : (name : List ℕ) (page : Option ℕ) (status : Status) → IsOfReading status → MayMeet (show_form name page) status
of_reading name page (BadRecord Log slot) is = tt
of_reading name page (BadRecord (Chunk space) slot) is = tt
of_reading name page status is = absurd is

pub shown_record : {T : Type 0} (name : List ℕ) (page : Option ℕ) (A : Status → Type 0) (contents : Contents_of) (result : Result T Status)
    → IfErr result (λ status. CutsShort status ⊎ (A status ⊎ (IsOfReading status × IsOpenFor (show_form name page) contents)))
    → IfErr result (λ status. CutsShort status ⊎ (A status ⊎ Meets (show_form name page) contents status))
shown_record name page A contents (Ok value) is = tt
shown_record name page A contents (Err status) is =
    ⊎_elim (λ cut. inl cut) (λ other. inr (⊎_elim (λ a. inl a) (λ late. inr (of_reading name page status late.0, late.1)) other)) is

pub shown_kept : {T : Type 0} (name : List ℕ) (page : Option ℕ) (A : Status → Type 0) (result : Result T Status)
    → IfErr result (λ status. CutsShort status ⊎ (A status ⊎ IsOfReading status))
    → IfErr result (λ status. CutsShort status ⊎ (A status ⊎ MayMeet (show_form name page) status))
shown_kept name page A (Ok value) is = tt
shown_kept name page A (Err status) is =
    ⊎_elim (λ cut. inl cut) (λ other. inr (⊎_elim (λ a. inl a) (λ late. inr (of_reading name page status late)) other)) is

pub makes_head : (form : Form) (moment : ℕ) → moment ≤ 2 ^ 48 → FitsASite form → MakesAHead moment (form_in form)
makes_head (Init blocks spaces) moment le fits = fits moment (omega (arith, le))
makes_head Transactions moment le fits = tt
makes_head (Show space page) moment le fits = tt

-- nothing was done
pub still : {D : Type 0} (disk : Ghosts D) (site : Site D) → IsQuiet disk site site
still disk site = record { images = λ f name bytes is. is; written = λ name. omega arith }

-- what is over of a form is over of its command
pub over_so : {D : Type 0} (disk : Ghosts D) (command : Command) (from : ℕ) (old new : Site D) (moment : ℕ) (script : List ℕ) (at : HeldWorld) (to : ℕ) (result : Result Report Status) (after : List ℕ)
    → Finishes (is_transactions command.form) (start_of disk from old) (uses command.form at.world) at (run_form moment script command.form at.world) after (contents_of disk new) to (images_of disk new) result
    → ComesTo disk (Ok command) from old new moment script at to result after
over_so disk command from old new moment script at to (Ok report) after done = record { status = done.status; text = done.text; work = done.work }
over_so disk command from old new moment script at to (Err status) after (inl cut) = inl cut
over_so disk command from old new moment script at to (Err status) after (inr done) = inr (record { status = done.status; text = done.text; work = done.work })

-- a command that is refused at a word has nothing more to do
usage_work : {D : Type 0} (disk : Ghosts D) (word from : ℕ) (site : Site D) (moment : ℕ) (script after : List ℕ) (at : HeldWorld) (to : ℕ)
    → IsOver disk (Err word) from site site moment script at to (Err (Usage word)) after
usage_work disk word from site moment script after at to = record {
  status = refl;
  text = refl;
  work = record {
    last = at;
    last_is = refl;
    stand = λ name is. absurd (cc is);
    crash = inl (λ f name bytes is. is, refl);
    script = λ is. absurd (cc is);
  };
}

pub usage_over : {D : Type 0} (disk : Ghosts D) (command : Result Command ℕ) (word : ℕ) → command ≡ Err word → (from : ℕ) (site : Site D) (moment : ℕ) (script after : List ℕ) (at : HeldWorld) (to : ℕ)
    → IsOver disk command from site site moment script at to (Err (Usage word)) after
usage_over disk command word is from site moment script after at to =
    subst (λ (r : Result Command ℕ). IsOver disk r from site site moment script at to (Err (Usage word)) after) (sym is) (usage_work disk word from site moment script after at to)
