-- A line that is done, and the store serves the next one.
use Rattle.std.specs.Prelude.{IfOk, OnOk}
use Rattle.std.proofs.Common.{◌≡◌, ℕ, ◌≤◌, List, Option, Some, Result, Ok, Err, refl, sym, ap, ◌∙◌, subst}
use Rattle.site_disk.specs.Ledger.{EraView}
use Rattle.site_disk.specs.declared.disk.Disk.{Ghosts}
use Rattle.bsa_descriptor.specs.declared.descriptor.Descriptor.{Descriptor}
use Rattle.bsa_lines.specs.BsaLine.{line_of_bsa}
use Rattle.bsa_lines.specs.Lines.{Line, begin_line, end_line, init_line}
use Rattle.bsa_lines.specs.declared.lines.BsaLine.TheVariants.{Begin, End, Init}
use Rattle.bsa_lines.specs.declared.lines.BsaLine.{BsaLine}
use Rattle.catalogue_journal.specs.Catalogues.{capacity_of, contents_in, objects_of, used_of}
use Rattle.catalogue_journal.specs.declared.catalogue.Catalogue.{Catalogue}
use Rattle.object_store.specs.Reading.{part_on, reads_on}
use Rattle.object_store.specs.declared.store.Store.{Store}
use Rattle.session_machine.specs.Calls.{Begins, Inits}
use Rattle.session_machine.specs.Conditions.{IsSound}
use Rattle.session_machine.specs.declared.answers.BsaRc.{BsaRc}
use Rattle.bsa_session.specs.Reading.{CanReadOn}
use Rattle.bsa_session.specs.Sessions.{state_of}
use Rattle.bsa_transcripts.specs.Fields.{after_line, fields_of}
use Rattle.bsa_transcripts.specs.Lines.{Calls, IsCode, Setting, Stand, Stays, Steps, Votes}
use Rattle.bsa_transcripts.specs.declared.fields.Fields.{Fields}
use Rattle.bsa_transcripts.specs.declared.replies.Reply.{Reply}
use Rattle.bsa_transcripts.specs.declared.replies.Reply.TheVariants.{Nothing, Code, Sent, Found, Opened, Given, Ended}
use Rattle.site_model.specs.declared.status.Status.{Status}
use Rattle.xbsa_shell.specs.Serving.{IsPlace, KeepsFields, RunsLine, Serves, ServesShell, setting_of, stand_of}
use Rattle.xbsa_shell.specs.declared.calls.Shell.{Shell}
use Rattle.xbsa_shell.proofs.LeadLemmas.{begin_place}
use Rattle.xbsa_shell.proofs.ShellLemmas.{other_shell}
use Rattle.xbsa_shell.proofs.StepLemmas.{begin_serves, init_serves}

-- from what holds of an answer to what else holds of it
pub if_ok : {T E : Type 0} (P : T → Type 0) (R : Type 0) (Q : T → Type 0) (result : Result T E) → IfOk result P → OnOk result R → ((value : T) → P value → R → Q value) → IfOk result Q
if_ok P R Q (Ok value) p r then = then value p r
if_ok P R Q (Err fault) p r then = tt

module _ {D : Type 0} (disk : Ghosts D) (moment : ℕ) (to : EraView) (shell : Shell) (fields : Fields) (now : Shell) (old new : Store D) where
  -- the shell behind the line's say on the descriptor
  abbrev pub mid : Shell
  mid = record shell { fields = fields }

  module _ (line : Line) (set : fields_of fields ≡ after_line line (fields_of shell.fields)) (same_fields : now.fields ≡ fields)
      (serves : ServesShell disk to now new) (capacity : capacity_of new.cat ≡ capacity_of old.cat) where
    -- a line that doesn't set the descriptor
    pub call_runs : after_line line (fields_of shell.fields) ≡ fields_of shell.fields → (reply : Reply)
        → Calls (setting_of disk moment old) line (stand_of disk mid old) (stand_of disk now new) reply → RunsLine disk moment line to shell now old new reply
    call_runs stays reply calls = record {
      steps = record {
        descriptor = ap fields_of same_fields ∙ set;
        call =
            let At : Descriptor → Type 0 = λ d. Calls (setting_of disk moment old) line (record (stand_of disk shell old) { descriptor = d }) (stand_of disk now new) reply in
            subst At (set ∙ stays) calls;
      };
      serves = serves;
      capacity = capacity;
    }

    -- a line that makes no call
    pub set_runs : ((setting : Setting) (a b : Stand) (reply : Reply) → reply ≡ Nothing → b.session ≡ a.session → Stays a b → Calls setting line a b reply)
        → state_of now.session ≡ state_of shell.session → new.cat ≡ old.cat → RunsLine disk moment line to shell now old new Nothing
    set_runs none same cat = record {
      steps = record {
        descriptor = ap fields_of same_fields ∙ set;
        call = none (setting_of disk moment old) (stand_of disk shell old) (stand_of disk now new) Nothing refl same
            (record { contents = ap contents_in cat; used = ap used_of cat });
      };
      serves = serves;
      capacity = capacity;
    }

pub stays : {D : Type 0} (disk : Ghosts D) (a b : Shell) (old new : Store D) → new.cat ≡ old.cat → Stays (stand_of disk a old) (stand_of disk b new)
stays disk a b old new same = record { contents = ap contents_in same; used = ap used_of same }

-- the descriptor of a shell is no matter to its store
pub serves_fields : {D : Type 0} (disk : Ghosts D) (era : EraView) (shell : Shell) (fields : Fields) (store : Store D) → ServesShell disk era shell store
    → ServesShell disk era (record shell { fields = fields }) store
serves_fields disk era shell fields store before = record { serves = before.serves; place = before.place; within = before.within; reads_on = before.reads_on }

-- the code of an answer that is one
pub code_in : (P : BsaRc → Type 0) (reply : Reply) → IsCode P reply → (code : BsaRc) × P code
code_in P Nothing is = absurd is
code_in P (Code code) is = (code, is)
code_in P (Sent size digest) is = absurd is
code_in P (Found copy size descriptor) is = absurd is
code_in P (Opened size) is = absurd is
code_in P (Given bytes) is = absurd is
code_in P (Ended copies) is = absurd is

module _ {D : Type 0} (disk : Ghosts D) (era : EraView) (shell now : Shell) (store : Store D) (before : ServesShell disk era shell store) where
  pub init_shell : (volume moment : ℕ) (reply : Reply) → IsCode (Inits volume moment (state_of shell.session) (state_of now.session)) reply → IsSound (state_of now.session)
      → IsPlace now.volume (state_of now.session) → now.volume ≤ 16 → CanReadOn now.session (objects_of store.cat) → ServesShell disk era now store
  init_shell volume moment reply table sound on within reads =
      let code = code_in (Inits volume moment (state_of shell.session) (state_of now.session)) reply table in
      record {
        serves = init_serves disk era store volume moment (state_of shell.session) (state_of now.session) code.0 code.1 sound before.serves;
        place = on;
        within = within;
        reads_on = reads;
      }

  pub begin_shell : KeepsFields shell now → (reply : Reply) → IsCode (Begins (state_of shell.session) (state_of now.session)) reply → IsSound (state_of now.session)
      → CanReadOn now.session (objects_of store.cat) → ServesShell disk era now store
  begin_shell kept reply table sound reads =
      let code = code_in (Begins (state_of shell.session) (state_of now.session)) reply table in
      other_shell disk era shell now store store before kept era
      (begin_serves disk era store (state_of shell.session) (state_of now.session) code.0 code.1 sound before.serves)
      (begin_place shell.volume (objects_of store.cat) (state_of shell.session) (state_of now.session) code.0 before.place code.1)
      reads

-- ---- lines whose runs aren't found

module _ {D : Type 0} (disk : Ghosts D) (moment : ℕ) where
  abbrev RunsAs : EraView → Shell → Shell → Store D → Store D → Line → Result Reply Status → Type 0
  RunsAs to shell now old new line result = IfOk result (RunsLine disk moment line to shell now old new)

  module _ (era : EraView) (shell : Shell) (fields : Fields) (now : Shell) (store : Store D) (line : BsaLine) where
    pub init_runs : (volume : ℕ) → line ≡ Init volume → fields_of fields ≡ after_line (line_of_bsa line) (fields_of shell.fields) → now.fields ≡ fields
        → ServesShell disk era shell store → (result : Result Reply Status)
        → IfOk result (IsCode (Inits volume moment (state_of shell.session) (state_of now.session))) → IsSound (state_of now.session)
        → IsPlace now.volume (state_of now.session) → now.volume ≤ 16 → (CanReadOn shell.session (objects_of store.cat) → CanReadOn now.session (objects_of store.cat))
        → RunsAs era shell now store store (line_of_bsa line) result
    init_runs volume is set same before (Ok reply) table sound on within reads =
        let set_init = subst (λ (l : BsaLine). fields_of fields ≡ after_line (line_of_bsa l) (fields_of shell.fields)) is set in
        subst (λ (l : BsaLine). RunsLine disk moment (line_of_bsa l) era shell now store store reply) (sym is)
        (call_runs disk moment era shell fields now store store (init_line volume) set_init same
        (init_shell disk era shell now store before volume moment reply table sound on within (reads before.reads_on)) refl refl reply
        (table, record { contents = refl; used = refl }))
    init_runs volume is set same before (Err status) table sound on within reads = tt

    pub begin_runs : line ≡ Begin → fields_of fields ≡ after_line (line_of_bsa line) (fields_of shell.fields) → KeepsFields (record shell { fields = fields }) now
        → ServesShell disk era shell store → (result : Result Reply Status)
        → IfOk result (IsCode (Begins (state_of shell.session) (state_of now.session))) → IsSound (state_of now.session)
        → (CanReadOn shell.session (objects_of store.cat) → CanReadOn now.session (objects_of store.cat))
        → RunsAs era shell now store store (line_of_bsa line) result
    begin_runs is set kept before (Ok reply) table sound reads =
        let set_begin = subst (λ (l : BsaLine). fields_of fields ≡ after_line (line_of_bsa l) (fields_of shell.fields)) is set in
        subst (λ (l : BsaLine). RunsLine disk moment (line_of_bsa l) era shell now store store reply) (sym is)
        (call_runs disk moment era shell fields now store store begin_line set_begin kept.fields
        (begin_shell disk era (record shell { fields = fields }) now store (serves_fields disk era shell fields store before) kept reply table sound (reads before.reads_on)) refl refl reply
        (table, record { contents = refl; used = refl }))
    begin_runs is set kept before (Err status) table sound reads = tt

  module _ (from to : EraView) (shell : Shell) (fields : Fields) (now : Shell) (old new : Store D) (line : BsaLine) where
    pub end_runs : (vote : ℕ) → line ≡ End vote → fields_of fields ≡ after_line (line_of_bsa line) (fields_of shell.fields) → KeepsFields (record shell { fields = fields }) now
        → ServesShell disk from shell old → (result : Result Reply Status)
        → IfOk result (Votes (setting_of disk moment old) vote (stand_of disk (record shell { fields = fields }) old) (stand_of disk now new))
        → OnOk result (ServesShell disk from (record shell { fields = fields }) old → ServesShell disk to now new) → capacity_of new.cat ≡ capacity_of old.cat
        → RunsAs to shell now old new (line_of_bsa line) result
    end_runs vote is set kept before (Ok reply) votes serves capacity =
        let set_end = subst (λ (l : BsaLine). fields_of fields ≡ after_line (line_of_bsa l) (fields_of shell.fields)) is set in
        subst (λ (l : BsaLine). RunsLine disk moment (line_of_bsa l) to shell now old new reply) (sym is)
        (call_runs disk moment to shell fields now old new (end_line vote) set_end kept.fields (serves (serves_fields disk from shell fields old before)) capacity refl reply votes)
    end_runs vote is set kept before (Err status) votes serves capacity = tt
