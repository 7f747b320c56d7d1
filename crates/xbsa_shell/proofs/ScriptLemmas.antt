-- The loop over the lines of a script.
use Rattle.std.proofs.Common.{◌≡◌, ℕ, suc, ◌+◌, ◌*◌, ◌≤◌, ◌<◌, Bool, true, false, IsTrue, List, [], ◌∷◌, ◌++◌, Result, Ok, Err, refl, sym, ap, ◌∙◌, subst, arith, append_assoc, add-one}
use Rattle.std.proofs.lemmas.List.{append-nil}
use Rattle.site_disk.specs.Ledger.{EraView}
use Rattle.site_disk.specs.declared.disk.Disk.{Ghosts}
use Rattle.bsa_descriptor.specs.Descriptor.{empty_descriptor}
use Rattle.bsa_descriptor.specs.declared.descriptor.Descriptor.{Descriptor}
use Rattle.catalogue_journal.specs.Catalogues.{capacity_of, contents_in, objects_of, used_of}
use Rattle.object_store.specs.Endings.{PassesEras}
use Rattle.object_store.specs.Reading.{part_on, reads_on}
use Rattle.object_store.specs.declared.store.Store.{Store}
use Rattle.onbar_grammar.specs.Script.{Raw, raw_lines}
use Rattle.script_lines.specs.Cutting.{LinesView, TakesFront}
use Rattle.session_machine.specs.States.{State, is_getting, none}
use Rattle.bsa_session.specs.Sessions.{state_of}
use Rattle.bsa_transcripts.specs.Fields.{fields_of}
use Rattle.bsa_transcripts.specs.Lines.{Setting, Stand}
use Rattle.site_model.specs.declared.status.Status.{Status}
use Rattle.site_model.specs.declared.status.Status.TheVariants.{Ok as Done}
use Rattle.xbsa_shell.specs.Running.{Advances, HasPrinted, Runs, TakesLine, Went}
use Rattle.xbsa_shell.specs.Serving.{first_stand, IsPlace, Serves, ServesShell, setting_of, stand_of}
use Rattle.xbsa_shell.specs.declared.calls.Shell.{Shell}
use Rattle.xbsa_shell.proofs.LeadLemmas.{reads_any}
use Rattle.xbsa_shell.proofs.RunLemmas.{printed_both, printed_none, run_ended, went_more, went_none, whole_end}

front_again : (a b c : List ℕ) → TakesFront a b → TakesFront b c → TakesFront a c
front_again a b c first second = (first.0 ++ second.0, first.1 ∙ ap (λ (l : List ℕ). first.0 ++ l) second.1 ∙ sym (append_assoc first.0 second.0 c))

module _ {D : Type 0} (disk : Ghosts D) where
  -- what the lines that were done leave
  pub record KeepsRun (from now : EraView) (first store : Store D) (shell : Shell) (lines : LinesView) (line : ℕ) (tells : Bool) (left0 left : List ℕ) (source0 source out0 out : ℕ)
      : Type 0 where
    pub serves : ServesShell disk now shell store
    pub capacity : capacity_of store.cat ≡ capacity_of first.cat
    pub key : now.key ≡ from.key
    pub era_later : from.number ≤ now.number
    pub era_limit : now.number ≤ from.number + 8 * lines.begun
    pub script_limit : lines.begun ≤ 16777216
    pub counted : line ≤ lines.begun + 1
    pub taken : IsTrue tells → TakesFront left0 left
    pub source_later : source0 ≤ source
    pub out_later : out0 ≤ out

  -- what they printed
  abbrev pub WentRun : ℕ → Store D → Store D → Shell → LinesView → ℕ → Bool → (left0 left : List ℕ) → (taken0 taken : List ℕ) → Type 0
  WentRun moment first store shell lines line tells left0 left taken0 taken =
      HasPrinted tells (Went (setting_of disk moment first) (raw_lines left0) (first_stand disk first) line lines.begun (raw_lines (lines.held ++ left)) (stand_of disk shell store)) taken0 taken

  abbrev no_lines : LinesView
  no_lines = record { begun = 0; line = []; held = [] }

  stand_first : (shell : Shell) (store : Store D) → state_of shell.session ≡ none → fields_of shell.fields ≡ empty_descriptor → stand_of disk shell store ≡ first_stand disk store
  stand_first shell store session fields =
      let At : Descriptor → State → Stand = λ d s. record {
        descriptor = d;
        session = s;
        contents = contents_in store.cat;
        used = used_of store.cat;
        reads = reads_on disk.bytes store.volumes.items;
        part = part_on disk.bytes store.volumes.items;
      } in
      ap (λ (d : Descriptor). At d (state_of shell.session)) fields ∙ ap (At empty_descriptor) session

  pub went_first : (moment : ℕ) (store : Store D) (shell : Shell) (lines : LinesView) (tells : Bool) (left taken : List ℕ) → lines ≡ no_lines → state_of shell.session ≡ none
      → fields_of shell.fields ≡ empty_descriptor → WentRun moment store store shell lines 1 tells left left taken taken
  went_first moment store shell lines tells left taken is session fields =
      let setting = setting_of disk moment store in
      let P : LinesView → Stand → Type 0 = λ l s. HasPrinted tells (Went setting (raw_lines left) (first_stand disk store) 1 l.begun (raw_lines (l.held ++ left)) s) taken taken in
      let begins : P no_lines (first_stand disk store) = printed_none tells taken _ (went_none setting (raw_lines left) (first_stand disk store)) in
      subst (λ (l : LinesView). P l (stand_of disk shell store)) (sym is)
      (subst (P no_lines) (sym (stand_first shell store session fields)) begins)

  pub serves_first : (era : EraView) (store : Store D) (shell : Shell) → Serves disk era none store → state_of shell.session ≡ none → shell.volume ≤ 16 → ServesShell disk era shell store
  serves_first era store shell serves session within = record {
    serves = subst (λ (s : State). Serves disk era s store) (sym session) serves;
    place = subst (IsPlace shell.volume) (sym session) tt;
    within = within;
    reads_on = reads_any shell.session (objects_of store.cat) (ap is_getting session);
  }

  pub keeps_first : (era : EraView) (store : Store D) (shell : Shell) (lines : LinesView) (tells : Bool) (left : List ℕ) (source out : ℕ) → Serves disk era none store
      → lines ≡ no_lines → state_of shell.session ≡ none → shell.volume ≤ 16 → KeepsRun era era store store shell lines 1 tells left left source source out out
  keeps_first era store shell lines tells left source out serves is session within =
      let begun : lines.begun ≡ 0 = ap (λ (l : LinesView). l.begun) is in
      record {
        serves = serves_first era store shell serves session within;
        capacity = refl;
        key = refl;
        era_later = omega arith;
        era_limit = omega arith;
        script_limit = omega (arith, begun);
        counted = omega arith;
        taken = λ tell. ([], refl);
        source_later = omega arith;
        out_later = omega arith;
      }

  module _ (from era : EraView) (first store : Store D) (shell : Shell) (lines : LinesView) (line : ℕ) (tells : Bool) (left0 left : List ℕ) (source0 source out0 out : ℕ)
      (keeps : KeepsRun from era first store shell lines line tells left0 left source0 source out0 out) where
    -- a line more
    pub keeps_next : (to : EraView) (next : Store D) (now : Shell) (cut : LinesView) (left_now : List ℕ) (source_now out_now : ℕ) → PassesEras era to → ServesShell disk to now next
        → capacity_of next.cat ≡ capacity_of store.cat → lines.begun < cut.begun → cut.begun ≤ 16777216 → (IsTrue tells → TakesFront left left_now) → source ≤ source_now → out ≤ out_now
        → KeepsRun from to first next now cut (line + 1) tells left0 left_now source0 source_now out0 out_now
    keeps_next to next now cut left_now source_now out_now passes serves capacity advances limit taken source_later out_later = record {
      serves = serves;
      capacity = capacity ∙ keeps.capacity;
      key = passes.key ∙ keeps.key;
      era_later = omega (arith, passes.no_earlier, keeps.era_later);
      era_limit = omega (arith, passes.few, keeps.era_limit, advances);
      script_limit = limit;
      counted = omega (arith, keeps.counted, advances);
      taken = λ tell. front_again left0 left left_now (keeps.taken tell) (taken tell);
      source_later = omega (arith, keeps.source_later, source_later);
      out_later = omega (arith, keeps.out_later, out_later);
    }

    pub taken_then : (left_now : List ℕ) → (IsTrue tells → TakesFront left left_now) → IsTrue tells → TakesFront left0 left_now
    taken_then left_now taken tell = front_again left0 left left_now (keeps.taken tell) (taken tell)

    module _ (moment : ℕ) (sink : Bool) (printed0 printed : List ℕ) (went : WentRun moment first store shell lines line sink left0 left printed0 printed) where
      abbrev Takes : LinesView → List ℕ → Store D → Shell → Result Bool Status → List ℕ → List ℕ → Type 0
      Takes cut left_now next now result a b = HasPrinted sink
          (TakesLine (setting_of disk moment store) line lines.begun cut.begun (raw_lines (lines.held ++ left)) (raw_lines (cut.held ++ left_now)) (stand_of disk shell store)
          (stand_of disk now next) result) a b

      -- the setting is the same
      setting_same : setting_of disk moment store ≡ setting_of disk moment first
      setting_same =
          let At : ℕ → Setting = λ n. record { tells = disk.is_modelled; moment = moment; capacity = n } in
          ap At keeps.capacity

      takes_first : (cut : LinesView) (left_now : List ℕ) (next : Store D) (now : Shell) (result : Result Bool Status) (a b : List ℕ) → Takes cut left_now next now result a b
          → HasPrinted sink (TakesLine (setting_of disk moment first) line lines.begun cut.begun (raw_lines (lines.held ++ left)) (raw_lines (cut.held ++ left_now))
          (stand_of disk shell store) (stand_of disk now next) result) a b
      takes_first cut left_now next now result a b takes =
          let P : Setting → Type 0 = λ s. HasPrinted sink (TakesLine s line lines.begun cut.begun (raw_lines (lines.held ++ left)) (raw_lines (cut.held ++ left_now))
          (stand_of disk shell store) (stand_of disk now next) result) a b in
          subst P setting_same takes

      pub went_next : (cut : LinesView) (left_now : List ℕ) (next : Store D) (now : Shell) (printed_now : List ℕ) → Takes cut left_now next now (Ok true) printed printed_now
          → WentRun moment first next now cut (line + 1) sink left0 left_now printed0 printed_now
      went_next cut left_now next now printed_now takes =
          let setting = setting_of disk moment first in
          let script = raw_lines left0 in
          let begin = first_stand disk first in
          let here = stand_of disk shell store in
          let there = stand_of disk now next in
          let before = raw_lines (lines.held ++ left) in
          let after = raw_lines (cut.held ++ left_now) in
          subst (λ (n : ℕ). HasPrinted sink (Went setting script begin n cut.begun after there) printed0 printed_now) (sym (add-one line))
          (printed_both sink (Went setting script begin line lines.begun before here) (Advances setting line lines.begun cut.begun before after here there)
          (Went setting script begin (suc line) cut.begun after there) printed0 printed printed_now
          (λ a b done more. went_more setting script begin line lines.begun before here a done cut.begun after there b more)
          went (takes_first cut left_now next now (Ok true) printed printed_now takes))

      -- the end
      pub went_end : (cut : LinesView) (left_now : List ℕ) (next : Store D) (now : Shell) (printed_now : List ℕ) → Takes cut left_now next now (Ok false) printed printed_now
          → HasPrinted sink (Runs (setting_of disk moment first) (raw_lines left0) (first_stand disk first) Done) printed0 printed_now
      went_end cut left_now next now printed_now takes =
          let setting = setting_of disk moment first in
          let script = raw_lines left0 in
          let begin = first_stand disk first in
          let here = stand_of disk shell store in
          let before = raw_lines (lines.held ++ left) in
          printed_both sink (Went setting script begin line lines.begun before here) (λ text. (before ≡ []) × (text ≡ [])) (Runs setting script begin Done) printed0 printed printed_now
          (λ a b done no. subst (Runs setting script begin Done) (sym (ap (λ (t : List ℕ). a ++ t) no.1 ∙ append-nil a))
          (whole_end setting script begin line lines.begun before here a done no.0))
          went takes

      pub went_broken : (cut : LinesView) (left_now : List ℕ) (next : Store D) (now : Shell) (printed_now : List ℕ) (status : Status)
          → Takes cut left_now next now (Err status) printed printed_now
          → HasPrinted sink (Runs (setting_of disk moment first) (raw_lines left0) (first_stand disk first) status) printed0 printed_now
      went_broken cut left_now next now printed_now status takes =
          let setting = setting_of disk moment first in
          let script = raw_lines left0 in
          let begin = first_stand disk first in
          let here = stand_of disk shell store in
          let there = stand_of disk now next in
          let before = raw_lines (lines.held ++ left) in
          let after = raw_lines (cut.held ++ left_now) in
          printed_both sink (Went setting script begin line lines.begun before here) (TakesLine setting line lines.begun cut.begun before after here there (Err status))
          (Runs setting script begin status) printed0 printed printed_now
          (λ a b done more. run_ended setting script begin line lines.begun before here a done cut.begun after there status b more)
          went (takes_first cut left_now next now (Err status) printed printed_now takes)
