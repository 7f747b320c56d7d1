-- The lines of a script, one after another.
use Rattle.std.proofs.Common.{◌≡◌, ◌⊎◌, ℕ, suc, ◌+◌, Bool, true, false, IsTrue, List, [], ◌∷◌, ◌++◌, length, map, Option, None, Some, Result, Ok, Err, inl, inr, refl, sym, ap, ◌∙◌, subst, append_assoc}
use Rattle.std.proofs.lemmas.List.{append-nil, map_push}
use Rattle.onbar_grammar.specs.Script.{Raw, spelled, line_fault, raw_lines}
use Rattle.onbar_grammar.specs.declared.Why.{Why}
use Rattle.onbar_grammar.specs.declared.Why.TheVariants.{Words, TooLong as LineTooLong, ScriptTooLong as ScriptPasses}
use Rattle.script_lines.specs.Cutting.{CutsLine, LinesView, first_fault}
use Rattle.script_lines.specs.Fault.{Finds}
use Rattle.script_lines.specs.declared.cutting.LineFault.{LineFault}
use Rattle.script_lines.specs.declared.cutting.LineFault.TheVariants.{Failed, TooLong, ScriptTooLong, OutOfMemory as NoMemoryForLines}
use Rattle.std.specs.Option.{ok_or, option_map}
use Rattle.std.specs.Prelude.{IfErr}
use Rattle.bsa_lines.specs.Lines.{Line, bsa_line_of, keyword_line}
use Rattle.bsa_transcripts.specs.Lines.{Setting, Stand, Goes, Reads, Transcribes}
use Rattle.site_model.specs.declared.status.Status.{Status}
use Rattle.site_model.specs.declared.status.Status.TheVariants.{Ok as Done, OutOfMemory, ReadFault, WriteFault, DiskFault, ScriptFault}
use Rattle.xbsa_shell.specs.Printing.{PrintsFront}
use Rattle.xbsa_shell.specs.Running.{Advances, AdvancesPart, BreaksLine, EndsText, HasPrinted, RefusesLine, Runs, RunsSome, RunsWhole, TakesLine, Went, behind, fault_of, fault_or, good_lines, script_status, texts_of, why_of, with_good, ends_at}
use Rattle.site_disk.specs.Ledger.{EraView}
use Rattle.site_disk.specs.declared.disk.Disk.{Ghosts}
use Rattle.catalogue_journal.specs.Catalogues.{capacity_of}
use Rattle.object_store.specs.declared.store.Store.{Store}
use Rattle.bsa_transcripts.specs.declared.replies.Reply.{Reply}
use Rattle.bsa_transcripts.specs.declared.replies.Reply.TheVariants.{Nothing}
use Rattle.xbsa_shell.specs.Serving.{RunsLine, RunsText, ServesShell, setting_of, stand_of}
use Rattle.xbsa_shell.specs.Statuses.{status_of_line, CutsCall, IsOfRun}
use Rattle.xbsa_shell.specs.declared.calls.Shell.{Shell}

-- ---- what is printed

pub printed_part : (tells : Bool) (whole before after : List ℕ) (P : List ℕ → Type 0) → (IsTrue tells → PrintsFront whole before after) → P []
    → ((printed rest : List ℕ) → whole ≡ printed ++ rest → P printed) → HasPrinted tells P before after
printed_part true whole before after P front none part =
    let f = front refl in record { text = f.printed; is = part f.printed f.rest f.parts; taken = λ tell. f.taken }
printed_part false whole before after P front none part = record { text = []; is = none; taken = λ (no : IsTrue false). cc no }

pub printed_none : (tells : Bool) (before : List ℕ) (P : List ℕ → Type 0) → P [] → HasPrinted tells P before before
printed_none tells before P none = record { text = []; is = none; taken = λ tell. sym (append-nil before) }

-- ---- one line

module _ (setting : Setting) (line begun now : ℕ) (after : List Raw) (old new : Stand) where
  abbrev Takes : List Raw → Result Bool Status → List ℕ → Type 0
  Takes before result text = TakesLine setting line begun now before after old new result text

  by_limit : (why : Why) (raws : List Raw) → first_fault begun raws ≡ Some why → RefusesLine setting line begun now raws after old new line why []
  by_limit why [] is = cc is
  by_limit why (raw ∷ later) is = record {
    line_is = refl;
    raw = raw;
    later = later;
    first = refl;
    fault = ap (λ (f : Option Why). fault_or f (why_of (bsa_line_of raw.text))) is;
    nothing = refl;
  }

  -- a line isn't cut
  pub no_line : (raws : List Raw) (fault : LineFault) → Finds (Err fault) (first_fault begun raws) → Takes raws (Err (status_of_line line fault)) []
  no_line raws Failed is = inl refl
  no_line raws TooLong is = by_limit LineTooLong raws is
  no_line raws ScriptTooLong is = by_limit ScriptPasses raws is
  no_line raws NoMemoryForLines is = inl refl

  -- it is cut, and ends the run
  pub ends_line : (raw : Raw) (status : Status) → line_fault begun raw ≡ None → EndsText line (bsa_line_of raw.text) status → Takes (raw ∷ after) (Err status) []
  ends_line raw OutOfMemory within is = inl refl
  ends_line raw (DiskFault disk) within is = inl refl
  ends_line raw (ScriptFault at why) within is = record {
    line_is = is.0;
    raw = raw;
    later = after;
    first = refl;
    fault = ap (λ (f : Option Why). fault_or f (why_of (bsa_line_of raw.text))) within ∙ ap why_of is.1;
    nothing = refl;
  }
  ends_line raw status within is = absurd is

  -- it is done, and its answer is printed in part
  pub breaks_line : (raws : List Raw) (status : Status) → (status ≡ OutOfMemory) ⊎ (status ≡ WriteFault) → (whole before behind : List ℕ)
      → Advances setting line begun now raws after old new whole → (tells : Bool) → (IsTrue tells → PrintsFront whole before behind)
      → HasPrinted tells (Takes raws (Err status)) before behind
  breaks_line raws status is whole before behind advances tells front =
      by status is (printed_part tells whole before behind (BreaksLine setting line begun now raws after old new) front (inl refl)
      (λ printed rest parts. inr (record { rest = rest; advances = subst (Advances setting line begun now raws after old new) parts advances })))
    where
      by : (s : Status) → (s ≡ OutOfMemory) ⊎ (s ≡ WriteFault) → HasPrinted tells (BreaksLine setting line begun now raws after old new) before behind
          → HasPrinted tells (Takes raws (Err s)) before behind
      by s (inl same) printed = subst (λ (x : Status). HasPrinted tells (Takes raws (Err x)) before behind) (sym same) printed
      by s (inr same) printed = subst (λ (x : Status). HasPrinted tells (Takes raws (Err x)) before behind) (sym same) printed

reads_good : (setting : Setting) (read : Result (Option Line) Why) (old new : Stand) (text : List ℕ) → Reads setting read old new text → why_of read ≡ None
reads_good setting (Ok line) old new text is = refl
reads_good setting (Err why) old new text is = absurd is

-- a line that is cut and done
pub advances_by : (setting : Setting) (line : ℕ) (was is : LinesView) (before after : List ℕ) (old new : Stand) (bytes text : List ℕ) → CutsLine was is before after → bytes ≡ is.line
    → Reads setting (bsa_line_of bytes) old new text → Advances setting line was.begun is.begun (raw_lines before) (raw_lines after) old new text
advances_by setting line was is before after old new bytes text cuts same reads =
    let reads_raw : Reads setting (bsa_line_of cuts.raw.text) old new text =
    subst (λ (b : List ℕ). Reads setting (bsa_line_of b) old new text) (same ∙ sym cuts.text) reads in
    record {
      raw = cuts.raw;
      first = cuts.lines;
      no_fault = ap (λ (f : Option Why). fault_or f (why_of (bsa_line_of cuts.raw.text))) cuts.within
          ∙ reads_good setting (bsa_line_of cuts.raw.text) old new text reads_raw;
      now_is = cuts.begun;
      reads = reads_raw;
    }

pub ends_by : (setting : Setting) (line : ℕ) (was is : LinesView) (before after : List ℕ) (old new : Stand) (bytes : List ℕ) (status : Status) → CutsLine was is before after
    → bytes ≡ is.line → EndsText line (bsa_line_of bytes) status
    → TakesLine setting line was.begun is.begun (raw_lines before) (raw_lines after) old new (Err status) []
ends_by setting line was is before after old new bytes status cuts same ends =
    subst (λ (raws : List Raw). TakesLine setting line was.begun is.begun raws (raw_lines after) old new (Err status) []) (sym cuts.lines)
    (ends_line setting line was.begun is.begun (raw_lines after) old new cuts.raw status cuts.within
    (subst (λ (b : List ℕ). EndsText line (bsa_line_of b) status) (same ∙ sym cuts.text) ends))

-- ---- the lines so far

transcribes_push : (setting : Setting) (lines : List (List ℕ)) (line : List ℕ) (a b c : Stand) (text more : List ℕ) → Transcribes setting lines a b text
    → Reads setting (bsa_line_of line) b c more → Transcribes setting (lines ++ line ∷ []) a c (text ++ more)
transcribes_push setting [] line a b c text more done reads = record {
  between = c;
  front = more;
  rest = [];
  first = subst (λ (s : Stand). Reads setting (bsa_line_of line) s c more) done.0 reads;
  others = (refl, refl);
  parts = ap (λ (t : List ℕ). t ++ more) done.1 ∙ sym (append-nil more);
}
transcribes_push setting (x ∷ lines) line a b c text more done reads = record {
  between = done.between;
  front = done.front;
  rest = done.rest ++ more;
  first = done.first;
  others = transcribes_push setting lines line done.between b c done.rest more done.others reads;
  parts = ap (λ (t : List ℕ). t ++ more) done.parts ∙ append_assoc done.front done.rest more;
}

module _ (setting : Setting) (script : List Raw) (first : Stand) where
  -- before the first line
  pub went_none : Went setting script first 1 0 script first []
  went_none = record { done = []; good = refl; ends = refl; transcript = (refl, refl) }

  module _ (line begun : ℕ) (left : List Raw) (here : Stand) (text : List ℕ) (went : Went setting script first line begun left here text) where
    -- a line more
    pub went_more : (now : ℕ) (after : List Raw) (new : Stand) (more : List ℕ) → Advances setting line begun now left after here new more
        → Went setting script first (suc line) now after new (text ++ more)
    went_more now after new more next =
        let raw = next.raw in
        let same : good_lines begun left ≡ raw ∷ good_lines now after =
        ap (good_lines begun) next.first ∙ ap (λ (f : Option Why). with_good f raw (good_lines (behind begun raw) after)) next.no_fault
        ∙ ap (λ (n : ℕ). raw ∷ good_lines n after) (sym next.now_is) in
        let status : script_status line begun left ≡ script_status (suc line) now after =
        ap (script_status line begun) next.first ∙ ap (λ (f : Option Why). ends_at f line (script_status (suc line) (behind begun raw) after)) next.no_fault
        ∙ ap (λ (n : ℕ). script_status (suc line) n after) (sym next.now_is) in
        record {
          done = went.done ++ raw ∷ [];
          good = went.good ∙ ap (λ (l : List Raw). went.done ++ l) same ∙ sym (append_assoc went.done (raw ∷ []) (good_lines now after));
          ends = went.ends ∙ status;
          transcript = subst (λ (l : List (List ℕ)). Transcribes setting l first new (text ++ more)) (sym (map_push (λ (r : Raw). r.text) went.done raw))
              (transcribes_push setting (texts_of went.done) raw.text first here new text more went.transcript next.reads);
        }

    -- the end of the lines
    whole_by : (status : Status) → script_status line begun left ≡ status → good_lines begun left ≡ [] → RunsWhole setting script first status text
    whole_by status ends none = record {
      status_is = sym (went.ends ∙ ends);
      new = here;
      transcript = subst (λ (l : List Raw). Transcribes setting (texts_of l) first here text)
          (sym (went.good ∙ ap (λ (l : List Raw). went.done ++ l) none ∙ append-nil went.done)) went.transcript;
    }

    pub whole_end : left ≡ [] → RunsWhole setting script first Done text
    whole_end none = whole_by Done (ap (script_status line begun) none) (ap (good_lines begun) none)

    whole_fault : (now : ℕ) (after : List Raw) (new : Stand) (at : ℕ) (why : Why) (more : List ℕ) → RefusesLine setting line begun now left after here new at why more
        → RunsWhole setting script first (ScriptFault at why) text
    whole_fault now after new at why more refuses =
        let raw = refuses.raw in
        whole_by (ScriptFault at why)
        (ap (script_status line begun) refuses.first
        ∙ ap (λ (f : Option Why). ends_at f line (script_status (suc line) (behind begun raw) refuses.later)) refuses.fault
        ∙ ap (λ (n : ℕ). ScriptFault n why) (sym refuses.line_is))
        (ap (good_lines begun) refuses.first ∙ ap (λ (f : Option Why). with_good f raw (good_lines (behind begun raw) refuses.later)) refuses.fault)

    some_now : RunsSome setting script first text
    some_now = record {
      done = went.done;
      later = good_lines begun left;
      good = went.good;
      new = here;
      rest = [];
      transcript = subst (Transcribes setting (texts_of went.done) first here) (sym (append-nil text)) went.transcript;
    }

    some_broken : (now : ℕ) (after : List Raw) (new : Stand) (more : List ℕ) → BreaksLine setting line begun now left after here new more
        → RunsSome setting script first (text ++ more)
    some_broken now after new more (inl none) = subst (RunsSome setting script first) (sym (ap (λ (t : List ℕ). text ++ t) none ∙ append-nil text)) some_now
    some_broken now after new more (inr part) =
        let then = went_more now after new (more ++ part.rest) part.advances in
        record {
          done = then.done;
          later = good_lines now after;
          good = then.good;
          new = new;
          rest = part.rest;
          transcript = subst (Transcribes setting (texts_of then.done) first new) (sym (append_assoc text more part.rest)) then.transcript;
        }

    pub run_ended : (now : ℕ) (after : List Raw) (new : Stand) (status : Status) (more : List ℕ) → TakesLine setting line begun now left after here new (Err status) more
        → Runs setting script first status (text ++ more)
    run_ended now after new OutOfMemory more is = some_broken now after new more is
    run_ended now after new ReadFault more is = some_broken now after new more is
    run_ended now after new WriteFault more is = some_broken now after new more is
    run_ended now after new (DiskFault disk) more is = some_broken now after new more is
    run_ended now after new (ScriptFault at why) more is =
        subst (RunsWhole setting script first (ScriptFault at why)) (sym (ap (λ (t : List ℕ). text ++ t) is.nothing ∙ append-nil text)) (whole_fault now after new at why more is)
    run_ended now after new status more is = absurd is

-- two texts, one behind the other
pub printed_both : (tells : Bool) (P Q R : List ℕ → Type 0) (before between after : List ℕ) → ((a b : List ℕ) → P a → Q b → R (a ++ b)) → HasPrinted tells P before between
    → HasPrinted tells Q between after → HasPrinted tells R before after
printed_both tells P Q R before between after join a b = record {
  text = a.text ++ b.text;
  is = join a.text b.text a.is b.is;
  taken = λ tell. b.taken tell ∙ ap (λ (t : List ℕ). t ++ b.text) (a.taken tell) ∙ append_assoc before a.text b.text;
}

-- ---- what a line says

-- a call that cuts the shell short ends its line
pub cut_text : (line : ℕ) (read : Result (Option Line) Why) (status : Status) → CutsCall status → EndsText line read status
cut_text line read OutOfMemory cut = tt
cut_text line read (DiskFault disk) cut = tt
cut_text line read status cut = absurd cut

module _ {D : Type 0} (disk : Ghosts D) (moment : ℕ) (to : EraView) (shell now : Shell) (old new : Store D) (read : Result (Option Line) Why) where
  pub text_runs : (line : Line) (reply : Reply) → Ok (Some line) ≡ read → RunsLine disk moment line to shell now old new reply
      → RunsText disk moment read to shell now old new reply
  text_runs line reply is runs = subst (λ (r : Result (Option Line) Why). RunsText disk moment r to shell now old new reply) is (record {
    reads = record { reply = reply; steps = runs.steps; is = refl };
    serves = runs.serves;
    capacity = runs.capacity;
  })

pub text_empty : {D : Type 0} (disk : Ghosts D) (moment : ℕ) (to : EraView) (shell : Shell) (store : Store D) (read : Result (Option Line) Why) → Ok None ≡ read
    → ServesShell disk to shell store → RunsText disk moment read to shell shell store store Nothing
text_empty disk moment to shell store read is serves = record {
  reads = subst (λ (r : Result (Option Line) Why). Reads (setting_of disk moment store) r (stand_of disk shell store) (stand_of disk shell store) []) is (refl, refl);
  serves = serves;
  capacity = refl;
}

-- ---- what ends a run

words_only : {T : Type 0} (o : Option T) (why : Why) → ok_or o Words ≡ Err why → why ≡ Words
words_only None why is = let same : Words ≡ why = cc is in sym same
words_only (Some value) why is = cc is

refused_words : (bytes : List ℕ) (why : Why) → bsa_line_of bytes ≡ Err why → why ≡ Words
unfolding bsa_line_of
refused_words [] why is = cc is
refused_words (c ∷ cs) why is = words_only (option_map (λ line. Some line) (keyword_line (c ∷ cs))) why is

pub text_is_run : (line : ℕ) (bytes : List ℕ) (status : Status) → EndsText line (bsa_line_of bytes) status → IsOfRun status
text_is_run line bytes OutOfMemory is = tt
text_is_run line bytes (DiskFault disk) is = tt
text_is_run line bytes (ScriptFault at why) is = subst (λ (w : Why). IsOfRun (ScriptFault at w)) (sym (refused_words bytes why is.1)) tt
text_is_run line bytes status is = absurd is

pub err_is_run : (result : Result Bool Status) (status : Status) → result ≡ Err status → IsOfRun status → IfErr result IsOfRun
err_is_run result status is run = subst (λ (r : Result Bool Status). IfErr r IsOfRun) (sym is) run
