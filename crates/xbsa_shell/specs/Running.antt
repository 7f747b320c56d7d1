-- What a script of calls comes to: its lines one after another, up to its end or the first that is at fault.
use Rattle.std.specs.Prelude.{◌≡◌, ◌⊎◌, ℕ, suc, ◌+◌, Bool, true, false, IsTrue, List, [], ◌∷◌, ◌++◌, length, map, Option, None, Some, Result, Ok, Err}
use Rattle.onbar_grammar.specs.Script.{Raw, spelled, line_fault}
use Rattle.onbar_grammar.specs.declared.Why.{Why}
use Rattle.bsa_lines.specs.Lines.{Line, bsa_line_of}
use Rattle.bsa_transcripts.specs.Lines.{Setting, Stand, Reads, Transcribes}
use Rattle.site_model.specs.Texts.{status_text}
use Rattle.site_model.specs.declared.status.Status.{Status}
use Rattle.site_model.specs.declared.status.Status.TheVariants.{Ok as Done, OutOfMemory, ReadFault, WriteFault, DiskFault, ScriptFault}

-- what is wrong with a line that begins behind so many bytes of the script: its length first
abbrev pub why_of : Result (Option Line) Why → Option Why
why_of (Ok line) = None
why_of (Err why) = Some why

abbrev pub fault_or : Option Why → Option Why → Option Why
fault_or None later = later
fault_or (Some why) later = Some why

abbrev pub fault_of : ℕ → Raw → Option Why
fault_of begun raw = fault_or (line_fault begun raw) (why_of (bsa_line_of raw.text))

abbrev pub behind : ℕ → Raw → ℕ
behind begun raw = begun + length (spelled raw)

-- the lines before the first that is at fault
abbrev pub with_good : Option Why → Raw → List Raw → List Raw
with_good None raw later = raw ∷ later
with_good (Some why) raw later = []

abbrev pub good_lines : ℕ → List Raw → List Raw
good_lines begun [] = []
good_lines begun (raw ∷ raws) = with_good (fault_of begun raw) raw (good_lines (behind begun raw) raws)

-- how the script ends: at its end, or at that line
abbrev pub ends_at : Option Why → ℕ → Status → Status
ends_at None line later = later
ends_at (Some why) line later = ScriptFault line why

abbrev pub script_status : ℕ → ℕ → List Raw → Status
script_status line begun [] = Done
script_status line begun (raw ∷ raws) = ends_at (fault_of begun raw) line (script_status (suc line) (behind begun raw) raws)

abbrev pub texts_of : List Raw → List (List ℕ)
texts_of raws = map (λ raw. raw.text) raws

module _ (setting : Setting) (script : List Raw) (old : Stand) where
  -- the lines that were done, with what is left behind so many bytes
  pub record Went (line begun : ℕ) (left : List Raw) (new : Stand) (text : List ℕ) : Type 0 where
    pub done : List Raw
    pub good : good_lines 0 script ≡ done ++ good_lines begun left
    pub ends : script_status 1 0 script ≡ script_status line begun left
    pub transcript : Transcribes setting (texts_of done) old new text

  -- all lines up to the end or the first that is at fault
  pub record RunsWhole (status : Status) (text : List ℕ) : Type 0 where
    pub status_is : status ≡ script_status 1 0 script
    pub new : Stand
    pub transcript : Transcribes setting (texts_of (good_lines 0 script)) old new text

  -- it was cut short: what was printed is a front of the transcript of some of these lines, the first ones
  pub record RunsSome (text : List ℕ) : Type 0 where
    pub done : List Raw
    pub later : List Raw
    pub good : good_lines 0 script ≡ done ++ later
    pub new : Stand
    pub rest : List ℕ
    pub transcript : Transcribes setting (texts_of done) old new (text ++ rest)

  abbrev pub Runs : Status → List ℕ → Type 0
  Runs Done text = RunsWhole Done text
  Runs OutOfMemory text = RunsSome text
  Runs ReadFault text = RunsSome text
  Runs WriteFault text = RunsSome text
  Runs (DiskFault disk) text = RunsSome text
  Runs (ScriptFault line why) text = RunsWhole (ScriptFault line why) text
  Runs status text = ⊥

-- what a run printed, where its sink tells what it takes
pub record HasPrinted (tells : Bool) (runs : List ℕ → Type 0) (before after : List ℕ) : Type 0 where
  pub text : List ℕ
  pub is : runs text
  pub taken : IsTrue tells → after ≡ before ++ text

abbrev pub status_in : {T : Type 0} → Result T Status → Status
status_in (Ok value) = Done
status_in (Err status) = status

-- ---- one line

-- how a line ends the run, by what it says
abbrev pub EndsText : ℕ → Result (Option Line) Why → Status → Type 0
EndsText line read OutOfMemory = Unit {0}
EndsText line read (DiskFault disk) = Unit {0}
EndsText line read (ScriptFault at why) = (at ≡ line) × (read ≡ Err why)
EndsText line read status = ⊥

module _ (setting : Setting) (line begun now : ℕ) (before after : List Raw) (old new : Stand) where
  -- the first of the lines that are left was done
  pub record Advances (text : List ℕ) : Type 0 where
    pub raw : Raw
    pub first : before ≡ raw ∷ after
    pub no_fault : fault_of begun raw ≡ None
    pub now_is : now ≡ behind begun raw
    pub reads : Reads setting (bsa_line_of raw.text) old new text

  -- it is at fault
  pub record RefusesLine (at : ℕ) (why : Why) (text : List ℕ) : Type 0 where
    pub line_is : at ≡ line
    pub raw : Raw
    pub later : List Raw
    pub first : before ≡ raw ∷ later
    pub fault : fault_of begun raw ≡ Some why
    pub nothing : text ≡ []

  -- it was done, and a front of its text was printed
  pub record AdvancesPart (text : List ℕ) : Type 0 where
    pub rest : List ℕ
    pub advances : Advances (text ++ rest)

  -- the run is cut short at it
  abbrev pub BreaksLine : List ℕ → Type 0
  BreaksLine text = (text ≡ []) ⊎ AdvancesPart text

  abbrev pub TakesLine : Result Bool Status → List ℕ → Type 0
  TakesLine (Ok true) text = Advances text
  TakesLine (Ok false) text = (before ≡ []) × (text ≡ [])
  TakesLine (Err OutOfMemory) text = BreaksLine text
  TakesLine (Err ReadFault) text = BreaksLine text
  TakesLine (Err WriteFault) text = BreaksLine text
  TakesLine (Err (DiskFault disk)) text = BreaksLine text
  TakesLine (Err (ScriptFault at why)) text = RefusesLine at why text
  TakesLine (Err status) text = ⊥

-- ---- shells

module _ (setting : Setting) (script : List Raw) (old : Stand) where
  -- the transcript, and the line of the status
  pub record PrintsShell (status : Status) (text : List ℕ) : Type 0 where
    pub transcript : List ℕ
    pub runs : RunsWhole setting script old status transcript
    pub is : text ≡ transcript ++ status_text status

  -- a front of it
  pub record PrintsShellPart (text : List ℕ) : Type 0 where
    pub status : Status
    pub rest : List ℕ
    pub whole : PrintsShell status (text ++ rest)

  -- The shell ends at the script's end or at a fault of it, or it is cut short.
  abbrev pub EndsShell : Status → List ℕ → Type 0
  EndsShell Done text = PrintsShell Done text
  EndsShell (ScriptFault line why) text = PrintsShell (ScriptFault line why) text
  EndsShell OutOfMemory text = RunsSome setting script old text ⊎ PrintsShellPart text
  EndsShell ReadFault text = RunsSome setting script old text
  EndsShell WriteFault text = RunsSome setting script old text ⊎ PrintsShellPart text
  EndsShell (DiskFault disk) text = RunsSome setting script old text
  EndsShell status text = ⊥
