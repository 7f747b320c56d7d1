-- What the reading of lines comes to.
use Rattle.std.specs.Prelude.{◌≡◌, ◌⊎◌, ℕ, ◌+◌, ◌/◌, ◌<◌, ◌≤◌, Bool, true, false, List, [], ◌++◌, length, take}
use Rattle.std.specs.List.{AllByRecursion, flat_map}
use Rattle.backup_lines.specs.Lines.{Line}
use Rattle.boot_lines.specs.LineLayout.{IsLine, spelling}
use Rattle.boot_file.specs.Places.{Begins, StopsAt}
use Rattle.boot_file.specs.Answers.{IsBadSlot}
use Rattle.boot_file.specs.declared.faults.BootFault.{BootFault}
use Rattle.boot_file.specs.declared.faults.BootFault.TheVariants.{BadRecord, BootFull, Failed, OutOfMemory}

-- some lines of a run of slots were taken behind others, and the rest of the run is left
pub record Partway (old new : List Line) (run rest : List ℕ) : Type 0 where
  pub more : List Line
  pub lines : new ≡ old ++ more
  pub each : AllByRecursion IsLine more
  pub bytes : run ≡ flat_map spelling more ++ rest

-- the next slot of the run is no line's
pub record MeetsBad (old new : List Line) (run : List ℕ) : Type 0 where
  pub rest : List ℕ
  pub way : Partway old new run rest
  pub whole : 128 ≤ length rest
  pub bad : (line : Line) → IsLine line → take 128 rest ≡ spelling line → ⊥

-- all lines of a run were taken, or those up to a slot that is no line's
abbrev pub TakesRun : List Line → List Line → List ℕ → Bool → Type 0
TakesRun old new run true = Partway old new run []
TakesRun old new run false = MeetsBad old new run

-- so many lines were read, or fewer
abbrev pub Counts : ℕ → List Line → Bool → Type 0
Counts end lines true = length lines ≡ end
Counts end lines false = length lines < end

-- so many lines stand there, or one of them isn't in the grammar
abbrev pub ComesTo : List ℕ → ℕ → List Line → Bool → Type 0
ComesTo bytes end lines true = Begins lines bytes
ComesTo bytes end lines false = StopsAt lines bytes

-- why lines aren't read
abbrev pub IsBadRead : List ℕ → BootFault → Type 0
IsBadRead bytes (BadRecord slot) = IsBadSlot bytes slot
IsBadRead bytes (BootFull used wanted number) = ⊥
IsBadRead bytes Failed = Unit {0}
IsBadRead bytes OutOfMemory = Unit {0}

-- none of the first so many slots is bad, or one is
abbrev pub CameTo : List ℕ → ℕ → List Line → Type 0
CameTo bytes held lines = Begins lines bytes × (length lines ≡ held) ⊎ (StopsAt lines bytes × (length lines < held))
