-- What the clauses of a command say: where a stop may leave it, what it did at its end, what it read and printed.
use Rattle.std.specs.Prelude.{◌≡◌, ◌⊎◌, ℕ, ◌+◌, ◌<◌, ◌≤◌, List, [], ◌∷◌, ◌++◌, length, Bool, true, false, ◌==◌, nat_lt, nat_le, IsTrue, Option, None, Some, Result, Ok, Err}
use Rattle.onbar_grammar.specs.Script.{Raw, raw_lines, place_of}
use Rattle.command_grammar.specs.Words.{Command, CommandForm, command_of, init_form, transactions_form, show_form}
use Rattle.walks.specs.Follows.{Images, Goes, Ends}
use Rattle.walks.specs.Courses.{IsOnWay}
use Rattle.site_model.specs.declared.disk_name.DiskName.{DiskName}
use Rattle.site_model.specs.declared.disk_name.DiskName.TheVariants.{Cat, Spare, Boot, Log, Volume, Chunk}
use Rattle.site_model.specs.declared.status.Status.{Status}
use Rattle.site_model.specs.declared.status.Status.TheVariants.{Ok as Done, OutOfMemory, ReadFault, WriteFault, DiskFault, ScriptFault, LogFull}
use Rattle.site_worlds.specs.Worlds.{Site, World, unformatted, formatted}
use Rattle.site_worlds.specs.Fitness.{IsFit}
use Rattle.site_worlds.specs.Moves.{world_rules}
use Rattle.site_layouts.specs.Layouts.{HeldWorld, Shows}
use Rattle.site_commands.specs.Runs.{CommandResult, reads_script, world_behind}

-- a world that a run passes, wherever it is stopped
abbrev pub IsPassed : HeldWorld → CommandResult → HeldWorld → Type 0
IsPassed begin run at = IsOnWay world_rules run.course.moves begin.world at.world

-- each choice of one image per disk of an era stands for a fit world
abbrev pub IsSound : ℕ → Images DiskName → Type 0
IsSound era images =
    (choice : DiskName → List ℕ) → ((name : DiskName) → images era name (choice name))
    → (at : HeldWorld) × IsFit at.world × ((name : DiskName) → Shows name at (choice name))

-- the chunk of the space that is shown
abbrev pub is_shown : Option (ℕ × ℕ) → ℕ → Bool
is_shown None n = false
is_shown (Some place) n = place.0 == n

-- The chunks that a form uses: those of a new site, those of the spaces, the one of the space that is shown.
abbrev pub uses_chunk : CommandForm → World → ℕ → Bool
uses_chunk (init_form blocks spaces) world n = nat_lt n (length spaces)
uses_chunk transactions_form unformatted n = false
uses_chunk transactions_form (formatted site) n = nat_lt n (length site.head.spaces)
uses_chunk (show_form name page) unformatted n = false
uses_chunk (show_form name page) (formatted site) n = is_shown (place_of name site.head.spaces) n

-- the disks that a form uses; it writes on no others
abbrev pub uses : CommandForm → World → DiskName → Bool
uses form world (Volume n) = nat_le n 16
uses form world (Chunk n) = uses_chunk form world n
uses form world name = true

-- a command that is refused at a word uses none
abbrev pub used_by : Result Command ℕ → World → DiskName → Bool
used_by (Err n) world name = false
used_by (Ok command) world name = uses command.form world name

-- the contents of some disks show a world, whatever the others hold
abbrev pub StandOn : (DiskName → Bool) → (DiskName → List ℕ) → HeldWorld → Type 0
StandOn used contents at = (name : DiskName) → used name ≡ true → Shows name at (contents name)

-- Where a command starts: its era, what a read of each disk gives, and the crash images of all.
pub record Start : Type 1 where
  pub era : ℕ
  pub contents : DiskName → List ℕ
  pub images : Images DiskName

-- The images once the first two eras of a command, behind that at its start, are over: the disks that it uses are synced in them, and
-- from then on their images are what a read gave.
abbrev pub once_synced : Start → (DiskName → Bool) → Images DiskName
once_synced start used f name bytes = start.images f name bytes × (start.era + 2 < f → used name ≡ true → bytes ≡ start.contents name)

abbrev pub AddsNone : Images DiskName → Images DiskName → Type 0
AddsNone old new = (f : ℕ) (name : DiskName) (bytes : List ℕ) → new f name bytes → old f name bytes

-- Wherever a command is stopped no image is new, or its first two eras are over and each choice of images of the eras behind them
-- follows from the world to one that it passes.
abbrev pub Passes : Start → (DiskName → Bool) → Images DiskName → HeldWorld → (HeldWorld → Type 0) → Type 0
Passes start used new at passed = AddsNone start.images new ⊎ Goes Shows (start.era + 3) (once_synced start used) new at passed

-- the images of the eras from one on follow to a world
abbrev pub AtItsEnd : Start → (DiskName → Bool) → Images DiskName → ℕ → (at last : HeldWorld) → Type 0
AtItsEnd start used new era at last = Ends Shows era (once_synced start used) new at last

-- What a run leaves at its end: no image is new where it makes no move, and else those of the eras from one on follow to its last world.
abbrev pub LeavesAtEnd : Start → (DiskName → Bool) → HeldWorld → CommandResult → ℕ → Images DiskName → HeldWorld → Type 0
LeavesAtEnd start used at run era new last = (AddsNone start.images new × (run.course.moves ≡ [])) ⊎ AtItsEnd start used new era at last

-- a status that ends a command as a stop does
abbrev pub CutsShort : Status → Type 0
CutsShort OutOfMemory = Unit {0}
CutsShort ReadFault = Unit {0}
CutsShort WriteFault = Unit {0}
CutsShort (DiskFault name) = Unit {0}
CutsShort status = ⊥

-- these lines are what is left of a script once so many bytes were taken from its source; at most 65,536 of them lie beyond
pub record IsLeft (left : List Raw) (after : List ℕ) : Type 0 where
  pub ahead : List ℕ
  pub few : length ahead ≤ 65536
  pub is : left ≡ raw_lines (ahead ++ after)

-- What was read of a script by a run that leaves these lines of it: all at Ok. Where a line ends the run it was read at least to
-- where these lines begin, and at most 65,536 bytes beyond.
abbrev pub HasRead : Status → List Raw → List ℕ → Type 0
HasRead Done left after = after ≡ []
HasRead (ScriptFault line why) left after = IsLeft left after
HasRead (LogFull why) left after = IsLeft left after
HasRead status left after = Unit {0}

-- what a command did that wasn't cut short, but for its status and its text: the world behind it, what its disks read as, what a crash from
-- an era on leaves, and what it read where it reads a script
pub record HasDone (reads : Bool) (start : Start) (used : DiskName → Bool) (at : HeldWorld) (run : CommandResult) (result : Status) (script_after : List ℕ)
    (contents : DiskName → List ℕ) (era : ℕ) (new : Images DiskName) : Type 0 where
  pub last : HeldWorld
  pub last_is : last.world ≡ world_behind run at.world
  pub stand : StandOn used contents last
  pub crash : LeavesAtEnd start used at run era new last
  pub script : reads ≡ true → HasRead result run.left script_after

-- a front of a text, and not the whole
abbrev pub IsFront : List ℕ → List ℕ → Type 0
IsFront printed text = (rest : List ℕ) × (text ≡ printed ++ rest) × (rest ≡ [] → ⊥)

-- all its work stands
pub record WorkStands (start : Start) (used : DiskName → Bool) (at : HeldWorld) (run : CommandResult) (era : ℕ) (new : Images DiskName) : Type 0 where
  pub last : HeldWorld
  pub last_is : last.world ≡ world_behind run at.world
  pub crash : LeavesAtEnd start used at run era new last

-- What a command printed that was cut short: nothing, or a front of its text, and that only once all its work stands.
pub record Printed (start : Start) (used : DiskName → Bool) (at : HeldWorld) (run : CommandResult) (taken_before taken_after : List ℕ) (era : ℕ)
    (new : Images DiskName) : Type 0 where
  pub printed : List ℕ
  pub text : taken_after ≡ taken_before ++ printed
  pub after_work : (printed ≡ []) ⊎ (IsFront printed run.text × WorkStands start used at run era new)

-- what `-T` takes of its script: a front of it, all of it at Ok; other forms take nothing
pub record ReadsOf (words : List (List ℕ)) (result : Status) (before after : List ℕ) : Type 0 where
  pub front : (taken : List ℕ) × (before ≡ taken ++ after)
  pub nothing : reads_script (command_of words) ≡ false → after ≡ before
  pub to_end : reads_script (command_of words) ≡ true → result ≡ Done → after ≡ []

-- what was printed is nothing or a front of a text, or the whole
pub record PrintsFront (text taken_before taken_after : List ℕ) : Type 0 where
  pub printed : List ℕ
  pub rest : List ℕ
  pub parts : text ≡ printed ++ rest
  pub taken : taken_after ≡ taken_before ++ printed
