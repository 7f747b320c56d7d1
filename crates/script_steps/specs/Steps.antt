-- What the next line of a script comes to.
use Rattle.std.specs.Prelude.{◌≡◌, ◌⊎◌, ◌+◌, ◌≤◌, ℕ, List, [], ◌∷◌, length, false, true, None, Some}
use Rattle.onbar_grammar.specs.declared.Why.{Why}
use Rattle.onbar_grammar.specs.Script.{Raw, Space, line_fault, raw_lines, spelled}
use Rattle.site_model.specs.Runs.{Taken, nothing, joined, bad, take_text}
use Rattle.script_steps.specs.declared.script.Progress.{Progress}
use Rattle.script_steps.specs.declared.script.Step.{Step}
use Rattle.script_steps.specs.declared.script.Step.TheVariants.{More, Whole, End, Fault, ReadFault, OutOfMemory}
use Rattle.script_steps.specs.Collecting.{collected_of}

module _ (spaces : List Space) (moment end : ℕ) (before after : List ℕ) (old new : Progress) where
  -- the first line of `before` is taken, which does this behind a log of so many records, and `after` follows it
  pub record TakesLine (taken : Taken) : Type 0 where
    pub raw : Raw
    pub lines : raw_lines before ≡ raw ∷ raw_lines after
    pub within : line_fault old.lines.begun raw ≡ None
    pub line : new.line ≡ old.line + 1
    pub begun : new.lines.begun ≡ old.lines.begun + length (spelled raw)
    pub does : take_text spaces moment end (collected_of old.collected) raw.text ≡ taken

  -- nothing is collected beside what was
  abbrev pub IsCollectedAsBefore : Type 0
  IsCollectedAsBefore = collected_of new.collected ≡ collected_of old.collected

  -- the first line of `before` passes a limit, and is left
  pub record LeavesLine (why : Why) : Type 0 where
    pub raw : Raw
    pub others : List Raw
    pub lines : raw_lines before ≡ raw ∷ others
    pub left : raw_lines after ≡ raw ∷ others
    pub fault : line_fault old.lines.begun raw ≡ Some why
    pub line : new.line ≡ old.line + 1
    pub collected : IsCollectedAsBefore

  -- no line is left
  pub record HasNoLine : Type 0 where
    pub none : before ≡ []
    pub left : after ≡ []
    pub line : new.line ≡ old.line
    pub collected : IsCollectedAsBefore

  -- The batch goes on, or is whole, or the script has ended, or the line is refused for what it says or for its length. A step that was cut
  -- short says nothing.
  abbrev pub StepsTo : Step → Type 0
  StepsTo More = (TakesLine nothing × IsCollectedAsBefore) ⊎ TakesLine (joined (collected_of new.collected) false)
  StepsTo Whole = TakesLine (joined (collected_of new.collected) true)
  StepsTo End = HasNoLine
  StepsTo (Fault why) = (TakesLine (bad why) × IsCollectedAsBefore) ⊎ LeavesLine why
  StepsTo ReadFault = Unit {0}
  StepsTo OutOfMemory = Unit {0}

-- how many records may wait behind a step
abbrev pub limit_behind : Step → ℕ
limit_behind More = 31
limit_behind Whole = 32
limit_behind End = 31
limit_behind (Fault why) = 31
limit_behind ReadFault = 32
limit_behind OutOfMemory = 32

-- a step that goes on is further in the script
abbrev pub Advances : Progress → Progress → Step → Type 0
Advances old new More = (old.lines.begun + 1 ≤ new.lines.begun) × (new.line ≤ new.lines.begun)
Advances old new Whole = (old.lines.begun + 1 ≤ new.lines.begun) × (new.line ≤ new.lines.begun)
Advances old new step = Unit {0}
