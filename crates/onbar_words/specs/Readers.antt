-- What the readers of the words of a form answer.
use Rattle.std.specs.Prelude.{◌≡◌, ℕ, ◌||◌, ◌==◌, List, length, if◌then◌else◌, Option, None, Some, Result, Ok, Err}
use Rattle.onbar_grammar.specs.Script.{Space}
use Rattle.command_grammar.specs.Words.{CommandForm, has_space}
use Rattle.onbar_words.specs.Order.{form_in}
use Rattle.onbar_words.specs.declared.words.Form.{Form}
use Rattle.onbar_words.specs.declared.words.WordFault.{WordFault}
use Rattle.onbar_words.specs.declared.words.WordFault.TheVariants.{At, OutOfMemory}

-- the first refused word is named, unless memory runs out
abbrev pub Names : {A : Type 0} → Result A ℕ → WordFault → Type 0
Names read (At n) = read ≡ Err n
Names read OutOfMemory = Unit {0}

-- what a reader that takes no memory answers: a form, or the place of the first refused word
abbrev pub form_read : Result Form ℕ → Result CommandForm ℕ
form_read (Ok form) = Ok (form_in form)
form_read (Err at) = Err at

-- a space that may stand behind those before it
abbrev pub next_of : List Space → Option Space → Option Space
next_of before None = None
next_of before (Some space) = if (has_space space.name before || length before == 16) then None else Some space
