-- When a fault of a script's next line may come.
use Rattle.std.specs.Prelude.{◌≡◌, ℕ, ◌+◌, ◌≤◌, Bool, length, Result, Ok, Err, Option, None, Some}
use Rattle.onbar_grammar.specs.declared.Why.{Why}
use Rattle.site_disk.specs.Causes.{Rose}
use Rattle.onbar_grammar.specs.declared.Why.TheVariants.{TooLong as LineTooLong, ScriptTooLong as ScriptPasses}
use Rattle.script_lines.specs.declared.cutting.LineFault.{LineFault}
use Rattle.script_lines.specs.declared.cutting.LineFault.TheVariants.{Failed, TooLong, ScriptTooLong, OutOfMemory}
use Rattle.script_lines.specs.Cutting.{LinesView, PassesLimit}

-- by the bytes that are held then, and the source's count of faults before and after
abbrev pub Explains : LinesView → ℕ → ℕ → LineFault → Type 0
Explains lines before after Failed = Rose before after
Explains lines before after TooLong = PassesLimit lines LineTooLong
Explains lines before after ScriptTooLong = PassesLimit lines ScriptPasses
Explains lines before after OutOfMemory = Unit {0}

-- what the answer says of the limit that the next line passes
abbrev pub Finds : Result Bool LineFault → Option Why → Type 0
Finds (Ok more) fault = fault ≡ None
Finds (Err Failed) fault = Unit {0}
Finds (Err TooLong) fault = fault ≡ Some LineTooLong
Finds (Err ScriptTooLong) fault = fault ≡ Some ScriptPasses
Finds (Err OutOfMemory) fault = Unit {0}

-- the bytes held reach the one that passes the limit
abbrev pub Reaches : LinesView → LineFault → Type 0
Reaches lines Failed = Unit {0}
Reaches lines TooLong = 8257 ≤ length lines.held
Reaches lines ScriptTooLong = 16777217 ≤ lines.begun + length lines.held
Reaches lines OutOfMemory = Unit {0}
