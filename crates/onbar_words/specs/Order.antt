-- An order as the grammar has it, why words aren't read, and what is known of an order.
use Rattle.std.specs.Prelude.{◌≡◌, ℕ, ◌-◌, ◌<◌, ◌^◌, List, slice_get, codes, Some, Err}
use Rattle.command_grammar.specs.Words.{CommandForm, Command, init_form, transactions_form, show_form, command_of, form_at}
use Rattle.site_headers.specs.Heads.{IsHead}
use Rattle.site_headers.specs.Views.{spaces_of}
use Rattle.onbar_words.specs.declared.words.Form.{Form}
use Rattle.onbar_words.specs.declared.words.Form.TheVariants.{Init, Transactions, Show}
use Rattle.onbar_words.specs.declared.words.Order.{Order}
use Rattle.onbar_words.specs.declared.words.WordFault.{WordFault}
use Rattle.onbar_words.specs.declared.words.WordFault.TheVariants.{At, OutOfMemory}

abbrev pub form_in : Form → CommandForm
form_in (Init blocks spaces) = init_form blocks (spaces_of spaces.items)
form_in Transactions = transactions_form
form_in (Show space page) = show_form space page

abbrev pub command_in : Order → Command
command_in order = record { workers = order.workers; form = form_in order.form }

-- the form's own word is `-init`
abbrev pub AsksToFormat : List (List ℕ) → Type 0
AsksToFormat words = slice_get words (form_at words - 1) ≡ Some (codes "-init")

-- why words aren't read: the first refused one is named, and only a list of spaces takes memory
abbrev pub Refuses : List (List ℕ) → WordFault → Type 0
Refuses words (At n) = command_of words ≡ Err n
Refuses words OutOfMemory = AsksToFormat words

-- a site may be made of what `-init` says, whatever its id
abbrev pub FitsASite : Form → Type 0
FitsASite (Init blocks spaces) =
    (site : ℕ) → site < 2 ^ 64 → IsHead (record { site = site; blocks = blocks; spaces = spaces_of spaces.items })
FitsASite Transactions = Unit {0}
FitsASite (Show space page) = Unit {0}
