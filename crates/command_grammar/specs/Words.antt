-- The words of `onbar`, behind the program's name.
use Rattle.std.specs.Prelude.{ℕ, ◌+◌, List, [], ◌∷◌, ◌++◌, length, Bool, true, false, ◌||◌, ◌==◌, nat_eq, if◌then◌else◌, Option, None, Some, Result, Ok, Err, codes}
use Rattle.std.specs.Cmp.Lexicographic.{pointwise}
use Rattle.std.specs.Option.{option_map, option_and_then}
use Rattle.std.specs.Result.{result_err}
use Rattle.onbar_grammar.specs.Numbers.{number_within, is_name}
use Rattle.onbar_grammar.specs.Parts.{parted_at}
use Rattle.onbar_grammar.specs.Script.{Space}

-- What the words ask for: to format a site, with so many blocks of 4,096 bytes in each volume; to run a script of
-- transactions; to show a space, or one page of it.
pub data CommandForm : Type 0 where
  init_form : (blocks : ℕ) (spaces : List Space) → CommandForm
  transactions_form : CommandForm
  show_form : (space : List ℕ) (page : Option ℕ) → CommandForm

-- a form, and in how many streams it is to run
pub record Command : Type 0 where
  pub workers : ℕ
  pub form : CommandForm

abbrev pub is_word : List ℕ → List ℕ → Bool
is_word text word = pointwise nat_eq word text

-- Each reader below is told the place of its first word, from 1. It answers what the words say, or the place of the first
-- word that can't stand there; where words are wanting that is one past the last.

abbrev pub no_more : CommandForm → ℕ → List (List ℕ) → Result CommandForm ℕ
no_more form at [] = Ok form
no_more form at (word ∷ words) = Err at

-- `NAME:PAGES`, with 1 to 65,536 pages
abbrev pub space_of_parts : List ℕ → List ℕ → Option Space
space_of_parts name pages =
    if is_name name then option_map (λ n. record { name = name; pages = n }) (number_within 1 65536 pages) else None

abbrev pub space_of_word : List ℕ → Option Space
space_of_word word = option_and_then (λ parts. space_of_parts parts.0 parts.1) (parted_at 58 word)

abbrev pub has_space : List ℕ → List Space → Bool
has_space name [] = false
has_space name (space ∷ spaces) = is_word name space.name || has_space name spaces

-- one space more behind those read before; a 17th is refused, and one whose name stands before
abbrev pub with_space : ℕ → List Space → Option Space → (List Space → Result (List Space) ℕ) → Result (List Space) ℕ
with_space at before None others = Err at
with_space at before (Some space) others =
    if (has_space space.name before || length before == 16) then Err at else others (before ++ space ∷ [])

abbrev pub spaces_of_words : ℕ → List Space → List (List ℕ) → Result (List Space) ℕ
spaces_of_words at before [] = if length before == 0 then Err at else Ok before
spaces_of_words at before (word ∷ words) = with_space at before (space_of_word word) (λ more. spaces_of_words (at + 1) more words)

abbrev pub init_with : ℕ → Result (List Space) ℕ → Result CommandForm ℕ
init_with blocks (Err at) = Err at
init_with blocks (Ok spaces) = Ok (init_form blocks spaces)

abbrev pub init_of_blocks : ℕ → List (List ℕ) → Option ℕ → Result CommandForm ℕ
init_of_blocks at words None = Err at
init_of_blocks at words (Some blocks) = init_with blocks (spaces_of_words (at + 1) [] words)

abbrev pub init_behind_k : ℕ → List (List ℕ) → Result CommandForm ℕ
init_behind_k at [] = Err at
init_behind_k at (word ∷ words) = init_of_blocks at words (number_within 1 1048576 word)

-- `[-k BLOCKS] NAME:PAGES ..`: 1 to 1,048,576 blocks, so many where none are named
abbrev pub init_of_words : ℕ → List (List ℕ) → Result CommandForm ℕ
init_of_words at [] = Err at
init_of_words at (word ∷ words) =
    if is_word (codes "-k") word then init_behind_k (at + 1) words else init_with 1048576 (spaces_of_words at [] (word ∷ words))

abbrev pub show_of_page : List ℕ → ℕ → List (List ℕ) → Option ℕ → Result CommandForm ℕ
show_of_page space at words None = Err at
show_of_page space at words (Some page) = no_more (show_form space (Some page)) (at + 1) words

abbrev pub show_of_space : List ℕ → ℕ → List (List ℕ) → Result CommandForm ℕ
show_of_space space at [] = Ok (show_form space None)
show_of_space space at (word ∷ words) = show_of_page space at words (number_within 0 4294967295 word)

-- `SPACE [PAGE]`
abbrev pub show_of_words : ℕ → List (List ℕ) → Result CommandForm ℕ
show_of_words at [] = Err at
show_of_words at (word ∷ words) = if is_name word then show_of_space word (at + 1) words else Err at

abbrev pub form_of_words : ℕ → List (List ℕ) → Result CommandForm ℕ
form_of_words at [] = Err at
form_of_words at (word ∷ words) =
    if is_word (codes "-init") word then init_of_words (at + 1) words
    else (if is_word (codes "-T") word then no_more transactions_form (at + 1) words
    else (if is_word (codes "-D") word then show_of_words (at + 1) words else Err at))

abbrev pub command_with : ℕ → Result CommandForm ℕ → Result Command ℕ
command_with workers (Err at) = Err at
command_with workers (Ok form) = Ok (record { workers = workers; form = form })

abbrev pub command_of_workers : List (List ℕ) → Option ℕ → Result Command ℕ
command_of_workers words None = Err 2
command_of_workers words (Some workers) = command_with workers (form_of_words 3 words)

abbrev pub command_behind_j : List (List ℕ) → Result Command ℕ
command_behind_j [] = Err 2
command_behind_j (word ∷ words) = command_of_workers words (number_within 1 16 word)

-- `[-j N]` and a form: 1 to 16 streams, one where none are named
abbrev pub command_of : List (List ℕ) → Result Command ℕ
command_of [] = Err 1
command_of (word ∷ words) =
    if is_word (codes "-j") word then command_behind_j words else command_with 1 (form_of_words 1 (word ∷ words))

-- the first refused word; none where the words are a form
abbrev pub refused_word : List (List ℕ) → Option ℕ
refused_word words = result_err (command_of words)

-- the place of the form's own word
abbrev pub form_at : List (List ℕ) → ℕ
form_at [] = 1
form_at (word ∷ words) = if is_word (codes "-j") word then 3 else 1

-- whether a form reads a script of transactions
abbrev pub is_transactions : CommandForm → Bool
is_transactions (init_form blocks spaces) = false
is_transactions transactions_form = true
is_transactions (show_form space page) = false
