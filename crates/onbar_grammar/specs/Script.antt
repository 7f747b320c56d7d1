-- Transaction scripts: how a script is cut into lines, and what a line says.
use Rattle.std.specs.Prelude.{ℕ, suc, ◌+◌, List, [], ◌∷◌, ◌++◌, length, Bool, true, false, ◌&&◌, ◌==◌, nat_eq, nat_lt, nat_le, if◌then◌else◌, Option, None, Some, Result, Ok, Err, codes}
use Rattle.std.specs.Option.{ok_or}
use Rattle.std.specs.Cmp.Lexicographic.{pointwise}
use Rattle.log_history.specs.History.{Patch, LogEntry, begin, write, commit, abort}
use Rattle.onbar_grammar.specs.declared.Why.{Why}
use Rattle.onbar_grammar.specs.declared.Why.TheVariants.{Words, NoSpace, NoPage, Range, TooLong, ScriptTooLong}
use Rattle.onbar_grammar.specs.Numbers.{number_within, is_name, hex_bytes}

-- a line of a script without its line feed, and whether one ends it
pub record Raw : Type 0 where
  pub text : List ℕ
  pub is_ended : Bool

-- the bytes of a script's line
abbrev pub spelled : Raw → List ℕ
spelled line = line.text ++ (if line.is_ended then 10 ∷ [] else [])

abbrev pub with_first : ℕ → List Raw → List Raw
with_first byte [] = record { text = byte ∷ []; is_ended = false } ∷ []
with_first byte (line ∷ lines) = record line { text = byte ∷ line.text } ∷ lines

-- A line ends with a line feed or the end of the script.
abbrev pub raw_lines : List ℕ → List Raw
raw_lines [] = []
raw_lines (byte ∷ bytes) =
    if byte == 10 then record { text = []; is_ended = true } ∷ raw_lines bytes else with_first byte (raw_lines bytes)

-- A line may have 8,256 bytes and a script 16,777,216. A line is at fault that begins behind so many bytes of the script:
-- too long where its 8,257th byte is within the script's limit, else the script is where the line passes that limit.
abbrev pub line_fault : ℕ → Raw → Option Why
line_fault begun line =
    if (nat_lt 8256 (length line.text) && nat_le (begun + 8257) 16777216) then Some TooLong
    else (if nat_lt 16777216 (begun + length (spelled line)) then Some ScriptTooLong else None)

-- the tokens of a line, parted by one space
abbrev pub with_character : ℕ → List (List ℕ) → List (List ℕ)
with_character c [] = (c ∷ []) ∷ []
with_character c (token ∷ tokens) = (c ∷ token) ∷ tokens

abbrev pub tokens_of : List ℕ → List (List ℕ)
tokens_of [] = [] ∷ []
tokens_of (c ∷ cs) = if c == 32 then [] ∷ tokens_of cs else with_character c (tokens_of cs)

-- what a line says; a Commit's time is the command's
pub data Line : Type 0 where
  begin_line : (txn : ℕ) → Line
  write_line : (txn : ℕ) (patch : Patch) → Line
  commit_line : (txn : ℕ) → Line
  abort_line : (txn : ℕ) → Line

-- a dbspace: its name and its number of pages
pub record Space : Type 0 where
  pub name : List ℕ
  pub pages : ℕ

-- the record that a line puts into the log
abbrev pub entry_of_line : ℕ → Line → LogEntry
entry_of_line time (begin_line txn) = begin txn
entry_of_line time (write_line txn patch) = write txn patch
entry_of_line time (commit_line txn) = commit txn time
entry_of_line time (abort_line txn) = abort txn

infixl 10 ◌>>=◌
abbrev pub ◌>>=◌ : {A B : Type 0} → Result A Why → (A → Result B Why) → Result B Why
(Ok x) >>= f = f x
(Err why) >>= f = Err why

-- the place of the space with a name, and its number of pages
abbrev pub place_from : ℕ → List ℕ → List Space → Option (ℕ × ℕ)
place_from n name [] = None
place_from n name (space ∷ spaces) = if pointwise nat_eq space.name name then Some (n, space.pages) else place_from (suc n) name spaces

abbrev pub place_of : List ℕ → List Space → Option (ℕ × ℕ)
place_of name spaces = place_from 0 name spaces

abbrev pub unless : Bool → Why → Result (Unit {0}) Why
unless true why = Ok tt
unless false why = Err why

abbrev pub txn_number : List ℕ → Result ℕ Why
txn_number token = ok_or (number_within 1 4294967295 token) Words

abbrev pub any_number : List ℕ → Result ℕ Why
any_number token = ok_or (number_within 0 4294967295 token) Words

-- `write N SPACE PAGE OFFSET HEX`: the tokens' forms come first, then the space, the page, and the range within 4,080 bytes
unfoldable pub write_line_of : List Space → List ℕ → List ℕ → List ℕ → List ℕ → List ℕ → Result Line Why
write_line_of spaces txn_token name page_token offset_token hex_token = do
  txn ← txn_number txn_token
  named ← unless (is_name name) Words
  page ← any_number page_token
  offset ← any_number offset_token
  bytes ← ok_or (hex_bytes hex_token) Words
  place ← ok_or (place_of name spaces) NoSpace
  within ← unless (nat_lt page place.1) NoPage
  fits ← unless (nat_le (offset + length bytes) 4080) Range
  Ok (write_line txn (record { space = place.0; page = page; offset = offset; bytes = bytes }))

abbrev pub is_token : List ℕ → List ℕ → Bool
is_token word token = pointwise nat_eq token word

-- `begin N`, `commit N`, `abort N`
abbrev pub short_line_of : List ℕ → List ℕ → Result Line Why
short_line_of keyword token =
    if is_token (codes "begin") keyword then txn_number token >>= (λ txn. Ok (begin_line txn))
    else (if is_token (codes "commit") keyword then txn_number token >>= (λ txn. Ok (commit_line txn))
    else (if is_token (codes "abort") keyword then txn_number token >>= (λ txn. Ok (abort_line txn))
    else Err Words))

abbrev pub line_of_tokens : List Space → List (List ℕ) → Result Line Why
line_of_tokens spaces (keyword ∷ token ∷ []) = short_line_of keyword token
line_of_tokens spaces (keyword ∷ txn ∷ name ∷ page ∷ offset ∷ hex ∷ []) =
    if is_token (codes "write") keyword then write_line_of spaces txn name page offset hex else Err Words
line_of_tokens spaces tokens = Err Words

-- what a line of a transaction script says, or the first fault on it; an empty line says nothing
unfoldable pub line_of : List Space → List ℕ → Result (Option Line) Why
line_of spaces [] = Ok None
line_of spaces (c ∷ cs) = line_of_tokens spaces (tokens_of (c ∷ cs)) >>= (λ line. Ok (Some line))
