-- The transactions that are open at a position, and the records that may follow.
use Rattle.std.specs.Prelude.{◌≡◌, ℕ, suc, ◌+◌, ◌<◌, ◌≤◌, List, [], ◌∷◌, ◌++◌, length, reverse, take, Bool, true, false, ◌==◌, nat_lt, if◌then◌else◌, Option, None, Some}
use Rattle.log_history.specs.History.{Patch, LogEntry, History, begin, write, commit, abort, reset}

-- In records given newest first: a Begin of the transaction, and since then no Commit or Abort of it and no Reset.
abbrev pub open_back : ℕ → List LogEntry → Bool
open_back txn [] = false
open_back txn (begin other ∷ past) = if other == txn then true else open_back txn past
open_back txn (write other patch ∷ past) = open_back txn past
open_back txn (commit other time ∷ past) = if other == txn then false else open_back txn past
open_back txn (abort other ∷ past) = if other == txn then false else open_back txn past
open_back txn (reset restore target time ∷ past) = false

-- whether a transaction is open at position x
abbrev pub open_at : History → ℕ → ℕ → Bool
open_at history x txn = open_back txn (reverse (take x history))

-- an open transaction: its number, the position of its Begin, its Writes so far in order
pub record OpenTxn : Type 0 where
  pub txn : ℕ
  pub first : ℕ
  pub patches : List Patch

-- the open transactions, the oldest Begin first
abbrev pub Table : Type 0
Table = List OpenTxn

abbrev pub lookup : ℕ → Table → Option OpenTxn
lookup txn [] = None
lookup txn (o ∷ others) = if o.txn == txn then Some o else lookup txn others

abbrev pub without : ℕ → Table → Table
without txn [] = []
without txn (o ∷ others) = if o.txn == txn then others else o ∷ without txn others

abbrev pub with_write : ℕ → Patch → Table → Table
with_write txn patch [] = []
with_write txn patch (o ∷ others) =
    if o.txn == txn then record o { patches = o.patches ++ patch ∷ [] } ∷ others else o ∷ with_write txn patch others

-- the table after a record at a position; out of order it does something plain
abbrev pub after : ℕ → LogEntry → Table → Table
after at (begin txn) table = without txn table ++ record { txn = txn; first = at; patches = [] } ∷ []
after at (write txn patch) table = with_write txn patch table
after at (commit txn time) table = without txn table
after at (abort txn) table = without txn table
after at (reset restore target time) table = []

-- the table after records given newest first, of which the oldest has position 1
abbrev pub table_back : List LogEntry → Table
table_back [] = []
table_back (entry ∷ past) = after (suc (length past)) entry (table_back past)

-- the transactions that are open at the end of a history
abbrev pub table_of : History → Table
table_of history = table_back (reverse history)

abbrev pub patches_of : Option OpenTxn → List Patch
patches_of None = []
patches_of (Some o) = o.patches

-- the Writes that a record brings into effect
abbrev pub given : LogEntry → Table → List Patch
given (commit txn time) table = patches_of (lookup txn table)
given entry table = []

-- the position of the oldest open Begin, or the one after the end
abbrev pub low_of : Table → ℕ → ℕ
low_of [] end = end + 1
low_of (o ∷ others) end = o.first

abbrev pub low : History → ℕ
low history = low_of (table_of history) (length history)

-- why the open transactions refuse a record
pub data Refusal : Type 0 where
  already_open : Refusal
  not_open : Refusal
  too_many_open : Refusal

abbrev pub unless_open : Option OpenTxn → Option Refusal
unless_open None = Some not_open
unless_open (Some o) = None

abbrev pub unless_new : Option OpenTxn → ℕ → Option Refusal
unless_new (Some o) count = Some already_open
unless_new None count = if nat_lt count 64 then None else Some too_many_open

-- A Begin is refused where its transaction is open, then where 64 are; the others where theirs isn't. A Reset never is.
abbrev pub refusal : LogEntry → Table → Option Refusal
refusal (begin txn) table = unless_new (lookup txn table) (length table)
refusal (write txn patch) table = unless_open (lookup txn table)
refusal (commit txn time) table = unless_open (lookup txn table)
refusal (abort txn) table = unless_open (lookup txn table)
refusal (reset restore target time) table = None

-- the time of the newest Commit or Reset, 0 where there is none; newest first
abbrev pub last_time_back : List LogEntry → ℕ
last_time_back [] = 0
last_time_back (commit txn time ∷ past) = time
last_time_back (reset restore target time ∷ past) = time
last_time_back (entry ∷ past) = last_time_back past

abbrev pub last_time : History → ℕ
last_time history = last_time_back (reverse history)

-- A record may stand behind those given newest first: a Begin is of a transaction that isn't open, with fewer than 64
-- open; a Write, a Commit and an Abort of one that is; times don't fall; a Reset goes back to a position before its own.
abbrev pub MayFollow : List LogEntry → LogEntry → Type 0
MayFollow past (begin txn) = (open_back txn past ≡ false) × (length (table_back past) < 64)
MayFollow past (write txn patch) = open_back txn past ≡ true
MayFollow past (commit txn time) = (open_back txn past ≡ true) × (last_time_back past ≤ time)
MayFollow past (abort txn) = open_back txn past ≡ true
MayFollow past (reset restore target time) = (target ≤ length past) × (last_time_back past ≤ time)

abbrev pub InOrderBack : List LogEntry → Type 0
InOrderBack [] = Unit {0}
InOrderBack (entry ∷ past) = MayFollow past entry × InOrderBack past

-- each record may follow those before it
abbrev pub InOrder : History → Type 0
InOrder history = InOrderBack (reverse history)
