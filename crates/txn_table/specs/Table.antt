-- The program's table of running transactions as the history has it, and its answers.
use Rattle.std.specs.Prelude.{◌≡◌, ◌≢◌, ◌<◌, ℕ, List, slice_index_or, [], ◌∷◌, map, length, reverse, Option, Some, None}
use Rattle.std.specs.Option.{option_or}
use Rattle.log_history.specs.History.{Patch, LogEntry, History, begin, write}
use Rattle.log_history.specs.Effects.{Change}
use Rattle.log_history.specs.Transactions.{OpenTxn, Table, table_back, refusal, Refusal, already_open, not_open, too_many_open}
use Rattle.txn_table.specs.declared.changes.Change.{Change as Brought}
use Rattle.txn_table.specs.declared.running.Running.{Running}
use Rattle.txn_table.specs.declared.faults.OrderFault.{OrderFault}
use Rattle.txn_table.specs.declared.faults.OrderFault.TheVariants.{AlreadyOpen, NotOpen, TooManyOpen}

-- what a change writes
abbrev pub patch_of : Brought → Patch
patch_of change = record { space = change.space; page = change.page; offset = change.offset; bytes = change.bytes }

abbrev pub change_of : Brought → Change
change_of change = record { commit = change.commit; patch = patch_of change }

-- a running transaction
abbrev pub open_of : Running → OpenTxn
open_of running = record { txn = running.txn; first = running.first; patches = map patch_of running.changes.items }

abbrev pub table_in : List Running → Table
table_in running = map open_of running

-- the transaction doesn't run
abbrev pub IsAbsent : ℕ → List Running → Type 0
IsAbsent txn running = (k : ℕ) (d : Running) → k < length running → (slice_index_or running k d).txn ≢ txn

-- it runs, and stands first at this place
abbrev pub IsPlaceOf : ℕ → List Running → ℕ → Type 0
IsPlaceOf txn running i =
    (i < length running) × ((d : Running) → (slice_index_or running i d).txn ≡ txn)
    × ((k : ℕ) (d : Running) → k < i → (slice_index_or running k d).txn ≢ txn)

-- the program's word for a refusal
abbrev pub fault_of : Refusal → OrderFault
fault_of already_open = AlreadyOpen
fault_of not_open = NotOpen
fault_of too_many_open = TooManyOpen

-- a Begin and a Write make the table grow
abbrev pub Grows : LogEntry → Type 0
Grows (begin txn) = Unit {0}
Grows (write txn patch) = Unit {0}
Grows entry = ⊥

-- the position of the oldest open Begin, and its transaction
abbrev pub oldest : Table → Option (ℕ × ℕ)
oldest [] = None
oldest (o ∷ others) = Some (o.first, o.txn)

-- why the first record that may not follow those before it may not; newest first
abbrev pub first_refusal_back : List LogEntry → Option Refusal
first_refusal_back [] = None
first_refusal_back (entry ∷ past) = option_or (first_refusal_back past) (refusal entry (table_back past))

abbrev pub first_refusal : History → Option Refusal
first_refusal history = first_refusal_back (reverse history)
