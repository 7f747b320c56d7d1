-- What a run has collected, as the model has it.
use Rattle.std.specs.Prelude.{◌≡◌, ◌≤◌, ◌^◌, ℕ, ◌+◌, [], ◌∷◌, ◌++◌, length, Bool, true, false, ◌||◌, ◌==◌, Result, Ok, Err}
use Rattle.log_history.specs.History.{LogEntry, begin, write, commit, abort, reset}
use Rattle.log_history.specs.Transactions.{after, refusal}
use Rattle.std.specs.List.{AllByRecursion}
use Rattle.log_files.specs.Files.{is_reset}
use Rattle.log_record.specs.Entry.{history_of}
use Rattle.log_record.specs.Layout.{IsRecord}
use Rattle.onbar_grammar.specs.declared.Why.{Why}
use Rattle.onbar_grammar.specs.declared.Why.TheVariants.{AlreadyOpen, NotOpen, TooManyOpen, OutOfMemory}
use Rattle.txn_table.specs.declared.faults.OrderFault.{OrderFault}
use Rattle.txn_table.specs.declared.faults.OrderFault.TheVariants.{AlreadyOpen as IsOpen, NotOpen as IsNotOpen, TooManyOpen as AreTooMany, OutOfMemory as NoMemory}
use Rattle.site_model.specs.Runs.{Collected, Taken as Meant, nothing, joined, bad, unless_refused, time_after}
use Rattle.script_steps.specs.declared.collecting.Collected.{Collected as Kept}
use Rattle.script_steps.specs.declared.collecting.Taken.{Taken}
use Rattle.script_steps.specs.declared.collecting.Taken.TheVariants.{Nothing, Joined, Whole}

abbrev pub collected_of : Kept → Collected
collected_of kept = record { batch = history_of kept.batch.items; table = kept.open; time = kept.time }

abbrev pub order_why : OrderFault → Why
order_why IsOpen = AlreadyOpen
order_why IsNotOpen = NotOpen
order_why AreTooMany = TooManyOpen
order_why NoMemory = OutOfMemory

-- the answer says what the line does, and what is collected then
abbrev pub TakesAs : Meant → Result Taken Why → Collected → Type 0
TakesAs meant (Ok Nothing) after = meant ≡ nothing
TakesAs meant (Ok Joined) after = meant ≡ joined after false
TakesAs meant (Ok Whole) after = meant ≡ joined after true
TakesAs meant (Err OutOfMemory) after = Unit {0}
TakesAs meant (Err why) after = meant ≡ bad why

-- the records have a spelling and are no Resets, times stay within theirs, and at most so many records wait
pub record IsBounded (limit : ℕ) (kept : Kept) : Type 0 where
  pub few : length kept.batch.items ≤ limit
  pub time : kept.time ≤ 2 ^ 48
  pub records : AllByRecursion IsRecord (history_of kept.batch.items)
  pub plain : AllByRecursion (λ entry. is_reset entry ≡ false) (history_of kept.batch.items)

-- how many records may wait behind an answer
abbrev pub limit_after : Result Taken Why → ℕ
limit_after (Ok Nothing) = 31
limit_after (Ok Joined) = 31
limit_after (Ok Whole) = 32
limit_after (Err why) = 32

-- a Commit or an Abort ends a batch
abbrev pub is_ending : LogEntry → Bool
is_ending (begin txn) = false
is_ending (write txn patch) = false
is_ending (commit txn time) = true
is_ending (abort txn) = true
is_ending (reset restore target time) = false

-- what a record does that a line puts into the log
abbrev pub joins : ℕ → LogEntry → Collected → Meant
joins end entry c =
    let batch = c.batch ++ entry ∷ [] in
    joined (record { batch = batch; table = after (end + length c.batch + 1) entry c.table; time = time_after c.time entry }) (is_ending entry || length batch == 32)

abbrev pub JoinsAs : LogEntry → ℕ → Collected → Result Taken Why → Collected → Type 0
JoinsAs entry end before result after = TakesAs (unless_refused (refusal entry before.table) (joins end entry before)) result after
