-- What a reader makes of the last records of a log: it begins with no transaction open, and passes over each record that it refuses.
use Rattle.std.specs.Prelude.{ℕ, suc, ◌+◌, List, [], ◌∷◌, ◌++◌, length, reverse, nat_lt, filter, Option, None, Some}
use Rattle.log_history.specs.History.{LogEntry, History, reset}
use Rattle.log_history.specs.Live.{ResetPoint}
use Rattle.log_history.specs.Effects.{Change}
use Rattle.log_history.specs.Transactions.{Table, Refusal, after, refusal}
use Rattle.space_pages.specs.Progress.{given_at}

-- a record that the open transactions refuse is passed over
abbrev pub unless_refused : Option Refusal → Table → Table → Table
unless_refused (Some why) table next = table
unless_refused None table next = next

abbrev pub read_after : ℕ → LogEntry → Table → Table
read_after at entry table = unless_refused (refusal entry table) table (after at entry table)

-- behind records given newest first, which come behind so many others
abbrev pub read_back : ℕ → List LogEntry → Table
read_back before [] = []
read_back before (entry ∷ past) = read_after (before + suc (length past)) entry (read_back before past)

-- behind records in order
abbrev pub table_read : ℕ → History → Table
table_read before records = read_back before (reverse records)

-- the changes that they give at n, by some Resets; newest first
abbrev pub changes_read_back : List ResetPoint → ℕ → ℕ → List LogEntry → List Change
changes_read_back resets n before [] = []
changes_read_back resets n before (entry ∷ past) =
    changes_read_back resets n before past ++ given_at resets n (before + suc (length past)) entry (read_back before past)

abbrev pub changes_read : List ResetPoint → ℕ → ℕ → History → List Change
changes_read resets n before records = changes_read_back resets n before (reverse records)

-- the Resets among them, the last one first
abbrev pub resets_read_back : ℕ → List LogEntry → List ResetPoint
resets_read_back before [] = []
resets_read_back before (reset restore target time ∷ past) = record { at = before + suc (length past); target = target } ∷ resets_read_back before past
resets_read_back before (entry ∷ past) = resets_read_back before past

abbrev pub resets_read : ℕ → History → List ResetPoint
resets_read before records = resets_read_back before (reverse records)

-- the transactions whose Begin comes behind a position
abbrev pub begun_behind : ℕ → Table → Table
begun_behind before table = filter (λ o. nat_lt before o.first) table
