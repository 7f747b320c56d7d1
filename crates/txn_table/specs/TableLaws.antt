-- The table and the first refusal, one record on.
use Rattle.std.specs.Prelude.{◌≡◌, ℕ, suc, ◌+◌, List, [], ◌∷◌, ◌++◌, take, length, reverse, slice_index_or, Some}
use Rattle.std.specs.Option.{option_or}
use Rattle.std.proofs.Common.{refl, ap, ◌∙◌, ◌<◌}
use Rattle.std.proofs.lemmas.List.{reverse-append, length-reverse, map_more}
use Rattle.log_history.specs.History.{LogEntry, History}
use Rattle.log_history.specs.Transactions.{after, table_back, table_of, refusal, Refusal}
use Rattle.log_record.specs.declared.records.Record.{Record}
use Rattle.log_record.specs.Entry.{entry_of, history_of}
use Rattle.txn_table.specs.Table.{first_refusal, first_refusal_back}

pub reverse_push : (history : History) (entry : LogEntry) → reverse (history ++ entry ∷ []) ≡ entry ∷ reverse history
reverse_push history entry = reverse-append history (entry ∷ [])

pub table_of-push : (history : History) (entry : LogEntry) → table_of (history ++ entry ∷ []) ≡ after (suc (length history)) entry (table_of history)
table_of-push history entry =
    ap table_back (reverse_push history entry) ∙ ap (λ (n : ℕ). after (suc n) entry (table_of history)) (length-reverse history)

pub first_refusal-push : (history : History) (entry : LogEntry)
    → first_refusal (history ++ entry ∷ []) ≡ option_or (first_refusal history) (refusal entry (table_of history))
first_refusal-push history entry = ap first_refusal_back (reverse_push history entry)

refused_before : (newer past : List LogEntry) (r : Refusal) → first_refusal_back past ≡ Some r → first_refusal_back (newer ++ past) ≡ Some r
refused_before [] past r e = e
refused_before (entry ∷ newer) past r e = rw (refused_before newer past r e) refl

-- a record that was refused first stays the first one
pub first_refusal-append : (history more : History) (r : Refusal) → first_refusal history ≡ Some r → first_refusal (history ++ more) ≡ Some r
first_refusal-append history more r e =
    ap first_refusal_back (reverse-append history more) ∙ refused_before (reverse more) (reverse history) r e

-- the history of one record more
pub history_of-more : (records : List Record) (i : ℕ) (d : Record) → i < length records
    → history_of (take (i + 1) records) ≡ history_of (take i records) ++ entry_of (slice_index_or records i d) ∷ []
history_of-more records i d below = map_more entry_of records i d below
