-- A replay stops at the first record that may not follow.
use Rattle.std.proofs.Common.{◌≡◌, ℕ, ◌+◌, ◌<◌, ◌⊎◌, inl, inr, List, [], ◌∷◌, ◌++◌, length, take, drop, get_or, Option, Some, None, Err, IfSome, IfNone, IsErrOf, option_map, refl, sym, ap, ◌∙◌}
use Rattle.std.proofs.lemmas.List.{map-append, take-append-drop}
use Rattle.log_history.specs.History.{History}
use Rattle.log_history.specs.Transactions.{Table, table_of, refusal, Refusal}
use Rattle.log_record.specs.declared.records.Record.{Record}
use Rattle.log_record.specs.Entry.{entry_of, history_of}
use Rattle.txn_table.specs.declared.faults.OrderFault.{OrderFault}
use Rattle.txn_table.specs.declared.faults.OrderFault.TheVariants.{OutOfMemory}
use Rattle.txn_table.specs.Table.{fault_of, first_refusal}
use Rattle.txn_table.specs.TableLaws.{first_refusal-push, first_refusal-append, history_of-more}

-- the first refusal is that of the record at i, where those before it may follow one another
first_at : (records : List Record) (i : ℕ) (r : Record) (f : Refusal) → i < length records → r ≡ get_or records i r
    → first_refusal (history_of (take i records)) ≡ None → refusal (entry_of r) (table_of (history_of (take i records))) ≡ Some f
    → first_refusal (history_of records) ≡ Some f
first_at records i r f below read before refused =
    let past : History = history_of (take i records) in
    let more : history_of (take (i + 1) records) ≡ past ++ entry_of r ∷ [] =
    history_of-more records i r below ∙ ap (λ (x : Record). past ++ entry_of x ∷ []) (sym read) in
    let here : first_refusal (history_of (take (i + 1) records)) ≡ Some f =
    ap first_refusal more ∙ first_refusal-push past (entry_of r) ∙ rw (before, refused) refl in
    let whole : history_of records ≡ history_of (take (i + 1) records) ++ history_of (drop (i + 1) records) =
    ap history_of (sym (take-append-drop (i + 1) records)) ∙ map-append entry_of (take (i + 1) records) (drop (i + 1) records) in
    ap first_refusal whole ∙ first_refusal-append (history_of (take (i + 1) records)) (history_of (drop (i + 1) records)) f here

-- what a replay answers where feeding the record at i failed
pub cause_at : (X : Type 0) (records : List Record) (i : ℕ) (r : Record) (table : Table) (e : OrderFault) → i < length records → r ≡ get_or records i r
    → table ≡ table_of (history_of (take i records)) → first_refusal (history_of (take i records)) ≡ None
    → IfSome (refusal (entry_of r) table) (λ f. IsErrOf {T = X} (Err e) (fault_of f)) → IfNone (refusal (entry_of r) table) (e ≡ OutOfMemory)
    → (e ≡ OutOfMemory) ⊎ (option_map fault_of (first_refusal (history_of records)) ≡ Some e)
cause_at X records i r table e below read so_far before refused allowed = by (refusal (entry_of r) table) refl refused allowed where
  by : (o : Option Refusal) → refusal (entry_of r) table ≡ o → IfSome o (λ f. IsErrOf {T = X} (Err e) (fault_of f)) → IfNone o (e ≡ OutOfMemory)
      → (e ≡ OutOfMemory) ⊎ (option_map fault_of (first_refusal (history_of records)) ≡ Some e)
  by None is refused allowed = inl allowed
  by (Some f) is refused allowed =
      let same : e ≡ fault_of f = cc in
      inr (ap (option_map fault_of) (first_at records i r f below read before (ap (refusal (entry_of r)) (sym so_far) ∙ is)) ∙ ap Some (sym same))

-- where nothing is refused only memory can be the cause
pub only_memory : (o : Option Refusal) (e : OrderFault) → o ≡ None → (e ≡ OutOfMemory) ⊎ (option_map fault_of o ≡ Some e) → e ≡ OutOfMemory
only_memory o e none cause =
    elim cause [
      | inl memory ↦ memory
      | inr refused ↦ (let never : None ≡ Some e = sym (ap (option_map fault_of) none) ∙ refused in absurd cc)
    ]
