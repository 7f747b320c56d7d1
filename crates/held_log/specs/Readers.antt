-- What a reader has of the records that it took.
use Rattle.std.specs.Prelude.{◌≡◌, ℕ, suc, ◌+◌, List, [], ◌∷◌, ◌++◌, length, map, reverse, true, false, None, Some, Result, Ok, Err}
use Rattle.log_history.specs.History.{LogEntry, History, reset}
use Rattle.log_history.specs.Live.{ResetPoint}
use Rattle.log_history.specs.Effects.{Change, change_by}
use Rattle.log_history.specs.Transactions.{Table, given}
use Rattle.txn_table.specs.Table.{change_of}
use Rattle.held_laws.specs.Reading.{read_after, read_back, resets_read_back}
use Rattle.held_log.specs.Strays.{is_stray, stray_from}
use Rattle.held_log.specs.declared.faults.HeldFault.{HeldFault}
use Rattle.held_log.specs.declared.faults.HeldFault.TheVariants.{OutOfMemory, Failed, BadRecord}
use Rattle.held_log.specs.declared.reader.Reader.{Reader}

-- the changes of all commits among some records, given newest first, behind so many others
abbrev pub gathered_back : ℕ → List LogEntry → List Change
gathered_back before [] = []
gathered_back before (entry ∷ past) = gathered_back before past ++ map (change_by (before + suc (length past))) (given entry (read_back before past))

-- the Resets with the record at a position
abbrev pub resets_after : ℕ → LogEntry → List ResetPoint → List ResetPoint
resets_after x (reset restore target time) resets = record { at = x; target = target } ∷ resets
resets_after x entry resets = resets

-- what a reader has of records given newest first, behind so many others
pub record HasTaken (before : ℕ) (past : List LogEntry) (reader : Reader) : Type 0 where
  pub table : reader.open ≡ read_back before past
  pub changes : map change_of reader.changes.items ≡ gathered_back before past
  pub resets : reader.resets ≡ resets_read_back before past

-- a record at a position was taken
pub record Takes (position : ℕ) (entry : LogEntry) (old new : Reader) : Type 0 where
  pub in_order : is_stray entry old.open ≡ false
  pub table : new.open ≡ read_after position entry old.open
  pub changes : map change_of new.changes.items ≡ map change_of old.changes.items ++ map (change_by position) (given entry old.open)
  pub resets : new.resets ≡ resets_after position entry old.resets

-- it wasn't: in this slot it is a Begin that the open transactions don't allow, or there was no memory
abbrev pub IsRefused : ℕ → LogEntry → Table → HeldFault → Type 0
IsRefused slot entry table OutOfMemory = Unit {0}
IsRefused slot entry table Failed = ⊥
IsRefused slot entry table (BadRecord number) = (is_stray entry table ≡ true) × (number ≡ slot)

-- the records of a file, which begin at a slot, were taken behind others; the first such Begin stopped that; or it failed
abbrev pub FileIs : ℕ → List LogEntry → ℕ → History → Reader → Result (Unit {0}) HeldFault → Type 0
FileIs before past slot entries now (Ok done) = HasTaken before (reverse entries ++ past) now × (stray_from slot before past entries ≡ None)
FileIs before past slot entries now (Err OutOfMemory) = Unit {0}
FileIs before past slot entries now (Err Failed) = Unit {0}
FileIs before past slot entries now (Err (BadRecord number)) = stray_from slot before past entries ≡ Some number
