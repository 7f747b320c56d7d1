-- Why a command ends before its work is done.
use Rattle.std.specs.Prelude.{ℕ, List, Bool, true, false}
use Rattle.onbar_grammar.specs.declared.Why.{Why}
use Rattle.backup_lines.specs.declared.objects.Lacking.{Lacking}

-- why the log takes no records: a file isn't backed up, or an open transaction needs it, or no position is left
pub data LogFull : Type 0 where
  not_backed_up : (file : ℕ) → LogFull
  needed_by : (file txn : ℕ) → LogFull
  no_position : (end : ℕ) → LogFull

-- The refusals, in the order in which they come; a record that isn't in the grammar, which no course has, so that it never comes where
-- the disks show a fit site; and a call that is cut short, which may stop anywhere.
pub data Fault : Type 0 where
  not_formatted : Fault
  already_formatted : Fault
  needs_restart : (number : ℕ) → Fault
  nothing_to_restart : Fault
  no_such_space : (name : List ℕ) → Fault
  no_such_page : (number : ℕ) → Fault
  no_such_copy : (copy : ℕ) → Fault
  log_lost : Fault
  chunk_lost : (space : ℕ) → Fault
  no_such_log : (file : ℕ) → Fault
  refused : (list : List Lacking) → Fault
  log_full : (why : LogFull) → Fault
  store_full : (volume : ℕ) → Fault
  too_many_objects : Fault
  catalogue_full : Fault
  boot_full : Fault
  script_fault : (line : ℕ) (why : Why) → Fault
  bad_record : Fault
  cut_short : Fault

abbrev pub cuts : Fault → Bool
cuts cut_short = true
cuts fault = false
