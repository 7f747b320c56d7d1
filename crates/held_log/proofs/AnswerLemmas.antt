-- What a fault of the log says of what is answered.
use Rattle.std.specs.Prelude.{Result, Err}
use Rattle.std.proofs.Common.{◌≡◌, ℕ, List, sym, ◌∙◌}
use Rattle.log_history.specs.History.{LogEntry, History}
use Rattle.log_files.specs.Answers.{IsFailure}
use Rattle.log_files.specs.declared.faults.LogFault.{LogFault}
use Rattle.log_files.specs.declared.faults.LogFault.TheVariants.{LogLost, BadRecord, Failed, OutOfMemory}
use Rattle.held_log.specs.Answers.{held_fault_of}
use Rattle.held_log.specs.Readers.{FileIs}
use Rattle.held_log.specs.declared.faults.HeldFault.{HeldFault}
use Rattle.held_log.specs.declared.reader.Reader.{Reader}

-- a failure says nothing of a file
pub file_of : (before : ℕ) (past : List LogEntry) (slot : ℕ) (entries : History) (now : Reader) (fault : LogFault) → IsFailure fault
    → FileIs before past slot entries now (Err (held_fault_of fault))
file_of before past slot entries now LogLost failure = absurd failure
file_of before past slot entries now (BadRecord number) failure = absurd failure
file_of before past slot entries now Failed failure = tt
file_of before past slot entries now OutOfMemory failure = tt

-- a fault that is handed on
pub same_fault : {U : Type 0} (outer : Result U HeldFault) (inner y fault : HeldFault) → outer ≡ Err y → y ≡ inner → outer ≡ Err fault → inner ≡ fault
same_fault {U} outer inner y fault o same is = sym same ∙ one y fault (sym o ∙ is)
  where
    one : (a b : HeldFault) → ◌≡◌ {A = Result U HeldFault} (Err a) (Err b) → a ≡ b
    one a b e = cc e
