-- Objects that were ended.
use Rattle.std.specs.Prelude.{◌≡◌, ℕ, Bool, IsTrue, List, [], ◌∷◌, length}
use Rattle.block_chain.specs.declared.runs.Run.{Run}
use Rattle.catalogue_journal.specs.Transactions.{Addition}
use Rattle.object_volume.specs.Objects.{object}
use Rattle.sha2.specs.Sha256.{sha256}
use Rattle.session_machine.specs.States.{State, waiting}

-- the runs of the last of these
abbrev pub runs_of_last : List Addition → List Run
runs_of_last [] = []
runs_of_last (addition ∷ []) = addition.runs
runs_of_last (addition ∷ (next ∷ more)) = runs_of_last (next ∷ more)

-- the runs of the object that the transaction added last
abbrev pub last_runs : State → List Run
last_runs (waiting draft) = runs_of_last draft.added
last_runs _ = []

-- this size and this digest are those of the bytes that were sent, and the object in these runs reads as them
pub record IsSentAs (tells : Bool) (bytes message : List ℕ) (runs : List Run) (size : ℕ) (digest : List ℕ) : Type 0 where
  pub size_is : size ≡ length message
  pub digest_is : digest ≡ sha256 message
  pub reads : IsTrue tells → object runs size bytes ≡ message
