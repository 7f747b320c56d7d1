-- Where the read of an object goes on.
use Rattle.std.specs.Prelude.{◌≡◌, ℕ, Bool, true, false, List, Result, Err, Option, Some, None}
use Rattle.catalogue_slots.specs.Records.{Object}
use Rattle.object_volume.specs.Cursors.{offset_of, StandsIn}
use Rattle.session_machine.specs.Calls.{object_with}
use Rattle.session_machine.specs.States.{is_getting}
use Rattle.session_machine.specs.declared.answers.BsaRc.{BsaRc}
use Rattle.session_machine.specs.declared.answers.BsaRc.TheVariants.{AccessFailure}
use Rattle.session_machine.specs.declared.answers.Access.TheVariants.{Volume}
use Rattle.bsa_session.specs.Views.{view_of}
use Rattle.bsa_session.specs.declared.session.Session.{Session}
use Rattle.bsa_session.specs.declared.state.Transaction.{Transaction}
use Rattle.bsa_session.specs.declared.state.Reading.{Reading}
use Rattle.bsa_session.specs.declared.state.State.{State}
use Rattle.bsa_session.specs.declared.state.State.TheVariants as state
use Rattle.bsa_session.specs.declared.state.Work.{Work}
use Rattle.bsa_session.specs.declared.state.Work.TheVariants.{Waiting, Sending, Querying, Getting}

-- the cursor is at the byte that is given next, in the runs of the object
pub record IsAtNext (reading : Reading) (objects : List Object) : Type 0 where
  pub offset : offset_of reading.cursor ≡ reading.at
  pub stands : (object : Object) → object_with reading.copy objects ≡ Some object → StandsIn object.runs reading.cursor

abbrev pub WorkReads : Work → List Object → Type 0
WorkReads Waiting objects = Unit {0}
WorkReads (Sending descriptor) objects = Unit {0}
WorkReads (Querying matches) objects = Unit {0}
WorkReads (Getting reading) objects = IsAtNext reading objects

abbrev pub StateReads : State → List Object → Type 0
StateReads state.None objects = Unit {0}
StateReads (state.Idle place) objects = Unit {0}
StateReads (state.Open transaction) objects = WorkReads transaction.work objects
StateReads state.Broken objects = Unit {0}

-- an object that the session reads can be read on
abbrev pub CanReadOn : Session → List Object → Type 0
CanReadOn session objects = StateReads session.state objects

-- the disk of a volume failed
abbrev pub is_failure : Result ℕ BsaRc → Bool
is_failure (Err (AccessFailure (Volume volume))) = true
is_failure _ = false

-- this is what a state reads of an object, if it reads one
pub record Reads (s : State) (reading : Reading) : Type 0 where
  pub transaction : Transaction
  pub is : s ≡ state.Open transaction
  pub work : transaction.work ≡ Getting reading

abbrev pub IsReading : State → Option Reading → Type 0
IsReading s (Some reading) = Reads s reading
IsReading s None = is_getting (view_of s) ≡ false
