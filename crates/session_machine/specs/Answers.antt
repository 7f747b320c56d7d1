-- Words for what calls answer and make of the state.
use Rattle.std.specs.Prelude.{◌≡◌, Result, Err}
use Rattle.session_machine.specs.States.{State}
use Rattle.session_machine.specs.declared.answers.BsaRc.{BsaRc}
use Rattle.session_machine.specs.declared.answers.BsaRc.TheVariants.{Success, InvalidCallSequence, AccessFailure}
use Rattle.session_machine.specs.declared.answers.Access.TheVariants.{Volume}

-- the call succeeds, and the session is in this state
pub record Goes (to new : State) (answer : BsaRc) : Type 0 where
  pub code : answer ≡ Success
  pub state : new ≡ to

-- where the table has no entry for the state: the call is refused, and the state stays
pub record Refuses (old new : State) (answer : BsaRc) : Type 0 where
  pub code : answer ≡ InvalidCallSequence
  pub stays : new ≡ old

-- the same of a call that answers a value where it succeeds
pub record RefusesResult {T : Type 0} (old new : State) (result : Result T BsaRc) : Type 0 where
  pub code : result ≡ Err InvalidCallSequence
  pub stays : new ≡ old

-- no disk of a volume failed
abbrev pub IsNoFailure : BsaRc → Type 0
IsNoFailure (AccessFailure (Volume volume)) = ⊥
IsNoFailure _ = Unit {0}
