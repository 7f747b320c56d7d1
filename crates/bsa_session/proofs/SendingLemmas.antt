-- Objects that are sent.
use Rattle.std.proofs.Common.{◌≡◌, ◌↔◌, ℕ, Bool, true, List, [], ◌∷◌, ◌++◌, refl}
use Rattle.catalogue_journal.specs.Transactions.{Addition}
use Rattle.object_volume.specs.Volumes.{IsOpen, IsSending}
use Rattle.object_volume.specs.declared.volume.Volume.{Volume}
use Rattle.session_machine.specs.States as machine
use Rattle.session_machine.specs.declared.answers.BsaRc.{BsaRc}
use Rattle.session_machine.specs.declared.answers.Lack.TheVariants.{Blocks}
use Rattle.session_machine.specs.declared.answers.BsaRc.TheVariants.{NoResources}
use Rattle.bsa_session.specs.Ended.{runs_of_last}
use Rattle.bsa_session.specs.Sessions.{Suits}

-- the runs of the last of some additions
pub runs_of_last-push : (added : List Addition) (addition : Addition) → runs_of_last (added ++ addition ∷ []) ≡ addition.runs
runs_of_last-push [] addition = refl
runs_of_last-push (a ∷ []) addition = refl
runs_of_last-push (a ∷ (b ∷ more)) addition = runs_of_last-push (b ∷ more) addition

-- a volume that suits a state in which an object is being sent is open, and is sent to
module _ {D : Type 0} (tells : Bool) (bytes : D → List ℕ) (volume : Volume D) where
  pub receives_open : (s : machine.State) → machine.is_sending s ≡ true → Suits tells bytes s volume → IsOpen volume × IsSending tells bytes volume
  receives_open (machine.sending draft descriptor) is_so suits = (suits.opened, suits.begun)
  receives_open machine.none is_so suits = cc
  receives_open (machine.idle place) is_so suits = cc
  receives_open (machine.waiting draft) is_so suits = cc
  receives_open (machine.querying draft rest) is_so suits = cc
  receives_open (machine.getting draft copy at) is_so suits = cc
  receives_open machine.broken is_so suits = cc

-- a piece that was answered otherwise had the blocks that it needs
pub full_not : {P Q : Type 0} (answer : BsaRc) → (answer ≡ NoResources Blocks → ⊥) → (Q → ⊥) → Q ↔ P → (answer ≡ NoResources Blocks) ↔ P
full_not answer not_so none iff = (λ e. absurd (not_so e), λ p. absurd (none (iff.1 p)))
