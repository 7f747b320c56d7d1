-- What the end of an object makes of a transaction.
use Rattle.std.specs.Prelude.{◌≡◌, ℕ, List, [], ◌∷◌, ◌++◌}
use Rattle.block_chain.specs.Blocks.{AreRunsOf}
use Rattle.block_chain.specs.declared.runs.Run.{Run}
use Rattle.bsa_descriptor.specs.declared.descriptor.Descriptor.{Descriptor}
use Rattle.catalogue_journal.specs.Catalogues.{additions_of}
use Rattle.session_machine.specs.declared.answers.BsaRc.{BsaRc}
use Rattle.session_machine.specs.declared.answers.BsaRc.TheVariants.{AccessFailure, OutOfMemory}
use Rattle.session_machine.specs.declared.answers.Access.TheVariants.{Volume}
use Rattle.bsa_session.specs.declared.state.Transaction.{Transaction}

-- an object of this size and digest is staged behind the others, and all else stays
pub record AddsLast (old new : Transaction) (descriptor : Descriptor) (size : ℕ) (digest : List ℕ) : Type 0 where
  pub runs : List Run
  pub fit : AreRunsOf runs size
  pub added : additions_of new.staged ≡ additions_of old.staged
      ++ record { volume = old.place.volume; size = size; digest = digest; runs = runs; descriptor = descriptor } ∷ []
  pub deleted : new.staged.delete.items ≡ old.staged.delete.items
  pub place : new.place ≡ old.place
  pub work : new.work ≡ old.work

-- the volume failed, or memory ran out
abbrev pub IsEndAnswer : ℕ → BsaRc → Type 0
IsEndAnswer volume (AccessFailure (Volume named)) = named ≡ volume
IsEndAnswer volume OutOfMemory = Unit {0}
IsEndAnswer volume _ = ⊥
