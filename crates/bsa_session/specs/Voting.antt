-- What the end of a transaction is about.
use Rattle.std.specs.Prelude.{◌≡◌, ℕ, Bool, List, [], map, nat_eq, if◌then◌else◌}
use Rattle.catalogue_slots.specs.Records.{Object}
use Rattle.catalogue_journal.specs.Transactions.{Addition}
use Rattle.session_machine.specs.States.{Draft, State, none, idle, waiting, sending, querying, getting, broken}
use Rattle.session_machine.specs.declared.answers.BsaRc.{BsaRc}
use Rattle.session_machine.specs.declared.answers.BsaRc.TheVariants.{InvalidCallSequence, InvalidVote, NoResources}
use Rattle.object_volume.specs.declared.volume.Volume.{Volume}
use Rattle.object_store.specs.Reading.{ChangesOne}
use Rattle.object_store.specs.Returns.{Placed, place_of_object, place_of_addition, objects_with, AllGiveBack, Cancels}

-- what the transaction of a state adds, and the copy ids of what it deletes
abbrev pub added_in : State → List Addition
added_in (waiting draft) = draft.added
added_in (sending draft descriptor) = draft.added
added_in (querying draft rest) = draft.added
added_in (getting draft copy at) = draft.added
added_in _ = []

abbrev pub deleted_in : State → List ℕ
deleted_in (waiting draft) = draft.deleted
deleted_in (sending draft descriptor) = draft.deleted
deleted_in (querying draft rest) = draft.deleted
deleted_in (getting draft copy at) = draft.deleted
deleted_in _ = []

-- whose blocks go back: those of the deleted objects at a vote to commit, else those of the added ones
abbrev pub returned_by : ℕ → List Object → State → List Placed
returned_by vote objects state = if nat_eq vote 1 then map place_of_object (objects_with (deleted_in state) objects) else map place_of_addition (added_in state)

-- an answer that leaves all as it was
abbrev pub ChangesNothing : BsaRc → Type 0
ChangesNothing InvalidCallSequence = Unit {0}
ChangesNothing InvalidVote = Unit {0}
ChangesNothing (NoResources lack) = Unit {0}
ChangesNothing _ = ⊥

-- the volume of this number is the one of the transaction
abbrev pub IsOn : ℕ → State → Type 0
IsOn number (waiting draft) = number ≡ draft.place.volume
IsOn number (sending draft descriptor) = number ≡ draft.place.volume
IsOn number (querying draft rest) = number ≡ draft.place.volume
IsOn number (getting draft copy at) = number ≡ draft.place.volume
IsOn number _ = ⊥

module _ {D : Type 0} where
  -- the blocks of what was added go back, and then those of the object that was being sent
  pub record DropsSent (tells : Bool) (bytes : D → List ℕ) (draft : Draft) (old new : List (Volume D)) : Type 0 where
    pub between : List (Volume D)
    pub returned : AllGiveBack tells bytes (map place_of_addition draft.added) old between
    pub cancelled : ChangesOne Cancels draft.place.volume between new

  -- what the end of a session makes of the volumes
  abbrev pub Drops : Bool → (D → List ℕ) → State → List (Volume D) → List (Volume D) → Type 0
  Drops tells bytes none old new = new ≡ old
  Drops tells bytes (idle place) old new = new ≡ old
  Drops tells bytes (waiting draft) old new = AllGiveBack tells bytes (map place_of_addition draft.added) old new
  Drops tells bytes (sending draft descriptor) old new = DropsSent tells bytes draft old new
  Drops tells bytes (querying draft rest) old new = AllGiveBack tells bytes (map place_of_addition draft.added) old new
  Drops tells bytes (getting draft copy at) old new = AllGiveBack tells bytes (map place_of_addition draft.added) old new
  Drops tells bytes broken old new = new ≡ old
