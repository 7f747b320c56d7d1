-- What contracts see of a session.
use Rattle.std.specs.Prelude.{◌≡◌, ℕ, ◌<◌, ◌≤◌, Bool, List, length}
use Rattle.block_chain.specs.Blocks.{times}
use Rattle.object_volume.specs.Volumes.{disk_of, number_of, blocks_in, open_blocks, IsOpen, IsIdle, IsSending}
use Rattle.object_volume.specs.declared.volume.Volume.{Volume}
use Rattle.session_machine.specs.States.{Draft, State, none, idle, waiting, sending, querying, getting, broken}
use Rattle.bsa_session.specs.Views.{view_of}
use Rattle.bsa_session.specs.declared.session.Session.{Session}

-- its state
abbrev pub state_of : Session → State
state_of session = view_of session.state

module _ {D : Type 0} where
  -- the volume of a transaction in which no object is being sent, or one is
  pub record Rests (draft : Draft) (volume : Volume D) : Type 0 where
    pub opened : IsOpen volume
    pub number : number_of volume ≡ draft.place.volume
    pub idle : IsIdle volume

  pub record Receives (tells : Bool) (bytes : D → List ℕ) (draft : Draft) (volume : Volume D) : Type 0 where
    pub opened : IsOpen volume
    pub number : number_of volume ≡ draft.place.volume
    pub begun : IsSending tells bytes volume

  -- the volume suits the state: in a transaction it is the one of the session, and is sent to exactly where an object is being sent
  abbrev pub Suits : Bool → (D → List ℕ) → State → Volume D → Type 0
  Suits tells bytes none volume = Unit {0}
  Suits tells bytes (idle place) volume = Unit {0}
  Suits tells bytes (waiting draft) volume = Rests draft volume
  Suits tells bytes (sending draft descriptor) volume = Receives tells bytes draft volume
  Suits tells bytes (querying draft rest) volume = Rests draft volume
  Suits tells bytes (getting draft copy at) volume = Rests draft volume
  Suits tells bytes broken volume = Unit {0}

  -- a call opens no block to writing; the volume has as many blocks, and its disk is no shorter
  pub record LeavesOpen (bytes : D → List ℕ) (old new : Volume D) : Type 0 where
    pub among : (block : ℕ) → 0 < times block (open_blocks new) → 0 < times block (open_blocks old)
    pub blocks : blocks_in new ≡ blocks_in old
    pub no_shorter : length (bytes (disk_of old)) ≤ length (bytes (disk_of new))
