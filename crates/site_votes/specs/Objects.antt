-- The object of a vote, and the course of the vote on it.
use Rattle.std.specs.Prelude.{◌≡◌, ℕ, suc, ◌≤◌, List, [], ◌∷◌, length, Option, None, Some}
use Rattle.sha2.specs.Sha256.{sha256}
use Rattle.block_chain.specs.declared.runs.Run.{Run}
use Rattle.bsa_descriptor.specs.declared.descriptor.Descriptor.{Descriptor}
use Rattle.catalogue_journal.specs.Transactions.{Addition, object_with}
use Rattle.session_machine.specs.Calls.{with_added}
use Rattle.session_machine.specs.States.{Place, new_draft, State, waiting, sending}
use Rattle.walks.specs.Courses.{make, only}
use Rattle.site_worlds.specs.Worlds.{Kept, Site}
use Rattle.site_worlds.specs.Moves.{commit_objects}
use Rattle.site_courses.specs.Courses.{SiteCourse}
use Rattle.site_courses.specs.Faults.{store_full}
use Rattle.site_courses.specs.NewObjects.{new_runs}
use Rattle.store_calls.specs.Transactions.{MayVote}

-- a session of an object: its moment is the object's create time
abbrev pub place_for : ℕ → Descriptor → Place
place_for volume descriptor = record { volume = volume; moment = descriptor.create_time }

-- its transaction is begun, the object is being sent, or it was sent
abbrev pub begun : ℕ → Descriptor → State
begun volume descriptor = waiting (new_draft (place_for volume descriptor))

-- the transaction of some volume is begun for an object with this descriptor
pub record IsBegunFor (descriptor : Descriptor) (state : State) : Type 0 where
  pub volume : ℕ
  pub fits : volume ≤ 16
  pub is : state ≡ begun volume descriptor

abbrev pub under_way : ℕ → Descriptor → State
under_way volume descriptor = sending (new_draft (place_for volume descriptor)) descriptor

abbrev pub addition_of : ℕ → Descriptor → List ℕ → List Run → Addition
addition_of volume descriptor bytes runs = record {
  volume = volume;
  size = length bytes;
  digest = sha256 bytes;
  runs = runs;
  descriptor = descriptor;
}

abbrev pub sent : ℕ → Descriptor → List ℕ → List Run → State
sent volume descriptor bytes runs = waiting (with_added (new_draft (place_for volume descriptor)) (addition_of volume descriptor bytes runs))

-- in a session on this volume one object was sent
pub record IsSentIn (volume : ℕ) (state : State) : Type 0 where
  pub descriptor : Descriptor
  pub bytes : List ℕ
  pub runs : List Run
  pub is : state ≡ sent volume descriptor bytes runs

-- the object of these bytes in these runs, which gets the next copy id
abbrev pub new_object : ℕ → Descriptor → List ℕ → List Run → Site → Kept
new_object volume descriptor bytes runs site = record {
  object = object_with (suc site.store.last) (addition_of volume descriptor bytes runs);
  bytes = bytes;
}

-- The object comes to stand in the first free blocks of its volume, or that lacks the room.
abbrev pub commit_in : ℕ → Descriptor → List ℕ → Option (List Run) → SiteCourse
commit_in volume descriptor bytes None site = only (Some (store_full volume))
commit_in volume descriptor bytes (Some runs) site = make (commit_objects (new_object volume descriptor bytes runs site ∷ []) [] ∷ [])

abbrev pub vote_course : ℕ → Descriptor → List ℕ → SiteCourse
vote_course volume descriptor bytes site = commit_in volume descriptor bytes (new_runs site volume (length bytes)) site

-- from these sites the vote may be made, if the volume has the room
abbrev pub MayVoteOn : ℕ → Descriptor → List ℕ → Site → Type 0
MayVoteOn volume descriptor bytes site =
    (runs : List Run) → new_runs site volume (length bytes) ≡ Some runs → MayVote (new_object volume descriptor bytes runs site ∷ []) [] site
