-- The table of states: what each call answers and makes of the state. Where an answer has a row of its own, the row says when it comes.
use Rattle.std.specs.Prelude.{◌≡◌, ◌≢◌, ◌⊎◌, ℕ, ◌+◌, ◌<◌, ◌≤◌, Bool, true, false, nat_eq, IsTrue, List, [], ◌∷◌, ◌++◌, length, take, Result, Ok, Err, Option, Some, None, if◌then◌else◌}
use Rattle.std.specs.declared.vec.Vec.{Vec}
use Rattle.std.specs.declared.alloc.Global.{Global}
use Rattle.block_chain.specs.Blocks.{AreRunsOf}
use Rattle.block_chain.specs.declared.runs.Run.{Run}
use Rattle.bsa_descriptor.specs.declared.descriptor.Descriptor.{Descriptor}
use Rattle.catalogue_slots.specs.Records.{Object}
use Rattle.catalogue_replay.specs.Contents.{Contents}
use Rattle.catalogue_journal.specs.Transactions.{Addition}
use Rattle.catalogue_journal.specs.Refusals.{AreTooMany, LacksRoom}
use Rattle.object_queries.specs.Queries.{found_by}
use Rattle.sha2.specs.Sha256.{sha256}
use Rattle.session_machine.specs.States.{Draft, new_draft, is_there, State, none, idle, waiting, sending, querying, getting, broken}
use Rattle.session_machine.specs.Records.{Spells, SpellsNone, may_create, made_at}
use Rattle.session_machine.specs.Answers.{Goes, Refuses, RefusesResult}
use Rattle.session_machine.specs.declared.answers.BsaRc.{BsaRc}
use Rattle.session_machine.specs.declared.answers.BsaRc.TheVariants.{Success, InvalidObjectDescriptor, NoMatch, NoMoreData, ObjectNotFound, InvalidVote, NoResources, AccessFailure, Damaged, OutOfMemory}
use Rattle.session_machine.specs.declared.answers.Lack.TheVariants.{Blocks, Slots, Objects}
use Rattle.session_machine.specs.declared.answers.Access.TheVariants.{Cat, Spare, Volume, Ends}

-- ---- sessions and transactions

abbrev pub Inits : ℕ → ℕ → State → State → BsaRc → Type 0
Inits volume moment none new answer = Goes (idle (record { volume = volume; moment = moment })) new answer
Inits volume moment old new answer = Refuses old new answer

abbrev pub Begins : State → State → BsaRc → Type 0
Begins (idle place) new answer = Goes (waiting (new_draft place)) new answer
Begins old new answer = Refuses old new answer

-- a transaction that isn't ended is aborted
abbrev pub Terminates : State → State → BsaRc → Type 0
Terminates none new answer = Refuses none new answer
Terminates old new answer = Goes none new answer

-- ---- sending

-- an object may be made by this record, and is being sent
pub record Makes (bytes : List ℕ) (draft : Draft) (new : State) : Type 0 where
  pub descriptor : Descriptor
  pub spells : Spells descriptor bytes
  pub may : may_create descriptor ≡ true
  pub state : new ≡ sending draft (made_at draft.place.moment descriptor)

-- no object may be made by this record
pub record MakesNone (bytes : List ℕ) (draft : Draft) (new : State) : Type 0 where
  pub none : (descriptor : Descriptor) → Spells descriptor bytes → may_create descriptor ≡ false
  pub stays : new ≡ waiting draft

abbrev pub AnswersCreation : List ℕ → Draft → State → BsaRc → Type 0
AnswersCreation bytes draft new Success = Makes bytes draft new
AnswersCreation bytes draft new InvalidObjectDescriptor = MakesNone bytes draft new
AnswersCreation bytes draft new _ = ⊥

abbrev pub Creates : List ℕ → State → State → BsaRc → Type 0
Creates bytes (waiting draft) new answer = AnswersCreation bytes draft new answer
Creates bytes old new answer = Refuses old new answer

-- the disk of this volume failed, and the session is broken
pub record BreaksOn (volume of : ℕ) (new : State) : Type 0 where
  pub named : volume ≡ of
  pub state : new ≡ broken

abbrev pub AnswersPiece : Draft → Descriptor → State → BsaRc → Type 0
AnswersPiece draft descriptor new Success = new ≡ sending draft descriptor
AnswersPiece draft descriptor new (NoResources Blocks) = new ≡ sending draft descriptor
AnswersPiece draft descriptor new (AccessFailure (Volume volume)) = BreaksOn volume draft.place.volume new
AnswersPiece draft descriptor new _ = ⊥

abbrev pub SendsPiece : State → State → BsaRc → Type 0
SendsPiece (sending draft descriptor) new answer = AnswersPiece draft descriptor new answer
SendsPiece old new answer = Refuses old new answer

abbrev pub with_added : Draft → Addition → Draft
with_added draft addition = record draft { added = draft.added ++ addition ∷ [] }

-- the object that was being sent has this size and digest, and the transaction adds it
pub record AddsObject (draft : Draft) (descriptor : Descriptor) (size : ℕ) (digest : List ℕ) (new : State) : Type 0 where
  pub runs : List Run
  pub fit : AreRunsOf runs size
  pub state : new ≡ waiting (with_added draft (record { volume = draft.place.volume; size = size; digest = digest; runs = runs; descriptor = descriptor }))

abbrev pub AnswersEnd : Draft → Descriptor → State → Result (Option (ℕ × List ℕ)) BsaRc → Type 0
AnswersEnd draft descriptor new (Ok (Some sent)) = AddsObject draft descriptor sent.0 sent.1 new
AnswersEnd draft descriptor new (Err (AccessFailure (Volume volume))) = BreaksOn volume draft.place.volume new
AnswersEnd draft descriptor new (Err OutOfMemory) = new ≡ broken
AnswersEnd draft descriptor new _ = ⊥

-- a query or a fetch is ended
pub record EndsReading (draft : Draft) (new : State) (result : Result (Option (ℕ × List ℕ)) BsaRc) : Type 0 where
  pub code : result ≡ Ok None
  pub state : new ≡ waiting draft

abbrev pub EndsData : State → State → Result (Option (ℕ × List ℕ)) BsaRc → Type 0
EndsData (sending draft descriptor) new result = AnswersEnd draft descriptor new result
EndsData (querying draft rest) new result = EndsReading draft new result
EndsData (getting draft copy at) new result = EndsReading draft new result
EndsData old new result = RefusesResult old new result

-- ---- queries, over the committed objects

-- the query of this record finds the object of this copy id first
pub record Finds (objects : List Object) (bytes : List ℕ) (draft : Draft) (new : State) (copy : ℕ) : Type 0 where
  pub descriptor : Descriptor
  pub spells : Spells descriptor bytes
  pub rest : List ℕ
  pub found : found_by descriptor objects ≡ copy ∷ rest
  pub state : new ≡ querying draft rest

-- the query of this record finds nothing
pub record FindsNone (objects : List Object) (bytes : List ℕ) (draft : Draft) (new : State) : Type 0 where
  pub descriptor : Descriptor
  pub spells : Spells descriptor bytes
  pub found : found_by descriptor objects ≡ []
  pub stays : new ≡ waiting draft

-- the record is no descriptor's
pub record AsksNothing (bytes : List ℕ) (draft : Draft) (new : State) : Type 0 where
  pub none : SpellsNone bytes
  pub stays : new ≡ waiting draft

abbrev pub AnswersQuery : List Object → List ℕ → Draft → State → Result ℕ BsaRc → Type 0
AnswersQuery objects bytes draft new (Ok copy) = Finds objects bytes draft new copy
AnswersQuery objects bytes draft new (Err InvalidObjectDescriptor) = AsksNothing bytes draft new
AnswersQuery objects bytes draft new (Err NoMatch) = FindsNone objects bytes draft new
AnswersQuery objects bytes draft new (Err OutOfMemory) = new ≡ waiting draft
AnswersQuery objects bytes draft new _ = ⊥

abbrev pub Queries : List Object → List ℕ → State → State → Result ℕ BsaRc → Type 0
Queries objects bytes (waiting draft) new result = AnswersQuery objects bytes draft new result
Queries objects bytes old new result = RefusesResult old new result

-- the next match, which is left out of the rest
pub record GivesNext (draft : Draft) (copy : ℕ) (rest : List ℕ) (new : State) (result : Result ℕ BsaRc) : Type 0 where
  pub code : result ≡ Ok copy
  pub state : new ≡ querying draft rest

-- all were given, and the query is ended
pub record HasNoNext (draft : Draft) (new : State) (result : Result ℕ BsaRc) : Type 0 where
  pub code : result ≡ Err NoMoreData
  pub state : new ≡ waiting draft

abbrev pub AnswersNext : Draft → List ℕ → State → Result ℕ BsaRc → Type 0
AnswersNext draft [] new result = HasNoNext draft new result
AnswersNext draft (copy ∷ rest) new result = GivesNext draft copy rest new result

abbrev pub GetsNext : State → State → Result ℕ BsaRc → Type 0
GetsNext (querying draft rest) new result = AnswersNext draft rest new result
GetsNext old new result = RefusesResult old new result

-- ---- objects by their copy ids

-- the committed object of a copy id
abbrev pub object_with : ℕ → List Object → Option Object
object_with copy [] = None
object_with copy (object ∷ objects) = if nat_eq object.copy copy then Some object else object_with copy objects

pub record NotFound (copy : ℕ) (objects : List Object) (draft : Draft) (new : State) : Type 0 where
  pub gone : is_there copy objects draft ≡ false
  pub stays : new ≡ waiting draft

pub record DeletesOne (copy : ℕ) (objects : List Object) (draft : Draft) (new : State) : Type 0 where
  pub there : is_there copy objects draft ≡ true
  pub state : new ≡ waiting (record draft { deleted = draft.deleted ++ copy ∷ [] })

abbrev pub AnswersDeletion : ℕ → List Object → Draft → State → BsaRc → Type 0
AnswersDeletion copy objects draft new Success = DeletesOne copy objects draft new
AnswersDeletion copy objects draft new ObjectNotFound = NotFound copy objects draft new
AnswersDeletion copy objects draft new OutOfMemory = new ≡ waiting draft
AnswersDeletion copy objects draft new _ = ⊥

abbrev pub Deletes : ℕ → List Object → State → State → BsaRc → Type 0
Deletes copy objects (waiting draft) new answer = AnswersDeletion copy objects draft new answer
Deletes copy objects old new answer = Refuses old new answer

-- The object of this copy id is read, from its begin on. What each object reads as is known where disks are modelled.
pub record Opens (tells : Bool) (reads : Object → List ℕ) (copy : ℕ) (objects : List Object) (draft : Draft) (new : State) (size : ℕ) : Type 0 where
  pub there : is_there copy objects draft ≡ true
  pub object : Object
  pub is : object_with copy objects ≡ Some object
  pub size_is : size ≡ object.size
  pub whole : IsTrue tells → length (reads object) ≡ size
  pub sound : IsTrue tells → sha256 (reads object) ≡ object.digest
  pub state : new ≡ getting draft copy 0

-- it is there whole, with another digest than the one that is kept
pub record IsDamaged (tells : Bool) (reads : Object → List ℕ) (copy : ℕ) (objects : List Object) (draft : Draft) (new : State) (kept found : List ℕ) : Type 0 where
  pub there : is_there copy objects draft ≡ true
  pub object : Object
  pub is : object_with copy objects ≡ Some object
  pub kept_is : kept ≡ object.digest
  pub whole : IsTrue tells → length (reads object) ≡ object.size
  pub found_is : IsTrue tells → sha256 (reads object) ≡ found
  pub other : found ≢ kept
  pub stays : new ≡ waiting draft

-- its volume ends within it
pub record IsShort (tells : Bool) (reads : Object → List ℕ) (copy : ℕ) (objects : List Object) (draft : Draft) (new : State) : Type 0 where
  pub there : is_there copy objects draft ≡ true
  pub object : Object
  pub is : object_with copy objects ≡ Some object
  pub short : IsTrue tells → length (reads object) < object.size
  pub stays : new ≡ waiting draft

-- the disk of its volume failed, and the session is broken
pub record BreaksAt (copy : ℕ) (objects : List Object) (volume : ℕ) (new : State) : Type 0 where
  pub object : Object
  pub is : object_with copy objects ≡ Some object
  pub named : volume ≡ object.volume
  pub state : new ≡ broken

abbrev pub AnswersOpening : Bool → (Object → List ℕ) → ℕ → List Object → Draft → State → Result ℕ BsaRc → Type 0
AnswersOpening tells reads copy objects draft new (Ok size) = Opens tells reads copy objects draft new size
AnswersOpening tells reads copy objects draft new (Err ObjectNotFound) = NotFound copy objects draft new
AnswersOpening tells reads copy objects draft new (Err (Damaged kept found)) = IsDamaged tells reads copy objects draft new kept found
AnswersOpening tells reads copy objects draft new (Err (AccessFailure Ends)) = IsShort tells reads copy objects draft new
AnswersOpening tells reads copy objects draft new (Err (AccessFailure (Volume volume))) = BreaksAt copy objects volume new
AnswersOpening tells reads copy objects draft new _ = ⊥

abbrev pub GetsObject : Bool → (Object → List ℕ) → ℕ → List Object → State → State → Result ℕ BsaRc → Type 0
GetsObject tells reads copy objects (waiting draft) new result = AnswersOpening tells reads copy objects draft new result
GetsObject tells reads copy objects old new result = RefusesResult old new result

-- the next bytes of the object, at least one: what the volume has of it from a place on, up to so many
pub record GivesBytes (tells : Bool) (part : Object → ℕ → List ℕ) (copy at : ℕ) (objects : List Object) (draft : Draft) (new : State) (into : List ℕ) (n : ℕ) : Type 0 where
  pub object : Object
  pub is : object_with copy objects ≡ Some object
  pub some : 0 < n
  pub within : at + n ≤ object.size
  pub count : IsTrue tells → n ≡ length (part object at)
  pub given : IsTrue tells → take n into ≡ part object at
  pub state : new ≡ getting draft copy (at + n)

-- all its bytes were given
pub record HasNoMore (copy at : ℕ) (objects : List Object) (draft : Draft) (new : State) : Type 0 where
  pub object : Object
  pub is : object_with copy objects ≡ Some object
  pub all : object.size ≤ at
  pub stays : new ≡ getting draft copy at

-- the volume ends before the next byte
pub record EndsEarly (tells : Bool) (part : Object → ℕ → List ℕ) (copy at : ℕ) (objects : List Object) (draft : Draft) (new : State) : Type 0 where
  pub object : Object
  pub is : object_with copy objects ≡ Some object
  pub left : at < object.size
  pub ends : IsTrue tells → part object at ≡ []
  pub stays : new ≡ getting draft copy at

abbrev pub AnswersBytes : Bool → (Object → ℕ → List ℕ) → List Object → Draft → ℕ → ℕ → State → List ℕ → Result ℕ BsaRc → Type 0
AnswersBytes tells part objects draft copy at new into (Ok n) = GivesBytes tells part copy at objects draft new into n
AnswersBytes tells part objects draft copy at new into (Err NoMoreData) = HasNoMore copy at objects draft new
AnswersBytes tells part objects draft copy at new into (Err (AccessFailure Ends)) = EndsEarly tells part copy at objects draft new
AnswersBytes tells part objects draft copy at new into (Err (AccessFailure (Volume volume))) = BreaksAt copy objects volume new
AnswersBytes tells part objects draft copy at new into _ = ⊥

abbrev pub GetsData : Bool → (Object → ℕ → List ℕ) → List Object → State → State → List ℕ → Result ℕ BsaRc → Type 0
GetsData tells part objects (getting draft copy at) new into result = AnswersBytes tells part objects draft copy at new into result
GetsData tells part objects old new into result = RefusesResult old new result

-- ---- votes

-- neither 1, to commit, nor 2, to abort
pub record HasNoVote (vote : ℕ) (draft : Draft) (new : State) : Type 0 where
  pub no_commit : vote ≢ 1
  pub no_abort : vote ≢ 2
  pub stays : new ≡ waiting draft

-- the transaction is committed, and its objects have these copy ids
pub record Commits (vote : ℕ) (copies_of : Draft → List ℕ) (draft : Draft) (new : State) (copies : List ℕ) : Type 0 where
  pub vote_is : vote ≡ 1
  pub copies_are : copies ≡ copies_of draft
  pub state : new ≡ idle draft.place

-- the transaction is aborted
pub record Aborts (vote : ℕ) (draft : Draft) (new : State) (copies : List ℕ) : Type 0 where
  pub vote_is : vote ≡ 2
  pub none : copies ≡ []
  pub state : new ≡ idle draft.place

-- it can't be committed, for objects or copy ids, or for slots, and goes on
pub record HasTooMany (vote : ℕ) (contents : Contents) (draft : Draft) (new : State) : Type 0 where
  pub vote_is : vote ≡ 1
  pub live : ℕ
  pub last : ℕ
  pub many : AreTooMany draft.deleted draft.added contents live last
  pub stays : new ≡ waiting draft

pub record HasNoSlots (vote capacity taken : ℕ) (contents : Contents) (draft : Draft) (new : State) : Type 0 where
  pub vote_is : vote ≡ 1
  pub used : ℕ
  pub wanted : ℕ
  pub lacks : LacksRoom capacity taken draft.deleted draft.added contents used wanted
  pub stays : new ≡ waiting draft

-- the commit was cut short, and the session is broken
pub record BreaksCommit (vote : ℕ) (new : State) : Type 0 where
  pub vote_is : vote ≡ 1
  pub state : new ≡ broken

abbrev pub AnswersVote : ℕ → ℕ → ℕ → Contents → (Draft → List ℕ) → Draft → State → Result (Vec ℕ Global) BsaRc → Type 0
AnswersVote vote capacity taken contents copies_of draft new (Ok copies) = Commits vote copies_of draft new copies.items ⊎ Aborts vote draft new copies.items
AnswersVote vote capacity taken contents copies_of draft new (Err InvalidVote) = HasNoVote vote draft new
AnswersVote vote capacity taken contents copies_of draft new (Err (NoResources Objects)) = HasTooMany vote contents draft new
AnswersVote vote capacity taken contents copies_of draft new (Err (NoResources Slots)) = HasNoSlots vote capacity taken contents draft new
AnswersVote vote capacity taken contents copies_of draft new (Err (AccessFailure Cat)) = BreaksCommit vote new
AnswersVote vote capacity taken contents copies_of draft new (Err (AccessFailure Spare)) = BreaksCommit vote new
AnswersVote vote capacity taken contents copies_of draft new (Err OutOfMemory) = BreaksCommit vote new
AnswersVote vote capacity taken contents copies_of draft new _ = ⊥

-- The catalogue has so many slots, of which some are taken, and these contents; a commit gives these copy ids.
abbrev pub EndsTxn : ℕ → ℕ → ℕ → Contents → (Draft → List ℕ) → State → State → Result (Vec ℕ Global) BsaRc → Type 0
EndsTxn vote capacity taken contents copies_of (waiting draft) new result = AnswersVote vote capacity taken contents copies_of draft new result
EndsTxn vote capacity taken contents copies_of old new result = RefusesResult old new result
