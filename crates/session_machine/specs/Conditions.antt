-- What calls need of the state of a session, and keep.
use Rattle.std.specs.Prelude.{◌≡◌, ℕ, ◌≤◌, Bool, true, false, List}
use Rattle.std.specs.List.{AllByRecursion}
use Rattle.catalogue_slots.specs.Records.{Object}
use Rattle.catalogue_replay.specs.Contents.{has_copy}
use Rattle.catalogue_journal.specs.Transactions.{Addition, IsAddition, AreLive}
use Rattle.session_machine.specs.States.{Draft, State, none, idle, waiting, sending, querying, getting, broken}

-- an object that a transaction adds to this volume
pub record IsAddedTo (volume : ℕ) (addition : Addition) : Type 0 where
  pub volume_is : addition.volume ≡ volume
  pub fit : IsAddition addition

pub record IsSoundDraft (draft : Draft) : Type 0 where
  pub volume : draft.place.volume ≤ 16
  pub added : AllByRecursion (IsAddedTo draft.place.volume) draft.added

-- the state is one that calls lead to
abbrev pub IsSound : State → Type 0
IsSound none = Unit {0}
IsSound (idle place) = place.volume ≤ 16
IsSound (waiting draft) = IsSoundDraft draft
IsSound (sending draft descriptor) = IsSoundDraft draft
IsSound (querying draft rest) = IsSoundDraft draft
IsSound (getting draft copy at) = IsSoundDraft draft
IsSound broken = Unit {0}

-- what is staged for deletion is committed, and so is what is read
abbrev pub Refers : State → List Object → Type 0
Refers none objects = Unit {0}
Refers (idle place) objects = Unit {0}
Refers (waiting draft) objects = AreLive draft.deleted objects
Refers (sending draft descriptor) objects = AreLive draft.deleted objects
Refers (querying draft rest) objects = AreLive draft.deleted objects
Refers (getting draft copy at) objects = AreLive draft.deleted objects × (has_copy copy objects ≡ true)
Refers broken objects = Unit {0}

abbrev pub is_broken : State → Bool
is_broken broken = true
is_broken _ = false
