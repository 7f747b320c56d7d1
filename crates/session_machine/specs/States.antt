-- The states of a session.
use Rattle.std.specs.Prelude.{ℕ, Bool, true, false, ◌&&◌, not, nat_eq, List, []}
use Rattle.std.specs.List.{list_any}
use Rattle.bsa_descriptor.specs.declared.descriptor.Descriptor.{Descriptor}
use Rattle.catalogue_slots.specs.Records.{Object}
use Rattle.catalogue_replay.specs.Contents.{has_copy}
use Rattle.catalogue_journal.specs.Transactions.{Addition}

-- the volume that the session was begun on, and the moment of its begin
pub record Place : Type 0 where
  pub volume : ℕ
  pub moment : ℕ

-- a transaction that isn't ended: what it adds and the copy ids of what it deletes, each in the order of the calls
pub record Draft : Type 0 where
  pub place : Place
  pub added : List Addition
  pub deleted : List ℕ

-- No session; a session without a transaction; a transaction in which nothing else goes on; one in which an object with a descriptor is
-- being sent, in which matches of a query are left to be given, or in which the object of a copy id is read and so many of its bytes
-- were given; a session that a fault broke.
pub data State : Type 0 where
  none : State
  idle : (place : Place) → State
  waiting : (draft : Draft) → State
  sending : (draft : Draft) (descriptor : Descriptor) → State
  querying : (draft : Draft) (rest : List ℕ) → State
  getting : (draft : Draft) (copy at : ℕ) → State
  broken : State

-- a transaction that neither adds nor deletes
abbrev pub new_draft : Place → Draft
new_draft place = record { place = place; added = []; deleted = [] }

abbrev pub is_waiting : State → Bool
is_waiting (waiting draft) = true
is_waiting _ = false

abbrev pub is_sending : State → Bool
is_sending (sending draft descriptor) = true
is_sending _ = false

abbrev pub is_querying : State → Bool
is_querying (querying draft rest) = true
is_querying _ = false

abbrev pub is_getting : State → Bool
is_getting (getting draft copy at) = true
is_getting _ = false

-- a transaction is open
abbrev pub has_draft : State → Bool
has_draft (waiting draft) = true
has_draft (sending draft descriptor) = true
has_draft (querying draft rest) = true
has_draft (getting draft copy at) = true
has_draft _ = false

-- the transaction has deleted it
abbrev pub is_deleted : ℕ → Draft → Bool
is_deleted copy draft = list_any (λ other. nat_eq other copy) draft.deleted

-- an object with this copy id is committed, and the transaction hasn't deleted it
abbrev pub is_there : ℕ → List Object → Draft → Bool
is_there copy objects draft = has_copy copy objects && not (is_deleted copy draft)

-- the same of the transaction of a state in which nothing goes on
abbrev pub is_usable : ℕ → List Object → State → Bool
is_usable copy objects (waiting draft) = is_there copy objects draft
is_usable copy objects _ = false

-- something goes on that can be ended
abbrev pub is_under_way : State → Bool
is_under_way (sending draft descriptor) = true
is_under_way (querying draft rest) = true
is_under_way (getting draft copy at) = true
is_under_way _ = false
