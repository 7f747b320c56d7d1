-- Where each call leads a session.
use Rattle.std.proofs.Common.{◌≡◌, ◌≢◌, ◌⊎◌, ℕ, Bool, true, false, List, [], ◌∷◌, ◌++◌, Option, None, Some, Result, Ok, Err, inl, inr, refl, sym, ap, ◌∙◌, subst}
use Rattle.std.specs.declared.vec.Vec.{Vec}
use Rattle.std.specs.declared.alloc.Global.{Global}
use Rattle.block_chain.specs.declared.runs.Run.{Run}
use Rattle.catalogue_slots.specs.Records.{Object}
use Rattle.catalogue_replay.specs.Contents.{Contents}
use Rattle.object_store.specs.Endings.{places}
use Rattle.object_store.specs.Returns.{runs_on}
use Rattle.session_machine.specs.Calls.{Inits, Begins, Terminates, Creates, SendsPiece, EndsData, Queries, GetsNext, Deletes, EndsTxn}
use Rattle.session_machine.specs.Conditions.{Refers}
use Rattle.session_machine.specs.States.{Draft, State, is_getting, none, idle, waiting, sending, querying, getting, broken}
use Rattle.session_machine.specs.declared.answers.BsaRc.{BsaRc}
use Rattle.session_machine.specs.declared.answers.BsaRc.TheVariants.{Success, InvalidCallSequence, InvalidObjectDescriptor, NoMatch, NoMoreData, ObjectNotFound, InvalidVote, NoResources, AccessFailure, Damaged, OutOfMemory}
use Rattle.session_machine.specs.declared.answers.Lack.TheVariants.{Blocks, Slots, Objects}
use Rattle.session_machine.specs.declared.answers.Access.TheVariants.{Cat, Spare, Volume as OfVolume, Ends}
use Rattle.bsa_session.specs.Reading.{CanReadOn, StateReads, WorkReads}
use Rattle.bsa_session.specs.Sessions.{state_of}
use Rattle.bsa_session.specs.Views.{view_of, with_work, draft_of}
use Rattle.bsa_session.specs.Voting.{added_in}
use Rattle.bsa_session.specs.declared.session.Session.{Session}
use Rattle.bsa_session.specs.declared.state.State.{State as Inner}
use Rattle.bsa_session.specs.declared.state.State.TheVariants as inner
use Rattle.bsa_session.specs.declared.state.Work.{Work}
use Rattle.bsa_session.specs.declared.state.Work.TheVariants.{Waiting, Sending, Querying, Getting}
use Rattle.bsa_session.specs.declared.state.Transaction.{Transaction}
use Rattle.xbsa_shell.specs.Serving.{AreThere, IsPlace}
use Rattle.xbsa_shell.specs.Statuses.{status_of_answer, IsUncut}
use Rattle.xbsa_shell.proofs.SendLemmas.{last_elsewhere}

-- ---- where a fetch goes on

work_reads : (t : Transaction) (w : Work) (objects : List Object) → is_getting (with_work (draft_of t) w) ≡ false → WorkReads w objects
work_reads t Waiting objects not = tt
work_reads t (Sending descriptor) objects not = tt
work_reads t (Querying matches) objects not = tt
work_reads t (Getting reading) objects not = cc not

inner_reads : (s : Inner) (objects : List Object) → is_getting (view_of s) ≡ false → StateReads s objects
inner_reads inner.None objects not = tt
inner_reads (inner.Idle place) objects not = tt
inner_reads (inner.Open t) objects not = work_reads t t.work objects not
inner_reads inner.Broken objects not = tt

-- a session that fetches nothing
pub reads_any : (session : Session) (objects : List Object) → is_getting (state_of session) ≡ false → CanReadOn session objects
reads_any session objects not = inner_reads session.state objects not

-- the session fetches nothing, or it is as it was
pub reads_then : {Same : Type 0} (old new : Session) (objects : List Object) → (is_getting (state_of new) ≡ false) ⊎ Same → (Same → new ≡ old)
    → CanReadOn old objects → CanReadOn new objects
reads_then old new objects (inl not) same before = inner_reads new.state objects not
reads_then old new objects (inr is) same before = subst (λ (s : Session). CanReadOn s objects) (sym (same is)) before

not_getting : (new to : State) → new ≡ to → is_getting to ≡ false → is_getting new ≡ false
not_getting new to is not = ap is_getting is ∙ not

-- after each call the session fetches nothing, or the call was refused

pub init_leaves : (volume moment : ℕ) (old new : State) (code : BsaRc) → Inits volume moment old new code → (is_getting new ≡ false) ⊎ (code ≡ InvalidCallSequence)
init_leaves volume moment none new code is = inl (not_getting new _ is.state refl)
init_leaves volume moment (idle p) new code is = inr is.code
init_leaves volume moment (waiting draft) new code is = inr is.code
init_leaves volume moment (sending draft descriptor) new code is = inr is.code
init_leaves volume moment (querying draft rest) new code is = inr is.code
init_leaves volume moment (getting draft copy from) new code is = inr is.code
init_leaves volume moment broken new code is = inr is.code

pub begin_leaves : (old new : State) (code : BsaRc) → Begins old new code → (is_getting new ≡ false) ⊎ (code ≡ InvalidCallSequence)
begin_leaves none new code is = inr is.code
begin_leaves (idle p) new code is = inl (not_getting new _ is.state refl)
begin_leaves (waiting draft) new code is = inr is.code
begin_leaves (sending draft descriptor) new code is = inr is.code
begin_leaves (querying draft rest) new code is = inr is.code
begin_leaves (getting draft copy from) new code is = inr is.code
begin_leaves broken new code is = inr is.code

pub terminate_leaves : (old new : State) (code : BsaRc) → Terminates old new code → is_getting new ≡ false
terminate_leaves none new code is = not_getting new _ is.stays refl
terminate_leaves (idle p) new code is = not_getting new _ is.state refl
terminate_leaves (waiting draft) new code is = not_getting new _ is.state refl
terminate_leaves (sending draft descriptor) new code is = not_getting new _ is.state refl
terminate_leaves (querying draft rest) new code is = not_getting new _ is.state refl
terminate_leaves (getting draft copy from) new code is = not_getting new _ is.state refl
terminate_leaves broken new code is = not_getting new _ is.state refl

pub create_leaves : (bytes : List ℕ) (old new : State) (code : BsaRc) → Creates bytes old new code → (is_getting new ≡ false) ⊎ (code ≡ InvalidCallSequence)
create_leaves bytes none new code is = inr is.code
create_leaves bytes (idle p) new code is = inr is.code
create_leaves bytes (waiting draft) new Success is = inl (not_getting new _ is.state refl)
create_leaves bytes (waiting draft) new InvalidObjectDescriptor is = inl (not_getting new _ is.stays refl)
create_leaves bytes (waiting draft) new code is = absurd is
create_leaves bytes (sending draft descriptor) new code is = inr is.code
create_leaves bytes (querying draft rest) new code is = inr is.code
create_leaves bytes (getting draft copy from) new code is = inr is.code
create_leaves bytes broken new code is = inr is.code

pub send_leaves : (old new : State) (code : BsaRc) → SendsPiece old new code → (is_getting new ≡ false) ⊎ (code ≡ InvalidCallSequence)
send_leaves none new code is = inr is.code
send_leaves (idle p) new code is = inr is.code
send_leaves (waiting draft) new code is = inr is.code
send_leaves (sending draft descriptor) new Success is = inl (not_getting new _ is refl)
send_leaves (sending draft descriptor) new (NoResources Blocks) is = inl (not_getting new _ is refl)
send_leaves (sending draft descriptor) new (AccessFailure (OfVolume volume)) is = inl (not_getting new _ is.state refl)
send_leaves (sending draft descriptor) new code is = absurd is
send_leaves (querying draft rest) new code is = inr is.code
send_leaves (getting draft copy from) new code is = inr is.code
send_leaves broken new code is = inr is.code

pub end_leaves : (old new : State) (result : Result (Option (ℕ × List ℕ)) BsaRc) → EndsData old new result
    → (is_getting new ≡ false) ⊎ (result ≡ Err InvalidCallSequence)
end_leaves none new result is = inr is.code
end_leaves (idle p) new result is = inr is.code
end_leaves (waiting draft) new result is = inr is.code
end_leaves (sending draft descriptor) new (Ok (Some sent)) is = inl (not_getting new _ is.state refl)
end_leaves (sending draft descriptor) new (Ok None) is = absurd is
end_leaves (sending draft descriptor) new (Err (AccessFailure (OfVolume volume))) is = inl (not_getting new _ is.state refl)
end_leaves (sending draft descriptor) new (Err OutOfMemory) is = inl (not_getting new _ is refl)
end_leaves (sending draft descriptor) new (Err code) is = absurd is
end_leaves (querying draft rest) new result is = inl (not_getting new _ is.state refl)
end_leaves (getting draft copy from) new result is = inl (not_getting new _ is.state refl)
end_leaves broken new result is = inr is.code

pub query_leaves : (objects : List Object) (bytes : List ℕ) (old new : State) (result : Result ℕ BsaRc) → Queries objects bytes old new result
    → (is_getting new ≡ false) ⊎ (result ≡ Err InvalidCallSequence)
query_leaves objects bytes none new result is = inr is.code
query_leaves objects bytes (idle p) new result is = inr is.code
query_leaves objects bytes (waiting draft) new (Ok copy) is = inl (not_getting new _ is.state refl)
query_leaves objects bytes (waiting draft) new (Err InvalidObjectDescriptor) is = inl (not_getting new _ is.stays refl)
query_leaves objects bytes (waiting draft) new (Err NoMatch) is = inl (not_getting new _ is.stays refl)
query_leaves objects bytes (waiting draft) new (Err OutOfMemory) is = inl (not_getting new _ is refl)
query_leaves objects bytes (waiting draft) new (Err code) is = absurd is
query_leaves objects bytes (sending draft descriptor) new result is = inr is.code
query_leaves objects bytes (querying draft rest) new result is = inr is.code
query_leaves objects bytes (getting draft copy from) new result is = inr is.code
query_leaves objects bytes broken new result is = inr is.code

pub next_leaves : (old new : State) (result : Result ℕ BsaRc) → GetsNext old new result → (is_getting new ≡ false) ⊎ (result ≡ Err InvalidCallSequence)
next_leaves none new result is = inr is.code
next_leaves (idle p) new result is = inr is.code
next_leaves (waiting draft) new result is = inr is.code
next_leaves (sending draft descriptor) new result is = inr is.code
next_leaves (querying draft []) new result is = inl (not_getting new _ is.state refl)
next_leaves (querying draft (copy ∷ rest)) new result is = inl (not_getting new _ is.state refl)
next_leaves (getting draft copy from) new result is = inr is.code
next_leaves broken new result is = inr is.code

pub delete_leaves : (copy : ℕ) (objects : List Object) (old new : State) (code : BsaRc) → Deletes copy objects old new code
    → (is_getting new ≡ false) ⊎ (code ≡ InvalidCallSequence)
delete_leaves copy objects none new code is = inr is.code
delete_leaves copy objects (idle p) new code is = inr is.code
delete_leaves copy objects (waiting draft) new Success is = inl (not_getting new _ is.state refl)
delete_leaves copy objects (waiting draft) new ObjectNotFound is = inl (not_getting new _ is.stays refl)
delete_leaves copy objects (waiting draft) new OutOfMemory is = inl (not_getting new _ is refl)
delete_leaves copy objects (waiting draft) new code is = absurd is
delete_leaves copy objects (sending draft descriptor) new code is = inr is.code
delete_leaves copy objects (querying draft rest) new code is = inr is.code
delete_leaves copy objects (getting draft other from) new code is = inr is.code
delete_leaves copy objects broken new code is = inr is.code

vote_leaves_waiting : (vote capacity taken : ℕ) (contents : Contents) (copies_of : Draft → List ℕ) (draft : Draft) (new : State) (result : Result (Vec ℕ Global) BsaRc)
    → EndsTxn vote capacity taken contents copies_of (waiting draft) new result → is_getting new ≡ false
vote_leaves_waiting vote capacity taken contents copies_of draft new (Ok copies) (inl is) = not_getting new _ is.state refl
vote_leaves_waiting vote capacity taken contents copies_of draft new (Ok copies) (inr is) = not_getting new _ is.state refl
vote_leaves_waiting vote capacity taken contents copies_of draft new (Err InvalidVote) is = not_getting new _ is.stays refl
vote_leaves_waiting vote capacity taken contents copies_of draft new (Err (NoResources Objects)) is = not_getting new _ is.stays refl
vote_leaves_waiting vote capacity taken contents copies_of draft new (Err (NoResources Slots)) is = not_getting new _ is.stays refl
vote_leaves_waiting vote capacity taken contents copies_of draft new (Err (AccessFailure Cat)) is = not_getting new _ is.state refl
vote_leaves_waiting vote capacity taken contents copies_of draft new (Err (AccessFailure Spare)) is = not_getting new _ is.state refl
vote_leaves_waiting vote capacity taken contents copies_of draft new (Err OutOfMemory) is = not_getting new _ is.state refl
vote_leaves_waiting vote capacity taken contents copies_of draft new (Err code) is = absurd is

pub vote_leaves : (vote capacity taken : ℕ) (contents : Contents) (copies_of : Draft → List ℕ) (old new : State) (result : Result (Vec ℕ Global) BsaRc)
    → EndsTxn vote capacity taken contents copies_of old new result → (is_getting new ≡ false) ⊎ (result ≡ Err InvalidCallSequence)
vote_leaves vote capacity taken contents copies_of none new result is = inr is.code
vote_leaves vote capacity taken contents copies_of (idle p) new result is = inr is.code
vote_leaves vote capacity taken contents copies_of (waiting draft) new result is = inl (vote_leaves_waiting vote capacity taken contents copies_of draft new result is)
vote_leaves vote capacity taken contents copies_of (sending draft descriptor) new result is = inr is.code
vote_leaves vote capacity taken contents copies_of (querying draft rest) new result is = inr is.code
vote_leaves vote capacity taken contents copies_of (getting draft copy from) new result is = inr is.code
vote_leaves vote capacity taken contents copies_of broken new result is = inr is.code

-- ---- its volume, and what it refers to

-- the session is on this volume still, refers to committed objects, and adds nothing to another volume
pub record Leads (at : ℕ) (objects : List Object) (old new : State) : Type 0 where
  pub place : IsPlace at new
  pub refers : Refers new objects
  pub there : AreThere objects new
  pub added : (place : ℕ) → place ≢ at → runs_on place (places objects (added_in new)) ≡ runs_on place (places objects (added_in old))

module _ (at : ℕ) (objects : List Object) where
  leads_none : (old new : State) → new ≡ old → IsPlace at old → Refers old objects → AreThere objects old → Leads at objects old new
  leads_none old new stays on refers there =
      subst (Leads at objects old) (sym stays) (record { place = on; refers = refers; there = there; added = λ place other. refl })

  leads_to : (old new to : State) → new ≡ to → Leads at objects old to → Leads at objects old new
  leads_to old new to is leads = subst (Leads at objects old) (sym is) leads

  pub create_leads : (bytes : List ℕ) (old new : State) (code : BsaRc) → IsPlace at old → Refers old objects → AreThere objects old → Creates bytes old new code
      → Leads at objects old new
  create_leads bytes none new code on refers there is = leads_none none new is.stays on refers there
  create_leads bytes (idle p) new code on refers there is = leads_none (idle p) new is.stays on refers there
  create_leads bytes (waiting draft) new Success on refers there is =
      leads_to (waiting draft) new _ is.state (record { place = on; refers = refers; there = tt; added = λ place other. refl })
  create_leads bytes (waiting draft) new InvalidObjectDescriptor on refers there is = leads_none (waiting draft) new is.stays on refers there
  create_leads bytes (waiting draft) new code on refers there is = absurd is
  create_leads bytes (sending draft descriptor) new code on refers there is = leads_none (sending draft descriptor) new is.stays on refers there
  create_leads bytes (querying draft rest) new code on refers there is = leads_none (querying draft rest) new is.stays on refers there
  create_leads bytes (getting draft copy from) new code on refers there is = leads_none (getting draft copy from) new is.stays on refers there
  create_leads bytes broken new code on refers there is = absurd on

  pub send_leads : (old new : State) (code : BsaRc) → IsPlace at old → Refers old objects → AreThere objects old → SendsPiece old new code
      → status_of_answer code ≡ None → Leads at objects old new
  send_leads none new code on refers there is uncut = leads_none none new is.stays on refers there
  send_leads (idle p) new code on refers there is uncut = leads_none (idle p) new is.stays on refers there
  send_leads (waiting draft) new code on refers there is uncut = leads_none (waiting draft) new is.stays on refers there
  send_leads (sending draft descriptor) new Success on refers there is uncut = leads_none (sending draft descriptor) new is on refers there
  send_leads (sending draft descriptor) new (NoResources Blocks) on refers there is uncut = leads_none (sending draft descriptor) new is on refers there
  send_leads (sending draft descriptor) new (AccessFailure (OfVolume volume)) on refers there is uncut = cc uncut
  send_leads (sending draft descriptor) new code on refers there is uncut = absurd is
  send_leads (querying draft rest) new code on refers there is uncut = leads_none (querying draft rest) new is.stays on refers there
  send_leads (getting draft copy from) new code on refers there is uncut = leads_none (getting draft copy from) new is.stays on refers there
  send_leads broken new code on refers there is uncut = absurd on

  pub end_leads : (old new : State) (result : Result (Option (ℕ × List ℕ)) BsaRc) → IsPlace at old → Refers old objects → AreThere objects old
      → EndsData old new result → IsUncut result → Leads at objects old new
  end_leads none new result on refers there is uncut = leads_none none new is.stays on refers there
  end_leads (idle p) new result on refers there is uncut = leads_none (idle p) new is.stays on refers there
  end_leads (waiting draft) new result on refers there is uncut = leads_none (waiting draft) new is.stays on refers there
  end_leads (sending draft descriptor) new (Ok (Some sent)) on refers there is uncut = leads_to (sending draft descriptor) new _ is.state (record {
    place = on;
    refers = refers;
    there = tt;
    added = λ place other. last_elsewhere place objects draft.added _ (λ (e : place ≡ draft.place.volume). other (e ∙ on));
  })
  end_leads (sending draft descriptor) new (Ok None) on refers there is uncut = absurd is
  end_leads (sending draft descriptor) new (Err (AccessFailure (OfVolume volume))) on refers there is uncut = cc uncut
  end_leads (sending draft descriptor) new (Err OutOfMemory) on refers there is uncut = cc uncut
  end_leads (sending draft descriptor) new (Err code) on refers there is uncut = absurd is
  end_leads (querying draft rest) new result on refers there is uncut =
      leads_to (querying draft rest) new _ is.state (record { place = on; refers = refers; there = tt; added = λ place other. refl })
  end_leads (getting draft copy from) new result on refers there is uncut =
      leads_to (getting draft copy from) new _ is.state (record { place = on; refers = refers.0; there = tt; added = λ place other. refl })
  end_leads broken new result on refers there is uncut = absurd on

  -- calls that leave the store alone

  pub begin_place : (old new : State) (code : BsaRc) → IsPlace at old → Begins old new code → IsPlace at new
  begin_place none new code on is = subst (IsPlace at) (sym is.stays) on
  begin_place (idle p) new code on is = subst (IsPlace at) (sym is.state) on
  begin_place (waiting draft) new code on is = subst (IsPlace at) (sym is.stays) on
  begin_place (sending draft descriptor) new code on is = subst (IsPlace at) (sym is.stays) on
  begin_place (querying draft rest) new code on is = subst (IsPlace at) (sym is.stays) on
  begin_place (getting draft copy from) new code on is = subst (IsPlace at) (sym is.stays) on
  begin_place broken new code on is = absurd on

  pub query_place : (bytes : List ℕ) (old new : State) (result : Result ℕ BsaRc) → IsPlace at old → Queries objects bytes old new result → IsPlace at new
  query_place bytes none new result on is = subst (IsPlace at) (sym is.stays) on
  query_place bytes (idle p) new result on is = subst (IsPlace at) (sym is.stays) on
  query_place bytes (waiting draft) new (Ok copy) on is = subst (IsPlace at) (sym is.state) on
  query_place bytes (waiting draft) new (Err InvalidObjectDescriptor) on is = subst (IsPlace at) (sym is.stays) on
  query_place bytes (waiting draft) new (Err NoMatch) on is = subst (IsPlace at) (sym is.stays) on
  query_place bytes (waiting draft) new (Err OutOfMemory) on is = subst (IsPlace at) (sym is) on
  query_place bytes (waiting draft) new (Err code) on is = absurd is
  query_place bytes (sending draft descriptor) new result on is = subst (IsPlace at) (sym is.stays) on
  query_place bytes (querying draft rest) new result on is = subst (IsPlace at) (sym is.stays) on
  query_place bytes (getting draft copy from) new result on is = subst (IsPlace at) (sym is.stays) on
  query_place bytes broken new result on is = absurd on

  pub next_place : (old new : State) (result : Result ℕ BsaRc) → IsPlace at old → GetsNext old new result → IsPlace at new
  next_place none new result on is = subst (IsPlace at) (sym is.stays) on
  next_place (idle p) new result on is = subst (IsPlace at) (sym is.stays) on
  next_place (waiting draft) new result on is = subst (IsPlace at) (sym is.stays) on
  next_place (sending draft descriptor) new result on is = subst (IsPlace at) (sym is.stays) on
  next_place (querying draft []) new result on is = subst (IsPlace at) (sym is.state) on
  next_place (querying draft (copy ∷ rest)) new result on is = subst (IsPlace at) (sym is.state) on
  next_place (getting draft copy from) new result on is = subst (IsPlace at) (sym is.stays) on
  next_place broken new result on is = absurd on

  pub delete_place : (copy : ℕ) (old new : State) (code : BsaRc) → IsPlace at old → Deletes copy objects old new code → IsPlace at new
  delete_place copy none new code on is = subst (IsPlace at) (sym is.stays) on
  delete_place copy (idle p) new code on is = subst (IsPlace at) (sym is.stays) on
  delete_place copy (waiting draft) new Success on is = subst (IsPlace at) (sym is.state) on
  delete_place copy (waiting draft) new ObjectNotFound on is = subst (IsPlace at) (sym is.stays) on
  delete_place copy (waiting draft) new OutOfMemory on is = subst (IsPlace at) (sym is) on
  delete_place copy (waiting draft) new code on is = absurd is
  delete_place copy (sending draft descriptor) new code on is = subst (IsPlace at) (sym is.stays) on
  delete_place copy (querying draft rest) new code on is = subst (IsPlace at) (sym is.stays) on
  delete_place copy (getting draft other from) new code on is = subst (IsPlace at) (sym is.stays) on
  delete_place copy broken new code on is = absurd on

  pub terminate_place : (old new : State) (code : BsaRc) → Terminates old new code → IsPlace at new
  terminate_place none new code is = subst (IsPlace at) (sym is.stays) tt
  terminate_place (idle p) new code is = subst (IsPlace at) (sym is.state) tt
  terminate_place (waiting draft) new code is = subst (IsPlace at) (sym is.state) tt
  terminate_place (sending draft descriptor) new code is = subst (IsPlace at) (sym is.state) tt
  terminate_place (querying draft rest) new code is = subst (IsPlace at) (sym is.state) tt
  terminate_place (getting draft copy from) new code is = subst (IsPlace at) (sym is.state) tt
  terminate_place broken new code is = subst (IsPlace at) (sym is.state) tt
