-- What each call makes of the state, and that the store serves the next one.
use Rattle.std.specs.Prelude.{IfOk, IfSome}
use Rattle.std.proofs.Common.{◌≡◌, ◌≢◌, ℕ, ◌<◌, ◌≤◌, Bool, true, false, List, [], ◌∷◌, ◌++◌, Option, None, Some, Result, Ok, Err, refl, sym, ap, ◌∙◌, subst}
use Rattle.site_disk.specs.Ledger.{EraView, Ledger, MayUse, Uses}
use Rattle.site_disk.specs.declared.disk.Disk.{Ghosts}
use Rattle.block_chain.specs.declared.runs.Run.{Run}
use Rattle.catalogue_slots.specs.Records.{Object}
use Rattle.catalogue_journal.specs.Catalogues.{objects_of}
use Rattle.object_volume.specs.Volumes.{disk_of, IsOpen, IsIdle, IsSending}
use Rattle.object_volume.specs.declared.volume.Volume.{Volume}
use Rattle.object_store.specs.Endings.{places}
use Rattle.object_store.specs.Holdings.{Holds}
use Rattle.object_store.specs.Returns.{runs_on, HoldsAmong}
use Rattle.object_store.specs.Stores.{IsOpenAt}
use Rattle.object_store.specs.declared.store.Store.{Store}
use Rattle.session_machine.specs.Answers.{Goes, Refuses, RefusesResult}
use Rattle.session_machine.specs.Calls.{Inits, Begins, Creates, SendsPiece, EndsData, Queries, GetsNext, Deletes}
use Rattle.session_machine.specs.Conditions.{IsSound, Refers}
use Rattle.session_machine.specs.States.{Draft, State, new_draft, is_sending, none, idle, waiting, sending, querying, getting, broken}
use Rattle.session_machine.specs.declared.answers.BsaRc.{BsaRc}
use Rattle.session_machine.specs.declared.answers.BsaRc.TheVariants.{Success, InvalidCallSequence, InvalidObjectDescriptor, NoMatch, NoMoreData, ObjectNotFound, InvalidVote, NoResources, AccessFailure, Damaged, OutOfMemory}
use Rattle.session_machine.specs.declared.answers.Lack.TheVariants.{Blocks, Slots, Objects}
use Rattle.session_machine.specs.declared.answers.Access.TheVariants.{Cat, Spare, Volume as OfVolume, Ends}
use Rattle.bsa_session.specs.Ended.{last_runs, runs_of_last}
use Rattle.bsa_session.specs.Sessions.{Suits}
use Rattle.bsa_session.proofs.SendingLemmas.{runs_of_last-push}
use Rattle.bsa_session.specs.Voting.{added_in}
use Rattle.xbsa_shell.specs.Serving.{AreThere, IsFit, IsPlace, Serves, Works}
use Rattle.xbsa_shell.specs.Statuses.{status_of_answer, IsUncut}
use Rattle.xbsa_shell.proofs.SendLemmas.{among_ended, last_here}
use Rattle.xbsa_shell.proofs.ServingLemmas.{serves_same}

-- a disk that was used in an era may be used in it again
pub used_again : (era : EraView) (reads writes : ℕ) (old new : Ledger) → Uses era reads writes old new → MayUse era old → MayUse era new
used_again era reads writes old new uses may = record { key = uses.key ∙ may.key; not_past = uses.no_later; synced = uses.synced }

-- ---- calls that leave the store alone

module _ {D : Type 0} (disk : Ghosts D) (era : EraView) (store : Store D) where
  -- the state that a call leads to is served
  serves_at : (new to : State) → new ≡ to → Serves disk era to store → Serves disk era new store
  serves_at new to is serves = subst (λ (s : State). Serves disk era s store) (sym is) serves

  pub init_serves : (volume moment : ℕ) (old new : State) (code : BsaRc) → Inits volume moment old new code → IsSound new → Serves disk era old store → Serves disk era new store
  init_serves volume moment none new code is sound serves =
      serves_at new _ is.state (serves_same disk era none _ store serves (subst IsSound is.state sound) tt tt refl (λ place v fit. fit))
  init_serves volume moment (idle p) new code is sound serves = serves_at new _ is.stays serves
  init_serves volume moment (waiting draft) new code is sound serves = serves_at new _ is.stays serves
  init_serves volume moment (sending draft descriptor) new code is sound serves = serves_at new _ is.stays serves
  init_serves volume moment (querying draft rest) new code is sound serves = serves_at new _ is.stays serves
  init_serves volume moment (getting draft copy from) new code is sound serves = serves_at new _ is.stays serves
  init_serves volume moment broken new code is sound serves = serves_at new _ is.stays serves

  pub begin_serves : (old new : State) (code : BsaRc) → Begins old new code → IsSound new → Serves disk era old store → Serves disk era new store
  begin_serves none new code is sound serves = serves_at new _ is.stays serves
  begin_serves (idle p) new code is sound serves =
      serves_at new _ is.state (serves_same disk era (idle p) _ store serves (subst IsSound is.state sound) tt tt refl (λ place v fit. fit))
  begin_serves (waiting draft) new code is sound serves = serves_at new _ is.stays serves
  begin_serves (sending draft descriptor) new code is sound serves = serves_at new _ is.stays serves
  begin_serves (querying draft rest) new code is sound serves = serves_at new _ is.stays serves
  begin_serves (getting draft copy from) new code is sound serves = serves_at new _ is.stays serves
  begin_serves broken new code is sound serves = serves_at new _ is.stays serves

  pub next_serves : (old new : State) (result : Result ℕ BsaRc) → GetsNext old new result → IsSound new → AreThere (objects_of store.cat) new
      → Serves disk era old store → Serves disk era new store
  next_serves none new result is sound there serves = serves_at new _ is.stays serves
  next_serves (idle p) new result is sound there serves = serves_at new _ is.stays serves
  next_serves (waiting draft) new result is sound there serves = serves_at new _ is.stays serves
  next_serves (sending draft descriptor) new result is sound there serves = serves_at new _ is.stays serves
  next_serves (querying draft []) new result is sound there serves =
      serves_at new _ is.state (serves_same disk era (querying draft []) (waiting draft) store serves (subst IsSound is.state sound) serves.refers tt refl (λ place v fit. fit))
  next_serves (querying draft (copy ∷ rest)) new result is sound there serves =
      serves_at new _ is.state (serves_same disk era (querying draft (copy ∷ rest)) (querying draft rest) store serves (subst IsSound is.state sound) serves.refers
      (subst (AreThere (objects_of store.cat)) is.state there) refl (λ place v fit. fit))
  next_serves (getting draft copy from) new result is sound there serves = serves_at new _ is.stays serves
  next_serves broken new result is sound there serves = serves_at new _ is.stays serves

  pub query_serves : (bytes : List ℕ) (old new : State) (result : Result ℕ BsaRc) → Queries (objects_of store.cat) bytes old new result → IsSound new
      → Refers new (objects_of store.cat) → AreThere (objects_of store.cat) new → Serves disk era old store → Serves disk era new store
  query_serves bytes none new result is sound refers there serves = serves_at new _ is.stays serves
  query_serves bytes (idle p) new result is sound refers there serves = serves_at new _ is.stays serves
  query_serves bytes (waiting draft) new (Ok copy) is sound refers there serves =
      serves_at new _ is.state (serves_same disk era (waiting draft) (querying draft is.rest) store serves (subst IsSound is.state sound) serves.refers
      (subst (AreThere (objects_of store.cat)) is.state there) refl (λ place v fit. fit))
  query_serves bytes (waiting draft) new (Err InvalidObjectDescriptor) is sound refers there serves = serves_at new _ is.stays serves
  query_serves bytes (waiting draft) new (Err NoMatch) is sound refers there serves = serves_at new _ is.stays serves
  query_serves bytes (waiting draft) new (Err OutOfMemory) is sound refers there serves = serves_at new _ is serves
  query_serves bytes (waiting draft) new (Err code) is sound refers there serves = absurd is
  query_serves bytes (sending draft descriptor) new result is sound refers there serves = serves_at new _ is.stays serves
  query_serves bytes (querying draft rest) new result is sound refers there serves = serves_at new _ is.stays serves
  query_serves bytes (getting draft copy from) new result is sound refers there serves = serves_at new _ is.stays serves
  query_serves bytes broken new result is sound refers there serves = serves_at new _ is.stays serves

  pub delete_serves : (copy : ℕ) (old new : State) (code : BsaRc) → Deletes copy (objects_of store.cat) old new code → IsSound new → Refers new (objects_of store.cat)
      → Serves disk era old store → Serves disk era new store
  delete_serves copy none new code is sound refers serves = serves_at new _ is.stays serves
  delete_serves copy (idle p) new code is sound refers serves = serves_at new _ is.stays serves
  delete_serves copy (waiting draft) new Success is sound refers serves =
      serves_at new _ is.state (serves_same disk era (waiting draft) (waiting (record draft { deleted = draft.deleted ++ copy ∷ [] })) store serves (subst IsSound is.state sound)
      (subst (λ (s : State). Refers s (objects_of store.cat)) is.state refers) tt refl (λ place v fit. fit))
  delete_serves copy (waiting draft) new ObjectNotFound is sound refers serves = serves_at new _ is.stays serves
  delete_serves copy (waiting draft) new OutOfMemory is sound refers serves = serves_at new _ is serves
  delete_serves copy (waiting draft) new code is sound refers serves = absurd is
  delete_serves copy (sending draft descriptor) new code is sound refers serves = serves_at new _ is.stays serves
  delete_serves copy (querying draft rest) new code is sound refers serves = serves_at new _ is.stays serves
  delete_serves copy (getting draft other from) new code is sound refers serves = serves_at new _ is.stays serves
  delete_serves copy broken new code is sound refers serves = serves_at new _ is.stays serves

-- ---- calls that work on the volume of the session

-- different live objects of a volume stay so, where all of its live objects do
among : {D : Type 0} (was is : Volume D) (runs : List (List Run)) → ((objects : List (List Run)) → Holds was objects → Holds is objects) → HoldsAmong was runs → HoldsAmong is runs
among was is runs kept before = record { others = before.others; holds = kept (runs ++ before.others) before.holds }

module _ {D : Type 0} (disk : Ghosts D) (era : EraView) (at : ℕ) (objects : List Object) (was is : Volume D) where
  -- nothing happens
  works_none : (old new : State) → new ≡ old → is ≡ was → Works disk era old new at objects was is
  works_none old new stays same = rw (stays, same) (record { opened = λ o. o; fit = λ f. f; holds = λ h. h; may = λ m. m })

  pub create_works : (bytes : List ℕ) (old new : State) (code : BsaRc) → IsPlace at old → Creates bytes old new code → Suits disk.is_modelled disk.bytes new is
      → (code ≢ Success → is ≡ was) → disk_of is ≡ disk_of was → ((runs : List (List Run)) → Holds was runs → Holds is runs) → Works disk era old new at objects was is
  create_works bytes none new code on table suits same disks holds = works_none none new table.stays (same (λ (e : code ≡ Success). cc table.code))
  create_works bytes (idle p) new code on table suits same disks holds = works_none (idle p) new table.stays (same (λ (e : code ≡ Success). cc table.code))
  create_works bytes (waiting draft) new Success on table suits same disks holds =
      let to = table.state in
      let receives = subst (λ (s : State). Suits disk.is_modelled disk.bytes s is) to suits in
      subst (λ (s : State). Works disk era (waiting draft) s at objects was is) (sym to) (record {
        opened = λ o. record { number = receives.number ∙ on; opened = receives.opened };
        fit = λ f. ((λ e. receives.begun), λ other. absurd (other (sym on)));
        holds = λ h. among was is _ holds h;
        may = λ m. subst (λ (d : D). MayUse era (disk.ledger d)) (sym disks) m;
      })
  create_works bytes (waiting draft) new InvalidObjectDescriptor on table suits same disks holds = works_none (waiting draft) new table.stays (same (λ (e : InvalidObjectDescriptor ≡ Success). cc))
  create_works bytes (waiting draft) new code on table suits same disks holds = absurd table
  create_works bytes (sending draft descriptor) new code on table suits same disks holds = works_none (sending draft descriptor) new table.stays (same (λ (e : code ≡ Success). cc table.code))
  create_works bytes (querying draft rest) new code on table suits same disks holds = works_none (querying draft rest) new table.stays (same (λ (e : code ≡ Success). cc table.code))
  create_works bytes (getting draft copy from) new code on table suits same disks holds = works_none (getting draft copy from) new table.stays (same (λ (e : code ≡ Success). cc table.code))
  create_works bytes broken new code on table suits same disks holds = absurd on

  pub send_works : (reads writes : ℕ) (old new : State) (code : BsaRc) → IsPlace at old → SendsPiece old new code → status_of_answer code ≡ None
      → Suits disk.is_modelled disk.bytes new is → (code ≡ InvalidCallSequence → is ≡ was) → (code ≡ NoResources Blocks → is ≡ was)
      → (code ≡ Success → (runs : List (List Run)) → Holds was runs → Holds is runs) → Uses era reads writes (disk.ledger (disk_of was)) (disk.ledger (disk_of is))
      → Works disk era old new at objects was is
  send_works reads writes none new code on table uncut suits same full holds uses = works_none none new table.stays (same table.code)
  send_works reads writes (idle p) new code on table uncut suits same full holds uses = works_none (idle p) new table.stays (same table.code)
  send_works reads writes (waiting draft) new code on table uncut suits same full holds uses = works_none (waiting draft) new table.stays (same table.code)
  send_works reads writes (sending draft descriptor) new Success on table uncut suits same full holds uses =
      let receives = subst (λ (s : State). Suits disk.is_modelled disk.bytes s is) table suits in
      subst (λ (s : State). Works disk era (sending draft descriptor) s at objects was is) (sym table) (record {
        opened = λ o. record { number = receives.number ∙ on; opened = receives.opened };
        fit = λ f. ((λ e. receives.begun), λ other. absurd (other (sym on)));
        holds = λ h. among was is _ (holds refl) h;
        may = λ m. used_again era reads writes (disk.ledger (disk_of was)) (disk.ledger (disk_of is)) uses m;
      })
  send_works reads writes (sending draft descriptor) new (NoResources Blocks) on table uncut suits same full holds uses =
      works_none (sending draft descriptor) new table (full refl)
  send_works reads writes (sending draft descriptor) new (AccessFailure (OfVolume volume)) on table uncut suits same full holds uses = cc uncut
  send_works reads writes (sending draft descriptor) new code on table uncut suits same full holds uses = absurd table
  send_works reads writes (querying draft rest) new code on table uncut suits same full holds uses = works_none (querying draft rest) new table.stays (same table.code)
  send_works reads writes (getting draft copy from) new code on table uncut suits same full holds uses =
      works_none (getting draft copy from) new table.stays (same table.code)
  send_works reads writes broken new code on table uncut suits same full holds uses = absurd on

  -- a query or a fetch is ended, and the volume is as it was
  works_ended : (old : State) (draft : Draft) (new : State) → new ≡ waiting draft → is ≡ was → added_in old ≡ draft.added
      → (IsFit disk.is_modelled disk.bytes old at was → IsIdle was) → Works disk era old new at objects was is
  works_ended old draft new to same added rests =
      subst (λ (s : State). Works disk era old s at objects was is) (sym to) (subst (λ (v : Volume D). Works disk era old (waiting draft) at objects was v) (sym same) (record {
        opened = λ o. o;
        fit = rests;
        holds = λ h. rw (sym added) h;
        may = λ m. m;
      }))

  pub end_works : (reads writes : ℕ) (old new : State) (result : Result (Option (ℕ × List ℕ)) BsaRc) → IsPlace at old → EndsData old new result
      → IsUncut result → Suits disk.is_modelled disk.bytes new is
      → (is_sending old ≡ false → is ≡ was)
      → IfOk result (λ ended. IfSome ended (λ sent. (runs : List (List Run)) → Holds was runs → Holds is (last_runs new ∷ runs)))
      → Uses era reads writes (disk.ledger (disk_of was)) (disk.ledger (disk_of is)) → Works disk era old new at objects was is
  end_works reads writes none new result on table uncut suits others holds uses = works_none none new table.stays (others refl)
  end_works reads writes (idle p) new result on table uncut suits others holds uses = works_none (idle p) new table.stays (others refl)
  end_works reads writes (waiting draft) new result on table uncut suits others holds uses = works_none (waiting draft) new table.stays (others refl)
  end_works reads writes (sending draft descriptor) new (Ok (Some sent)) on table uncut suits others holds uses =
      let rests = subst (λ (s : State). Suits disk.is_modelled disk.bytes s is) table.state suits in
      let runs : last_runs new ≡ table.runs = ap last_runs table.state ∙ runs_of_last-push draft.added _ in
      let kept : (objects : List (List Run)) → Holds was objects → Holds is (table.runs ∷ objects) =
      λ some before. subst (λ (r : List Run). Holds is (r ∷ some)) runs (holds some before) in
      subst (λ (s : State). Works disk era (sending draft descriptor) s at objects was is) (sym table.state) (record {
        opened = λ o. record { number = rests.number ∙ on; opened = rests.opened };
        fit = λ f. rests.idle;
        holds = λ h. subst (λ (l : List (List Run)). HoldsAmong is l) (sym (last_here at objects draft.added _ (sym on)))
            (among_ended was is table.runs (runs_on at (places objects draft.added)) kept h);
        may = λ m. used_again era reads writes (disk.ledger (disk_of was)) (disk.ledger (disk_of is)) uses m;
      })
  end_works reads writes (sending draft descriptor) new (Ok None) on table uncut suits others holds uses = absurd table
  end_works reads writes (sending draft descriptor) new (Err (AccessFailure (OfVolume volume))) on table uncut suits others holds uses = cc uncut
  end_works reads writes (sending draft descriptor) new (Err OutOfMemory) on table uncut suits others holds uses = cc uncut
  end_works reads writes (sending draft descriptor) new (Err code) on table uncut suits others holds uses = absurd table
  end_works reads writes (querying draft rest) new result on table uncut suits others holds uses =
      works_ended (querying draft rest) draft new table.state (others refl) refl (λ f. f)
  end_works reads writes (getting draft copy from) new result on table uncut suits others holds uses =
      works_ended (getting draft copy from) draft new table.state (others refl) refl (λ f. f)
  end_works reads writes broken new result on table uncut suits others holds uses = absurd on
