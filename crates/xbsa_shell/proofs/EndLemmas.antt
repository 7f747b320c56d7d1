-- Transactions and sessions that are ended: the store serves the next call.
use Rattle.std.proofs.Common.{◌≡◌, ◌≢◌, ◌⊎◌, ℕ, ◌+◌, ◌<◌, ◌≤◌, Bool, true, false, nat_eq, List, [], ◌∷◌, ◌++◌, length, map, Option, None, Some, Result, Ok, Err, inl, inr, refl, sym, ap, ◌∙◌, subst, arith}
use Rattle.std.proofs.lemmas.Bool.{cases_eq, eq-eqb, ne_eqb}
use Rattle.std.specs.Prelude.{OnOk, OnErr, if◌then◌else◌}
use Rattle.std.specs.declared.vec.Vec.{Vec}
use Rattle.std.specs.declared.alloc.Global.{Global}
use Rattle.site_disk.specs.Ledger.{EraView, MayUse}
use Rattle.site_disk.specs.CallsLaws.{may_use_later}
use Rattle.site_disk.specs.declared.disk.Disk.{Ghosts}
use Rattle.block_chain.specs.declared.runs.Run.{Run}
use Rattle.bsa_descriptor.specs.declared.descriptor.Descriptor.{Descriptor}
use Rattle.catalogue_slots.specs.Records.{Object}
use Rattle.catalogue_replay.specs.Contents.{Contents}
use Rattle.catalogue_journal.specs.Catalogues.{cat_of, capacity_of, contents_in, ids_from, objects_of, spare_of, used_of, IsOpen as IsOpenCatalogue}
use Rattle.catalogue_journal.specs.Transactions.{ended, slots_wanted}
use Rattle.catalogue_journal.specs.declared.catalogue.Catalogue.{Catalogue}
use Rattle.object_volume.specs.Volumes.{disk_of, IsIdle}
use Rattle.object_volume.specs.declared.volume.Volume.{Volume}
use Rattle.object_store.specs.Endings.{places, HoldAll, HoldWith, PassesEras}
use Rattle.object_store.specs.Reading.{ChangesOne}
use Rattle.object_store.specs.Returns.{Placed, place_of_addition, runs_on, AllGiveBack, Cancels}
use Rattle.object_store.specs.Stores.{OfEach, IsOpenAt, IsOpenStore}
use Rattle.object_store.specs.declared.store.Store.{Store}
use Rattle.session_machine.specs.Calls.{EndsTxn, Terminates}
use Rattle.session_machine.specs.Conditions.{is_broken, IsSound, Refers}
use Rattle.session_machine.specs.States.{Draft, State, has_draft, is_sending, is_waiting, none, idle, waiting, sending, querying, getting, broken}
use Rattle.session_machine.specs.declared.answers.BsaRc.{BsaRc}
use Rattle.session_machine.specs.declared.answers.BsaRc.TheVariants.{Success, InvalidCallSequence, InvalidObjectDescriptor, NoMatch, NoMoreData, ObjectNotFound, InvalidVote, NoResources, AccessFailure, Damaged, OutOfMemory}
use Rattle.session_machine.specs.declared.answers.Lack.TheVariants.{Blocks, Slots, Objects}
use Rattle.session_machine.specs.declared.answers.Access.TheVariants.{Cat, Spare, Volume as OfVolume, Ends}
use Rattle.store_opening.specs.Disks.{MayUseStore}
use Rattle.bsa_session.specs.Sessions.{Suits}
use Rattle.bsa_session.specs.Voting.{added_in, deleted_in, ChangesNothing, Drops, DropsSent, IsOn}
use Rattle.xbsa_shell.specs.Serving.{AreThere, IsFit, IsPlace, Serves}
use Rattle.xbsa_shell.specs.Statuses.{status_of_answer, IsUncut}
use Rattle.xbsa_shell.proofs.ServingLemmas.{one_becomes, serves_same, suits_here}
use Rattle.xbsa_shell.proofs.StoreLemmas.{among_others, disks_still, gives_each, idle_of, idle_still, same_store, serves_later, with_others}

-- ---- votes

vote_refused : (vote capacity taken : ℕ) (contents : Contents) (copies_of : Draft → List ℕ) (draft : Draft) (new : State) (code : BsaRc)
    → EndsTxn vote capacity taken contents copies_of (waiting draft) new (Err code) → status_of_answer code ≡ None → ChangesNothing code
vote_refused vote capacity taken contents copies_of draft new InvalidVote row uncut = tt
vote_refused vote capacity taken contents copies_of draft new (NoResources Objects) row uncut = tt
vote_refused vote capacity taken contents copies_of draft new (NoResources Slots) row uncut = tt
vote_refused vote capacity taken contents copies_of draft new (NoResources Blocks) row uncut = tt
vote_refused vote capacity taken contents copies_of draft new (AccessFailure Cat) row uncut = cc uncut
vote_refused vote capacity taken contents copies_of draft new (AccessFailure Spare) row uncut = cc uncut
vote_refused vote capacity taken contents copies_of draft new (AccessFailure (OfVolume volume)) row uncut = cc uncut
vote_refused vote capacity taken contents copies_of draft new OutOfMemory row uncut = cc uncut
vote_refused vote capacity taken contents copies_of draft new code row uncut = absurd row

is_invalid : (code : BsaRc) (result : Result (Vec ℕ Global) BsaRc) → result ≡ Err code → result ≡ Err InvalidCallSequence → ChangesNothing code
is_invalid code result was is = let same : code ≡ InvalidCallSequence = cc (was, is) in subst ChangesNothing (sym same) tt

-- a vote that is refused changes nothing
pub vote_changes_nothing : (vote capacity taken : ℕ) (contents : Contents) (copies_of : Draft → List ℕ) (old new : State) (code : BsaRc)
    → EndsTxn vote capacity taken contents copies_of old new (Err code) → status_of_answer code ≡ None → ChangesNothing code
vote_changes_nothing vote capacity taken contents copies_of none new code row uncut = is_invalid code (Err code) refl row.code
vote_changes_nothing vote capacity taken contents copies_of (idle p) new code row uncut = is_invalid code (Err code) refl row.code
vote_changes_nothing vote capacity taken contents copies_of (waiting draft) new code row uncut = vote_refused vote capacity taken contents copies_of draft new code row uncut
vote_changes_nothing vote capacity taken contents copies_of (sending draft descriptor) new code row uncut = is_invalid code (Err code) refl row.code
vote_changes_nothing vote capacity taken contents copies_of (querying draft rest) new code row uncut = is_invalid code (Err code) refl row.code
vote_changes_nothing vote capacity taken contents copies_of (getting draft copy from) new code row uncut = is_invalid code (Err code) refl row.code
vote_changes_nothing vote capacity taken contents copies_of broken new code row uncut = is_invalid code (Err code) refl row.code

-- a transaction that is ended was waiting for its vote, and the session is idle then
pub record EndsWaiting (vote : ℕ) (old new : State) : Type 0 where
  pub draft : Draft
  pub was : old ≡ waiting draft
  pub state : new ≡ idle draft.place

ends_waiting : (vote capacity taken : ℕ) (contents : Contents) (copies_of : Draft → List ℕ) (draft : Draft) (new : State) (copies : Vec ℕ Global)
    → EndsTxn vote capacity taken contents copies_of (waiting draft) new (Ok copies) → EndsWaiting vote (waiting draft) new
ends_waiting vote capacity taken contents copies_of draft new copies (inl row) = record { draft = draft; was = refl; state = row.state }
ends_waiting vote capacity taken contents copies_of draft new copies (inr row) = record { draft = draft; was = refl; state = row.state }

pub vote_was_waiting : (vote capacity taken : ℕ) (contents : Contents) (copies_of : Draft → List ℕ) (old new : State) (copies : Vec ℕ Global)
    → EndsTxn vote capacity taken contents copies_of old new (Ok copies) → EndsWaiting vote old new
vote_was_waiting vote capacity taken contents copies_of none new copies row = cc row.code
vote_was_waiting vote capacity taken contents copies_of (idle p) new copies row = cc row.code
vote_was_waiting vote capacity taken contents copies_of (waiting draft) new copies row = ends_waiting vote capacity taken contents copies_of draft new copies row
vote_was_waiting vote capacity taken contents copies_of (sending draft descriptor) new copies row = cc row.code
vote_was_waiting vote capacity taken contents copies_of (querying draft rest) new copies row = cc row.code
vote_was_waiting vote capacity taken contents copies_of (getting draft copy from) new copies row = cc row.code
vote_was_waiting vote capacity taken contents copies_of broken new copies row = cc row.code

-- what the catalogue has behind a vote
module _ {D : Type 0} (vote : ℕ) (state : State) (old new : Catalogue D) where
  pub contents_behind : (vote ≡ 1 → contents_in new ≡ ended (deleted_in state) (added_in state) (contents_in old)) → (vote ≢ 1 → new ≡ old)
      → contents_in new ≡ (if nat_eq vote 1 then ended (deleted_in state) (added_in state) (contents_in old) else contents_in old)
  contents_behind committed aborted = elim (cases_eq vote 1) [
    | inl is ↦ rw (eq-eqb vote 1 is) (committed is)
    | inr not ↦ rw (ne_eqb vote 1 not) (ap contents_in (aborted not))
  ]

  pub used_behind : (vote ≡ 1 → used_of new ≡ used_of old + slots_wanted (deleted_in state) (added_in state)) → (vote ≢ 1 → new ≡ old)
      → used_of new ≡ (if nat_eq vote 1 then used_of old + slots_wanted (deleted_in state) (added_in state) else used_of old)
  used_behind committed aborted = elim (cases_eq vote 1) [
    | inl is ↦ rw (eq-eqb vote 1 is) (committed is)
    | inr not ↦ rw (ne_eqb vote 1 not) (ap used_of (aborted not))
  ]

-- the volume of a transaction is that of its session
same_place : (at place : ℕ) (state : State) → IsPlace at state → IsOn place state → place ≡ at
same_place at place none on is = absurd is
same_place at place (idle p) on is = absurd is
same_place at place (waiting draft) on is = is ∙ on
same_place at place (sending draft descriptor) on is = is ∙ on
same_place at place (querying draft rest) on is = is ∙ on
same_place at place (getting draft copy from) on is = is ∙ on
same_place at place broken on is = absurd is

-- a session on a volume isn't broken
pub not_broken : (at : ℕ) (state : State) → IsPlace at state → is_broken state ≡ false
not_broken at none on = refl
not_broken at (idle p) on = refl
not_broken at (waiting draft) on = refl
not_broken at (sending draft descriptor) on = refl
not_broken at (querying draft rest) on = refl
not_broken at (getting draft copy from) on = refl
not_broken at broken on = absurd on

-- ---- the store then

module _ {D : Type 0} (disk : Ghosts D) where
  -- a session without a transaction, over a store of which nothing is being sent
  settled : (era : EraView) (state : State) (store : Store D) → IsSound state → Refers state (objects_of store.cat) → AreThere (objects_of store.cat) state
      → ((place : ℕ) (volume : Volume D) → IsIdle volume → IsFit disk.is_modelled disk.bytes state place volume) → added_in state ≡ []
      → IsOpenStore store → OfEach (λ place volume. IsIdle volume) store.volumes.items → HoldAll (places (objects_of store.cat) []) store.volumes.items
      → MayUseStore disk.ledger era store → Serves disk era state store
  settled era state store sound refers there fit added opened rests holds may = record {
    sound = sound;
    refers = refers;
    there = there;
    opened = opened;
    fit = λ place volume is. fit place volume (rests place volume is);
    holds = rw added holds;
    may = may;
  }

  module _ (placed : List Placed) (was is : Store D) (gives : AllGiveBack disk.is_modelled disk.bytes placed was.volumes.items is.volumes.items) where
    pub vote_serves : (from to : EraView) (old new : State) (draft : Draft) → old ≡ waiting draft → new ≡ idle draft.place → Serves disk from old was → PassesEras from to
        → IsSound new → IsOpenStore is
        → ((others : ℕ → List (List Run)) → HoldWith (places (objects_of was.cat) (added_in old)) others was.volumes.items → HoldWith (places (objects_of is.cat) []) others is.volumes.items)
        → MayUse to (disk.ledger (cat_of is.cat)) → spare_of is.cat ≡ spare_of was.cat → Serves disk to new is
    vote_serves from to old new draft old_is new_is serves passes sound opened holds may spare =
        let before = subst (λ (s : State). Serves disk from s was) old_is serves in
        let all = with_others (places (objects_of was.cat) (added_in old)) was.volumes.items serves.holds in
        subst (λ (s : State). Serves disk to s is) (sym new_is)
        (settled to (idle draft.place) is (subst IsSound new_is sound) tt tt (λ place volume rests. rests) refl opened
        (idle_still disk.is_modelled disk.bytes placed was.volumes.items is.volumes.items gives before.fit)
        (among_others (places (objects_of is.cat) []) all.0 is.volumes.items (holds all.0 all.1))
        (record {
          cat = may;
          spare = may_use_later passes.no_earlier passes.key (subst (λ (d : D). MayUse from (disk.ledger d)) (sym spare) serves.may.spare);
          volumes = disks_still disk.is_modelled disk.bytes placed was.volumes.items is.volumes.items gives (λ (d : D). MayUse to (disk.ledger d))
              (λ place volume there. may_use_later passes.no_earlier passes.key (serves.may.volumes place volume there));
        }))

  -- ---- sessions

  module _ (era : EraView) (was is : Store D) (same : is.cat ≡ was.cat) where
    abbrev MayVolume : ℕ → Volume D → Type 0
    MayVolume place volume = MayUse era (disk.ledger (disk_of volume))

    -- the volumes of an ended session, and how they are used
    ended_session : (old : State) → Serves disk era old was → IsOpenStore is → OfEach (λ place volume. IsIdle volume) is.volumes.items → OfEach MayVolume is.volumes.items
        → ((others : ℕ → List (List Run)) → HoldWith (places (objects_of was.cat) (added_in old)) others was.volumes.items → HoldWith (places (objects_of is.cat) []) others is.volumes.items)
        → Serves disk era none is
    ended_session old serves opened rests may holds =
        let all = with_others (places (objects_of was.cat) (added_in old)) was.volumes.items serves.holds in
        settled era none is tt tt tt (λ place volume rests. rests) refl opened rests (among_others (places (objects_of is.cat) []) all.0 is.volumes.items (holds all.0 all.1))
        (record {
          cat = subst (λ (cat : Catalogue D). MayUse era (disk.ledger (cat_of cat))) (sym same) serves.may.cat;
          spare = subst (λ (cat : Catalogue D). MayUse era (disk.ledger (spare_of cat))) (sym same) serves.may.spare;
          volumes = may;
        })

    abbrev HoldsThen : State → Type 0
    HoldsThen old = (others : ℕ → List (List Run)) → HoldWith (places (objects_of was.cat) (added_in old)) others was.volumes.items
        → HoldWith (places (objects_of is.cat) []) others is.volumes.items

    -- a session whose transaction sends nothing
    drops_added : (old : State) (draft : Draft) → is_sending old ≡ false → Serves disk era old was → IsOpenStore is → HoldsThen old
        → AllGiveBack disk.is_modelled disk.bytes (map place_of_addition draft.added) was.volumes.items is.volumes.items → Serves disk era none is
    drops_added old draft not serves opened holds gives = ended_session old serves opened
        (idle_still disk.is_modelled disk.bytes _ was.volumes.items is.volumes.items gives
        (λ place volume there. idle_of disk.is_modelled disk.bytes old place volume not (serves.fit place volume there)))
        (disks_still disk.is_modelled disk.bytes _ was.volumes.items is.volumes.items gives (λ (d : D). MayUse era (disk.ledger d)) serves.may.volumes)
        holds

    -- a session whose transaction sends an object
    drops_sent : (draft : Draft) (descriptor : Descriptor) → Serves disk era (sending draft descriptor) was → IsOpenStore is → HoldsThen (sending draft descriptor)
        → DropsSent disk.is_modelled disk.bytes draft was.volumes.items is.volumes.items → Serves disk era none is
    drops_sent draft descriptor serves opened holds drops =
        let at = draft.place.volume in
        let RestsElsewhere : ℕ → Volume D → Type 0 = λ place volume. place ≢ at → IsIdle volume in
        let before : OfEach RestsElsewhere drops.between =
        gives_each disk.is_modelled disk.bytes _ was.volumes.items drops.between drops.returned RestsElsewhere (λ place a b gave rests other. gave.idle (rests other))
        (λ place volume there. (serves.fit place volume there).1) in
        let between : OfEach MayVolume drops.between =
        disks_still disk.is_modelled disk.bytes _ was.volumes.items drops.between drops.returned (λ (d : D). MayUse era (disk.ledger d)) serves.may.volumes in
        ended_session (sending draft descriptor) serves opened
        (one_becomes RestsElsewhere (λ place volume. IsIdle volume) Cancels at drops.between is.volumes.items drops.cancelled (λ a b gone rests. gone.idle)
        (λ place volume other rests. rests other) before)
        (one_becomes MayVolume MayVolume Cancels at drops.between is.volumes.items drops.cancelled
        (λ a b gone may. subst (λ (d : D). MayUse era (disk.ledger d)) (sym gone.disk) may) (λ place volume other may. may) between)
        holds

    pub terminate_serves : (at : ℕ) (old new : State) (code : BsaRc) → Terminates old new code → IsPlace at old → Serves disk era old was → (has_draft old ≡ false → is ≡ was)
        → IsOpenStore is → (has_draft old ≡ true → HoldsThen old) → Drops disk.is_modelled disk.bytes old was.volumes.items is.volumes.items → Serves disk era new is
    terminate_serves at none new code row on serves untouched opened holds drops =
        subst (λ (s : State). Serves disk era s is) (sym row.stays) (same_store disk era none was is (untouched refl) serves)
    terminate_serves at (idle p) new code row on serves untouched opened holds drops =
        subst (λ (s : State). Serves disk era s is) (sym row.state)
        (serves_same disk era (idle p) none is (same_store disk era (idle p) was is (untouched refl) serves) tt tt tt refl (λ place volume fit. fit))
    terminate_serves at (waiting draft) new code row on serves untouched opened holds drops =
        subst (λ (s : State). Serves disk era s is) (sym row.state) (drops_added (waiting draft) draft refl serves opened (holds refl) drops)
    terminate_serves at (sending draft descriptor) new code row on serves untouched opened holds drops =
        subst (λ (s : State). Serves disk era s is) (sym row.state) (drops_sent draft descriptor serves opened (holds refl) drops)
    terminate_serves at (querying draft rest) new code row on serves untouched opened holds drops =
        subst (λ (s : State). Serves disk era s is) (sym row.state) (drops_added (querying draft rest) draft refl serves opened (holds refl) drops)
    terminate_serves at (getting draft copy from) new code row on serves untouched opened holds drops =
        subst (λ (s : State). Serves disk era s is) (sym row.state) (drops_added (getting draft copy from) draft refl serves opened (holds refl) drops)
    terminate_serves at broken new code row on serves untouched opened holds drops = absurd on

-- the volume of a session that is ended
module _ {D : Type 0} (disk : Ghosts D) (era : EraView) (store : Store D) where
  pub suits_ended : (at : ℕ) (state : State) → IsPlace at state → Serves disk era state store
      → OfEach (λ place volume. IsOn place state → Suits disk.is_modelled disk.bytes state volume) store.volumes.items
  suits_ended at state on serves place volume there is = suits_here disk era state at store serves on place volume there (same_place at place state on is)
