-- A shell whose store serves the next call.
use Rattle.std.specs.Prelude.{IfErr, OnErr}
use Rattle.std.specs.declared.vec.Vec.{Vec}
use Rattle.std.specs.declared.alloc.Global.{Global}
use Rattle.std.proofs.Common.{◌≡◌, ◌≢◌, ◌⊎◌, ℕ, ◌<◌, ◌≤◌, Bool, true, false, List, [], map, Result, Ok, Err, None, Some, inl, inr, refl, sym, ap, ◌∙◌, subst}
use Rattle.site_disk.specs.Ledger.{EraView, MayUse}
use Rattle.site_disk.specs.declared.disk.Disk.{Ghosts}
use Rattle.block_chain.specs.declared.runs.Run.{Run}
use Rattle.catalogue_slots.specs.Records.{Object}
use Rattle.catalogue_replay.specs.Contents.{Contents}
use Rattle.catalogue_journal.specs.Catalogues.{cat_of, capacity_of, contents_in, objects_of, spare_of, used_of}
use Rattle.catalogue_journal.specs.declared.catalogue.Catalogue.{Catalogue}
use Rattle.object_store.specs.Endings.{places, HoldWith, PassesEras}
use Rattle.object_store.specs.Reading.{ChangesOne}
use Rattle.object_store.specs.Returns.{Placed, AllGiveBack}
use Rattle.object_store.specs.Stores.{IsOpenStore}
use Rattle.object_store.specs.declared.store.Store.{Store}
use Rattle.session_machine.specs.Answers.{IsNoFailure}
use Rattle.session_machine.specs.Calls.{Begins, Deletes, EndsTxn, GetsData, GetsNext, GetsObject, Inits, Queries, Terminates}
use Rattle.session_machine.specs.Conditions.{is_broken, IsSound, Refers}
use Rattle.session_machine.specs.States.{Draft, State, has_draft, is_getting, is_usable}
use Rattle.session_machine.specs.declared.answers.BsaRc.{BsaRc}
use Rattle.session_machine.specs.declared.answers.BsaRc.TheVariants.{InvalidCallSequence, NoMoreData}
use Rattle.bsa_session.specs.Reading.{CanReadOn}
use Rattle.bsa_session.specs.Sessions.{state_of}
use Rattle.bsa_session.specs.Voting.{added_in, ChangesNothing, Drops}
use Rattle.bsa_session.specs.declared.session.Session.{Session}
use Rattle.xbsa_shell.specs.Serving.{AreThere, IsPlace, KeepsFields, Serves, ServesShell, Works}
use Rattle.xbsa_shell.specs.Statuses.{status_of_answer, IsUncut}
use Rattle.xbsa_shell.specs.declared.calls.Shell.{Shell}
use Rattle.xbsa_shell.proofs.EndLemmas.{terminate_serves, vote_changes_nothing, vote_serves, vote_was_waiting}
use Rattle.xbsa_shell.proofs.FetchLemmas.{data_serves, get_serves, ReadsOn, ReadsOne}
use Rattle.xbsa_shell.proofs.LeadLemmas.{begin_leaves, begin_place, delete_leaves, delete_place, next_leaves, next_place, query_leaves, query_place, reads_any, reads_then, terminate_leaves, terminate_place, vote_leaves, Leads}
use Rattle.xbsa_shell.proofs.MatchLemmas.{next_there, queries_there}
use Rattle.xbsa_shell.proofs.ServingLemmas.{serves_changed}
use Rattle.xbsa_shell.proofs.StepLemmas.{begin_serves, delete_serves, next_serves, query_serves}
use Rattle.xbsa_shell.proofs.StoreLemmas.{no_failure, opens_usable, serves_later}

module _ {D : Type 0} (disk : Ghosts D) (era : EraView) (shell now : Shell) (old new : Store D) (before : ServesShell disk era shell old) (kept : KeepsFields shell now) where
  -- a call that leaves the volume of the session
  pub other_shell : (to : EraView) → Serves disk to (state_of now.session) new → IsPlace shell.volume (state_of now.session) → CanReadOn now.session (objects_of new.cat)
      → ServesShell disk to now new
  other_shell to serves on reads = record {
    serves = serves;
    place = subst (λ (v : ℕ). IsPlace v (state_of now.session)) (sym kept.volume) on;
    within = subst (λ (v : ℕ). v ≤ 16) (sym kept.volume) before.within;
    reads_on = reads;
  }

  -- a call that works on it
  pub changed_shell : new.cat ≡ old.cat
      → ChangesOne (Works disk era (state_of shell.session) (state_of now.session) shell.volume (objects_of old.cat)) shell.volume old.volumes.items new.volumes.items
      → IsSound (state_of now.session) → Leads shell.volume (objects_of old.cat) (state_of shell.session) (state_of now.session)
      → (CanReadOn shell.session (objects_of old.cat) → CanReadOn now.session (objects_of old.cat)) → ServesShell disk era now new
  changed_shell same one sound leads reads =
      other_shell era
      (serves_changed disk era (state_of shell.session) (state_of now.session) shell.volume old new before.serves same one before.place leads.place sound leads.refers leads.there
      leads.added)
      leads.place
      (subst (λ (cat : Catalogue D). CanReadOn now.session (objects_of cat)) (sym same) (reads before.reads_on))

module _ {D : Type 0} (disk : Ghosts D) (shell : Shell) (session : Session) where
  -- the shell with its session in another state
  abbrev now : Shell
  now = record shell { session = session }

  abbrev kept : KeepsFields shell now
  kept = record { fields = refl; volume = refl }

  same_session : (era : EraView) (store : Store D) → ServesShell disk era shell store → session ≡ shell.session → ServesShell disk era now store
  same_session era store before same = subst (λ (s : Session). ServesShell disk era (record shell { session = s }) store) (sym same) before

  -- ---- calls that leave the store alone

  module _ (era : EraView) (store : Store D) (before : ServesShell disk era shell store) where
    alone : Serves disk era (state_of session) store → IsPlace shell.volume (state_of session) → CanReadOn session (objects_of store.cat) → ServesShell disk era now store
    alone serves on reads = other_shell disk era shell now store store before kept era serves on reads

    pub query_shell : (bytes : List ℕ) (result : Result ℕ BsaRc) → Queries (objects_of store.cat) bytes (state_of shell.session) (state_of session) result
        → IsSound (state_of session) → (Refers (state_of shell.session) (objects_of store.cat) → Refers (state_of session) (objects_of store.cat))
        → OnErr result (session ≡ shell.session) → ServesShell disk era now store
    query_shell bytes (Ok copy) table sound refers refused =
        let objects = objects_of store.cat in
        let there = (queries_there objects bytes (state_of shell.session) (state_of session) copy table).1 in
        alone
        (query_serves disk era store bytes (state_of shell.session) (state_of session) (Ok copy) table sound (refers before.serves.refers) there before.serves)
        (query_place shell.volume objects bytes (state_of shell.session) (state_of session) (Ok copy) before.place table)
        (reads_then shell.session session objects (query_leaves objects bytes (state_of shell.session) (state_of session) (Ok copy) table)
        (λ same. cc same) before.reads_on)
    query_shell bytes (Err code) table sound refers refused = same_session era store before refused

    pub next_shell : (result : Result ℕ BsaRc) → GetsNext (state_of shell.session) (state_of session) result → IsSound (state_of session)
        → (result ≡ Err InvalidCallSequence → session ≡ shell.session) → ServesShell disk era now store
    next_shell result table sound refused =
        let objects = objects_of store.cat in
        let there = (next_there objects (state_of shell.session) (state_of session) result table before.serves.there).1 in
        alone
        (next_serves disk era store (state_of shell.session) (state_of session) result table sound there before.serves)
        (next_place shell.volume objects (state_of shell.session) (state_of session) result before.place table)
        (reads_then shell.session session objects (next_leaves (state_of shell.session) (state_of session) result table) refused before.reads_on)

    pub delete_shell : (copy : ℕ) (code : BsaRc) → Deletes copy (objects_of store.cat) (state_of shell.session) (state_of session) code → IsSound (state_of session)
        → Refers (state_of session) (objects_of store.cat) → (code ≡ InvalidCallSequence → session ≡ shell.session) → ServesShell disk era now store
    delete_shell copy code table sound refers refused =
        let objects = objects_of store.cat in
        alone
        (delete_serves disk era store copy (state_of shell.session) (state_of session) code table sound refers before.serves)
        (delete_place shell.volume objects copy (state_of shell.session) (state_of session) code before.place table)
        (reads_then shell.session session objects (delete_leaves copy objects (state_of shell.session) (state_of session) code table) refused before.reads_on)

  -- ---- calls that read

  module _ (era : EraView) (was is : Store D) (same : is.cat ≡ was.cat) (tells : Bool) (before : ServesShell disk era shell was) (sound : IsSound (state_of session))
      (refers : Refers (state_of session) (objects_of is.cat)) where
    reads_same : session ≡ shell.session → CanReadOn session (objects_of is.cat)
    reads_same stays =
        subst (λ (cat : Catalogue D). CanReadOn session (objects_of cat)) (sym same) (subst (λ (s : Session). CanReadOn s (objects_of was.cat)) (sym stays) before.reads_on)

    get_reads : (reads : Object → List ℕ) (copy : ℕ) (result : Result ℕ BsaRc) → GetsObject tells reads copy (objects_of was.cat) (state_of shell.session) (state_of session) result
        → IsUncut result → (is_usable copy (objects_of was.cat) (state_of shell.session) ≡ true → CanReadOn session (objects_of is.cat))
        → IfErr result (λ answer. IsNoFailure answer → session ≡ shell.session) → CanReadOn session (objects_of is.cat)
    get_reads reads copy (Ok size) table uncut reads_on refused =
        reads_on (opens_usable tells reads copy (objects_of was.cat) (state_of shell.session) (state_of session) size table)
    get_reads reads copy (Err code) table uncut reads_on refused = reads_same (refused (no_failure code uncut))

    pub get_shell : (reads : Object → List ℕ) (copy : ℕ) (result : Result ℕ BsaRc) → GetsObject tells reads copy (objects_of was.cat) (state_of shell.session) (state_of session) result
        → IsUncut result → (is_usable copy (objects_of was.cat) (state_of shell.session) ≡ true → CanReadOn session (objects_of is.cat))
        → IfErr result (λ answer. IsNoFailure answer → session ≡ shell.session)
        → (is_usable copy (objects_of was.cat) (state_of shell.session) ≡ false → is ≡ was)
        → ReadsOne disk era shell.volume tells was is same copy (state_of shell.session) result → ServesShell disk era now is
    get_shell reads copy result table uncut reads_on refused untouched read =
        let it = get_serves disk era shell.volume tells was is same reads copy (state_of shell.session) (state_of session) result table uncut before.place sound refers before.serves
        untouched read in
        other_shell disk era shell now was is before kept era it.serves it.place (get_reads reads copy result table uncut reads_on refused)

    pub data_shell : (part : Object → ℕ → List ℕ) (most : ℕ) (into : List ℕ) (result : Result ℕ BsaRc)
        → GetsData tells part (objects_of was.cat) (state_of shell.session) (state_of session) into result → IsUncut result → CanReadOn session (objects_of is.cat)
        → (result ≡ Err InvalidCallSequence → is ≡ was) → (result ≡ Err NoMoreData → is ≡ was)
        → ReadsOn disk era shell.volume tells was is same most (state_of shell.session) result → ServesShell disk era now is
    data_shell part most into result table uncut reads_on untouched given read =
        let it = data_serves disk era shell.volume tells was is same part most into (state_of shell.session) (state_of session) result table uncut before.place sound refers before.serves
        untouched given read in
        other_shell disk era shell now was is before kept era it.serves it.place reads_on

  -- ---- calls that end a transaction or the session

  pub terminate_shell : (era : EraView) (was is : Store D) (code : BsaRc) → ServesShell disk era shell was → is.cat ≡ was.cat
      → Terminates (state_of shell.session) (state_of session) code → (has_draft (state_of shell.session) ≡ false → is ≡ was) → IsOpenStore is
      → (has_draft (state_of shell.session) ≡ true → (others : ℕ → List (List Run))
      → HoldWith (places (objects_of was.cat) (added_in (state_of shell.session))) others was.volumes.items → HoldWith (places (objects_of is.cat) []) others is.volumes.items)
      → Drops disk.is_modelled disk.bytes (state_of shell.session) was.volumes.items is.volumes.items → ServesShell disk era now is
  terminate_shell era was is code before same table untouched opened holds drops =
      let leaves : (is_getting (state_of session) ≡ false) ⊎ (session ≡ shell.session) = inl (terminate_leaves (state_of shell.session) (state_of session) code table) in
      other_shell disk era shell now was is before kept era
      (terminate_serves disk era was is same shell.volume (state_of shell.session) (state_of session) code table before.place before.serves untouched opened holds drops)
      (terminate_place shell.volume (objects_of was.cat) (state_of shell.session) (state_of session) code table)
      (subst (λ (cat : Catalogue D). CanReadOn session (objects_of cat)) (sym same)
      (reads_then shell.session session (objects_of was.cat) leaves (λ stays. stays) before.reads_on))

  module _ (from to : EraView) (was is : Store D) (before : ServesShell disk from shell was) (passes : PassesEras from to) (vote capacity taken : ℕ) (contents : Contents)
      (copies_of : Draft → List ℕ) where
    pub voted_shell : (copies : Vec ℕ Global) (placed : List Placed) → EndsTxn vote capacity taken contents copies_of (state_of shell.session) (state_of session) (Ok copies)
        → IsSound (state_of session) → (is_broken (state_of session) ≡ false → IsOpenStore is) → AllGiveBack disk.is_modelled disk.bytes placed was.volumes.items is.volumes.items
        → ((others : ℕ → List (List Run)) → HoldWith (places (objects_of was.cat) (added_in (state_of shell.session))) others was.volumes.items
        → HoldWith (places (objects_of is.cat) []) others is.volumes.items)
        → MayUse to (disk.ledger (cat_of is.cat)) → spare_of is.cat ≡ spare_of was.cat → ServesShell disk to now is
    voted_shell copies placed table sound opened gives holds may spare =
        let ends = vote_was_waiting vote capacity taken contents copies_of (state_of shell.session) (state_of session) copies table in
        let leaves : (is_getting (state_of session) ≡ false) ⊎ (session ≡ shell.session) = inl (ap is_getting ends.state) in
        let on : IsPlace shell.volume (state_of session) =
        subst (IsPlace shell.volume) (sym ends.state) (subst (IsPlace shell.volume) ends.was before.place) in
        other_shell disk from shell now was is before kept to
        (vote_serves disk placed was is gives from to (state_of shell.session) (state_of session) ends.draft ends.was ends.state before.serves passes sound (opened (ap is_broken ends.state)) holds may spare)
        on
        (reads_any session (objects_of is.cat) (ap is_getting ends.state))

    pub refused_shell : (code : BsaRc) → EndsTxn vote capacity taken contents copies_of (state_of shell.session) (state_of session) (Err code) → status_of_answer code ≡ None
        → (ChangesNothing code → session ≡ shell.session) → (ChangesNothing code → is ≡ was) → ServesShell disk to now is
    refused_shell code table uncut refused refused_store =
        let nothing = vote_changes_nothing vote capacity taken contents copies_of (state_of shell.session) (state_of session) code table uncut in
        let later : ServesShell disk to shell was = record {
          serves = serves_later disk from to (state_of shell.session) was passes before.serves;
          place = before.place;
          within = before.within;
          reads_on = before.reads_on;
        } in
        same_session to is (subst (λ (s : Store D). ServesShell disk to shell s) (sym (refused_store nothing)) later) (refused nothing)
