-- Objects that are fetched: the store serves the next call.
use Rattle.std.specs.Prelude.{take}
use Rattle.std.proofs.Common.{◌≡◌, ◌≢◌, ◌⊎◌, ℕ, ◌+◌, ◌<◌, ◌≤◌, Bool, true, false, List, [], ◌∷◌, ◌++◌, Option, None, Some, Result, Ok, Err, inl, inr, refl, sym, ap, ◌∙◌, subst, arith}
use Rattle.site_disk.specs.Ledger.{EraView}
use Rattle.site_disk.specs.declared.disk.Disk.{Ghosts}
use Rattle.catalogue_slots.specs.Records.{Object}
use Rattle.catalogue_journal.specs.Catalogues.{objects_of}
use Rattle.object_store.specs.Reading.{ChangesOne, IsRead}
use Rattle.object_store.specs.declared.store.Store.{Store}
use Rattle.session_machine.specs.Calls.{GetsData, GetsObject, object_with}
use Rattle.session_machine.specs.Conditions.{IsSound, Refers}
use Rattle.session_machine.specs.States.{Draft, State, is_usable, none, idle, waiting, sending, querying, getting, broken}
use Rattle.session_machine.specs.declared.answers.BsaRc.{BsaRc}
use Rattle.session_machine.specs.declared.answers.BsaRc.TheVariants.{Success, InvalidCallSequence, InvalidObjectDescriptor, NoMatch, NoMoreData, ObjectNotFound, InvalidVote, NoResources, AccessFailure, Damaged, OutOfMemory}
use Rattle.session_machine.specs.declared.answers.Access.TheVariants.{Cat, Spare, Volume as OfVolume, Ends}
use Rattle.bsa_session.specs.Reading.{is_failure}
use Rattle.xbsa_shell.specs.Serving.{AreThere, IsFit, IsPlace, Serves}
use Rattle.xbsa_shell.specs.Statuses.{status_of_answer, IsUncut}
use Rattle.xbsa_shell.proofs.ServingLemmas.{serves_same}
use Rattle.xbsa_shell.proofs.StoreLemmas.{read_serves, same_store}

module _ {D : Type 0} (disk : Ghosts D) (era : EraView) (at : ℕ) where
  -- a store that serves the next call of a session that is on a volume
  pub record ServesAt (new : State) (is : Store D) : Type 0 where
    pub serves : Serves disk era new is
    pub place : IsPlace at new

  at_state : (new to : State) (is : Store D) → new ≡ to → ServesAt to is → ServesAt new is
  at_state new to is same serves = subst (λ (s : State). ServesAt s is) (sym same) serves

  stays_at : (old new : State) (was is : Store D) → new ≡ old → is ≡ was → IsPlace at old → Serves disk era old was → ServesAt new is
  stays_at old new was is stays same on serves = at_state new old is stays (record { serves = same_store disk era old was is same serves; place = on })

  module _ (tells : Bool) (was is : Store D) (same : is.cat ≡ was.cat) where
    -- the first byte of an object is next

    abbrev pub ReadsOne : ℕ → State → Result ℕ BsaRc → Type 0
    ReadsOne copy old result = is_usable copy (objects_of was.cat) old ≡ true → (object : Object) → object_with copy (objects_of was.cat) ≡ Some object
        → ChangesOne (IsRead disk era object.size (is_failure result)) object.volume was.volumes.items is.volumes.items

    get_waiting : (reads : Object → List ℕ) (copy : ℕ) (draft : Draft) (new : State) (result : Result ℕ BsaRc)
        → GetsObject tells reads copy (objects_of was.cat) (waiting draft) new result → IsUncut result → IsPlace at (waiting draft) → IsSound new → Refers new (objects_of is.cat)
        → Serves disk era (waiting draft) was → (is_usable copy (objects_of was.cat) (waiting draft) ≡ false → is ≡ was) → ReadsOne copy (waiting draft) result → ServesAt new is
    get_waiting reads copy draft new (Ok size) row uncut on sound refers serves untouched read =
        let before = read_serves disk era (waiting draft) refl row.object.size row.object.volume was is serves same (read row.there row.object row.is) in
        let to = row.state in
        at_state new (getting draft copy 0) is to (record {
          serves = serves_same disk era (waiting draft) (getting draft copy 0) is before (subst IsSound to sound) (subst (λ (s : State). Refers s (objects_of is.cat)) to refers) tt refl
              (λ place v fit. fit);
          place = on;
        })
    get_waiting reads copy draft new (Err ObjectNotFound) row uncut on sound refers serves untouched read =
        stays_at (waiting draft) new was is row.stays (untouched row.gone) on serves
    get_waiting reads copy draft new (Err (Damaged kept found)) row uncut on sound refers serves untouched read =
        at_state new (waiting draft) is row.stays (record {
          serves = read_serves disk era (waiting draft) refl row.object.size row.object.volume was is serves same (read row.there row.object row.is);
          place = on;
        })
    get_waiting reads copy draft new (Err (AccessFailure Ends)) row uncut on sound refers serves untouched read =
        at_state new (waiting draft) is row.stays (record {
          serves = read_serves disk era (waiting draft) refl row.object.size row.object.volume was is serves same (read row.there row.object row.is);
          place = on;
        })
    get_waiting reads copy draft new (Err (AccessFailure (OfVolume volume))) row uncut on sound refers serves untouched read = cc uncut
    get_waiting reads copy draft new (Err code) row uncut on sound refers serves untouched read = absurd row

    pub get_serves : (reads : Object → List ℕ) (copy : ℕ) (old new : State) (result : Result ℕ BsaRc)
        → GetsObject tells reads copy (objects_of was.cat) old new result → IsUncut result → IsPlace at old → IsSound new → Refers new (objects_of is.cat)
        → Serves disk era old was → (is_usable copy (objects_of was.cat) old ≡ false → is ≡ was) → ReadsOne copy old result → ServesAt new is
    get_serves reads copy none new result row uncut on sound refers serves untouched read = stays_at none new was is row.stays (untouched refl) on serves
    get_serves reads copy (idle p) new result row uncut on sound refers serves untouched read = stays_at (idle p) new was is row.stays (untouched refl) on serves
    get_serves reads copy (waiting draft) new result row uncut on sound refers serves untouched read =
        get_waiting reads copy draft new result row uncut on sound refers serves untouched read
    get_serves reads copy (sending draft descriptor) new result row uncut on sound refers serves untouched read =
        stays_at (sending draft descriptor) new was is row.stays (untouched refl) on serves
    get_serves reads copy (querying draft rest) new result row uncut on sound refers serves untouched read =
        stays_at (querying draft rest) new was is row.stays (untouched refl) on serves
    get_serves reads copy (getting draft other from) new result row uncut on sound refers serves untouched read =
        stays_at (getting draft other from) new was is row.stays (untouched refl) on serves
    get_serves reads copy broken new result row uncut on sound refers serves untouched read = absurd on

    -- the bytes behind it

    abbrev pub ReadsOn : ℕ → State → Result ℕ BsaRc → Type 0
    ReadsOn most old result = (draft : Draft) (copy from : ℕ) (object : Object) → old ≡ getting draft copy from → object_with copy (objects_of was.cat) ≡ Some object → from < object.size
        → ChangesOne (IsRead disk era most (is_failure result)) object.volume was.volumes.items is.volumes.items

    data_getting : (part : Object → ℕ → List ℕ) (most : ℕ) (into : List ℕ) (draft : Draft) (copy from : ℕ) (new : State) (result : Result ℕ BsaRc)
        → GetsData tells part (objects_of was.cat) (getting draft copy from) new into result → IsUncut result → IsPlace at (getting draft copy from) → IsSound new
        → Refers new (objects_of is.cat) → Serves disk era (getting draft copy from) was → (result ≡ Err NoMoreData → is ≡ was) → ReadsOn most (getting draft copy from) result
        → ServesAt new is
    data_getting part most into draft copy from new (Ok n) row uncut on sound refers serves given read =
        let left : from < row.object.size = omega (arith, row.some, row.within) in
        let before = read_serves disk era (getting draft copy from) refl most row.object.volume was is serves same (read draft copy from row.object refl row.is left) in
        let to = row.state in
        at_state new (getting draft copy (from + n)) is to (record {
          serves = serves_same disk era (getting draft copy from) (getting draft copy (from + n)) is before (subst IsSound to sound)
              (subst (λ (s : State). Refers s (objects_of is.cat)) to refers) tt refl (λ place v fit. fit);
          place = on;
        })
    data_getting part most into draft copy from new (Err NoMoreData) row uncut on sound refers serves given read =
        stays_at (getting draft copy from) new was is row.stays (given refl) on serves
    data_getting part most into draft copy from new (Err (AccessFailure Ends)) row uncut on sound refers serves given read =
        at_state new (getting draft copy from) is row.stays (record {
          serves = read_serves disk era (getting draft copy from) refl most row.object.volume was is serves same (read draft copy from row.object refl row.is row.left);
          place = on;
        })
    data_getting part most into draft copy from new (Err (AccessFailure (OfVolume volume))) row uncut on sound refers serves given read = cc uncut
    data_getting part most into draft copy from new (Err code) row uncut on sound refers serves given read = absurd row

    pub data_serves : (part : Object → ℕ → List ℕ) (most : ℕ) (into : List ℕ) (old new : State) (result : Result ℕ BsaRc)
        → GetsData tells part (objects_of was.cat) old new into result → IsUncut result → IsPlace at old → IsSound new → Refers new (objects_of is.cat)
        → Serves disk era old was → (result ≡ Err InvalidCallSequence → is ≡ was) → (result ≡ Err NoMoreData → is ≡ was) → ReadsOn most old result → ServesAt new is
    data_serves part most into none new result row uncut on sound refers serves untouched given read = stays_at none new was is row.stays (untouched row.code) on serves
    data_serves part most into (idle p) new result row uncut on sound refers serves untouched given read = stays_at (idle p) new was is row.stays (untouched row.code) on serves
    data_serves part most into (waiting draft) new result row uncut on sound refers serves untouched given read =
        stays_at (waiting draft) new was is row.stays (untouched row.code) on serves
    data_serves part most into (sending draft descriptor) new result row uncut on sound refers serves untouched given read =
        stays_at (sending draft descriptor) new was is row.stays (untouched row.code) on serves
    data_serves part most into (querying draft rest) new result row uncut on sound refers serves untouched given read =
        stays_at (querying draft rest) new was is row.stays (untouched row.code) on serves
    data_serves part most into (getting draft copy from) new result row uncut on sound refers serves untouched given read =
        data_getting part most into draft copy from new result row uncut on sound refers serves given read
    data_serves part most into broken new result row uncut on sound refers serves untouched given read = absurd on
