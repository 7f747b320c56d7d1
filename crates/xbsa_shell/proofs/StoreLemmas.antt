-- What calls leave of a store that isn't sent to.
use Rattle.std.specs.Prelude.{slice_get}
use Rattle.std.specs.List.{AllByRecursion}
use Rattle.std.proofs.Common.{◌≡◌, ◌≢◌, ◌⊎◌, ℕ, ◌+◌, ◌<◌, ◌≤◌, Bool, true, false, List, [], ◌∷◌, ◌++◌, length, Option, None, Some, Result, Ok, Err, inl, inr, refl, sym, ap, ◌∙◌, subst, arith, length-set}
use Rattle.std.proofs.lemmas.Option.{slice_get_within}
use Rattle.site_disk.specs.Ledger.{EraView, MayUse}
use Rattle.site_disk.specs.CallsLaws.{may_use_again, may_use_later}
use Rattle.site_disk.specs.declared.disk.Disk.{Ghosts}
use Rattle.block_chain.specs.declared.runs.Run.{Run}
use Rattle.catalogue_slots.specs.Records.{Object}
use Rattle.catalogue_journal.specs.Catalogues.{cat_of, objects_of, spare_of, IsOpen as IsOpenCatalogue}
use Rattle.catalogue_journal.specs.declared.catalogue.Catalogue.{Catalogue}
use Rattle.object_volume.specs.Volumes.{disk_of, number_of, with_disk, IsIdle, IsLive}
use Rattle.object_volume.specs.declared.volume.Volume.{Volume}
use Rattle.object_store.specs.Endings.{places, HoldAll, HoldWith, PassesEras}
use Rattle.object_store.specs.Holdings.{Holds}
use Rattle.object_store.specs.Reading.{ChangesOne, IsRead}
use Rattle.object_store.specs.Returns.{Placed, runs_on, AllGiveBack, GivesBack, HoldsAmong}
use Rattle.object_store.specs.Stores.{OfEach, IsOpenAt, IsOpenStore}
use Rattle.object_store.specs.declared.store.Store.{Store}
use Rattle.object_store.proofs.ReturnLemmas.{get-within}
use Rattle.session_machine.specs.Answers.{IsNoFailure}
use Rattle.session_machine.specs.Calls.{GetsData, GetsObject, Terminates, object_with}
use Rattle.session_machine.specs.Conditions.{IsSound, Refers}
use Rattle.session_machine.specs.States.{Draft, State, has_draft, is_sending, is_usable, none, idle, waiting, sending, querying, getting, broken}
use Rattle.session_machine.specs.declared.answers.BsaRc.{BsaRc}
use Rattle.session_machine.specs.declared.answers.BsaRc.TheVariants.{Success, InvalidCallSequence, InvalidObjectDescriptor, NoMatch, NoMoreData, ObjectNotFound, InvalidVote, NoResources, AccessFailure, Damaged, OutOfMemory}
use Rattle.session_machine.specs.declared.answers.Access.TheVariants.{Cat, Spare, Volume as OfVolume, Ends}
use Rattle.store_opening.specs.Disks.{MayUseStore}
use Rattle.bsa_session.specs.Reading.{is_failure}
use Rattle.bsa_session.specs.Voting.{added_in, Drops}
use Rattle.xbsa_shell.specs.Serving.{AreThere, IsFit, IsPlace, Serves}
use Rattle.xbsa_shell.specs.Statuses.{status_of_answer, IsUncut}
use Rattle.xbsa_shell.proofs.ServingLemmas.{one_becomes, serves_same}

-- ---- answers

-- an answer that is told is no failure of a volume's disk
pub no_failure : (code : BsaRc) → status_of_answer code ≡ None → IsNoFailure code
no_failure (AccessFailure Cat) uncut = tt
no_failure (AccessFailure Spare) uncut = tt
no_failure (AccessFailure (OfVolume volume)) uncut = cc uncut
no_failure (AccessFailure Ends) uncut = tt
no_failure code uncut = tt

-- an object that is opened may be used
pub opens_usable : (tells : Bool) (reads : Object → List ℕ) (copy : ℕ) (objects : List Object) (old new : State) (size : ℕ)
    → GetsObject tells reads copy objects old new (Ok size) → is_usable copy objects old ≡ true
opens_usable tells reads copy objects none new size is = cc is.code
opens_usable tells reads copy objects (idle p) new size is = cc is.code
opens_usable tells reads copy objects (waiting draft) new size is = is.there
opens_usable tells reads copy objects (sending draft descriptor) new size is = cc is.code
opens_usable tells reads copy objects (querying draft rest) new size is = cc is.code
opens_usable tells reads copy objects (getting draft other from) new size is = cc is.code
opens_usable tells reads copy objects broken new size is = cc is.code

-- ---- volumes

module _ {D : Type 0} where
  -- a volume of which the disk alone is another
  open_with : (place : ℕ) (volume : Volume D) (d : D) → IsOpenAt place volume → IsOpenAt place (with_disk volume d)
  open_with place volume d before = record {
    number = before.number;
    opened = record { table = before.opened.table; opened = before.opened.opened; small = before.opened.small; own = before.opened.own };
  }

  all_with_disk : (volume : Volume D) (d : D) (objects : List (List Run)) → AllByRecursion (IsLive volume) objects → AllByRecursion (IsLive (with_disk volume d)) objects
  all_with_disk volume d [] each = tt
  all_with_disk volume d (runs ∷ objects) each = (record { listed = each.0.listed; apart = each.0.apart }, all_with_disk volume d objects each.1)

  holds_with : (volume : Volume D) (d : D) (objects : List (List Run)) → Holds volume objects → Holds (with_disk volume d) objects
  holds_with volume d objects holds = record { each = all_with_disk volume d objects holds.each; parted = holds.parted }

  among_with : (volume : Volume D) (d : D) (objects : List (List Run)) → HoldsAmong volume objects → HoldsAmong (with_disk volume d) objects
  among_with volume d objects among = record { others = among.others; holds = holds_with volume d (objects ++ among.others) among.holds }

  fit_with : (tells : Bool) (bytes : D → List ℕ) (state : State) (place : ℕ) (volume : Volume D) (d : D) → is_sending state ≡ false
      → IsFit tells bytes state place volume → IsFit tells bytes state place (with_disk volume d)
  fit_with tells bytes none place volume d not fit = fit
  fit_with tells bytes (idle p) place volume d not fit = fit
  fit_with tells bytes (waiting draft) place volume d not fit = fit
  fit_with tells bytes (sending draft descriptor) place volume d not fit = cc not
  fit_with tells bytes (querying draft rest) place volume d not fit = fit
  fit_with tells bytes (getting draft copy from) place volume d not fit = fit
  fit_with tells bytes broken place volume d not fit = fit

  pub idle_of : (tells : Bool) (bytes : D → List ℕ) (state : State) (place : ℕ) (volume : Volume D) → is_sending state ≡ false → IsFit tells bytes state place volume → IsIdle volume
  idle_of tells bytes none place volume not fit = fit
  idle_of tells bytes (idle p) place volume not fit = fit
  idle_of tells bytes (waiting draft) place volume not fit = fit
  idle_of tells bytes (sending draft descriptor) place volume not fit = cc not
  idle_of tells bytes (querying draft rest) place volume not fit = fit
  idle_of tells bytes (getting draft copy from) place volume not fit = fit
  idle_of tells bytes broken place volume not fit = fit

  -- ---- live objects

  module _ (placed : List Placed) where
    others_at : (place : ℕ) (o : Option (Volume D)) → ((volume : Volume D) → o ≡ Some volume → HoldsAmong volume (runs_on place placed)) → List (List Run)
    others_at place None each = []
    others_at place (Some volume) each = (each volume refl).others

    others_hold : (place : ℕ) (o : Option (Volume D)) (each : (volume : Volume D) → o ≡ Some volume → HoldsAmong volume (runs_on place placed)) (volume : Volume D)
        → o ≡ Some volume → Holds volume (runs_on place placed ++ others_at place o each)
    unfolding others_at
    others_hold place None each volume is = cc is
    others_hold place (Some one) each volume is =
        let same : one ≡ volume = cc is in
        subst (λ (v : Volume D). Holds v (runs_on place placed ++ (each one refl).others)) same (each one refl).holds

    -- which others each volume holds
    pub with_others : (volumes : List (Volume D)) → HoldAll placed volumes → (others : ℕ → List (List Run)) × HoldWith placed others volumes
    with_others volumes each =
        (λ place. others_at place (slice_get volumes place) (each place), λ place volume there. others_hold place (slice_get volumes place) (each place) volume there)

    pub among_others : (others : ℕ → List (List Run)) (volumes : List (Volume D)) → HoldWith placed others volumes → HoldAll placed volumes
    among_others others volumes each place volume there = record { others = others place; holds = each place volume there }

  -- ---- blocks that go back

  module _ (tells : Bool) (bytes : D → List ℕ) (placed : List Placed) (old new : List (Volume D)) (gives : AllGiveBack tells bytes placed old new) where
    was_at : (place : ℕ) (is : Volume D) → slice_get new place ≡ Some is → (was : Volume D) × (slice_get old place ≡ Some was)
    was_at place is there = let before = slice_get_within new place is there in get-within old place (omega (arith, before, gives.count))

    -- what is kept where blocks go back
    pub gives_each : (P : ℕ → Volume D → Type 0) → ((place : ℕ) (was is : Volume D) → GivesBack tells bytes (runs_on place placed) was is → P place was → P place is)
        → OfEach P old → OfEach P new
    gives_each P keeps each place is there =
        let was = was_at place is there in
        keeps place was.0 is (gives.each place was.0 is was.1 there) (each place was.0 was.1)

    pub idle_still : OfEach (λ place volume. IsIdle volume) old → OfEach (λ place volume. IsIdle volume) new
    idle_still each place is there =
        let was = was_at place is there in
        (gives.each place was.0 is was.1 there).idle (each place was.0 was.1)

    -- what holds of the disk of each volume
    pub disks_still : (P : D → Type 0) → OfEach (λ place volume. P (disk_of volume)) old → OfEach (λ place volume. P (disk_of volume)) new
    disks_still P each place is there =
        let was = was_at place is there in
        subst P (sym (gives.each place was.0 is was.1 there).disk) (each place was.0 was.1)

module _ {D : Type 0} (disk : Ghosts D) where
  -- ---- eras

  pub serves_later : (from to : EraView) (state : State) (store : Store D) → PassesEras from to → Serves disk from state store → Serves disk to state store
  serves_later from to state store passes serves = record {
    sound = serves.sound;
    refers = serves.refers;
    there = serves.there;
    opened = serves.opened;
    fit = serves.fit;
    holds = serves.holds;
    may = record {
      cat = may_use_later passes.no_earlier passes.key serves.may.cat;
      spare = may_use_later passes.no_earlier passes.key serves.may.spare;
      volumes = λ place volume there. may_use_later passes.no_earlier passes.key (serves.may.volumes place volume there);
    };
  }

module _ {D : Type 0} (disk : Ghosts D) (era : EraView) where
  abbrev MayVolume : ℕ → Volume D → Type 0
  MayVolume place volume = MayUse era (disk.ledger (disk_of volume))

  pub same_store : (state : State) (was is : Store D) → is ≡ was → Serves disk era state was → Serves disk era state is
  same_store state was is same serves = subst (λ (s : Store D). Serves disk era state s) (sym same) serves

  -- ---- reads

  module _ (state : State) (not : is_sending state ≡ false) (most at : ℕ) (was is : Store D) (serves : Serves disk era state was) (same : is.cat ≡ was.cat)
      (one : ChangesOne (IsRead disk era most false) at was.volumes.items is.volumes.items) where
    read_becomes : (P : ℕ → Volume D → Type 0) → ((place : ℕ) (volume : Volume D) (d : D) → P place volume → P place (with_disk volume d))
        → OfEach P was.volumes.items → OfEach P is.volumes.items
    read_becomes P keeps = one_becomes P P (IsRead disk era most false) at was.volumes.items is.volumes.items one
        (λ a b read before. subst (P at) (sym read.volume) (keeps at a (disk_of b) before)) (λ place volume other before. before)

    read_may : OfEach MayVolume was.volumes.items → OfEach MayVolume is.volumes.items
    read_may = one_becomes MayVolume MayVolume (IsRead disk era most false) at was.volumes.items is.volumes.items one
        (λ a b read before. may_use_again before read.ledger) (λ place volume other before. before)

    pub read_serves : Serves disk era state is
    read_serves = record {
      sound = serves.sound;
      refers = subst (λ (cat : Catalogue D). Refers state (objects_of cat)) (sym same) serves.refers;
      there = subst (λ (cat : Catalogue D). AreThere (objects_of cat) state) (sym same) serves.there;
      opened = record {
        cat = subst (λ (cat : Catalogue D). IsOpenCatalogue cat) (sym same) serves.opened.cat;
        count = ap length one.changed ∙ length-set was.volumes.items at one.is ∙ serves.opened.count;
        each = read_becomes IsOpenAt open_with serves.opened.each;
      };
      fit = read_becomes (IsFit disk.is_modelled disk.bytes state) (λ place volume d fit. fit_with disk.is_modelled disk.bytes state place volume d not fit) serves.fit;
      holds = subst (λ (cat : Catalogue D). HoldAll (places (objects_of cat) (added_in state)) is.volumes.items) (sym same)
          (read_becomes (λ place volume. HoldsAmong volume (runs_on place (places (objects_of was.cat) (added_in state))))
          (λ place volume d among. among_with volume d (runs_on place (places (objects_of was.cat) (added_in state))) among) serves.holds);
      may = record {
        cat = subst (λ (cat : Catalogue D). MayUse era (disk.ledger (cat_of cat))) (sym same) serves.may.cat;
        spare = subst (λ (cat : Catalogue D). MayUse era (disk.ledger (spare_of cat))) (sym same) serves.may.spare;
        volumes = read_may serves.may.volumes;
      };
    }
