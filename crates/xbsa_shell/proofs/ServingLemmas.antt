-- What the calls of a script ask for is kept from one to the next.
use Rattle.std.proofs.Common.{◌≡◌, ◌≢◌, ℕ, ◌+◌, ◌<◌, ◌≤◌, Bool, true, false, List, [], ◌∷◌, ◌++◌, length, slice_set, map, Option, None, Some, Result, Ok, Err, inl, inr, refl, sym, ap, ◌∙◌, subst, arith, length-set}
use Rattle.std.proofs.lemmas.Bool.{cases_eq}
use Rattle.std.proofs.lemmas.List.{append-nil}
use Rattle.std.proofs.lemmas.Option.{slice_get_within}
use Rattle.std.specs.Prelude.{slice_get}
use Rattle.site_disk.specs.Ledger.{EraView, MayUse}
use Rattle.site_disk.specs.declared.disk.Disk.{Ghosts}
use Rattle.block_chain.specs.declared.runs.Run.{Run}
use Rattle.catalogue_slots.specs.Records.{Object}
use Rattle.catalogue_journal.specs.Catalogues.{cat_of, objects_of, spare_of, IsOpen as IsOpenCatalogue}
use Rattle.catalogue_journal.specs.declared.catalogue.Catalogue.{Catalogue}
use Rattle.object_volume.specs.Volumes.{disk_of, number_of, IsOpen, IsIdle, IsSending}
use Rattle.object_volume.specs.declared.volume.Volume.{Volume}
use Rattle.object_store.specs.Endings.{places, HoldAll}
use Rattle.object_store.specs.Holdings.{Holds}
use Rattle.object_store.specs.Reading.{ChangesOne}
use Rattle.object_store.specs.Returns.{runs_on, HoldsAmong}
use Rattle.object_store.specs.Stores.{OfEach, IsOpenAt, IsOpenStore}
use Rattle.object_store.specs.declared.store.Store.{Store}
use Rattle.object_store.proofs.ReturnLemmas.{slice_get-set_same, slice_get-set_other, one_value}
use Rattle.session_machine.specs.Conditions.{IsSound, Refers}
use Rattle.session_machine.specs.States.{State, none, idle, waiting, sending, querying, getting, broken}
use Rattle.store_opening.specs.Disks.{MayUseStore}
use Rattle.bsa_session.specs.Sessions.{Suits}
use Rattle.bsa_session.specs.Voting.{added_in}
use Rattle.xbsa_shell.specs.Serving.{AreThere, IsFit, IsPlace, Serves, Works}

-- ---- one of some volumes

module _ {D : Type 0} (P Q : ℕ → Volume D → Type 0) (W : Volume D → Volume D → Type 0) (at : ℕ) (old new : List (Volume D)) (one : ChangesOne W at old new) where
  -- what holds of each volume behind a call that works on one of them
  pub one_becomes : ((was is : Volume D) → W was is → P at was → Q at is) → ((place : ℕ) (volume : Volume D) → place ≢ at → P place volume → Q place volume)
      → OfEach P old → OfEach Q new
  one_becomes here elsewhere each place volume there = elim (cases_eq place at) [
    | inl same ↦ by same
    | inr other ↦ elsewhere place volume other
        (each place volume (sym (slice_get-set_other old place at one.is other) ∙ ap (λ (l : List (Volume D)). slice_get l place) (sym one.changed) ∙ there))
  ]
    where
      by : place ≡ at → Q place volume
      by same =
          let set : slice_get new at ≡ Some one.is =
          ap (λ (l : List (Volume D)). slice_get l at) one.changed ∙ slice_get-set_same old at one.is (slice_get_within old at one.was one.there) in
          let is : one.is ≡ volume = one_value new at one.is volume set (ap (slice_get new) (sym same) ∙ there) in
          subst (λ (n : ℕ). Q n volume) (sym same) (subst (Q at) is (here one.was one.is one.by (each at one.was one.there)))

-- ---- volumes on which the session isn't

module _ {D : Type 0} (tells : Bool) (bytes : D → List ℕ) (at place : ℕ) (volume : Volume D) (other : place ≢ at) where
  pub rests_elsewhere : (s : State) → IsPlace at s → IsFit tells bytes s place volume → IsIdle volume
  rests_elsewhere none on fit = fit
  rests_elsewhere (idle p) on fit = fit
  rests_elsewhere (waiting draft) on fit = fit
  rests_elsewhere (sending draft descriptor) on fit = fit.1 (λ (e : place ≡ draft.place.volume). other (e ∙ on))
  rests_elsewhere (querying draft rest) on fit = fit
  rests_elsewhere (getting draft copy from) on fit = fit
  rests_elsewhere broken on fit = fit

  pub fits_elsewhere : (s : State) → IsPlace at s → IsIdle volume → IsFit tells bytes s place volume
  fits_elsewhere none on rests = rests
  fits_elsewhere (idle p) on rests = rests
  fits_elsewhere (waiting draft) on rests = rests
  fits_elsewhere (sending draft descriptor) on rests = ((λ (e : place ≡ draft.place.volume). absurd (other (e ∙ on))), λ (e : place ≢ draft.place.volume). rests)
  fits_elsewhere (querying draft rest) on rests = rests
  fits_elsewhere (getting draft copy from) on rests = rests
  fits_elsewhere broken on rests = rests

-- ---- stores

module _ {D : Type 0} (disk : Ghosts D) (era : EraView) where
  -- a call that leaves the store alone
  pub serves_same : (old new : State) (store : Store D) → Serves disk era old store → IsSound new → Refers new (objects_of store.cat) → AreThere (objects_of store.cat) new
      → added_in new ≡ added_in old
      → ((place : ℕ) (volume : Volume D) → IsFit disk.is_modelled disk.bytes old place volume → IsFit disk.is_modelled disk.bytes new place volume)
      → Serves disk era new store
  serves_same old new store serves sound refers there added fit = record {
    sound = sound;
    refers = refers;
    there = there;
    opened = serves.opened;
    fit = λ place volume is. fit place volume (serves.fit place volume is);
    holds = rw added serves.holds;
    may = serves.may;
  }

  -- a call that works on one volume
  pub serves_changed : (old new : State) (at : ℕ) (was is : Store D) → Serves disk era old was → is.cat ≡ was.cat
      → ChangesOne (Works disk era old new at (objects_of was.cat)) at was.volumes.items is.volumes.items → IsPlace at old → IsPlace at new → IsSound new
      → Refers new (objects_of was.cat) → AreThere (objects_of was.cat) new
      → ((place : ℕ) → place ≢ at → runs_on place (places (objects_of was.cat) (added_in new)) ≡ runs_on place (places (objects_of was.cat) (added_in old)))
      → Serves disk era new is
  serves_changed old new at was is serves same one on_old on_new sound refers there added =
      let objects = objects_of was.cat in
      let works = Works disk era old new at objects in
      record {
        sound = sound;
        refers = subst (λ (cat : Catalogue D). Refers new (objects_of cat)) (sym same) refers;
        there = subst (λ (cat : Catalogue D). AreThere (objects_of cat) new) (sym same) there;
        opened = record {
          cat = subst (λ (cat : Catalogue D). IsOpenCatalogue cat) (sym same) serves.opened.cat;
          count = ap length one.changed ∙ length-set was.volumes.items at one.is ∙ serves.opened.count;
          each = one_becomes IsOpenAt IsOpenAt works at was.volumes.items is.volumes.items one (λ a b w. w.opened) (λ place volume other before. before) serves.opened.each;
        };
        fit = one_becomes (IsFit disk.is_modelled disk.bytes old) (IsFit disk.is_modelled disk.bytes new) works at was.volumes.items is.volumes.items one (λ a b w. w.fit)
            (λ place volume other before. fits_elsewhere disk.is_modelled disk.bytes at place volume other new on_new
            (rests_elsewhere disk.is_modelled disk.bytes at place volume other old on_old before)) serves.fit;
        holds = subst (λ (cat : Catalogue D). HoldAll (places (objects_of cat) (added_in new)) is.volumes.items) (sym same)
            (one_becomes (λ place volume. HoldsAmong volume (runs_on place (places objects (added_in old))))
            (λ place volume. HoldsAmong volume (runs_on place (places objects (added_in new)))) works at was.volumes.items is.volumes.items one (λ a b w. w.holds)
            (λ place volume other before. subst (λ (l : List (List Run)). HoldsAmong volume l) (sym (added place other)) before) serves.holds);
        may = record {
          cat = subst (λ (cat : Catalogue D). MayUse era (disk.ledger (cat_of cat))) (sym same) serves.may.cat;
          spare = subst (λ (cat : Catalogue D). MayUse era (disk.ledger (spare_of cat))) (sym same) serves.may.spare;
          volumes = one_becomes (λ place volume. MayUse era (disk.ledger (disk_of volume))) (λ place volume. MayUse era (disk.ledger (disk_of volume))) works at
              was.volumes.items is.volumes.items one (λ a b w. w.may) (λ place volume other before. before) serves.may.volumes;
        };
      }

  -- the volume of the session suits its state
  pub suits_here : (state : State) (at : ℕ) (store : Store D) → Serves disk era state store → IsPlace at state
      → OfEach (λ place volume. place ≡ at → Suits disk.is_modelled disk.bytes state volume) store.volumes.items
  suits_here state at store serves on place volume there same =
      by state on (serves.opened.each place volume there) (serves.fit place volume there)
    where
      by : (s : State) → IsPlace at s → IsOpenAt place volume → IsFit disk.is_modelled disk.bytes s place volume → Suits disk.is_modelled disk.bytes s volume
      by none on opened fit = tt
      by (idle p) on opened fit = tt
      by (waiting draft) on opened fit = record { opened = opened.opened; number = opened.number ∙ same ∙ sym on; idle = fit }
      by (sending draft descriptor) on opened fit = record { opened = opened.opened; number = opened.number ∙ same ∙ sym on; begun = fit.0 (same ∙ sym on) }
      by (querying draft rest) on opened fit = record { opened = opened.opened; number = opened.number ∙ same ∙ sym on; idle = fit }
      by (getting draft copy from) on opened fit = record { opened = opened.opened; number = opened.number ∙ same ∙ sym on; idle = fit }
      by broken on opened fit = tt
