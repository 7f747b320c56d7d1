-- Transactions that are ended.
use Rattle.std.proofs.Common.{◌≡◌, ℕ, zero, suc, ◌<◌, Bool, true, false, nat_eq, List, [], ◌∷◌, ◌++◌, length, map, Some, inl, inr, refl, sym, ap, ◌∙◌, subst, arith, length-set}
use Rattle.std.proofs.lemmas.Bool.{cases_eq}
use Rattle.std.proofs.lemmas.Option.{slice_get_within}
use Rattle.std.specs.List.{AllByRecursion}
use Rattle.std.specs.Prelude.{slice_get}
use Rattle.bsa_descriptor.specs.declared.descriptor.Descriptor.{Descriptor}
use Rattle.catalogue_slots.specs.Records.{Object}
use Rattle.catalogue_replay.specs.Contents.{Contents}
use Rattle.catalogue_journal.specs.Catalogues.{additions_of}
use Rattle.catalogue_journal.specs.Commits.{Ends}
use Rattle.catalogue_journal.specs.Transactions.{Addition, IsAddition}
use Rattle.object_volume.specs.declared.volume.Volume.{Volume}
use Rattle.block_chain.specs.declared.runs.Run.{Run}
use Rattle.object_store.specs.Endings.{HoldWith}
use Rattle.object_store.specs.Holdings.{Holds}
use Rattle.object_store.specs.Reading.{ChangesOne}
use Rattle.object_store.specs.Returns.{Placed, place_of_addition, runs_on, AllGiveBack, CanCancel, Cancels}
use Rattle.object_store.specs.Stores.{OfEach, IsOpenAt}
use Rattle.object_store.proofs.ReturnLemmas.{slice_get-set_same, slice_get-set_other, one_value}
use Rattle.session_machine.specs.Conditions.{IsAddedTo}
use Rattle.session_machine.specs.States as machine
use Rattle.bsa_session.specs.Sessions.{Suits}
use Rattle.bsa_session.specs.Views.{draft_of, with_work, view_of}
use Rattle.bsa_session.specs.Voting.{added_in, returned_by}
use Rattle.bsa_session.specs.declared.state.State.{State}
use Rattle.bsa_session.specs.declared.state.State.TheVariants as state
use Rattle.bsa_session.specs.declared.state.Transaction.{Transaction}
use Rattle.bsa_session.specs.declared.state.Work.{Work}
use Rattle.bsa_session.specs.declared.state.Work.TheVariants.{Waiting, Sending, Querying, Getting}

pub fit_each : (volume : ℕ) (added : List Addition) → AllByRecursion (IsAddedTo volume) added → AllByRecursion IsAddition added
fit_each volume [] each = tt
fit_each volume (a ∷ added) each = (each.0.fit, fit_each volume added each.1)

pub get-within : {X : Type 0} (xs : List X) (k : ℕ) → k < length xs → (x : X) × (slice_get xs k ≡ Some x)
get-within [] k lt = absurd (omega arith)
get-within (x ∷ xs) zero lt = (x, refl)
get-within (x ∷ xs) (suc k) lt = get-within xs k (omega arith)

-- an object that is being sent can be given up, also once others were
module _ {D : Type 0} (tells : Bool) (bytes : D → List ℕ) (draft : machine.Draft) (work : Work) (descriptor : Descriptor) (number : ℕ) (old new : List (Volume D)) where
  pub can_cancel : work ≡ Sending descriptor → (placed : List Placed) → AllGiveBack tells bytes placed old new
      → OfEach (λ place volume. place ≡ number → Suits tells bytes (with_work draft work) volume) old → OfEach (λ place volume. place ≡ number → CanCancel tells bytes volume) new
  can_cancel is placed gives suits place volume there same =
      let before = slice_get_within new place volume there in
      let was : (v : Volume D) × (slice_get old place ≡ Some v) = get-within old place (omega (arith, before, gives.count)) in
      let gave = gives.each place was.0 volume was.1 there in
      let receives = subst (λ (w : Work). Suits tells bytes (with_work draft w) was.0) is (suits place was.0 was.1 same) in
      record {
        opened = gave.opened receives.opened;
        begun = record { message = receives.begun.message; sends = gave.sends receives.begun.message receives.begun.sends };
      }

-- a call that begins nothing
pub ends_before : {e capacity wanted : ℕ} {before behind : Contents} {cat spare : ℕ → List ℕ → Type 0} → Ends e capacity wanted before behind cat spare cat spare
ends_before = record {
  either = λ head show f c d le image other. inl (show f f c d le le image other);
  counted = λ taken has f c le image. inl (has f c le image);
  earlier = λ f c lt image. image;
  spare_earlier = λ f d lt image. image;
}

-- at another vote than one to commit the blocks of what was added go back
pub returned_else : (vote : ℕ) (objects : List Object) (s : machine.State) → nat_eq vote 1 ≡ false → returned_by vote objects s ≡ map place_of_addition (added_in s)
returned_else vote objects s not_one = rw not_one refl

-- an open transaction
pub open_added : (s : State) (t : Transaction) → s ≡ state.Open t → (machine.has_draft (view_of s) ≡ true) × (added_in (view_of s) ≡ additions_of t.staged)
open_added s t is = subst (λ (x : State). (machine.has_draft (view_of x) ≡ true) × (added_in (view_of x) ≡ additions_of t.staged)) (sym is) (of t.work)
  where
    of : (w : Work) → (machine.has_draft (with_work (draft_of t) w) ≡ true) × (added_in (with_work (draft_of t) w) ≡ additions_of t.staged)
    of Waiting = (refl, refl)
    of (Sending descriptor) = (refl, refl)
    of (Querying matches) = (refl, refl)
    of (Getting reading) = (refl, refl)

-- what the end of an object that was being sent keeps of one volume holds of each
module _ {D : Type 0} (number : ℕ) (old new : List (Volume D)) (one : ChangesOne Cancels number old new) where
  each_kept : (P : ℕ → Volume D → Type 0) → ((place : ℕ) (was is : Volume D) → Cancels was is → P place was → P place is) → OfEach P old → OfEach P new
  each_kept P keeps each place volume there = elim (cases_eq place number) [
    | inl same ↦ here same
    | inr other ↦ each place volume (sym (slice_get-set_other old place number one.is other) ∙ ap (λ (l : List (Volume D)). slice_get l place) (sym one.changed) ∙ there)
  ]
    where
      here : place ≡ number → P place volume
      here same =
          let before : slice_get old place ≡ Some one.was = ap (slice_get old) same ∙ one.there in
          let set : slice_get new place ≡ Some one.is =
          ap (slice_get new) same ∙ ap (λ (l : List (Volume D)). slice_get l number) one.changed ∙ slice_get-set_same old number one.is (slice_get_within old number one.was one.there) in
          subst (P place) (one_value new place one.is volume set there) (keeps place one.was one.is one.by (each place one.was before))

  pub opened_cancelled : OfEach IsOpenAt old → OfEach IsOpenAt new
  opened_cancelled = each_kept IsOpenAt (λ place was is by before. record { number = by.number ∙ before.number; opened = by.opened })

  pub holds_cancelled : (placed : List Placed) (others : ℕ → List (List Run)) → HoldWith placed others old → HoldWith placed others new
  holds_cancelled placed others =
      each_kept (λ place volume. Holds volume (runs_on place placed ++ others place)) (λ place was is by before. by.holds (runs_on place placed ++ others place) before)

  pub count_cancelled : length new ≡ length old
  count_cancelled = ap length one.changed ∙ length-set old number one.is
