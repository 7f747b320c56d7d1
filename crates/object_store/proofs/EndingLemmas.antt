-- Transactions that are ended over a store.
use Rattle.std.proofs.Common.{◌≡◌, ℕ, suc, ◌<◌, Bool, true, false, nat_eq, List, [], ◌∷◌, ◌++◌, length, take, drop, map, Some, inl, refl, sym, ap, ◌∙◌, subst, arith, append_assoc}
use Rattle.std.proofs.lemmas.List.{append-nil, map-append}
use Rattle.std.proofs.lemmas.Option.{slice_get_within}
use Rattle.std.specs.List.{AllByRecursion}
use Rattle.std.specs.Prelude.{slice_get, cond}
use Rattle.std.specs.Vec.{with_items}
use Rattle.std.specs.declared.vec.Vec.{Vec}
use Rattle.std.specs.declared.alloc.Global.{Global}
use Rattle.block_chain.specs.declared.runs.Run.{Run}
use Rattle.catalogue_slots.specs.Records.{Object}
use Rattle.catalogue_replay.specs.Contents.{Contents, IsKept, AreRising}
use Rattle.catalogue_journal.specs.Commits.{Ends}
use Rattle.catalogue_journal.specs.Transactions.{Addition, IsAddition, AreLive, without_all, objects_from}
use Rattle.object_volume.specs.declared.volume.Volume.{Volume}
use Rattle.session_machine.specs.Calls.{object_with}
use Rattle.object_store.specs.Holdings.{Holds}
use Rattle.object_store.specs.Stores.{OfEach, IsOpenAt}
use Rattle.object_store.specs.Returns.{Placed, place_of_object, place_of_addition, runs_on, listed, objects_with, CanGiveBack, AllGiveBack}
use Rattle.object_store.specs.Endings.{places, HoldAll, HoldWith}
use Rattle.object_store.proofs.ReturnLemmas.{get-within, runs_on-append}
use Rattle.object_store.proofs.DeletedLemmas.{holds_swapped, deleted_out}

-- ---- what holds of each object

each_joined : {X : Type 0} (P : X → Type 0) (xs ys : List X) → AllByRecursion P xs → AllByRecursion P ys → AllByRecursion P (xs ++ ys)
each_joined P [] ys front behind = behind
each_joined P (x ∷ xs) ys front behind = (front.0, each_joined P xs ys front.1 behind)

each_found : (P : Object → Type 0) (copy : ℕ) (objects : List Object) → AllByRecursion P objects → AllByRecursion P (listed (object_with copy objects))
each_found P copy [] each = tt
each_found P copy (o ∷ objects) each = by (each_found P copy objects each.1) (nat_eq o.copy copy)
  where
    by : AllByRecursion P (listed (object_with copy objects)) → (b : Bool) → AllByRecursion P (listed (cond b (Some o) (object_with copy objects)))
    by later true = (each.0, tt)
    by later false = later

each_with : (P : Object → Type 0) (copies : List ℕ) (objects : List Object) → AllByRecursion P objects → AllByRecursion P (objects_with copies objects)
each_with P [] objects each = tt
each_with P (copy ∷ copies) objects each = each_joined P (listed (object_with copy objects)) (objects_with copies objects) (each_found P copy objects each) (each_with P copies objects each)

kept_within : (n : ℕ) (objects : List Object) → n ≡ 17 → AllByRecursion IsKept objects → AllByRecursion (λ (one : Placed). one.volume < n) (map place_of_object objects)
kept_within n [] is each = tt
kept_within n (o ∷ objects) is each = (omega (arith, each.0.fits.volume, is), kept_within n objects is each.1)

added_within : (n : ℕ) (added : List Addition) → n ≡ 17 → AllByRecursion IsAddition added → AllByRecursion (λ (one : Placed). one.volume < n) (map place_of_addition added)
added_within n [] is each = tt
added_within n (a ∷ added) is each = (omega (arith, each.0.volume, is), added_within n added is each.1)

-- objects that were added stand where they were sent to
places_from : (copy : ℕ) (added : List Addition) → map place_of_object (objects_from copy added) ≡ map place_of_addition added
places_from copy [] = refl
places_from copy (a ∷ added) = ap (λ (l : List Placed). place_of_addition a ∷ l) (places_from (suc copy) added)

-- ---- live objects

module _ {D : Type 0} where
  -- committed objects, then added ones, then others
  apart : (volume : Volume D) (place : ℕ) (objects : List Object) (added : List Addition) (others : List (List Run)) → Holds volume (runs_on place (places objects added) ++ others)
      → Holds volume (runs_on place (map place_of_object objects) ++ (runs_on place (map place_of_addition added) ++ others))
  apart volume place objects added others holds =
      subst (Holds volume)
      (ap (λ (l : List (List Run)). l ++ others) (runs_on-append place (map place_of_object objects) (map place_of_addition added))
      ∙ append_assoc (runs_on place (map place_of_object objects)) (runs_on place (map place_of_addition added)) others)
      holds

  module _ (volumes : List (Volume D)) (objects : List Object) (added : List Addition) (count : length volumes ≡ 17) (each : OfEach IsOpenAt volumes)
      (hold : HoldAll (places objects added) volumes) where
    pub can_give_deleted : (deleted : List ℕ) → AllByRecursion IsKept objects → AreRising 0 objects → AreLive deleted objects → CanGiveBack (map place_of_object (objects_with deleted objects)) volumes
    can_give_deleted deleted kept rising live = record {
      within = kept_within (length volumes) (objects_with deleted objects) count (each_with IsKept deleted objects kept);
      opened = λ place volume there. (each place volume there).opened;
      holds = λ place volume there.
          let among = hold place volume there in
          record {
            others = runs_on place (map place_of_object (without_all deleted objects)) ++ (runs_on place (map place_of_addition added) ++ among.others);
            holds = deleted_out volume place deleted objects (runs_on place (map place_of_addition added) ++ among.others) rising live (apart volume place objects added among.others among.holds);
          };
    }

    pub can_give_added : AllByRecursion IsAddition added → CanGiveBack (map place_of_addition added) volumes
    can_give_added fit = record {
      within = added_within (length volumes) added count fit;
      opened = λ place volume there. (each place volume there).opened;
      holds = λ place volume there.
          let among = hold place volume there in
          record {
            others = runs_on place (map place_of_object objects) ++ among.others;
            holds = holds_swapped volume [] (runs_on place (map place_of_object objects)) (runs_on place (map place_of_addition added)) among.others
                (apart volume place objects added among.others among.holds);
          };
    }

  module _ (tells : Bool) (bytes : D → List ℕ) (old new : List (Volume D)) where
    -- a volume that is there was there
    was_there : (placed : List Placed) (place : ℕ) (is : Volume D) → AllGiveBack tells bytes placed old new → slice_get new place ≡ Some is → (was : Volume D) × (slice_get old place ≡ Some was)
    was_there placed place is gives there = let before = slice_get_within new place is there in get-within old place (omega (arith, before, gives.count))

    pub still_open : (placed : List Placed) → AllGiveBack tells bytes placed old new → OfEach IsOpenAt old → OfEach IsOpenAt new
    still_open placed gives each place is there =
        let was = was_there placed place is gives there in
        let gave = gives.each place was.0 is was.1 there in
        let before = each place was.0 was.1 in
        record { number = gave.number ∙ before.number; opened = gave.opened before.opened }

    -- committed objects alone, at the end of a list
    alone : (volume : Volume D) (place : ℕ) (objects : List Object) (others : List (List Run)) → Holds volume (runs_on place (map place_of_object objects) ++ others)
        → Holds volume (runs_on place (places objects []) ++ others)
    alone volume place objects others holds = subst (λ (l : List Placed). Holds volume (runs_on place l ++ others)) (sym (append-nil (map place_of_object objects))) holds

    module _ (objects : List Object) (added : List Addition) (others : ℕ → List (List Run)) where
      pub hold_committed : (deleted : List ℕ) (copy : ℕ) → AllGiveBack tells bytes (map place_of_object (objects_with deleted objects)) old new → AreRising 0 objects → AreLive deleted objects
          → HoldWith (places objects added) others old → HoldWith (places (without_all deleted objects ++ objects_from copy added) []) others new
      hold_committed deleted copy gives rising live hold place is there =
          let was = was_there (map place_of_object (objects_with deleted objects)) place is gives there in
          let gave = gives.each place was.0 is was.1 there in
          let left = map place_of_object (without_all deleted objects) in
          let more = map place_of_addition added in
          let out = deleted_out was.0 place deleted objects (runs_on place more ++ others place) rising live (apart was.0 place objects added (others place) (hold place was.0 was.1)) in
          let held : Holds is (runs_on place left ++ (runs_on place more ++ others place)) = gave.holds (runs_on place left ++ (runs_on place more ++ others place)) out in
          let list : map place_of_object (without_all deleted objects ++ objects_from copy added) ≡ left ++ more =
          map-append place_of_object (without_all deleted objects) (objects_from copy added) ∙ ap (λ (l : List Placed). left ++ l) (places_from copy added) in
          let joined : Holds is (runs_on place (left ++ more) ++ others place) =
          subst (Holds is) (sym (ap (λ (l : List (List Run)). l ++ others place) (runs_on-append place left more) ∙ append_assoc (runs_on place left) (runs_on place more) (others place))) held in
          alone is place (without_all deleted objects ++ objects_from copy added) (others place)
          (subst (λ (l : List Placed). Holds is (runs_on place l ++ others place)) (sym list) joined)

      pub hold_aborted : AllGiveBack tells bytes (map place_of_addition added) old new → HoldWith (places objects added) others old → HoldWith (places objects []) others new
      hold_aborted gives hold place is there =
          let was = was_there (map place_of_addition added) place is gives there in
          let gave = gives.each place was.0 is was.1 there in
          let turned = holds_swapped was.0 [] (runs_on place (map place_of_object objects)) (runs_on place (map place_of_addition added)) (others place)
          (apart was.0 place objects added (others place) (hold place was.0 was.1)) in
          alone is place objects (others place) (gave.holds (runs_on place (map place_of_object objects) ++ others place) turned)

-- ---- images

-- a call that stops before it does anything
pub ends_before : {e capacity wanted : ℕ} {before behind : Contents} {cat spare : ℕ → List ℕ → Type 0} → Ends e capacity wanted before behind cat spare cat spare
ends_before = record {
  either = λ head show f c d le image other. inl (show f f c d le le image other);
  counted = λ taken has f c le image. inl (has f c le image);
  earlier = λ f c lt image. image;
  spare_earlier = λ f d lt image. image;
}

-- ---- a list that is written through a slice

take_own : {X : Type 0} (xs ys : List X) → take (length xs) (xs ++ ys) ≡ xs
take_own [] ys = refl
take_own {X = X} (x ∷ xs) ys = ap (λ (l : List X). x ∷ l) (take_own xs ys)

pub written_back : {X : Type 0} (v : Vec X Global) (xs : List X) → length xs ≡ length v.items → (with_items v xs).items ≡ xs
written_back v xs same =
    let len : v.len ≡ length xs = omega (arith, same, v.ok.0) in
    ap (λ (n : ℕ). take n (xs ++ drop (length xs) v.items)) len ∙ take_own xs (drop (length xs) v.items)
