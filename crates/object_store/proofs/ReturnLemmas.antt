-- Blocks of objects that go back to their volumes, one object after another.
use Rattle.std.proofs.Common.{◌≡◌, ◌≢◌, ℕ, zero, suc, ◌+◌, ◌<◌, Bool, true, false, nat_eq, List, [], ◌∷◌, ◌++◌, length, get_or, take, drop, slice_set, map, Option, Some, None, inl, inr, refl, sym, ap, ◌∙◌, subst, arith, eq-eqb, ne_eqb, append_assoc, length-set}
use Rattle.std.proofs.lemmas.Bool.{cases_eq}
use Rattle.std.proofs.lemmas.Grind.{flat_map-append}
use Rattle.std.proofs.lemmas.List.{append-nil, take-append-drop, take_more, drop_more, map_push}
use Rattle.std.proofs.lemmas.Option.{slice_get_within}
use Rattle.std.specs.List.{AllByRecursion}
use Rattle.std.specs.Prelude.{slice_get, cond}
use Rattle.block_chain.specs.Blocks.{ArePartition, AreApart, blocks_of_runs}
use Rattle.block_chain.specs.declared.runs.Run.{Run}
use Rattle.catalogue_slots.specs.Records.{Object}
use Rattle.session_machine.specs.Calls.{object_with}
use Rattle.object_volume.specs.Volumes.{disk_of, number_of, table_of, blocks_in, free_of, blocks_sent, blocks_or_none, IsOpen, IsIdle, IsLive, Sends}
use Rattle.object_volume.specs.declared.volume.Volume.{Volume}
use Rattle.object_store.specs.Stores.{OfEach}
use Rattle.object_store.specs.Holdings.{Holds, blocks_of_all}
use Rattle.object_store.specs.Reading.{ChangesOne}
use Rattle.object_store.specs.declared.releasing.ObjectBlocks.{ObjectBlocks}
use Rattle.object_store.specs.Returns.{Placed, place_of_object, place_of_blocks, listed, objects_with, runs_on, CanRelease, CanGiveBack, GivesBack, AllGiveBack, Cancels}
use Rattle.object_store.proofs.ReleaseLemmas.{holds_released}

-- ---- places of a list

pub slice_get-set_same : {X : Type 0} (xs : List X) (k : ℕ) (x : X) → k < length xs → slice_get (slice_set xs k x) k ≡ Some x
slice_get-set_same [] k x lt = absurd (omega arith)
slice_get-set_same (y ∷ xs) zero x lt = refl
slice_get-set_same (y ∷ xs) (suc k) x lt = slice_get-set_same xs k x (omega arith)

pub slice_get-set_other : {X : Type 0} (xs : List X) (j k : ℕ) (x : X) → j ≢ k → slice_get (slice_set xs k x) j ≡ slice_get xs j
slice_get-set_other [] j k x other = refl
slice_get-set_other (y ∷ xs) zero zero x other = absurd (other refl)
slice_get-set_other (y ∷ xs) zero (suc k) x other = refl
slice_get-set_other (y ∷ xs) (suc j) zero x other = refl
slice_get-set_other (y ∷ xs) (suc j) (suc k) x other = slice_get-set_other xs j k x (λ (e : j ≡ k). other (ap suc e))

pub get-within : {X : Type 0} (xs : List X) (k : ℕ) → k < length xs → (x : X) × (slice_get xs k ≡ Some x)
get-within [] k lt = absurd (omega arith)
get-within (x ∷ xs) zero lt = (x, refl)
get-within (x ∷ xs) (suc k) lt = get-within xs k (omega arith)

-- a place has one value
pub one_value : {X : Type 0} (xs : List X) (k : ℕ) (x y : X) → slice_get xs k ≡ Some x → slice_get xs k ≡ Some y → x ≡ y
one_value xs k x y first second = cc

each_at : {X : Type 0} (P : X → Type 0) (xs : List X) (k : ℕ) (x : X) → AllByRecursion P xs → k < length xs → get_or xs k x ≡ x → P x
each_at P [] k x each lt is = absurd (omega arith)
each_at P (y ∷ xs) zero x each lt is = subst P is each.0
each_at P (y ∷ xs) (suc k) x each lt is = each_at P xs k x each.1 (omega arith) is

-- ---- objects by their volumes

pub runs_on-append : (number : ℕ) (xs ys : List Placed) → runs_on number (xs ++ ys) ≡ runs_on number xs ++ runs_on number ys
runs_on-append number [] ys = refl
runs_on-append number (x ∷ xs) ys = by (runs_on-append number xs ys) (nat_eq x.volume number)
  where
    by : runs_on number (xs ++ ys) ≡ runs_on number xs ++ runs_on number ys → (b : Bool)
        → cond b (x.runs ∷ runs_on number (xs ++ ys)) (runs_on number (xs ++ ys)) ≡ cond b (x.runs ∷ runs_on number xs) (runs_on number xs) ++ runs_on number ys
    by later true = ap (λ (l : List (List Run)). x.runs ∷ l) later
    by later false = later

pub runs_on-here : (number : ℕ) (x : Placed) (xs : List Placed) → number ≡ x.volume → runs_on number (x ∷ xs) ≡ x.runs ∷ runs_on number xs
runs_on-here number x xs same = rw (eq-eqb x.volume number (sym same)) refl

pub runs_on-elsewhere : (number : ℕ) (x : Placed) (xs : List Placed) → number ≢ x.volume → runs_on number (x ∷ xs) ≡ runs_on number xs
runs_on-elsewhere number x xs other = rw (ne_eqb x.volume number (λ (e : x.volume ≡ number). other (sym e))) refl

pub runs_on-more : (number : ℕ) (placed : List Placed) (i : ℕ) (one : Placed) → i < length placed → get_or placed i one ≡ one
    → runs_on number (take (i + 1) placed) ≡ runs_on number (take i placed) ++ runs_on number (one ∷ [])
runs_on-more number placed i one lt is =
    ap (runs_on number) (take_more placed i one lt ∙ ap (λ (x : Placed). take i placed ++ x ∷ []) is) ∙ runs_on-append number (take i placed) (one ∷ [])

module _ {D : Type 0} (tells : Bool) (bytes : D → List ℕ) where
  -- ---- one volume

  pub gives_nothing : (volume : Volume D) → GivesBack tells bytes [] volume volume
  gives_nothing volume = record {
    disk = refl;
    number = refl;
    count = refl;
    opened = λ is. is;
    sends = λ message is. is;
    idle = λ is. is;
    free = sym (append-nil (free_of volume));
    holds = λ others is. is;
  }

  pub gives_both : (first second : List (List Run)) (a b c : Volume D) → GivesBack tells bytes first a b → GivesBack tells bytes second b c → GivesBack tells bytes (first ++ second) a c
  gives_both first second a b c one two = record {
    disk = two.disk ∙ one.disk;
    number = two.number ∙ one.number;
    count = two.count ∙ one.count;
    opened = λ is. two.opened (one.opened is);
    sends = λ message is. two.sends message (one.sends message is);
    idle = λ is. two.idle (one.idle is);
    free = two.free ∙ ap (λ (l : List ℕ). l ++ blocks_of_all second) one.free ∙ append_assoc (free_of a) (blocks_of_all first) (blocks_of_all second)
        ∙ ap (λ (l : List ℕ). free_of a ++ l) (sym (flat_map-append blocks_of_runs first second));
    holds = λ others is. two.holds others (one.holds (second ++ others) (subst (Holds a) (append_assoc first second others) is));
  }

  pub gives_release : (old new : Volume D) (runs : List Run) → IsOpen new → disk_of new ≡ disk_of old → number_of new ≡ number_of old
      → ((message : List ℕ) → Sends tells bytes old message → Sends tells bytes new message) → (IsIdle old → IsIdle new) → free_of new ≡ free_of old ++ blocks_of_runs runs
      → blocks_in new ≡ blocks_in old → blocks_sent new ≡ blocks_sent old → ((others : List Run) → IsLive old others → AreApart (blocks_of_runs runs) (blocks_of_runs others) → IsLive new others)
      → ((others : List ℕ) → ArePartition (blocks_in old) (free_of old ++ (blocks_of_runs runs ++ others)) → ArePartition (blocks_in new) (free_of new ++ others))
      → GivesBack tells bytes (runs ∷ []) old new
  gives_release old new runs opened disk number sends idle free count sent live parted = record {
    disk = disk;
    number = number;
    count = count;
    opened = λ was. opened;
    sends = sends;
    idle = idle;
    free = free ∙ ap (λ (l : List ℕ). free_of old ++ l) (sym (append-nil (blocks_of_runs runs)));
    holds = λ others is. holds_released old new runs others live parted sent is;
  }

  -- ---- all volumes

  pub all_give_nothing : (volumes : List (Volume D)) → AllGiveBack tells bytes [] volumes volumes
  all_give_nothing volumes = record {
    count = refl;
    each = λ place was is there then. subst (GivesBack tells bytes [] was) (one_value volumes place was is there then) (gives_nothing was);
  }

  -- one object more
  pub all_give_more : (placed : List Placed) (i : ℕ) (one : Placed) (old now new : List (Volume D)) → i < length placed → get_or placed i one ≡ one
      → AllGiveBack tells bytes (take i placed) old now → ChangesOne (GivesBack tells bytes (one.runs ∷ [])) one.volume now new → AllGiveBack tells bytes (take (i + 1) placed) old new
  all_give_more placed i one old now new lt is gives changes = record {
    count = ap length changes.changed ∙ length-set now one.volume changes.is ∙ gives.count;
    each = λ place was now_is before behind. elim (cases_eq place one.volume) [
      | inl same ↦ here place was now_is same before behind
      | inr other ↦ elsewhere place was now_is other before behind
    ];
  }
    where
      lt_there : one.volume < length now
      lt_there = slice_get_within now one.volume changes.was changes.there

      here : (place : ℕ) (was is : Volume D) → place ≡ one.volume → slice_get old place ≡ Some was → slice_get new place ≡ Some is
          → GivesBack tells bytes (runs_on place (take (i + 1) placed)) was is
      here place was last same before behind =
          let set : slice_get new place ≡ Some changes.is = ap (slice_get new) same ∙ ap (λ (l : List (Volume D)). slice_get l one.volume) changes.changed ∙ slice_get-set_same now one.volume changes.is lt_there in
          let ends : changes.is ≡ last = one_value new place changes.is last set behind in
          let mid : slice_get now place ≡ Some changes.was = ap (slice_get now) same ∙ changes.there in
          let both = gives_both (runs_on place (take i placed)) (one.runs ∷ []) was changes.was changes.is (gives.each place was changes.was before mid) changes.by in
          let list : runs_on place (take (i + 1) placed) ≡ runs_on place (take i placed) ++ (one.runs ∷ []) =
          runs_on-more place placed i one lt is ∙ ap (λ (l : List (List Run)). runs_on place (take i placed) ++ l) (runs_on-here place one [] same) in
          subst (λ (l : List (List Run)). GivesBack tells bytes l was last) (sym list) (subst (GivesBack tells bytes (runs_on place (take i placed) ++ (one.runs ∷ [])) was) ends both)

      elsewhere : (place : ℕ) (was is : Volume D) → place ≢ one.volume → slice_get old place ≡ Some was → slice_get new place ≡ Some is
          → GivesBack tells bytes (runs_on place (take (i + 1) placed)) was is
      elsewhere place was last other before behind =
          let mid : slice_get now place ≡ Some last = sym (slice_get-set_other now place one.volume changes.is other) ∙ ap (λ (l : List (Volume D)). slice_get l place) (sym changes.changed) ∙ behind in
          let list : runs_on place (take (i + 1) placed) ≡ runs_on place (take i placed) =
          runs_on-more place placed i one lt is ∙ ap (λ (l : List (List Run)). runs_on place (take i placed) ++ l) (runs_on-elsewhere place one [] other) ∙ append-nil (runs_on place (take i placed)) in
          subst (λ (l : List (List Run)). GivesBack tells bytes l was last) (sym list) (gives.each place was last before mid)

  -- the next object may go back
  module _ (placed : List Placed) (i : ℕ) (one : Placed) (old now : List (Volume D)) (lt : i < length placed) (is : get_or placed i one ≡ one) where
    pub next_within : CanGiveBack placed old → AllGiveBack tells bytes (take i placed) old now → one.volume < length now
    next_within can gives = let there : one.volume < length old = each_at (λ (x : Placed). x.volume < length old) placed i one can.within lt is in omega (arith, there, gives.count)

    pub next_live : CanGiveBack placed old → AllGiveBack tells bytes (take i placed) old now → OfEach (λ place volume. place ≡ one.volume → CanRelease one.runs volume) now
    next_live can gives place volume there same =
        let before = slice_get_within now place volume there in
        let has : (v : Volume D) × (slice_get old place ≡ Some v) = get-within old place (omega (arith, before, gives.count)) in
        let gave = gives.each place has.0 volume has.1 there in
        let among = can.holds place has.0 has.1 in
        let parts : runs_on place placed ≡ runs_on place (take i placed) ++ runs_on place (drop i placed) =
        ap (runs_on place) (sym (take-append-drop i placed)) ∙ runs_on-append place (take i placed) (drop i placed) in
        let next : runs_on place (drop i placed) ≡ one.runs ∷ runs_on place (drop (i + 1) placed) =
        ap (runs_on place) (drop_more placed i one lt ∙ ap (λ (x : Placed). x ∷ drop (i + 1) placed) is) ∙ runs_on-here place one (drop (i + 1) placed) same in
        let held : Holds has.0 (runs_on place (take i placed) ++ (runs_on place (drop i placed) ++ among.others)) =
        subst (Holds has.0) (ap (λ (l : List (List Run)). l ++ among.others) parts ∙ append_assoc (runs_on place (take i placed)) (runs_on place (drop i placed)) among.others) among.holds in
        let left : Holds volume (one.runs ∷ (runs_on place (drop (i + 1) placed) ++ among.others)) =
        subst (λ (l : List (List Run)). Holds volume (l ++ among.others)) next (gave.holds (runs_on place (drop i placed) ++ among.others) held) in
        record { opened = gave.opened (can.opened place has.0 has.1); live = left.each.0 }

-- ---- objects by their copy ids

pub objects_with-more : (copies : List ℕ) (i copy : ℕ) (objects : List Object) → i < length copies → copy ≡ get_or copies i 0
    → objects_with (take (i + 1) copies) objects ≡ objects_with (take i copies) objects ++ listed (object_with copy objects)
objects_with-more copies i copy objects lt is =
    ap (λ (l : List ℕ). objects_with l objects) (take_more copies i 0 lt ∙ ap (λ (x : ℕ). take i copies ++ x ∷ []) (sym is))
    ∙ flat_map-append (λ (x : ℕ). listed (object_with x objects)) (take i copies) (copy ∷ [])
    ∙ ap (λ (l : List Object). objects_with (take i copies) objects ++ l) (append-nil (listed (object_with copy objects)))

module _ (copies : List ℕ) (i copy : ℕ) (objects : List Object) (lt : i < length copies) (is : copy ≡ get_or copies i 0) (old : List ObjectBlocks)
    (so_far : map place_of_blocks old ≡ map place_of_object (objects_with (take i copies) objects)) where
  -- one that is found is listed
  pub placed_one : (new : List ObjectBlocks) (object : Object) (blocks : ObjectBlocks) → object_with copy objects ≡ Some object → place_of_blocks blocks ≡ place_of_object object
      → new ≡ old ++ blocks ∷ [] → map place_of_blocks new ≡ map place_of_object (objects_with (take (i + 1) copies) objects)
  placed_one new object blocks found same pushed =
      ap (map place_of_blocks) pushed ∙ map_push place_of_blocks old blocks ∙ ap (λ (l : List Placed). l ++ place_of_blocks blocks ∷ []) so_far
      ∙ ap (λ (x : Placed). map place_of_object (objects_with (take i copies) objects) ++ x ∷ []) same
      ∙ sym (map_push place_of_object (objects_with (take i copies) objects) object)
      ∙ ap (λ (o : Option Object). map place_of_object (objects_with (take i copies) objects ++ listed o)) (sym found)
      ∙ ap (map place_of_object) (sym (objects_with-more copies i copy objects lt is))

  pub placed_none : (new : List ObjectBlocks) → object_with copy objects ≡ None → new ≡ old → map place_of_blocks new ≡ map place_of_object (objects_with (take (i + 1) copies) objects)
  placed_none new none same =
      ap (map place_of_blocks) same ∙ so_far ∙ ap (map place_of_object) (sym (append-nil (objects_with (take i copies) objects)))
      ∙ ap (λ (o : Option Object). map place_of_object (objects_with (take i copies) objects ++ listed o)) (sym none)
      ∙ ap (map place_of_object) (sym (objects_with-more copies i copy objects lt is))

-- ---- an object that is given up

module _ {D : Type 0} where
  each_live : (old new : Volume D) → ((runs : List Run) → IsLive old runs → IsLive new runs) → (objects : List (List Run)) → AllByRecursion (IsLive old) objects
      → AllByRecursion (IsLive new) objects
  each_live old new live [] each = tt
  each_live old new live (runs ∷ objects) each = (live runs each.0, each_live old new live objects each.1)

  pub cancels : (old new : Volume D) → IsOpen new → IsIdle new → disk_of new ≡ disk_of old → number_of new ≡ number_of old → free_of new ≡ free_of old ++ blocks_sent old
      → blocks_in new ≡ blocks_in old → ((runs : List Run) → IsLive old runs → IsLive new runs)
      → ((others : List ℕ) → ArePartition (blocks_in old) (free_of old ++ (blocks_sent old ++ others)) → ArePartition (blocks_in new) (free_of new ++ others)) → Cancels old new
  cancels old new opened idle disk number free count live parted = record {
    disk = disk;
    number = number;
    count = count;
    opened = opened;
    idle = idle;
    free = free;
    holds = λ objects holds. record {
      each = each_live old new live objects holds.each;
      parted = subst (λ (sent : List ℕ). ArePartition (blocks_in new) (free_of new ++ (sent ++ blocks_of_all objects))) (sym (none_sent new idle)) (parted (blocks_of_all objects) holds.parted);
    };
  }
    where
      none_sent : (volume : Volume D) → IsIdle volume → blocks_sent volume ≡ []
      none_sent volume is = ap (blocks_or_none (table_of volume)) is
