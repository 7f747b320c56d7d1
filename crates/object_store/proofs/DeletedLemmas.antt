-- Objects that a transaction deletes, among the live objects of their volumes.
use Rattle.std.proofs.Common.{◌≡◌, ℕ, ◌+◌, ◌≤◌, Bool, true, false, nat_eq, List, [], ◌∷◌, ◌++◌, map, Option, Some, refl, sym, ap, ◌∙◌, subst, arith, eqb-true, ne_eqb, append_assoc}
use Rattle.std.proofs.lemmas.Grind.{flat_map-append}
use Rattle.std.proofs.lemmas.List.{map-append}
use Rattle.std.specs.List.{AllByRecursion}
use Rattle.std.specs.Prelude.{◌||◌, cond}
use Rattle.block_chain.specs.Blocks.{times, blocks_of_runs}
use Rattle.block_chain.specs.BlocksLaws.{times-append, ArePartition-moved}
use Rattle.block_chain.specs.declared.runs.Run.{Run}
use Rattle.catalogue_slots.specs.Records.{Object}
use Rattle.catalogue_replay.specs.Contents.{has_copy, without, AreRising}
use Rattle.catalogue_journal.specs.Transactions.{AreLive, without_all}
use Rattle.object_volume.specs.Volumes.{blocks_in, free_of, blocks_sent, IsLive}
use Rattle.object_volume.specs.declared.volume.Volume.{Volume}
use Rattle.session_machine.specs.Calls.{object_with}
use Rattle.object_store.specs.Holdings.{Holds, blocks_of_all}
use Rattle.object_store.specs.Returns.{place_of_object, runs_on, listed, objects_with}
use Rattle.object_store.proofs.ReturnLemmas.{runs_on-append}

-- ---- copy ids

rising_from : (low below : ℕ) (objects : List Object) → low ≤ below → AreRising below objects → AreRising low objects
rising_from low below [] le rising = tt
rising_from low below (o ∷ objects) le rising = (omega (arith, rising.0), rising.1)

rising_without : (below c : ℕ) (objects : List Object) → AreRising below objects → AreRising below (without c objects)
rising_without below c [] rising = tt
rising_without below c (o ∷ objects) rising = by (rising_without o.copy c objects rising.1) (nat_eq o.copy c)
  where
    by : AreRising o.copy (without c objects) → (b : Bool) → AreRising below (cond b objects (o ∷ without c objects))
    by later true = rising_from below o.copy objects (omega (arith, rising.0)) rising.1
    by later false = (rising.0, later)

-- no id is below those that rise
none_below : (c below : ℕ) (objects : List Object) → c ≤ below → AreRising below objects → has_copy c objects ≡ false
none_below c below [] le rising = refl
none_below c below (o ∷ objects) le rising =
    let other : nat_eq o.copy c ≡ false = ne_eqb o.copy c (λ (e : o.copy ≡ c). absurd (omega (arith, rising.0, e, le))) in
    rw other (none_below c o.copy objects (omega (arith, rising.0, le)) rising.1)

-- an id is there once
gone : (c below : ℕ) (objects : List Object) → AreRising below objects → has_copy c (without c objects) ≡ false
gone c below [] rising = refl
gone c below (o ∷ objects) rising = by (gone c o.copy objects rising.1) (nat_eq o.copy c) refl
  where
    by : has_copy c (without c objects) ≡ false → (b : Bool) → nat_eq o.copy c ≡ b → has_copy c (cond b objects (o ∷ without c objects)) ≡ false
    by later true is = none_below c o.copy objects (omega (arith, eqb-true o.copy c is)) rising.1
    by later false is = rw is later

or_later : (a b c : Bool) → (b ≡ true → c ≡ true) → (a || b) ≡ true → (a || c) ≡ true
or_later true b c later is = refl
or_later false b c later is = later is

or_right : (a b : Bool) → b ≡ true → (a || b) ≡ true
or_right true b is = refl
or_right false b is = is

has_before : (c x : ℕ) (objects : List Object) → has_copy x (without c objects) ≡ true → has_copy x objects ≡ true
has_before c x [] has = has
has_before c x (o ∷ objects) has = by (has_before c x objects) (nat_eq o.copy c) has
  where
    by : (has_copy x (without c objects) ≡ true → has_copy x objects ≡ true) → (b : Bool) → has_copy x (cond b objects (o ∷ without c objects)) ≡ true
        → (nat_eq o.copy x || has_copy x objects) ≡ true
    by later true is = or_right (nat_eq o.copy x) (has_copy x objects) is
    by later false is = or_later (nat_eq o.copy x) (has_copy x (without c objects)) (has_copy x objects) later is

-- each of the deleted ones is there, and another than the first
differs : (c x : ℕ) (objects : List Object) → has_copy c objects ≡ false → has_copy x objects ≡ true → nat_eq c x ≡ false
differs c x objects none has = ne_eqb c x (λ (e : c ≡ x). cc (ap (λ (y : ℕ). has_copy y objects) e))

never : (b : Bool) → (b ≡ true → ⊥) → b ≡ false
never true not_so = absurd (not_so refl)
never false not_so = refl

still_none : (c x : ℕ) (objects : List Object) → has_copy c objects ≡ false → has_copy c (without x objects) ≡ false
still_none c x objects none = never (has_copy c (without x objects)) (λ (e : has_copy c (without x objects) ≡ true). cc (has_before x c objects e))

others_differ : (c : ℕ) (copies : List ℕ) (objects : List Object) → has_copy c objects ≡ false → AreLive copies objects → AllByRecursion (λ x. nat_eq c x ≡ false) copies
others_differ c [] objects none live = tt
others_differ c (x ∷ copies) objects none live =
    (differs c x objects none live.0, others_differ c copies (without x objects) (still_none c x objects none) live.1)

object_with-without : (c x : ℕ) (objects : List Object) → nat_eq c x ≡ false → object_with x (without c objects) ≡ object_with x objects
object_with-without c x [] other = refl
object_with-without c x (o ∷ objects) other = by (object_with-without c x objects other) (nat_eq o.copy c) refl
  where
    by : object_with x (without c objects) ≡ object_with x objects → (b : Bool) → nat_eq o.copy c ≡ b
        → object_with x (cond b objects (o ∷ without c objects)) ≡ cond (nat_eq o.copy x) (Some o) (object_with x objects)
    by later true is =
        let own : nat_eq o.copy x ≡ false = ap (λ (y : ℕ). nat_eq y x) (eqb-true o.copy c is) ∙ other in
        rw own refl
    by later false is = ap (λ (r : Option Object). cond (nat_eq o.copy x) (Some o) r) later

objects_with-without : (c : ℕ) (copies : List ℕ) (objects : List Object) → AllByRecursion (λ x. nat_eq c x ≡ false) copies
    → objects_with copies (without c objects) ≡ objects_with copies objects
objects_with-without c [] objects differ = refl
objects_with-without c (x ∷ copies) objects differ =
    ap (λ (o : Option Object). listed o ++ objects_with copies (without c objects)) (object_with-without c x objects differ.0)
    ∙ ap (λ (l : List Object). listed (object_with x objects) ++ l) (objects_with-without c copies objects differ.1)

-- ---- live objects in another order

each_front : {X : Type 0} (P : X → Type 0) (xs ys : List X) → AllByRecursion P (xs ++ ys) → AllByRecursion P xs
each_front P [] ys each = tt
each_front P (x ∷ xs) ys each = (each.0, each_front P xs ys each.1)

each_behind : {X : Type 0} (P : X → Type 0) (xs ys : List X) → AllByRecursion P (xs ++ ys) → AllByRecursion P ys
each_behind P [] ys each = each
each_behind P (x ∷ xs) ys each = each_behind P xs ys each.1

each_joined : {X : Type 0} (P : X → Type 0) (xs ys : List X) → AllByRecursion P xs → AllByRecursion P ys → AllByRecursion P (xs ++ ys)
each_joined P [] ys front behind = behind
each_joined P (x ∷ xs) ys front behind = (front.0, each_joined P xs ys front.1 behind)

times_all : (block : ℕ) (xs ys : List (List Run)) → times block (blocks_of_all (xs ++ ys)) ≡ times block (blocks_of_all xs) + times block (blocks_of_all ys)
times_all block xs ys = ap (times block) (flat_map-append blocks_of_runs xs ys) ∙ times-append block (blocks_of_all xs) (blocks_of_all ys)

module _ {D : Type 0} (volume : Volume D) where
  pub holds_swapped : (front a b behind : List (List Run)) → Holds volume (front ++ (a ++ (b ++ behind))) → Holds volume (front ++ (b ++ (a ++ behind)))
  holds_swapped front a b behind holds =
      let P : List Run → Type 0 = IsLive volume in
      let first = each_front P front (a ++ (b ++ behind)) holds.each in
      let rest = each_behind P front (a ++ (b ++ behind)) holds.each in
      let own = each_front P a (b ++ behind) rest in
      let more = each_behind P a (b ++ behind) rest in
      record {
        each = each_joined P front (b ++ (a ++ behind)) first
            (each_joined P b (a ++ behind) (each_front P b behind more) (each_joined P a behind own (each_behind P b behind more)));
        parted = ArePartition-moved (blocks_in volume) (blocks_in volume) (free_of volume ++ (blocks_sent volume ++ blocks_of_all (front ++ (a ++ (b ++ behind)))))
            (free_of volume ++ (blocks_sent volume ++ blocks_of_all (front ++ (b ++ (a ++ behind))))) refl
            (λ block. omega (
              arith,
              times-append block (free_of volume) (blocks_sent volume ++ blocks_of_all (front ++ (a ++ (b ++ behind)))),
              times-append block (blocks_sent volume) (blocks_of_all (front ++ (a ++ (b ++ behind)))),
              times_all block front (a ++ (b ++ behind)),
              times_all block a (b ++ behind),
              times_all block b behind,
              times-append block (free_of volume) (blocks_sent volume ++ blocks_of_all (front ++ (b ++ (a ++ behind)))),
              times-append block (blocks_sent volume) (blocks_of_all (front ++ (b ++ (a ++ behind)))),
              times_all block front (b ++ (a ++ behind)),
              times_all block b (a ++ behind),
              times_all block a behind,
            ))
            holds.parted;
      }

  module _ (number : ℕ) where
    -- the runs of objects on the volume of this number
    abbrev runs_of : List Object → List (List Run)
    runs_of objects = runs_on number (map place_of_object objects)

    runs_of-append : (xs ys : List Object) → runs_of (xs ++ ys) ≡ runs_of xs ++ runs_of ys
    runs_of-append xs ys = ap (runs_on number) (map-append place_of_object xs ys) ∙ runs_on-append number (map place_of_object xs) (map place_of_object ys)

    -- the first of two parts, and the second with what is behind
    parts : (xs ys : List Object) (others : List (List Run)) → runs_of (xs ++ ys) ++ others ≡ runs_of xs ++ (runs_of ys ++ others)
    parts xs ys others = ap (λ (l : List (List Run)). l ++ others) (runs_of-append xs ys) ∙ append_assoc (runs_of xs) (runs_of ys) others

    -- one object is taken out
    one_out : (c : ℕ) (objects : List Object) (others : List (List Run)) → has_copy c objects ≡ true → Holds volume (runs_of objects ++ others)
        → Holds volume (runs_of (listed (object_with c objects)) ++ (runs_of (without c objects) ++ others))
    one_out c [] others has holds = cc
    one_out c (o ∷ objects) others has holds = by (λ (more : List (List Run)) (has : has_copy c objects ≡ true). one_out c objects more has) (nat_eq o.copy c) has
      where
        by : ((more : List (List Run)) → has_copy c objects ≡ true → Holds volume (runs_of objects ++ more) → Holds volume (runs_of (listed (object_with c objects)) ++ (runs_of (without c objects) ++ more)))
            → (b : Bool) → (b || has_copy c objects) ≡ true
            → Holds volume (runs_of (listed (cond b (Some o) (object_with c objects))) ++ (runs_of (cond b objects (o ∷ without c objects)) ++ others))
        by later true is = subst (Holds volume) (parts (o ∷ []) objects others) holds
        by later false is =
            let apart : Holds volume (runs_of (o ∷ []) ++ (runs_of objects ++ others)) = subst (Holds volume) (parts (o ∷ []) objects others) holds in
            let turned = holds_swapped [] (runs_of (o ∷ [])) (runs_of objects) others apart in
            let out = later (runs_of (o ∷ []) ++ others) is turned in
            let back = holds_swapped (runs_of (listed (object_with c objects))) (runs_of (without c objects)) (runs_of (o ∷ [])) others out in
            subst (λ (l : List (List Run)). Holds volume (runs_of (listed (object_with c objects)) ++ l)) (sym (parts (o ∷ []) (without c objects) others)) back

    -- the objects that are deleted, and those that are left
    pub deleted_out : (copies : List ℕ) (objects : List Object) (others : List (List Run)) → AreRising 0 objects → AreLive copies objects → Holds volume (runs_of objects ++ others)
        → Holds volume (runs_of (objects_with copies objects) ++ (runs_of (without_all copies objects) ++ others))
    deleted_out [] objects others rising live holds = holds
    deleted_out (c ∷ copies) objects others rising live holds =
        let first = listed (object_with c objects) in
        let left = without c objects in
        let one = one_out c objects others live.0 holds in
        let turned = holds_swapped [] (runs_of first) (runs_of left) others one in
        let rest = deleted_out copies left (runs_of first ++ others) (rising_without 0 c objects rising) live.1 turned in
        let same : objects_with copies left ≡ objects_with copies objects = objects_with-without c copies objects (others_differ c copies left (gone c 0 objects rising) live.1) in
        let named : Holds volume (runs_of (objects_with copies objects) ++ (runs_of (without_all copies left) ++ (runs_of first ++ others))) =
        subst (λ (l : List Object). Holds volume (runs_of l ++ (runs_of (without_all copies left) ++ (runs_of first ++ others)))) same rest in
        let nearer = holds_swapped (runs_of (objects_with copies objects)) (runs_of (without_all copies left)) (runs_of first) others named in
        let front = holds_swapped [] (runs_of (objects_with copies objects)) (runs_of first) (runs_of (without_all copies left) ++ others) nearer in
        subst (Holds volume) (sym (parts first (objects_with copies objects) (runs_of (without_all copies left) ++ others))) front
