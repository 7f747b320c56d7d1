-- What holds of each state that some slots say.
use Rattle.std.proofs.Common.{◌≡◌, ℕ, ◌+◌, ◌-◌, ◌*◌, ◌/◌, ◌^◌, ◌<◌, ◌≤◌, min, max, Bool, true, false, nat_eq, List, [], ◌∷◌, ◌++◌, length, Option, Some, None, refl, sym, ap, ◌∙◌, subst, arith, ⊎_elim}
use Rattle.std.specs.Prelude.{◌&&◌, if◌then◌else◌, not, nat_lt, nat_le, is_none}
use Rattle.std.specs.List.{AllByRecursion}
use Rattle.std.proofs.lemmas.Bool.{ltb-true, leb-true, eqb-true, eq-eqb}
use mathlib.Core.Bool.{true≢false}
use Rattle.std.proofs.lemmas.Option.{same_Some}
use Rattle.std.proofs.lemmas.List.{length-append}
use Rattle.block_chain.specs.Blocks.{AreMaximal, blocks_in, blocks_for}
use Rattle.block_chain.specs.declared.runs.Run.{Run}
use Rattle.catalogue_slots.specs.Records.{Object, Record, add, more, del, base, IsRecord, IsObject, IsAdd, AreRuns, slots_for}
use Rattle.catalogue_replay.specs.Contents.{AreRising, IsKept, AreContents, without, has_copy}
use Rattle.catalogue_replay.specs.Journal.{Rest, State, fresh, end_of, begin_of, with_runs, continued, taken, next, follow, contents_of, Reads}

-- the copy ids of objects

abbrev pub AtMost : ℕ → List Object → Type 0
AtMost bound objects = AllByRecursion (λ object. object.copy ≤ bound) objects

abbrev pub Below : ℕ → List Object → Type 0
Below bound objects = AllByRecursion (λ object. object.copy < bound) objects

below_next : (bound next : ℕ) (objects : List Object) → bound < next → AtMost bound objects → Below next objects
below_next bound next [] lt most = tt
below_next bound next (o ∷ os) lt most = (omega (arith, most.0), below_next bound next os lt most.1)

at_most : (bound above : ℕ) (objects : List Object) → bound ≤ above → Below bound objects → AtMost above objects
at_most bound above [] le below = tt
at_most bound above (o ∷ os) le below = (omega (arith, below.0), at_most bound above os le below.1)

pub at_most-more : (bound above : ℕ) (objects : List Object) → bound ≤ above → AtMost bound objects → AtMost above objects
at_most-more bound above [] le most = tt
at_most-more bound above (o ∷ os) le most = (omega (arith, most.0), at_most-more bound above os le most.1)

at_most-push : (bound : ℕ) (objects : List Object) (object : Object) → AtMost bound objects → object.copy ≤ bound → AtMost bound (objects ++ object ∷ [])
at_most-push bound [] object most le = (le, tt)
at_most-push bound (o ∷ os) object most le = (most.0, at_most-push bound os object most.1 le)

rising-push : (least : ℕ) (objects : List Object) (object : Object) → AreRising least objects → Below object.copy objects → least < object.copy
    → AreRising least (objects ++ object ∷ [])
rising-push least [] object rising below lt = (lt, tt)
rising-push least (o ∷ os) object rising below lt = (rising.0, rising-push o.copy os object rising.1 below.1 below.0)

rising-less : (least less : ℕ) (objects : List Object) → less ≤ least → AreRising least objects → AreRising less objects
rising-less least less [] le rising = tt
rising-less least less (o ∷ os) le rising = (omega (arith, rising.0), rising.1)

rising-without : (least copy : ℕ) (objects : List Object) → AreRising least objects → AreRising least (without copy objects)
rising-without least copy [] rising = tt
rising-without least copy (o ∷ os) rising = by (nat_eq o.copy copy) (rising-without o.copy copy os rising.1)
  where
    by : (b : Bool) → AreRising o.copy (without copy os) → AreRising least (if b then os else o ∷ without copy os)
    by true rest = rising-less o.copy least os (omega (arith, rising.0)) rising.1
    by false rest = (rising.0, rest)

at_most-without : (bound copy : ℕ) (objects : List Object) → AtMost bound objects → AtMost bound (without copy objects)
at_most-without bound copy [] most = tt
at_most-without bound copy (o ∷ os) most = by (nat_eq o.copy copy) (at_most-without bound copy os most.1)
  where
    by : (b : Bool) → AtMost bound (without copy os) → AtMost bound (if b then os else o ∷ without copy os)
    by true rest = most.1
    by false rest = (most.0, rest)

-- what holds of each object

each-push : (P : Object → Type 0) (objects : List Object) (object : Object) → AllByRecursion P objects → P object → AllByRecursion P (objects ++ object ∷ [])
each-push P [] object each is = (is, tt)
each-push P (o ∷ objects) object each is = (each.0, each-push P objects object each.1 is)

pub each-without : (P : Object → Type 0) (copy : ℕ) (objects : List Object) → AllByRecursion P objects → AllByRecursion P (without copy objects)
each-without P copy [] each = tt
each-without P copy (o ∷ objects) each = by (nat_eq o.copy copy) (each-without P copy objects each.1)
  where
    by : (b : Bool) → AllByRecursion P (without copy objects) → AllByRecursion P (if b then objects else o ∷ without copy objects)
    by true others = each.1
    by false others = (each.0, others)

-- runs behind others

module _ {X : Type 0} (P : X → Type 0) where
  each-append : (xs ys : List X) → AllByRecursion P xs → AllByRecursion P ys → AllByRecursion P (xs ++ ys)
  each-append [] ys first second = second
  each-append (x ∷ xs) ys first second = (first.0, each-append xs ys first.1 second)

maximal-append : (xs ys : List Run) → AreMaximal xs → AreMaximal ys → (end_of xs ≡ begin_of ys → ⊥) → AreMaximal (xs ++ ys)
maximal-append [] ys first second apart = second
maximal-append (x ∷ []) [] first second apart = first
maximal-append (x ∷ []) (y ∷ ys) first second apart = (first.0, (λ (e : y.first ≡ x.first + x.count). apart (sym e)), second)
maximal-append (x ∷ z ∷ xs) ys first second apart = (first.0, first.1, maximal-append (z ∷ xs) ys first.2 second apart)

-- an object with more runs
more_runs : (object : Object) (runs : List Run) → IsObject object → AreRuns runs → (end_of object.runs ≡ begin_of runs → ⊥)
    → length (object.runs ++ runs) < 2 ^ 32 → IsObject (record object { runs = object.runs ++ runs })
more_runs object runs is are apart few = record {
  copy = is.copy;
  volume = is.volume;
  size = is.size;
  digest = is.digest;
  few = few;
  runs = record { fit = each-append _ object.runs runs is.runs.fit are.fit; maximal = maximal-append object.runs runs is.runs.maximal are.maximal apart };
  descriptor = is.descriptor;
  same_copy = is.same_copy;
  no_status = is.no_status;
}

-- an object with its first runs
first_runs : (count : ℕ) (object : Object) → IsAdd count object → IsObject object
first_runs count object is = record {
  copy = is.copy;
  volume = is.volume;
  size = is.size;
  digest = is.digest;
  few = omega (arith, is.here, is.count_fits);
  runs = is.runs;
  descriptor = is.descriptor;
  same_copy = is.same_copy;
  no_status = is.no_status;
}

-- what holds of each state that some slots say

-- the object whose Mores come next is above all live ones, and there is room for its Mores
pub record Awaits (used read added : ℕ) (objects : List Object) (rest : Rest) : Type 0 where
  pub some : 0 < rest.object.copy
  pub copy : rest.object.copy ≤ added
  pub above : Below rest.object.copy objects
  pub more : length rest.object.runs < rest.count
  pub room : read + (rest.count - length rest.object.runs + 509) / 510 ≤ used
  pub fits : IsObject rest.object
  pub few : rest.count < 2 ^ 32

abbrev pub RestFits : ℕ → ℕ → ℕ → List Object → Option Rest → Type 0
RestFits used read added objects None = Unit {0}
RestFits used read added objects (Some rest) = Awaits used read added objects rest

pub record IsSound (used : ℕ) (s : State) : Type 0 where
  pub rising : AreRising 0 s.objects
  pub most : AtMost s.added s.objects
  pub added : s.added ≤ s.last
  pub rest : RestFits used s.read s.added s.objects s.rest
  pub bound : s.last ≤ 2 ^ 48
  pub each : AllByRecursion IsKept s.objects

fresh_sound : (used : ℕ) → IsSound used fresh
fresh_sound used = record { rising = tt; most = tt; added = omega arith; rest = tt; bound = omega arith; each = tt }

abbrev counted : State → State
counted s = record s { read = s.read + 1 }

abbrev begun : State → Object → State
begun s object = record s { last = max s.last object.copy; added = object.copy }

abbrev with_more : Object → List Run → Object
with_more object runs = record object { runs = object.runs ++ runs }

-- an object with some of its runs
record MayFollow (used : ℕ) (s : State) (count : ℕ) (object : Object) : Type 0 where
  rising : AreRising 0 s.objects
  below : Below object.copy s.objects
  some : 0 < object.copy
  copy : object.copy ≤ s.added
  added : s.added ≤ s.last
  few : length object.runs ≤ count
  room : s.read + 1 + (count - length object.runs + 509) / 510 ≤ used
  fits : IsObject object
  count_fits : count < 2 ^ 32
  bound : s.last ≤ 2 ^ 48
  each : AllByRecursion IsKept s.objects

with_runs_sound : (used : ℕ) (s t : State) (count : ℕ) (object : Object) → MayFollow used s count object → with_runs s count object ≡ Some t → IsSound used (counted t)
with_runs_sound used s t count object may e = by (nat_eq (length object.runs) count) (nat_eq (blocks_in object.runs) (blocks_for object.size)) refl refl e
  where
    partly : (length object.runs ≡ count → ⊥) → IsSound used (counted (record s { rest = Some (record { count = count; object = object }) }))
    partly others = record {
      rising = may.rising;
      most = at_most object.copy s.added s.objects may.copy may.below;
      added = may.added;
      rest = record { some = may.some; copy = may.copy; above = may.below; more = omega (arith, may.few, others); room = may.room; fits = may.fits; few = may.count_fits };
      bound = may.bound;
      each = may.each;
    }

    whole : blocks_in object.runs ≡ blocks_for object.size → IsSound used (counted (record s { objects = s.objects ++ object ∷ []; rest = None }))
    whole blocks = record {
      rising = rising-push 0 s.objects object may.rising may.below may.some;
      most = at_most-push s.added s.objects object (at_most object.copy s.added s.objects may.copy may.below) may.copy;
      added = may.added;
      rest = tt;
      bound = may.bound;
      each = each-push IsKept s.objects object may.each (record { fits = may.fits; blocks = blocks });
    }

    by : (a b : Bool) → nat_eq (length object.runs) count ≡ a → nat_eq (blocks_in object.runs) (blocks_for object.size) ≡ b
        → (if not a then Some (record s { rest = Some (record { count = count; object = object }) })
        else (if b then Some (record s { objects = s.objects ++ object ∷ []; rest = None }) else None)) ≡ Some t
        → IsSound used (counted t)
    by false b is sums e =
        subst (λ (u : State). IsSound used (counted u)) (same_Some _ _ e)
        (partly (λ (all : length object.runs ≡ count). differ (rw all at is)))
      where
        differ : nat_eq count count ≡ false → ⊥
        differ other = cc (eq-eqb count count refl)
    by true true is sums e = subst (λ (u : State). IsSound used (counted u)) (same_Some _ _ e) (whole (eqb-true (blocks_in object.runs) (blocks_for object.size) sums))
    by true false is sums e = cc

-- one record more
module _ (used : ℕ) (s t : State) (sound : IsSound used s) where
  add_sound : (count : ℕ) (object : Object) → IsRecord (add count object) → taken used s (add count object) ≡ Some t → IsSound used (counted t)
  add_sound count object is e = by (is_none s.rest) (nat_lt s.added object.copy) (nat_le (s.read + slots_for count) used) refl refl e
    where
      by : (a b c : Bool) → nat_lt s.added object.copy ≡ b → nat_le (s.read + slots_for count) used ≡ c
          → (if a && b && c then with_runs (begun s object) count object else None) ≡ Some t → IsSound used (counted t)
      by true true true rises fits e =
          let lt : s.added < object.copy = ltb-true s.added object.copy rises in
          let le : s.read + slots_for count ≤ used = leb-true (s.read + slots_for count) used fits in
          let here : length object.runs ≡ min count 177 = is.here in
          with_runs_sound used (begun s object) t count object (record {
            rising = sound.rising;
            below = below_next s.added object.copy s.objects lt sound.most;
            some = omega (arith, lt);
            copy = omega arith;
            added = omega arith;
            few = omega (arith, here);
            room = omega (arith, here, le);
            fits = first_runs count object is;
            count_fits = is.count_fits;
            bound = omega (arith, sound.bound, is.copy);
            each = sound.each;
          }) e
      by false b c rises fits e = cc
      by true false c rises fits e = cc
      by true true false rises fits e = cc

  more_sound : (copy : ℕ) (runs : List Run) → AreRuns runs → taken used s (more copy runs) ≡ Some t → IsSound used (counted t)
  more_sound copy runs are e = by s.rest sound.rest e
    where
      by : (r : Option Rest) → RestFits used s.read s.added s.objects r → continued (record s { rest = None }) r copy runs ≡ Some t → IsSound used (counted t)
      by None fits e = cc
      by (Some rest) fits e = goes_on (nat_eq rest.object.copy copy) (nat_eq (length runs) (min 510 (rest.count - length rest.object.runs))) (nat_eq (end_of rest.object.runs) (begin_of runs)) refl refl e
        where
          goes_on : (a b c : Bool) → nat_eq (length runs) (min 510 (rest.count - length rest.object.runs)) ≡ b → nat_eq (end_of rest.object.runs) (begin_of runs) ≡ c
              → (if a && b && not c then with_runs (record s { rest = None }) rest.count (with_more rest.object runs) else None) ≡ Some t → IsSound used (counted t)
          goes_on true true false as_many apart e =
              let long : length runs ≡ min 510 (rest.count - length rest.object.runs) = eqb-true (length runs) (min 510 (rest.count - length rest.object.runs)) as_many in
              let all : length (rest.object.runs ++ runs) ≡ length rest.object.runs + length runs = length-append rest.object.runs runs in
              with_runs_sound used (record s { rest = None }) t rest.count (with_more rest.object runs) (record {
                rising = sound.rising;
                below = fits.above;
                some = fits.some;
                copy = fits.copy;
                added = sound.added;
                few = omega (arith, all, long, fits.more);
                room = omega (arith, all, long, fits.more, fits.room);
                fits = more_runs rest.object runs fits.fits are (λ (same : end_of rest.object.runs ≡ begin_of runs). true≢false (sym (eq-eqb (end_of rest.object.runs) (begin_of runs) same) ∙ apart))
                    (omega (arith, all, long, fits.few, fits.more));
                count_fits = fits.few;
                bound = sound.bound;
                each = sound.each;
              }) e
          goes_on true true true as_many apart e = cc
          goes_on true false c as_many apart e = cc
          goes_on false b c as_many apart e = cc

  none_fits : (read added : ℕ) (objects : List Object) → is_none s.rest ≡ true → RestFits used read added objects s.rest
  none_fits read added objects none = by s.rest none
    where
      by : (r : Option Rest) → is_none r ≡ true → RestFits used read added objects r
      by None none = tt
      by (Some rest) none = cc

  del_sound : (copy : ℕ) → taken used s (del copy) ≡ Some t → IsSound used (counted t)
  del_sound copy e = by (is_none s.rest) (has_copy copy s.objects) refl e
    where
      by : (a b : Bool) → is_none s.rest ≡ a → (if a && b then Some (record s { objects = without copy s.objects }) else None) ≡ Some t → IsSound used (counted t)
      by true true none e = subst (λ (u : State). IsSound used (counted u)) (same_Some _ _ e) (record {
        rising = rising-without 0 copy s.objects sound.rising;
        most = at_most-without s.added copy s.objects sound.most;
        added = sound.added;
        rest = none_fits (s.read + 1) s.added (without copy s.objects) none;
        bound = sound.bound;
        each = each-without IsKept copy s.objects sound.each;
      })
      by true false none e = cc
      by false b none e = cc

  base_sound : (last : ℕ) → last ≤ 2 ^ 48 → taken used s (base last) ≡ Some t → IsSound used (counted t)
  base_sound last le e = by (nat_eq s.read 0) (is_none s.rest) refl e
    where
      by : (a b : Bool) → is_none s.rest ≡ b → (if a && b then Some (record s { last = max s.last last }) else None) ≡ Some t → IsSound used (counted t)
      by true true none e = subst (λ (u : State). IsSound used (counted u)) (same_Some _ _ e) (record {
        rising = sound.rising;
        most = sound.most;
        added = omega (arith, sound.added);
        rest = none_fits (s.read + 1) s.added s.objects none;
        bound = omega (arith, sound.bound, le);
        each = sound.each;
      })
      by true false none e = cc
      by false b none e = cc

taken_sound : (used : ℕ) (s t : State) (x : Record) → IsSound used s → IsRecord x → taken used s x ≡ Some t → IsSound used (counted t)
taken_sound used s t (add count object) sound is e = add_sound used s t sound count object is e
taken_sound used s t (more copy runs) sound is e = more_sound used s t sound copy runs is.runs e
taken_sound used s t (del copy) sound is e = del_sound used s t sound copy e
taken_sound used s t (base last) sound is e = base_sound used s t sound last is e

follow_sound : (used : ℕ) (s t : State) (xs : List Record) → IsSound used s → AllByRecursion IsRecord xs → follow used s xs ≡ Some t → IsSound used t
follow_sound used s t [] sound each e = subst (IsSound used) (same_Some _ _ e) sound
follow_sound used s t (x ∷ xs) sound each e =
    through (taken used s x) refl e (λ (u : State) (h : taken used s x ≡ Some u). taken_sound used s u x sound each.0 h)
    (λ (u : State) (h : follow used u xs ≡ Some t) (is : IsSound used u). follow_sound used u t xs is each.1 h)
  where
    through : (o : Option State) → taken used s x ≡ o → next (next o (λ u. Some (record u { read = u.read + 1 }))) (λ u. follow used u xs) ≡ Some t
        → ((u : State) → taken used s x ≡ Some u → IsSound used (counted u))
        → ((u : State) → follow used u xs ≡ Some t → IsSound used u → IsSound used t) → IsSound used t
    through None is e one rest = cc
    through (Some u) is e one rest = rest (counted u) e (one u is)

pub read_sound : (used : ℕ) (bytes : List ℕ) (s : State) → Reads used bytes s → IsSound used s
read_sound used bytes s reads = follow_sound used fresh s reads.records (fresh_sound used) reads.each reads.read

-- once all slots are read, no object waits for its Mores
pub none_waits : (used : ℕ) (s : State) → IsSound used s → s.read ≡ used → s.rest ≡ None
none_waits used s sound all = by s.rest sound.rest
  where
    by : (r : Option Rest) → RestFits used s.read s.added s.objects r → r ≡ None
    by None fits = refl
    by (Some rest) fits = absurd (omega (arith, fits.more, fits.room, all))

pub most_last : (used : ℕ) (s : State) → IsSound used s → AtMost s.last s.objects
most_last used s sound = at_most-more s.added s.last s.objects sound.added sound.most

-- what they say are contents
pub contents_sound : (used : ℕ) (bytes : List ℕ) (s : State) → Reads used bytes s → AreContents (contents_of s)
contents_sound used bytes s reads = let sound = read_sound used bytes s reads in record {
  rising = sound.rising;
  below = most_last used s sound;
  bound = sound.bound;
  each = sound.each;
}
