-- Objects that are found by their copy ids.
use Rattle.std.proofs.Common.{◌≡◌, ℕ, zero, suc, ◌<◌, Bool, true, false, nat_eq, List, [], ◌∷◌, length, get_or, Option, Some, None, refl, ap, ◌∙◌, arith, eq-eqb, ne_eqb, Bor}
use Rattle.std.specs.Prelude.{IfSome, Contains, ◌||◌, cond}
use Rattle.catalogue_slots.specs.Records.{Object}
use Rattle.catalogue_slots.specs.Views.{object_of}
use Rattle.catalogue_slots.specs.declared.entry.ObjectEntry.{ObjectEntry}
use Rattle.catalogue_replay.specs.Contents.{has_copy, AreRising}
use Rattle.session_machine.specs.Calls.{object_with}

above : (below : ℕ) (objects : List Object) (k : ℕ) (d : Object) → AreRising below objects → k < length objects → below < (get_or objects k d).copy
above below [] k d rising lt = absurd (omega arith)
above below (o ∷ objects) zero d rising lt = rising.0
above below (o ∷ objects) (suc k) d rising lt =
    let next : o.copy < (get_or objects k d).copy = above o.copy objects k d rising.1 (omega arith) in
    omega (arith, next, rising.0)

-- copy ids that rise name one object each
object_with-at : (below copy : ℕ) (objects : List Object) (k : ℕ) (object : Object) → AreRising below objects → k < length objects → get_or objects k object ≡ object
    → object.copy ≡ copy → object_with copy objects ≡ Some object
object_with-at below copy [] k object rising lt is same = absurd (omega arith)
object_with-at below copy (o ∷ objects) zero object rising lt is same =
    let own : o.copy ≡ copy = ap (λ (x : Object). x.copy) is ∙ same in
    rw (eq-eqb o.copy copy own) (ap Some is)
object_with-at below copy (o ∷ objects) (suc k) object rising lt is same =
    let next : o.copy < (get_or objects k object).copy = above o.copy objects k object rising.1 (omega arith) in
    let there : (get_or objects k object).copy ≡ copy = ap (λ (x : Object). x.copy) is ∙ same in
    let other : nat_eq o.copy copy ≡ false = ne_eqb o.copy copy (λ (e : o.copy ≡ copy). absurd (omega (arith, next, there, e))) in
    rw other (object_with-at o.copy copy objects k object rising.1 (omega arith) is same)

-- an object that is found is there
pub has_copy-found : (copy : ℕ) (objects : List Object) (object : Object) → object_with copy objects ≡ Some object → has_copy copy objects ≡ true
has_copy-found copy [] object is = cc
has_copy-found copy (o ∷ objects) object is = by (has_copy-found copy objects object) (nat_eq o.copy copy) is
  where
    by : (object_with copy objects ≡ Some object → has_copy copy objects ≡ true) → (b : Bool) → cond b (Some o) (object_with copy objects) ≡ Some object → (b || has_copy copy objects) ≡ true
    by later true found = refl
    by later false found = later found

-- where there is none, none is found
pub object_with-none : (copy : ℕ) (objects : List Object) → has_copy copy objects ≡ false → object_with copy objects ≡ None
object_with-none copy [] none = refl
object_with-none copy (o ∷ objects) none = by (object_with-none copy objects) (nat_eq o.copy copy) none
  where
    by : (has_copy copy objects ≡ false → object_with copy objects ≡ None) → (b : Bool) → (b || has_copy copy objects) ≡ false → cond b (Some o) (object_with copy objects) ≡ None
    by later true is = cc
    by later false is = later is

pub found_with : (copy : ℕ) (objects : List Object) (r : Option (Bor ObjectEntry)) → AreRising 0 objects → IfSome r (λ entry. Contains objects (object_of entry.now) × (entry.now.copy ≡ copy))
    → IfSome r (λ entry. object_with copy objects ≡ Some (object_of entry.now))
found_with copy objects None rising found = tt
found_with copy objects (Some entry) rising found = object_with-at 0 copy objects found.0.0 (object_of entry.now) rising found.0.1 found.0.2 found.1

pub found_has : (copy : ℕ) (objects : List Object) (r : Option (Bor ObjectEntry)) → IfSome r (λ entry. object_with copy objects ≡ Some (object_of entry.now))
    → IfSome r (λ entry. has_copy copy objects ≡ true)
found_has copy objects None found = tt
found_has copy objects (Some entry) found = has_copy-found copy objects (object_of entry.now) found
