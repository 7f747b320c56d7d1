-- The live objects: what is put in and taken out.
use Rattle.std.proofs.Common.{◌≡◌, ℕ, ◌+◌, ◌<◌, ◌≤◌, Bool, true, false, nat_eq, List, [], ◌∷◌, ◌++◌, map, Option, Some, None, refl, sym, ap, ◌∙◌, subst, arith}
use Rattle.std.specs.Prelude.{is_some, ◌||◌, cond}
use Rattle.std.specs.List.{AllByRecursion}
use Rattle.std.specs.Ordering.{nat_cmp}
use Rattle.std.specs.declared.cmp.Ordering.TheVariants.{Greater}
use Rattle.std.specs.Map.{lookup, remove_entry}
use Rattle.std.specs.BTreeMap.{is_at, insert_entry}
use Rattle.std.proofs.lemmas.Bool.Decides.{nat_tests}
use Rattle.catalogue_slots.specs.Records.{Object}
use Rattle.catalogue_slots.specs.Views.{object_of}
use Rattle.catalogue_slots.specs.declared.entry.ObjectEntry.{ObjectEntry}
use Rattle.catalogue_replay.specs.Contents.{has_copy, without}
use Rattle.catalogue_replay.specs.Live.{objects_in, IsUnderItsCopy, AreBelow, live_below, waiting}
use Rattle.catalogue_replay.specs.declared.replay.Rest.{Rest}

-- ---- a map by copy ids

-- a search for a copy id finds the entry that has it
is_at-copy : (copy : ℕ) (e : ℕ × ObjectEntry) → IsUnderItsCopy e → is_at (nat_cmp copy) e.0 ≡ nat_eq e.1.copy copy
is_at-copy copy e under = grind (arith, nat_tests, under)

pub has_copy-lookup : (copy : ℕ) (es : List (ℕ × ObjectEntry)) → AllByRecursion IsUnderItsCopy es
    → is_some (lookup (is_at (nat_cmp copy)) es) ≡ has_copy copy (objects_in es)
has_copy-lookup copy [] under = refl
has_copy-lookup copy (e ∷ es) under = rw (is_at-copy copy e under.0) (by (nat_eq e.1.copy copy) (has_copy-lookup copy es under.1))
  where
    by : (b : Bool) → is_some (lookup (is_at (nat_cmp copy)) es) ≡ has_copy copy (objects_in es)
        → is_some (cond b (Some e.1) (lookup (is_at (nat_cmp copy)) es)) ≡ (b || has_copy copy (objects_in es))
    by true rest = refl
    by false rest = rest

pub without-remove_entry : (copy : ℕ) (es : List (ℕ × ObjectEntry)) → AllByRecursion IsUnderItsCopy es
    → objects_in (remove_entry (is_at (nat_cmp copy)) es) ≡ without copy (objects_in es)
without-remove_entry copy [] under = refl
without-remove_entry copy (e ∷ es) under = rw (is_at-copy copy e under.0) (by (nat_eq e.1.copy copy) (without-remove_entry copy es under.1))
  where
    by : (b : Bool) → objects_in (remove_entry (is_at (nat_cmp copy)) es) ≡ without copy (objects_in es)
        → objects_in (cond b es (e ∷ remove_entry (is_at (nat_cmp copy)) es)) ≡ cond b (objects_in es) (object_of e.1 ∷ without copy (objects_in es))
    by true rest = refl
    by false rest = ap (λ (l : List Object). object_of e.1 ∷ l) rest

pub under-remove_entry : (test : ℕ → Bool) (es : List (ℕ × ObjectEntry)) → AllByRecursion IsUnderItsCopy es → AllByRecursion IsUnderItsCopy (remove_entry test es)
under-remove_entry test [] under = under
under-remove_entry test (e ∷ es) under = by (test e.0) (under-remove_entry test es under.1)
  where
    by : (b : Bool) → AllByRecursion IsUnderItsCopy (remove_entry test es) → AllByRecursion IsUnderItsCopy (cond b es (e ∷ remove_entry test es))
    by true rest = under.1
    by false rest = (under.0, rest)

-- an entry whose copy id is above all others goes to the end
pub insert_entry-end : (entry : ObjectEntry) (es : List (ℕ × ObjectEntry)) → AllByRecursion IsUnderItsCopy es → AreBelow entry.copy (objects_in es)
    → insert_entry nat_cmp es entry.copy entry ≡ es ++ (entry.copy, entry) ∷ []
insert_entry-end entry [] under below = refl
insert_entry-end entry (e ∷ es) under below =
    let over : nat_cmp entry.copy e.0 ≡ Greater = grind (arith, nat_tests, under.0, below.0) in
    rw over (ap (λ (l : List (ℕ × ObjectEntry)). e ∷ l) (insert_entry-end entry es under.1 below.1))

pub under-push : (entry : ObjectEntry) (es : List (ℕ × ObjectEntry)) → AllByRecursion IsUnderItsCopy es → AllByRecursion IsUnderItsCopy (es ++ (entry.copy, entry) ∷ [])
under-push entry [] under = (refl, tt)
under-push entry (e ∷ es) under = (under.0, under-push entry es under.1)

pub objects_in-push : (entry : ObjectEntry) (es : List (ℕ × ObjectEntry)) → objects_in (es ++ (entry.copy, entry) ∷ []) ≡ objects_in es ++ object_of entry ∷ []
objects_in-push entry [] = refl
objects_in-push entry (e ∷ es) = ap (λ (l : List Object). object_of e.1 ∷ l) (objects_in-push entry es)

pub objects_in-values : (es : List (ℕ × ObjectEntry)) → map object_of (map (λ e. e.1) es) ≡ objects_in es
objects_in-values [] = refl
objects_in-values (e ∷ es) = ap (λ (l : List Object). object_of e.1 ∷ l) (objects_in-values es)

-- ---- copy ids below a bound

pub AreBelow-more : (a b : ℕ) (objects : List Object) → a ≤ b → AreBelow a objects → AreBelow b objects
AreBelow-more a b [] le below = tt
AreBelow-more a b (object ∷ objects) le below = (omega (arith, below.0), AreBelow-more a b objects le below.1)

pub AreBelow-push : (a : ℕ) (objects : List Object) (object : Object) → AreBelow a objects → object.copy < a → AreBelow a (objects ++ object ∷ [])
AreBelow-push a [] object below lt = (lt, tt)
AreBelow-push a (o ∷ objects) object below lt = (below.0, AreBelow-push a objects object below.1 lt)

pub AreBelow-without : (a copy : ℕ) (objects : List Object) → AreBelow a objects → AreBelow a (without copy objects)
AreBelow-without a copy [] below = tt
AreBelow-without a copy (o ∷ objects) below = by (nat_eq o.copy copy) (AreBelow-without a copy objects below.1)
  where
    by : (b : Bool) → AreBelow a (without copy objects) → AreBelow a (cond b objects (o ∷ without copy objects))
    by true rest = below.1
    by false rest = (below.0, rest)

-- where no object waits for its Mores, one with a higher copy id may be added
pub added-next : (added copy : ℕ) (rest : Option Rest) (objects : List Object) → is_some rest ≡ false → added < copy → AreBelow (live_below added rest) objects
    → AreBelow copy objects × AreBelow (live_below copy rest) objects × (waiting copy rest ≡ copy)
added-next added copy None objects none lt below = (AreBelow-more (added + 1) copy objects (omega arith) below, AreBelow-more (added + 1) (copy + 1) objects (omega arith) below, refl)
added-next added copy (Some rest) objects none lt below = cc
