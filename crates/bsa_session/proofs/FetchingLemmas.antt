-- Objects that are fetched.
use Rattle.std.proofs.Common.{◌≡◌, ℕ, Bool, true, false, nat_eq, List, [], ◌∷◌, ◌++◌, length, take, drop, Some, refl, sym, ap, ◌∙◌, subst, arith, length-set}
use Rattle.std.specs.List.{AllByRecursion}
use Rattle.std.specs.Prelude.{cond}
use Rattle.std.specs.Vec.{with_items}
use Rattle.std.specs.declared.vec.Vec.{Vec}
use Rattle.std.specs.declared.alloc.Global.{Global}
use Rattle.catalogue_slots.specs.Records.{Object}
use Rattle.catalogue_replay.specs.Contents.{IsKept}
use Rattle.object_volume.specs.declared.volume.Volume.{Volume}
use Rattle.object_store.specs.Reading.{ChangesOne}
use Rattle.session_machine.specs.Calls.{object_with}
use Rattle.session_machine.specs.Conditions.{is_broken}
use Rattle.session_machine.specs.States as machine
use Rattle.bsa_session.specs.Reading.{Reads, IsAtNext, WorkReads, StateReads}
use Rattle.bsa_session.specs.Views.{draft_of, with_work, view_of}
use Rattle.bsa_session.specs.declared.state.Reading.{Reading}
use Rattle.bsa_session.specs.declared.state.State.{State}
use Rattle.bsa_session.specs.declared.state.Work.{Work}

-- ---- states

pub waiting_stands : (s : machine.State) → machine.is_waiting s ≡ true → is_broken s ≡ false
waiting_stands (machine.waiting draft) is = refl
waiting_stands (machine.sending draft descriptor) is = refl
waiting_stands (machine.querying draft rest) is = refl
waiting_stands (machine.getting draft copy at) is = refl
waiting_stands (machine.idle place) is = refl
waiting_stands machine.none is = refl
waiting_stands machine.broken is = cc

module _ (s : State) (reading : Reading) (reads : Reads s reading) where
  pub reading_view : view_of s ≡ machine.getting (draft_of reads.transaction) reading.copy reading.at
  reading_view = ap view_of reads.is ∙ ap (with_work (draft_of reads.transaction)) reads.work

  pub reading_stands : is_broken (view_of s) ≡ false
  reading_stands = ap is_broken reading_view

  pub reading_next : (objects : List Object) → StateReads s objects → IsAtNext reading objects
  reading_next objects is = subst (λ (w : Work). WorkReads w objects) reads.work (subst (λ (x : State). StateReads x objects) reads.is is)

  pub reading_copy : (draft : machine.Draft) (copy at : ℕ) → view_of s ≡ machine.getting draft copy at → copy ≡ reading.copy
  reading_copy draft copy at is = let both : machine.getting draft copy at ≡ machine.getting (draft_of reads.transaction) reading.copy reading.at = sym is ∙ reading_view in cc

-- ---- objects

pub found_kept : (copy : ℕ) (objects : List Object) (object : Object) → AllByRecursion IsKept objects → object_with copy objects ≡ Some object → IsKept object
found_kept copy [] object each is = cc
found_kept copy (o ∷ objects) object each is = by (found_kept copy objects object each.1) (nat_eq o.copy copy) is
  where
    by : (object_with copy objects ≡ Some object → IsKept object) → (b : Bool) → cond b (Some o) (object_with copy objects) ≡ Some object → IsKept object
    by later true found = let same : o ≡ object = cc in subst IsKept same each.0
    by later false found = later found

-- ---- a list of volumes that is used through a slice

take_own : {X : Type 0} (xs ys : List X) → take (length xs) (xs ++ ys) ≡ xs
take_own [] ys = refl
take_own {X = X} (x ∷ xs) ys = ap (λ (l : List X). x ∷ l) (take_own xs ys)

written_back : {X : Type 0} (v : Vec X Global) (xs : List X) → length xs ≡ length v.items → (with_items v xs).items ≡ xs
written_back v xs same =
    let len : v.len ≡ length xs = omega (arith, same, v.ok.0) in
    ap (λ (n : ℕ). take n (xs ++ drop (length xs) v.items)) len ∙ take_own xs (drop (length xs) v.items)

-- the volume of an object, which is found by its copy id, is used
module _ {D : Type 0} (P : Object → Volume D → Volume D → Type 0) (volumes : Vec (Volume D) Global) (slice new : List (Volume D)) (copy : ℕ) (objects : List Object) (entry object : Object) where
  pub one_of : object_with copy objects ≡ Some entry → object_with copy objects ≡ Some object → slice ≡ volumes.items → ChangesOne (P entry) entry.volume slice new
      → ChangesOne (P object) object.volume volumes.items (with_items volumes new).items
  one_of found is value one =
      let same : entry ≡ object = cc in
      let there : ChangesOne (P entry) entry.volume volumes.items new = subst (λ (l : List (Volume D)). ChangesOne (P entry) entry.volume l new) value one in
      let back = written_back volumes new (ap length there.changed ∙ length-set volumes.items entry.volume there.is) in
      subst (λ (o : Object). ChangesOne (P o) o.volume volumes.items (with_items volumes new).items) same
      (subst (λ (l : List (Volume D)). ChangesOne (P entry) entry.volume volumes.items l) (sym back) there)
