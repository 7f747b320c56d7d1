-- A transaction that stages one deletion more.
use Rattle.std.proofs.Common.{◌≡◌, ℕ, zero, suc, ◌<◌, Bool, true, false, nat_eq, List, [], ◌∷◌, ◌++◌, length, get_or, refl, sym, ap, ◌∙◌, subst, arith, eq-eqb}
use Rattle.std.specs.Prelude.{◌||◌, ◌&&◌, not, cond, Contains}
use Rattle.std.specs.List.{list_any}
use Rattle.std.proofs.lemmas.Bool.Decides.{nat_tests}
use Rattle.catalogue_slots.specs.Records.{Object}
use Rattle.catalogue_replay.specs.Contents.{has_copy, without}
use Rattle.catalogue_journal.specs.Catalogues.{additions_of}
use Rattle.catalogue_journal.specs.Transactions.{Addition, AreLive}
use Rattle.session_machine.specs.Conditions.{Refers}
use Rattle.session_machine.specs.States as machine
use Rattle.bsa_session.specs.Views.{place_of, draft_of, with_work, view_of}
use Rattle.bsa_session.specs.declared.state.Transaction.{Transaction}
use Rattle.bsa_session.specs.declared.state.Work.{Work}
use Rattle.bsa_session.specs.declared.state.Work.TheVariants.{Waiting, Sending, Querying, Getting}
use Rattle.bsa_session.specs.declared.state.State.{State}
use Rattle.bsa_session.specs.declared.state.State.TheVariants as state

or_with : (b x y : Bool) → (x ≡ true → y ≡ true) → (b || x) ≡ true → (b || y) ≡ true
or_with true x y then has = refl
or_with false x y then has = then has

or_false : (a b : Bool) → (a || b) ≡ false → (a ≡ false) × (b ≡ false)
or_false true b none = cc
or_false false b none = (refl, none)

and_not : (a b : Bool) → (a && not b) ≡ true → (a ≡ true) × (b ≡ false)
and_not true true both = cc
and_not true false both = (refl, refl)
and_not false b both = cc

or_true : (b x : Bool) → x ≡ true → (b || x) ≡ true
or_true true x has = refl
or_true false x has = has

has_copy-at : (copy : ℕ) (objects : List Object) (k : ℕ) (d : Object) → k < length objects → (get_or objects k d).copy ≡ copy → has_copy copy objects ≡ true
has_copy-at copy [] k d lt is = absurd (omega arith)
has_copy-at copy (o ∷ objects) zero d lt is = rw (eq-eqb o.copy copy is) refl
has_copy-at copy (o ∷ objects) (suc k) d lt is = or_true (nat_eq o.copy copy) (has_copy copy objects) (has_copy-at copy objects k d (omega arith) is)

-- an object of a list, by its copy id
pub has_copy-found : (copy : ℕ) (objects : List Object) (object : Object) → Contains objects object → object.copy ≡ copy → has_copy copy objects ≡ true
has_copy-found copy objects object there is = has_copy-at copy objects there.0 object there.1 (ap (λ (o : Object). o.copy) there.2 ∙ is)

pub usable_unless : (has deleted contains : Bool) → has ≡ true → contains ≡ deleted → not contains ≡ (has && not deleted)
usable_unless has deleted contains is_so same = rw (is_so, same) refl

-- an object stays where another one goes
has_copy-without : (c copy : ℕ) (objects : List Object) → nat_eq c copy ≡ false → has_copy copy objects ≡ true → has_copy copy (without c objects) ≡ true
has_copy-without c copy [] other has = has
has_copy-without c copy (o ∷ objects) other has = by (has_copy-without c copy objects other) (nat_eq o.copy c) refl
  where
    by : (has_copy copy objects ≡ true → has_copy copy (without c objects) ≡ true) → (b : Bool) → nat_eq o.copy c ≡ b
        → has_copy copy (cond b objects (o ∷ without c objects)) ≡ true
    by later true same = grind (arith, nat_tests, has, other, same)
    by later false same = or_with (nat_eq o.copy copy) (has_copy copy objects) (has_copy copy (without c objects)) later has

pub AreLive-push : (deleted : List ℕ) (copy : ℕ) (objects : List Object) → AreLive deleted objects → list_any (λ (other : ℕ). nat_eq other copy) deleted ≡ false
    → has_copy copy objects ≡ true → AreLive (deleted ++ copy ∷ []) objects
AreLive-push [] copy objects live fresh has = (has, tt)
AreLive-push (c ∷ deleted) copy objects live fresh has =
    let both = or_false (nat_eq c copy) (list_any (λ (other : ℕ). nat_eq other copy) deleted) fresh in
    (live.0, AreLive-push deleted copy (without c objects) live.1 both.1 (has_copy-without c copy objects both.0 has))

-- ---- a transaction in which nothing goes on

waits : (draft : machine.Draft) (w : Work) → machine.is_waiting (with_work draft w) ≡ true → w ≡ Waiting
waits draft Waiting is_so = refl
waits draft (Sending descriptor) is_so = cc
waits draft (Querying matches) is_so = cc
waits draft (Getting reading) is_so = cc

pub waiting_view : (s : State) (t : Transaction) → s ≡ state.Open t → machine.is_waiting (view_of s) ≡ true → view_of s ≡ machine.waiting (draft_of t)
waiting_view s t is is_so =
    let work : t.work ≡ Waiting = waits (draft_of t) t.work (subst (λ (v : State). machine.is_waiting (view_of v) ≡ true) is is_so) in
    ap view_of is ∙ ap (with_work (draft_of t)) work

pub waiting_work : (s : State) (t : Transaction) → s ≡ state.Open t → machine.is_waiting (view_of s) ≡ true → t.work ≡ Waiting
waiting_work s t is is_so = waits (draft_of t) t.work (subst (λ (v : State). machine.is_waiting (view_of v) ≡ true) is is_so)

-- the transaction with other deletions
abbrev pub with_deleted : machine.Draft → List ℕ → machine.Draft
with_deleted draft deleted = record draft { deleted = deleted }

pub deleted_view : (t : Transaction) (work : Work) (added : List Addition) (deleted : List ℕ) → work ≡ Waiting → added ≡ additions_of t.staged
    → with_work (record { place = place_of t.place; added = added; deleted = deleted }) work ≡ machine.waiting (with_deleted (draft_of t) deleted)
deleted_view t work added deleted waits_on same =
    ap (with_work (record { place = place_of t.place; added = added; deleted = deleted })) waits_on
    ∙ ap (λ (l : List Addition). machine.waiting (record { place = place_of t.place; added = l; deleted = deleted })) same

-- one deletion more, by the states before and behind it
module _ (copy : ℕ) (objects : List Object) (draft : machine.Draft) where
  pub deleted_refers : (old new : machine.State) → old ≡ machine.waiting draft → machine.is_usable copy objects old ≡ true
      → new ≡ machine.waiting (with_deleted draft (draft.deleted ++ copy ∷ [])) → Refers old objects → Refers new objects
  deleted_refers old new was usable is refers =
      let live : AreLive draft.deleted objects = subst (λ (s : machine.State). Refers s objects) was refers in
      let there : machine.is_there copy objects draft ≡ true = subst (λ (s : machine.State). machine.is_usable copy objects s ≡ true) was usable in
      let both = and_not (has_copy copy objects) (machine.is_deleted copy draft) there in
      subst (λ (s : machine.State). Refers s objects) (sym is) (AreLive-push draft.deleted copy objects live both.1 both.0)
