-- Matches of queries are committed objects.
use Rattle.std.proofs.Common.{◌≡◌, ℕ, List, [], ◌∷◌, Bool, true, false, Option, None, Some, Result, Ok, Err, refl, sym, ap, subst, ◌∙◌}
use Rattle.std.proofs.lemmas.Bool.{eq-eqb}
use Rattle.std.specs.Prelude.{IfOk, OnOk, nat_eq, ◌||◌, if◌then◌else◌}
use Rattle.std.specs.List.{AllByRecursion}
use Rattle.bsa_descriptor.specs.declared.descriptor.Descriptor.{Descriptor}
use Rattle.bsa_match.specs.Match.{is_match}
use Rattle.catalogue_slots.specs.Records.{Object}
use Rattle.catalogue_replay.specs.Contents.{has_copy}
use Rattle.session_machine.specs.Calls.{GetsNext, Queries}
use Rattle.session_machine.specs.States.{State, none, idle, waiting, sending, querying, getting, broken}
use Rattle.session_machine.specs.declared.answers.BsaRc.{BsaRc}
use Rattle.xbsa_shell.specs.Serving.{AreThere}
use Rattle.object_queries.specs.Queries.{with_status, found_by, description_of}

-- ---- descriptions

described_by : (copy : ℕ) (object : Object) (later : List Object) (same : Bool)
    → (has_copy copy later ≡ true → description_of copy later ≡ None → ⊥) → same || has_copy copy later ≡ true
    → (if same then Some (with_status object later) else description_of copy later) ≡ None → ⊥
described_by copy object later true further has missing = cc missing
described_by copy object later false further has missing = further has missing

-- a committed object is described
pub has_description : (copy : ℕ) (objects : List Object) → has_copy copy objects ≡ true → description_of copy objects ≡ None → ⊥
has_description copy [] has missing = cc has
has_description copy (object ∷ later) has missing = described_by copy object later (nat_eq object.copy copy) (has_description copy later) has missing

-- ---- matches

abbrev IsThere : List Object → ℕ → Type 0
IsThere objects copy = has_copy copy objects ≡ true

or_true : (b : Bool) → b || true ≡ true
or_true true = refl
or_true false = refl

there_behind : (copy : ℕ) (object : Object) (later : List Object) → IsThere later copy → IsThere (object ∷ later) copy
there_behind copy object later there = rw there (or_true (nat_eq object.copy copy))

all_behind : (object : Object) (later : List Object) (copies : List ℕ) → AllByRecursion (IsThere later) copies → AllByRecursion (IsThere (object ∷ later)) copies
all_behind object later [] each = tt
all_behind object later (copy ∷ copies) each = (there_behind copy object later each.0, all_behind object later copies each.1)

there_first : (object : Object) (later : List Object) → IsThere (object ∷ later) object.copy
there_first object later = rw (eq-eqb object.copy object.copy refl) refl

found_there_by : (query : Descriptor) (object : Object) (later : List Object) (matches : Bool) → AllByRecursion (IsThere later) (found_by query later)
    → AllByRecursion (IsThere (object ∷ later)) (if matches then object.copy ∷ found_by query later else found_by query later)
found_there_by query object later true each = (there_first object later, all_behind object later (found_by query later) each)
found_there_by query object later false each = all_behind object later (found_by query later) each

pub found_there : (query : Descriptor) (objects : List Object) → AllByRecursion (λ copy. has_copy copy objects ≡ true) (found_by query objects)
found_there query [] = tt
found_there query (object ∷ later) = found_there_by query object later (is_match query (with_status object later)) (found_there query later)

-- ---- queries

-- what a query answers first and leaves to be given
pub queries_there : (objects : List Object) (bytes : List ℕ) (old new : State) (copy : ℕ) → Queries objects bytes old new (Ok copy)
    → (has_copy copy objects ≡ true) × AreThere objects new
queries_there objects bytes none new copy is = cc is.code
queries_there objects bytes (idle place) new copy is = cc is.code
queries_there objects bytes (waiting draft) new copy is =
    let each : AllByRecursion (IsThere objects) (copy ∷ is.rest) = subst (AllByRecursion (IsThere objects)) is.found (found_there is.descriptor objects) in
    (each.0, subst (AreThere objects) (sym is.state) each.1)
queries_there objects bytes (sending draft descriptor) new copy is = cc is.code
queries_there objects bytes (querying draft rest) new copy is = cc is.code
queries_there objects bytes (getting draft at place) new copy is = cc is.code
queries_there objects bytes broken new copy is = cc is.code

-- the next match, and those behind it
pub next_there : (objects : List Object) (old new : State) (result : Result ℕ BsaRc) → GetsNext old new result → AreThere objects old
    → IfOk result (λ copy. has_copy copy objects ≡ true) × AreThere objects new
next_there objects none new result is there = (rw is.code tt, subst (AreThere objects) (sym is.stays) tt)
next_there objects (idle place) new result is there = (rw is.code tt, subst (AreThere objects) (sym is.stays) tt)
next_there objects (waiting draft) new result is there = (rw is.code tt, subst (AreThere objects) (sym is.stays) tt)
next_there objects (sending draft descriptor) new result is there = (rw is.code tt, subst (AreThere objects) (sym is.stays) tt)
next_there objects (querying draft []) new result is there = (rw is.code tt, subst (AreThere objects) (sym is.state) tt)
next_there objects (querying draft (copy ∷ rest)) new result is there = (rw is.code there.0, subst (AreThere objects) (sym is.state) there.1)
next_there objects (getting draft copy at) new result is there = (rw is.code tt, subst (AreThere objects) (sym is.stays) tt)
next_there objects broken new result is there = (rw is.code tt, subst (AreThere objects) (sym is.stays) tt)

pub OnOk-always : {T E P : Type 0} (result : Result T E) → P → OnOk result P
OnOk-always (Ok value) p = p
OnOk-always (Err fault) p = tt
