-- What stands at a place of the running transactions is what the table has of a transaction.
use Rattle.std.proofs.Common.{◌≡◌, ◌≢◌, ℕ, zero, suc, ◌<◌, ◌==◌, Bool, true, false, List, [], ◌∷◌, ◌++◌, length, map, take, drop, set, get_or, Option, Some, None, MatchOption, is_some, Result, Ok, Err, OnErr, ◌∙◌, refl, ap, cond, arith}
use Rattle.std.proofs.lemmas.Bool.Decides.{nat_tests}
use Rattle.log_history.specs.History.{Patch}
use Rattle.log_history.specs.Transactions.{OpenTxn, Table, lookup, without, with_write, unless_new}
use Rattle.txn_table.specs.declared.running.Running.{Running}
use Rattle.std.proofs.lemmas.List.{map_push}
use Rattle.txn_table.specs.declared.changes.Change.{Change as Brought}
use Rattle.txn_table.specs.Table.{patch_of, open_of, table_in, IsAbsent, IsPlaceOf}

-- the tests of two numbers
same : (a b : ℕ) → a ≡ b → (a == b) ≡ true
same a b e = grind (arith, nat_tests)

other : (a b : ℕ) → a ≢ b → (a == b) ≡ false
other a b e = grind (arith, nat_tests)

absent_rest : (txn : ℕ) (r : Running) (rs : List Running) → IsAbsent txn (r ∷ rs) → IsAbsent txn rs
absent_rest txn r rs h k d below = h (suc k) d (omega arith)

pub lookup-absent : (txn : ℕ) (rs : List Running) → IsAbsent txn rs → lookup txn (table_in rs) ≡ None
lookup-absent txn [] h = refl
lookup-absent txn (r ∷ rs) h =
    let test : (r.txn == txn) ≡ false = other r.txn txn (h zero r (omega arith)) in
    rw test (lookup-absent txn rs (absent_rest txn r rs h))

pub without-absent : (txn : ℕ) (rs : List Running) → IsAbsent txn rs → without txn (table_in rs) ≡ table_in rs
without-absent txn [] h = refl
without-absent txn (r ∷ rs) h =
    let test : (r.txn == txn) ≡ false = other r.txn txn (h zero r (omega arith)) in
    rw test (ap (λ (t : Table). open_of r ∷ t) (without-absent txn rs (absent_rest txn r rs h)))

pub with_write-absent : (txn : ℕ) (patch : Patch) (rs : List Running) → IsAbsent txn rs → with_write txn patch (table_in rs) ≡ table_in rs
with_write-absent txn patch [] h = refl
with_write-absent txn patch (r ∷ rs) h =
    let test : (r.txn == txn) ≡ false = other r.txn txn (h zero r (omega arith)) in
    rw test (ap (λ (t : Table). open_of r ∷ t) (with_write-absent txn patch rs (absent_rest txn r rs h)))

place_rest : (txn : ℕ) (r : Running) (rs : List Running) (i : ℕ) → IsPlaceOf txn (r ∷ rs) (suc i) → IsPlaceOf txn rs i
place_rest txn r rs i h = (omega (arith, h.0), λ d. h.1 d, λ k d below. h.2 (suc k) d (omega arith))

pub lookup-at : (txn : ℕ) (rs : List Running) (i : ℕ) (d : Running) → IsPlaceOf txn rs i → lookup txn (table_in rs) ≡ Some (open_of (get_or rs i d))
lookup-at txn [] i d h = absurd (omega (arith, h.0))
lookup-at txn (r ∷ rs) zero d h =
    let test : (r.txn == txn) ≡ true = same r.txn txn (h.1 d) in
    rw test refl
lookup-at txn (r ∷ rs) (suc i) d h =
    let test : (r.txn == txn) ≡ false = other r.txn txn (h.2 zero d (omega arith)) in
    rw test (lookup-at txn rs i d (place_rest txn r rs i h))

pub without-at : (txn : ℕ) (rs : List Running) (i : ℕ) (d : Running) → IsPlaceOf txn rs i → without txn (table_in rs) ≡ table_in (take i rs ++ drop (suc i) rs)
without-at txn [] i d h = absurd (omega (arith, h.0))
without-at txn (r ∷ rs) zero d h =
    let test : (r.txn == txn) ≡ true = same r.txn txn (h.1 d) in
    rw test refl
without-at txn (r ∷ rs) (suc i) d h =
    let test : (r.txn == txn) ≡ false = other r.txn txn (h.2 zero d (omega arith)) in
    rw test (ap (λ (t : Table). open_of r ∷ t) (without-at txn rs i d (place_rest txn r rs i h)))

-- the transaction with one more Write
abbrev pub written : Patch → OpenTxn → OpenTxn
written patch o = record o { patches = o.patches ++ patch ∷ [] }

pub with_write-at : (txn : ℕ) (patch : Patch) (rs : List Running) (i : ℕ) (d new : Running) → IsPlaceOf txn rs i
    → open_of new ≡ written patch (open_of (get_or rs i d)) → with_write txn patch (table_in rs) ≡ table_in (set rs i new)
with_write-at txn patch [] i d new h e = absurd (omega (arith, h.0))
with_write-at txn patch (r ∷ rs) zero d new h e =
    let test : (r.txn == txn) ≡ true = same r.txn txn (h.1 d) in
    rw test (rw e refl)
with_write-at txn patch (r ∷ rs) (suc i) d new h e =
    let test : (r.txn == txn) ≡ false = other r.txn txn (h.2 zero d (omega arith)) in
    rw test (ap (λ (t : Table). open_of r ∷ t) (with_write-at txn patch rs i d new (place_rest txn r rs i h) e))

-- a place holds what it held, seen as the table sees it
pub set-same : (rs : List Running) (i : ℕ) (d new : Running) → i < length rs → open_of new ≡ open_of (get_or rs i d) → table_in (set rs i new) ≡ table_in rs
set-same [] i d new h e = refl
set-same (r ∷ rs) zero d new h e = ap (λ (o : OpenTxn). o ∷ table_in rs) e
set-same (r ∷ rs) (suc i) d new h e = ap (λ (t : Table). open_of r ∷ t) (set-same rs i d new (omega arith) e)

-- whether a place was found is whether the table has the transaction
pub is_open_is : (txn : ℕ) (rs : List Running) (o : Option ℕ) → MatchOption o (IsAbsent txn rs) (IsPlaceOf txn rs) → is_some o ≡ is_some (lookup txn (table_in rs))
is_open_is txn rs None h = rw (lookup-absent txn rs h) refl
is_open_is txn [] (Some i) h = absurd (omega (arith, h.0))
is_open_is txn (r ∷ rs) (Some i) h = rw (lookup-at txn (r ∷ rs) i r h) refl

unless_new-none : (o : Option OpenTxn) (count : ℕ) → unless_new o count ≡ None → o ≡ None
unless_new-none None count ok = refl
unless_new-none (Some o) count ok = cc

some_first : (o : OpenTxn) (rest : Option OpenTxn) (b : Bool) → cond b (Some o) rest ≡ None → (b ≡ false) × (rest ≡ None)
some_first o rest true e = cc
some_first o rest false e = (refl, e)

without-none : (txn : ℕ) (table : Table) → lookup txn table ≡ None → without txn table ≡ table
without-none txn [] e = refl
without-none txn (o ∷ others) e =
    let parts : ((o.txn == txn) ≡ false) × (lookup txn others ≡ None) = some_first o (lookup txn others) (o.txn == txn) e in
    rw parts.0 (ap (λ (t : Table). o ∷ t) (without-none txn others parts.1))

-- a running transaction whose list of changes was made anew
abbrev pub with_items : Running → List Brought → OpenTxn
with_items one items = record { txn = one.txn; first = one.first; patches = map patch_of items }

pub open_of-kept : (one old : Running) (items : List Brought) → one ≡ old → items ≡ one.changes.items → with_items one items ≡ open_of old
open_of-kept one old items same kept = ap (with_items one) kept ∙ ap open_of same

pub open_of-written : (one old : Running) (items : List Brought) (change : Brought) → one ≡ old → items ≡ one.changes.items ++ change ∷ []
    → with_items one items ≡ written (patch_of change) (open_of old)
open_of-written one old items change same pushed =
    let all : map patch_of items ≡ map patch_of one.changes.items ++ patch_of change ∷ [] =
    ap (map patch_of) pushed ∙ map_push patch_of one.changes.items change in
    ap (λ (ps : List Patch). record { txn = one.txn; first = one.first; patches = ps }) all ∙ ap (λ (r : Running). written (patch_of change) (open_of r)) same

pub on_err : {T E P : Type 0} (r : Result T E) → P → OnErr r P
on_err (Ok x) p = tt
on_err (Err e) p = p

-- where a Begin may follow, its transaction isn't in the table
pub nothing_to_end : (txn : ℕ) (table : Table) → unless_new (lookup txn table) (length table) ≡ None → without txn table ≡ table
nothing_to_end txn table ok = without-none txn table (unless_new-none (lookup txn table) (length table) ok)
