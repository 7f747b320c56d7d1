-- The transactions of a table that began behind a position, one record on.
use Rattle.std.specs.Prelude.{◌≡◌, ◌≢◌, ℕ, suc, ◌<◌, ◌≤◌, Bool, true, false, ◌==◌, nat_lt, if◌then◌else◌, List, [], ◌∷◌, ◌++◌, length, Option, Some, None}
use Rattle.std.specs.List.{AllByRecursion}
use Rattle.std.specs.Option.{option_or}
use Rattle.std.proofs.Common.{refl, sym, ap, ◌∙◌, subst, cond, inl, inr, arith}
use Rattle.std.proofs.lemmas.Bool.Decides.{eqb_tells, nat_tests}
use Rattle.std.proofs.lemmas.List.Elements.{filter-append}
use Rattle.log_history.specs.History.{Patch, LogEntry, begin, write, commit, abort, reset}
use Rattle.log_history.specs.Transactions.{OpenTxn, Table, lookup, without, with_write, table_back}
use Rattle.held_laws.specs.Reading.{begun_behind}

-- no transaction stands twice
abbrev pub IsApart : Table → Type 0
IsApart [] = Unit {0}
IsApart (o ∷ others) = (lookup o.txn others ≡ None) × IsApart others

abbrev pub with_patch : Patch → OpenTxn → OpenTxn
with_patch patch o = record o { patches = o.patches ++ patch ∷ [] }

differs : (a b : ℕ) → a ≢ b → (a == b) ≡ false
differs a b h = grind (arith, nat_tests)

first_none : (o : OpenTxn) (rest : Option OpenTxn) (b : Bool) → cond b (Some o) rest ≡ None → (b ≡ false) × (rest ≡ None)
first_none o rest true e = absurd cc
first_none o rest false e = (refl, e)

-- what isn't there

pub none-without : (txn : ℕ) (table : Table) → lookup txn table ≡ None → without txn table ≡ table
none-without txn [] none = refl
none-without txn (o ∷ others) none =
    let parts : ((o.txn == txn) ≡ false) × (lookup txn others ≡ None) = first_none o (lookup txn others) (o.txn == txn) none in
    let ih : without txn others ≡ others = none-without txn others parts.1 in
    rw parts.0 (ap (λ (t : Table). o ∷ t) ih)

pub none-with_write : (txn : ℕ) (patch : Patch) (table : Table) → lookup txn table ≡ None → with_write txn patch table ≡ table
none-with_write txn patch [] none = refl
none-with_write txn patch (o ∷ others) none =
    let parts : ((o.txn == txn) ≡ false) × (lookup txn others ≡ None) = first_none o (lookup txn others) (o.txn == txn) none in
    let ih : with_write txn patch others ≡ others = none-with_write txn patch others parts.1 in
    rw parts.0 (ap (λ (t : Table). o ∷ t) ih)

without_keeps_none : (txn other : ℕ) (table : Table) → lookup txn table ≡ None → lookup txn (without other table) ≡ None
without_keeps_none txn other [] none = refl
without_keeps_none txn other (o ∷ others) none =
    let parts : ((o.txn == txn) ≡ false) × (lookup txn others ≡ None) = first_none o (lookup txn others) (o.txn == txn) none in
    let ih : lookup txn (without other others) ≡ None = without_keeps_none txn other others parts.1 in
    elim (eqb_tells o.txn other) [ inl p ↦ rw p.0 parts.1 | inr q ↦ rw q.0 (rw parts.0 ih) ]

with_write_keeps_none : (txn other : ℕ) (patch : Patch) (table : Table) → lookup txn table ≡ None → lookup txn (with_write other patch table) ≡ None
with_write_keeps_none txn other patch [] none = refl
with_write_keeps_none txn other patch (o ∷ others) none =
    let parts : ((o.txn == txn) ≡ false) × (lookup txn others ≡ None) = first_none o (lookup txn others) (o.txn == txn) none in
    let ih : lookup txn (with_write other patch others) ≡ None = with_write_keeps_none txn other patch others parts.1 in
    elim (eqb_tells o.txn other) [ inl p ↦ rw p.0 (rw parts.0 parts.1) | inr q ↦ rw q.0 (rw parts.0 ih) ]

lookup-append : (txn : ℕ) (table : Table) (o : OpenTxn) → lookup txn (table ++ o ∷ []) ≡ option_or (lookup txn table) (lookup txn (o ∷ []))
lookup-append txn [] o = refl
lookup-append txn (p ∷ ps) o = by (p.txn == txn) (lookup-append txn ps o) where
  by : (b : Bool) → lookup txn (ps ++ o ∷ []) ≡ option_or (lookup txn ps) (lookup txn (o ∷ []))
      → cond b (Some p) (lookup txn (ps ++ o ∷ [])) ≡ option_or (cond b (Some p) (lookup txn ps)) (lookup txn (o ∷ []))
  by true ih = refl
  by false ih = ih

-- the tables that records make have no transaction twice

lookup-without_same : (txn : ℕ) (table : Table) → IsApart table → lookup txn (without txn table) ≡ None
lookup-without_same txn [] apart = refl
lookup-without_same txn (o ∷ others) apart =
    let ih : lookup txn (without txn others) ≡ None = lookup-without_same txn others apart.1 in
    elim (eqb_tells o.txn txn) [
      | inl p ↦ rw p.0 (subst (λ (n : ℕ). lookup n others ≡ None) p.1 apart.0)
      | inr q ↦ rw q.0 (rw q.0 ih)
    ]

apart-without : (other : ℕ) (table : Table) → IsApart table → IsApart (without other table)
apart-without other [] apart = tt
apart-without other (o ∷ others) apart = by (o.txn == other) (apart-without other others apart.1) where
  by : (b : Bool) → IsApart (without other others) → IsApart (cond b others (o ∷ without other others))
  by true ih = apart.1
  by false ih = (without_keeps_none o.txn other others apart.0, ih)

apart-with_write : (other : ℕ) (patch : Patch) (table : Table) → IsApart table → IsApart (with_write other patch table)
apart-with_write other patch [] apart = tt
apart-with_write other patch (o ∷ others) apart = by (o.txn == other) (apart-with_write other patch others apart.1) where
  by : (b : Bool) → IsApart (with_write other patch others) → IsApart (cond b (with_patch patch o ∷ others) (o ∷ with_write other patch others))
  by true ih = apart
  by false ih = (with_write_keeps_none o.txn other patch others apart.0, ih)

apart-append : (table : Table) (o : OpenTxn) → IsApart table → lookup o.txn table ≡ None → IsApart (table ++ o ∷ [])
apart-append [] o apart none = (refl, tt)
apart-append (p ∷ ps) o apart none =
    let parts : ((p.txn == o.txn) ≡ false) × (lookup o.txn ps ≡ None) = first_none p (lookup o.txn ps) (p.txn == o.txn) none in
    let test : (o.txn == p.txn) ≡ false = grind (arith, nat_tests, parts.0) in
    let absent : lookup p.txn (ps ++ o ∷ []) ≡ None = lookup-append p.txn ps o ∙ rw (apart.0, test) refl in
    (absent, apart-append ps o apart.1 parts.1)

pub table_apart : (past : List LogEntry) → IsApart (table_back past)
table_apart [] = tt
table_apart (begin other ∷ past) =
    apart-append (without other (table_back past)) (record { txn = other; first = suc (length past); patches = [] })
    (apart-without other (table_back past) (table_apart past)) (lookup-without_same other (table_back past) (table_apart past))
table_apart (write other patch ∷ past) = apart-with_write other patch (table_back past) (table_apart past)
table_apart (commit other time ∷ past) = apart-without other (table_back past) (table_apart past)
table_apart (abort other ∷ past) = apart-without other (table_back past) (table_apart past)
table_apart (reset restore target time ∷ past) = tt

-- those that began behind a position
module _ (before : ℕ) where
  kept : Table → Table
  kept table = begun_behind before table

  pub none_kept : (txn : ℕ) (table : Table) → lookup txn table ≡ None → lookup txn (begun_behind before table) ≡ None
  none_kept txn [] none = refl
  none_kept txn (o ∷ others) none =
      let parts : ((o.txn == txn) ≡ false) × (lookup txn others ≡ None) = first_none o (lookup txn others) (o.txn == txn) none in
      by (nat_lt before o.first) parts.0 (none_kept txn others parts.1)
    where
      by : (b : Bool) → (o.txn == txn) ≡ false → lookup txn (begun_behind before others) ≡ None
          → lookup txn (if b then o ∷ begun_behind before others else begun_behind before others) ≡ None
      by true test ih = rw test ih
      by false test ih = ih

  pub kept-without : (txn : ℕ) (table : Table) → IsApart table → begun_behind before (without txn table) ≡ without txn (begun_behind before table)
  kept-without txn [] apart = refl
  kept-without txn (o ∷ others) apart =
      elim (eqb_tells o.txn txn) [
        | inl p ↦ rw p.0 (same (nat_lt before o.first) p.0
            (none-without txn (begun_behind before others) (none_kept txn others (subst (λ (n : ℕ). lookup n others ≡ None) p.1 apart.0))))
        | inr q ↦ rw q.0 (other (nat_lt before o.first) q.0 (kept-without txn others apart.1))
      ]
    where
      same : (b : Bool) → (o.txn == txn) ≡ true → without txn (begun_behind before others) ≡ begun_behind before others
          → begun_behind before others ≡ without txn (if b then o ∷ begun_behind before others else begun_behind before others)
      same true test none = rw test refl
      same false test none = sym none

      other : (b : Bool) → (o.txn == txn) ≡ false → begun_behind before (without txn others) ≡ without txn (begun_behind before others)
          → (if b then o ∷ begun_behind before (without txn others) else begun_behind before (without txn others))
          ≡ without txn (if b then o ∷ begun_behind before others else begun_behind before others)
      other true test ih = rw test (ap (λ (t : Table). o ∷ t) ih)
      other false test ih = ih

  pub kept-with_write : (txn : ℕ) (patch : Patch) (table : Table) → IsApart table
      → begun_behind before (with_write txn patch table) ≡ with_write txn patch (begun_behind before table)
  kept-with_write txn patch [] apart = refl
  kept-with_write txn patch (o ∷ others) apart =
      elim (eqb_tells o.txn txn) [
        | inl p ↦ rw p.0 (same (nat_lt before o.first) p.0
            (none-with_write txn patch (begun_behind before others) (none_kept txn others (subst (λ (n : ℕ). lookup n others ≡ None) p.1 apart.0))))
        | inr q ↦ rw q.0 (other (nat_lt before o.first) q.0 (kept-with_write txn patch others apart.1))
      ]
    where
      same : (b : Bool) → (o.txn == txn) ≡ true → with_write txn patch (begun_behind before others) ≡ begun_behind before others
          → (if b then with_patch patch o ∷ begun_behind before others else begun_behind before others)
          ≡ with_write txn patch (if b then o ∷ begun_behind before others else begun_behind before others)
      same true test none = rw test refl
      same false test none = sym none

      other : (b : Bool) → (o.txn == txn) ≡ false → begun_behind before (with_write txn patch others) ≡ with_write txn patch (begun_behind before others)
          → (if b then o ∷ begun_behind before (with_write txn patch others) else begun_behind before (with_write txn patch others))
          ≡ with_write txn patch (if b then o ∷ begun_behind before others else begun_behind before others)
      other true test ih = rw test (ap (λ (t : Table). o ∷ t) ih)
      other false test ih = ih

  -- there are no more of them
  pub kept_few : (table : Table) → length (begun_behind before table) ≤ length table
  kept_few [] = omega arith
  kept_few (o ∷ others) = by (nat_lt before o.first) (kept_few others)
    where
      by : (b : Bool) → length (begun_behind before others) ≤ length others
          → length (if b then o ∷ begun_behind before others else begun_behind before others) ≤ suc (length others)
      by true ih = omega (arith, ih)
      by false ih = omega (arith, ih)

  -- a transaction that began later is one of them
  pub kept-append : (table : Table) (o : OpenTxn) → before < o.first → begun_behind before (table ++ o ∷ []) ≡ begun_behind before table ++ o ∷ []
  kept-append table o lt =
      let test : nat_lt before o.first ≡ true = grind (arith, nat_tests, lt) in
      filter-append (λ (p : OpenTxn). nat_lt before p.first) table (o ∷ []) ∙ rw test refl

  -- where all began later, they are the table
  pub all_kept : (table : Table) → AllByRecursion (λ o. before < o.first) table → begun_behind before table ≡ table
  all_kept [] all = refl
  all_kept (o ∷ others) all =
      let test : nat_lt before o.first ≡ true = grind (arith, nat_tests, all.0) in
      let ih : begun_behind before others ≡ others = all_kept others all.1 in
      rw test (ap (λ (t : Table). o ∷ t) ih)
