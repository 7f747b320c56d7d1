-- What the table has of a transaction is what the records tell of it.
use Rattle.std.specs.Prelude.{◌≡◌, ◌≢◌, ℕ, suc, ◌-◌, Bool, true, false, ◌==◌, nat_lt, if◌then◌else◌, List, [], ◌∷◌, ◌++◌, length, reverse, take, Option, Some, None, option_map, slice_get}
use Rattle.std.specs.Option.{option_or}
use Rattle.std.proofs.Common.{refl, sym, ap, ◌∙◌, subst, cond, inl, inr, arith}
use Rattle.std.proofs.lemmas.List.{take_at, append-nil}
use Rattle.std.proofs.lemmas.Bool.Decides.{eqb_tells, nat_tests}
use Rattle.log_history.specs.History.{Patch, LogEntry, History, begin, write, commit, abort, reset}
use Rattle.log_history.specs.Effects.{writes, writes_of, writes_back}
use Rattle.log_history.specs.Transactions.{OpenTxn, Table, lookup, without, with_write, table_back, table_of, open_back, given, patches_of, refusal, unless_open, unless_new, MayFollow, InOrder, InOrderBack}
use Rattle.txn_table.specs.Table.{first_refusal, first_refusal_back}

-- the position of a transaction's last Begin, in records given newest first
abbrev pub begin_back : ℕ → List LogEntry → ℕ
begin_back txn [] = 0
begin_back txn (begin other ∷ past) = if other == txn then suc (length past) else begin_back txn past
begin_back txn (entry ∷ past) = begin_back txn past

-- a transaction as the records tell of it, where it is open
abbrev pub told_by : ℕ → List LogEntry → Option OpenTxn
told_by txn past =
    if open_back txn past then Some (record { txn = txn; first = begin_back txn past; patches = writes_back txn past }) else None

-- no transaction stands twice
abbrev IsApart : Table → Type 0
IsApart [] = Unit {0}
IsApart (o ∷ others) = (lookup o.txn others ≡ None) × IsApart others

abbrev pub with_patch : Patch → OpenTxn → OpenTxn
with_patch patch o = record o { patches = o.patches ++ patch ∷ [] }

differs : (a b : ℕ) → a ≢ b → (a == b) ≡ false
differs a b h = grind (arith, nat_tests)

first_none : (o : OpenTxn) (rest : Option OpenTxn) (b : Bool) → cond b (Some o) rest ≡ None → (b ≡ false) × (rest ≡ None)
first_none o rest true e = cc
first_none o rest false e = (refl, e)

lookup-without_same : (txn : ℕ) (table : Table) → IsApart table → lookup txn (without txn table) ≡ None
lookup-without_same txn [] apart = refl
lookup-without_same txn (o ∷ others) apart =
    let ih : lookup txn (without txn others) ≡ None = lookup-without_same txn others apart.1 in
    elim (eqb_tells o.txn txn) [
      | inl p ↦ rw p.0 (subst (λ (n : ℕ). lookup n others ≡ None) p.1 apart.0)
      | inr q ↦ rw q.0 (rw q.0 ih)
    ]

lookup-without_other : (txn other : ℕ) (table : Table) → other ≢ txn → lookup txn (without other table) ≡ lookup txn table
lookup-without_other txn other [] apart = refl
lookup-without_other txn other (o ∷ others) apart =
    let ih : lookup txn (without other others) ≡ lookup txn others = lookup-without_other txn other others apart in
    elim (eqb_tells o.txn other) [
      | inl p ↦ (let test : (o.txn == txn) ≡ false = differs o.txn txn (λ e. apart (sym p.1 ∙ e)) in rw (p.0, test) refl)
      | inr q ↦ rw q.0 (ap (λ (rest : Option OpenTxn). cond (o.txn == txn) (Some o) rest) ih)
    ]

lookup-append : (txn : ℕ) (table : Table) (o : OpenTxn) → lookup txn (table ++ o ∷ []) ≡ option_or (lookup txn table) (lookup txn (o ∷ []))
lookup-append txn [] o = refl
lookup-append txn (p ∷ ps) o = by (p.txn == txn) (lookup-append txn ps o) where
  by : (b : Bool) → lookup txn (ps ++ o ∷ []) ≡ option_or (lookup txn ps) (lookup txn (o ∷ []))
      → cond b (Some p) (lookup txn (ps ++ o ∷ [])) ≡ option_or (cond b (Some p) (lookup txn ps)) (lookup txn (o ∷ []))
  by true ih = refl
  by false ih = ih

lookup-with_write_same : (txn : ℕ) (patch : Patch) (table : Table) → lookup txn (with_write txn patch table) ≡ option_map (with_patch patch) (lookup txn table)
lookup-with_write_same txn patch [] = refl
lookup-with_write_same txn patch (o ∷ others) =
    let ih : lookup txn (with_write txn patch others) ≡ option_map (with_patch patch) (lookup txn others) = lookup-with_write_same txn patch others in
    elim (eqb_tells o.txn txn) [ inl p ↦ rw p.0 (rw p.0 refl) | inr q ↦ rw q.0 (rw q.0 ih) ]

lookup-with_write_other : (txn other : ℕ) (patch : Patch) (table : Table) → other ≢ txn → lookup txn (with_write other patch table) ≡ lookup txn table
lookup-with_write_other txn other patch [] apart = refl
lookup-with_write_other txn other patch (o ∷ others) apart =
    let ih : lookup txn (with_write other patch others) ≡ lookup txn others = lookup-with_write_other txn other patch others apart in
    elim (eqb_tells o.txn other) [
      | inl p ↦ (let test : (o.txn == txn) ≡ false = differs o.txn txn (λ e. apart (sym p.1 ∙ e)) in rw (p.0, test) refl)
      | inr q ↦ rw q.0 (ap (λ (rest : Option OpenTxn). cond (o.txn == txn) (Some o) rest) ih)
    ]

without_keeps_none : (txn other : ℕ) (table : Table) → lookup txn table ≡ None → lookup txn (without other table) ≡ None
without_keeps_none txn other [] none = refl
without_keeps_none txn other (o ∷ others) none =
    let parts : ((o.txn == txn) ≡ false) × (lookup txn others ≡ None) = first_none o (lookup txn others) (o.txn == txn) none in
    let ih : lookup txn (without other others) ≡ None = without_keeps_none txn other others parts.1 in
    elim (eqb_tells o.txn other) [ inl p ↦ rw p.0 parts.1 | inr q ↦ rw q.0 (rw parts.0 ih) ]

with_write_keeps_none : (txn other : ℕ) (patch : Patch) (table : Table) → lookup txn table ≡ None → lookup txn (with_write other patch table) ≡ None
with_write_keeps_none txn other patch [] none = refl
with_write_keeps_none txn other patch (o ∷ others) none =
    let parts : ((o.txn == txn) ≡ false) × (lookup txn others ≡ None) = first_none o (lookup txn others) (o.txn == txn) none in
    let ih : lookup txn (with_write other patch others) ≡ None = with_write_keeps_none txn other patch others parts.1 in
    elim (eqb_tells o.txn other) [ inl p ↦ rw p.0 (rw parts.0 parts.1) | inr q ↦ rw q.0 (rw parts.0 ih) ]

IsApart-without : (other : ℕ) (table : Table) → IsApart table → IsApart (without other table)
IsApart-without other [] apart = tt
IsApart-without other (o ∷ others) apart = by (o.txn == other) (IsApart-without other others apart.1) where
  by : (b : Bool) → IsApart (without other others) → IsApart (cond b others (o ∷ without other others))
  by true ih = apart.1
  by false ih = (without_keeps_none o.txn other others apart.0, ih)

IsApart-with_write : (other : ℕ) (patch : Patch) (table : Table) → IsApart table → IsApart (with_write other patch table)
IsApart-with_write other patch [] apart = tt
IsApart-with_write other patch (o ∷ others) apart = by (o.txn == other) (IsApart-with_write other patch others apart.1) where
  by : (b : Bool) → IsApart (with_write other patch others) → IsApart (cond b (with_patch patch o ∷ others) (o ∷ with_write other patch others))
  by true ih = apart
  by false ih = (with_write_keeps_none o.txn other patch others apart.0, ih)

IsApart-append : (table : Table) (o : OpenTxn) → IsApart table → lookup o.txn table ≡ None → IsApart (table ++ o ∷ [])
IsApart-append [] o apart none = (refl, tt)
IsApart-append (p ∷ ps) o apart none =
    let parts : ((p.txn == o.txn) ≡ false) × (lookup o.txn ps ≡ None) = first_none p (lookup o.txn ps) (p.txn == o.txn) none in
    let test : (o.txn == p.txn) ≡ false = grind (arith, nat_tests, parts.0) in
    let absent : lookup p.txn (ps ++ o ∷ []) ≡ None = lookup-append p.txn ps o ∙ rw (apart.0, test) refl in
    (absent, IsApart-append ps o apart.1 parts.1)

table_apart : (past : List LogEntry) → IsApart (table_back past)
table_apart [] = tt
table_apart (begin other ∷ past) =
    IsApart-append (without other (table_back past)) (record { txn = other; first = suc (length past); patches = [] })
    (IsApart-without other (table_back past) (table_apart past)) (lookup-without_same other (table_back past) (table_apart past))
table_apart (write other patch ∷ past) = IsApart-with_write other patch (table_back past) (table_apart past)
table_apart (commit other time ∷ past) = IsApart-without other (table_back past) (table_apart past)
table_apart (abort other ∷ past) = IsApart-without other (table_back past) (table_apart past)
table_apart (reset restore target time ∷ past) = tt

push_same : (txn first : ℕ) (table : Table) → lookup txn table ≡ None
    → lookup txn (table ++ record { txn = txn; first = first; patches = [] } ∷ []) ≡ Some (record { txn = txn; first = first; patches = [] })
push_same txn first table none =
    let test : (txn == txn) ≡ true = grind (arith, nat_tests) in
    lookup-append txn table (record { txn = txn; first = first; patches = [] }) ∙ rw (none, test) refl

push_other : (txn other first : ℕ) (table : Table) → (other == txn) ≡ false
    → lookup txn (table ++ record { txn = other; first = first; patches = [] } ∷ []) ≡ lookup txn table
push_other txn other first table test =
    lookup-append txn table (record { txn = other; first = first; patches = [] }) ∙ rw test (last_none (lookup txn table)) where
      last_none : (o : Option OpenTxn) → option_or o None ≡ o
      last_none None = refl
      last_none (Some o) = refl

-- a Write of the transaction, told
told-write : (txn : ℕ) (patch : Patch) (past : List LogEntry) → (txn == txn) ≡ true → option_map (with_patch patch) (told_by txn past) ≡ told_by txn (write txn patch ∷ past)
told-write txn patch past test =
    let both : writes_back txn past ++ (if txn == txn then patch ∷ [] else []) ≡ writes_back txn past ++ patch ∷ [] = rw test refl in
    by (open_back txn past) ∙ ap (λ (ps : List Patch). cond (open_back txn past) (Some (record { txn = txn; first = begin_back txn past; patches = ps })) None) (sym both) where
      by : (b : Bool) → option_map (with_patch patch) (cond b (Some (record { txn = txn; first = begin_back txn past; patches = writes_back txn past })) None)
          ≡ cond b (Some (record { txn = txn; first = begin_back txn past; patches = writes_back txn past ++ patch ∷ [] })) None
      by true = refl
      by false = refl

pub lookup-table_back : (txn : ℕ) (past : List LogEntry) → lookup txn (table_back past) ≡ told_by txn past
lookup-table_back txn [] = refl
lookup-table_back txn (begin other ∷ past) =
    let ih : lookup txn (table_back past) ≡ told_by txn past = lookup-table_back txn past in
    let gone : lookup other (without other (table_back past)) ≡ None = lookup-without_same other (table_back past) (table_apart past) in
    elim (eqb_tells other txn) [
      | inl p ↦ (
          let same : txn ≡ other = sym p.1 in
          let here : lookup txn (table_back (begin txn ∷ past)) ≡ told_by txn (begin txn ∷ past) =
          push_same txn (suc (length past)) (without txn (table_back past)) (subst (λ (n : ℕ). lookup n (without n (table_back past)) ≡ None) p.1 gone)
          ∙ (let test : (txn == txn) ≡ true = grind (arith, nat_tests) in rw test refl) in
          subst (λ (n : ℕ). lookup txn (table_back (begin n ∷ past)) ≡ told_by txn (begin n ∷ past)) same here)
      | inr q ↦ (
          let told : told_by txn (begin other ∷ past) ≡ told_by txn past = rw q.0 refl in
          push_other txn other (suc (length past)) (without other (table_back past)) q.0
          ∙ lookup-without_other txn other (table_back past) q.1 ∙ ih ∙ sym told)
    ]
lookup-table_back txn (write other patch ∷ past) =
    let ih : lookup txn (table_back past) ≡ told_by txn past = lookup-table_back txn past in
    elim (eqb_tells other txn) [
      | inl p ↦ (
          let same : txn ≡ other = sym p.1 in
          let here : lookup txn (table_back (write txn patch ∷ past)) ≡ told_by txn (write txn patch ∷ past) =
          lookup-with_write_same txn patch (table_back past) ∙ ap (option_map (with_patch patch)) ih ∙ told-write txn patch past (grind (arith, nat_tests)) in
          subst (λ (n : ℕ). lookup txn (table_back (write n patch ∷ past)) ≡ told_by txn (write n patch ∷ past)) same here)
      | inr q ↦ (
          let told : told_by txn (write other patch ∷ past) ≡ told_by txn past =
          ap (λ (ps : List Patch). cond (open_back txn past) (Some (record { txn = txn; first = begin_back txn past; patches = ps })) None)
          (rw q.0 (append-nil (writes_back txn past))) in
          lookup-with_write_other txn other patch (table_back past) q.1 ∙ ih ∙ sym told)
    ]
lookup-table_back txn (commit other time ∷ past) =
    let ih : lookup txn (table_back past) ≡ told_by txn past = lookup-table_back txn past in
    let gone : lookup other (without other (table_back past)) ≡ None = lookup-without_same other (table_back past) (table_apart past) in
    elim (eqb_tells other txn) [
      | inl p ↦ (
          let told : told_by txn (commit other time ∷ past) ≡ None = rw p.0 refl in
          subst (λ (n : ℕ). lookup n (without other (table_back past)) ≡ None) p.1 gone ∙ sym told)
      | inr q ↦ (
          let told : told_by txn (commit other time ∷ past) ≡ told_by txn past = rw q.0 refl in
          lookup-without_other txn other (table_back past) q.1 ∙ ih ∙ sym told)
    ]
lookup-table_back txn (abort other ∷ past) =
    let ih : lookup txn (table_back past) ≡ told_by txn past = lookup-table_back txn past in
    let gone : lookup other (without other (table_back past)) ≡ None = lookup-without_same other (table_back past) (table_apart past) in
    elim (eqb_tells other txn) [
      | inl p ↦ (
          let told : told_by txn (abort other ∷ past) ≡ None = rw p.0 refl in
          subst (λ (n : ℕ). lookup n (without other (table_back past)) ≡ None) p.1 gone ∙ sym told)
      | inr q ↦ (
          let told : told_by txn (abort other ∷ past) ≡ told_by txn past = rw q.0 refl in
          lookup-without_other txn other (table_back past) q.1 ∙ ih ∙ sym told)
    ]
lookup-table_back txn (reset restore target time ∷ past) = refl

goes_on : (txn : ℕ) (past : List LogEntry) → open_back txn past ≡ true → unless_open (lookup txn (table_back past)) ≡ None
goes_on txn past running = ap unless_open (lookup-table_back txn past) ∙ rw running refl

-- what may follow isn't refused
pub may_follow_not_refused : (past : List LogEntry) (entry : LogEntry) → MayFollow past entry → refusal entry (table_back past) ≡ None
may_follow_not_refused past (begin txn) may =
    let none : lookup txn (table_back past) ≡ None = lookup-table_back txn past ∙ rw may.0 refl in
    let test : nat_lt (length (table_back past)) 64 ≡ true = grind (arith, nat_tests, may.1) in
    ap (λ (o : Option OpenTxn). unless_new o (length (table_back past))) none ∙ rw test refl
may_follow_not_refused past (write txn patch) may = goes_on txn past may
may_follow_not_refused past (commit txn time) may = goes_on txn past may.0
may_follow_not_refused past (abort txn) may = goes_on txn past may
may_follow_not_refused past (reset restore target time) may = refl

order_not_refused : (past : List LogEntry) → InOrderBack past → first_refusal_back past ≡ None
order_not_refused [] order = refl
order_not_refused (entry ∷ past) order = rw (order_not_refused past order.1) (may_follow_not_refused past entry order.0)

pub in_order_not_refused : (history : History) → InOrder history → first_refusal history ≡ None
in_order_not_refused history order = order_not_refused (reverse history) order

-- the table has the Writes of a Commit, none where its transaction isn't open
pub given_back : (txn time : ℕ) (past : List LogEntry) → given (commit txn time) (table_back past) ≡ writes_of (Some (commit txn time)) past
given_back txn time past = ap patches_of (lookup-table_back txn past) ∙ by (open_back txn past) where
  by : (b : Bool) → patches_of (cond b (Some (record { txn = txn; first = begin_back txn past; patches = writes_back txn past })) None)
      ≡ cond b (writes_back txn past) []
  by true = refl
  by false = refl

entry_behind : (front rest : History) (entry : LogEntry) → slice_get (front ++ entry ∷ rest) (length front) ≡ Some entry
entry_behind [] rest entry = refl
entry_behind (first ∷ front) rest entry = entry_behind front rest entry

pub given_are_writes : (front rest : History) (txn time : ℕ)
    → given (commit txn time) (table_of front) ≡ writes (front ++ commit txn time ∷ rest) (suc (length front))
given_are_writes front rest txn time =
    let history : History = front ++ commit txn time ∷ rest in
    let before : take (suc (length front) - 1) history ≡ front = take_at front (commit txn time ∷ rest) (suc (length front) - 1) (omega arith) in
    let told : writes history (suc (length front)) ≡ writes_of (Some (commit txn time)) (reverse front) =
    ap (λ (o : Option LogEntry). writes_of o (reverse (take (suc (length front) - 1) history))) (entry_behind front rest (commit txn time))
    ∙ ap (λ (h : History). writes_of (Some (commit txn time)) (reverse h)) before in
    given_back txn time (reverse front) ∙ sym told
