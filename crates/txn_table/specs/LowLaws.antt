-- The first open transaction of the table is the one whose Begin is the oldest.
use Rattle.std.specs.Prelude.{◌≡◌, ℕ, suc, ◌≤◌, Bool, true, false, ◌==◌, List, [], ◌∷◌, ◌++◌, length, reverse, Some, None, MatchOption}
use Rattle.std.specs.List.{AllByRecursion}
use Rattle.std.proofs.Common.{refl, sym, ap, ◌∙◌, subst, cond, arith}
use Rattle.std.proofs.lemmas.Bool.Decides.{nat_tests}
use Rattle.log_history.specs.History.{Patch, LogEntry, History, begin, write, commit, abort, reset}
use Rattle.log_history.specs.Effects.{writes_back}
use Rattle.log_history.specs.Transactions.{OpenTxn, Table, lookup, without, with_write, table_back, table_of, open_back}
use Rattle.txn_table.specs.Table.{oldest}
use Rattle.txn_table.specs.OrderLaws.{begin_back, with_patch, lookup-table_back}

-- no transaction is open in records given newest first
abbrev pub NoneOpen : List LogEntry → Type 0
NoneOpen past = (txn : ℕ) → open_back txn past ≡ false

-- a position and a transaction: it is open, its last Begin is there, and no other open one's is older
pub record IsOldestOpen (past : List LogEntry) (low : ℕ × ℕ) : Type 0 where
  pub running : open_back low.1 past ≡ true
  pub begun : low.0 ≡ begin_back low.1 past
  pub none_older : (txn : ℕ) → open_back txn past ≡ true → low.0 ≤ begin_back txn past

abbrev From : ℕ → OpenTxn → Type 0
From low o = low ≤ o.first

abbrev UpTo : ℕ → OpenTxn → Type 0
UpTo end o = o.first ≤ end

-- the firsts don't fall, and end by a position
abbrev Rises : ℕ → Table → Type 0
Rises end [] = Unit {0}
Rises end (o ∷ others) = UpTo end o × AllByRecursion (From o.first) others × Rises end others

From-without : (low txn : ℕ) (table : Table) → AllByRecursion (From low) table → AllByRecursion (From low) (without txn table)
From-without low txn [] all = all
From-without low txn (o ∷ others) all = by (o.txn == txn) (From-without low txn others all.1) where
  by : (b : Bool) → AllByRecursion (From low) (without txn others) → AllByRecursion (From low) (cond b others (o ∷ without txn others))
  by true ih = all.1
  by false ih = (all.0, ih)

From-with_write : (low txn : ℕ) (patch : Patch) (table : Table) → AllByRecursion (From low) table → AllByRecursion (From low) (with_write txn patch table)
From-with_write low txn patch [] all = all
From-with_write low txn patch (o ∷ others) all = by (o.txn == txn) (From-with_write low txn patch others all.1) where
  by : (b : Bool) → AllByRecursion (From low) (with_write txn patch others)
      → AllByRecursion (From low) (cond b (with_patch patch o ∷ others) (o ∷ with_write txn patch others))
  by true ih = all
  by false ih = (all.0, ih)

From-append : (low : ℕ) (table : Table) (o : OpenTxn) → AllByRecursion (From low) table → From low o → AllByRecursion (From low) (table ++ o ∷ [])
From-append low [] o all above = (above, all)
From-append low (p ∷ ps) o all above = (all.0, From-append low ps o all.1 above)

Rises-without : (end txn : ℕ) (table : Table) → Rises end table → Rises end (without txn table)
Rises-without end txn [] rises = rises
Rises-without end txn (o ∷ others) rises = by (o.txn == txn) (Rises-without end txn others rises.2) where
  by : (b : Bool) → Rises end (without txn others) → Rises end (cond b others (o ∷ without txn others))
  by true ih = rises.2
  by false ih = (rises.0, From-without o.first txn others rises.1, ih)

Rises-with_write : (end txn : ℕ) (patch : Patch) (table : Table) → Rises end table → Rises end (with_write txn patch table)
Rises-with_write end txn patch [] rises = rises
Rises-with_write end txn patch (o ∷ others) rises = by (o.txn == txn) (Rises-with_write end txn patch others rises.2) where
  by : (b : Bool) → Rises end (with_write txn patch others)
      → Rises end (cond b (with_patch patch o ∷ others) (o ∷ with_write txn patch others))
  by true ih = rises
  by false ih = (rises.0, From-with_write o.first txn patch others rises.1, ih)

Rises-more : (end : ℕ) (table : Table) → Rises end table → Rises (suc end) table
Rises-more end [] rises = tt
Rises-more end (o ∷ others) rises = (omega (arith, rises.0), rises.1, Rises-more end others rises.2)

Rises-append : (end : ℕ) (table : Table) (o : OpenTxn) → Rises end table → o.first ≡ suc end → Rises (suc end) (table ++ o ∷ [])
Rises-append end [] o rises last = (omega (arith, last), tt, tt)
Rises-append end (p ∷ ps) o rises last =
    (omega (arith, rises.0), From-append p.first ps o rises.1 (omega (arith, rises.0, last)), Rises-append end ps o rises.2 last)

table_rises : (past : List LogEntry) → Rises (length past) (table_back past)
table_rises [] = tt
table_rises (begin other ∷ past) =
    Rises-append (length past) (without other (table_back past)) (record { txn = other; first = suc (length past); patches = [] })
    (Rises-without (length past) other (table_back past) (table_rises past)) refl
table_rises (write other patch ∷ past) =
    Rises-with_write (suc (length past)) other patch (table_back past) (Rises-more (length past) (table_back past) (table_rises past))
table_rises (commit other time ∷ past) =
    Rises-without (suc (length past)) other (table_back past) (Rises-more (length past) (table_back past) (table_rises past))
table_rises (abort other ∷ past) =
    Rises-without (suc (length past)) other (table_back past) (Rises-more (length past) (table_back past) (table_rises past))
table_rises (reset restore target time ∷ past) = tt

found_from : (low txn : ℕ) (table : Table) (o : OpenTxn) → AllByRecursion (From low) table → lookup txn table ≡ Some o → From low o
found_from low txn [] o all found = absurd cc
found_from low txn (p ∷ ps) o all found = by (p.txn == txn) found (found_from low txn ps o all.1) where
  by : (b : Bool) → cond b (Some p) (lookup txn ps) ≡ Some o → (lookup txn ps ≡ Some o → From low o) → From low o
  by true e ih = (let same : p ≡ o = cc in subst (From low) same all.0)
  by false e ih = ih e

told_some : (b : Bool) (told o : OpenTxn) → cond b (Some told) None ≡ Some o → (b ≡ true) × (told ≡ o)
told_some true told o e = (refl, cc)
told_some false told o e = absurd cc

told_none : (b : Bool) (told : OpenTxn) → None ≡ cond b (Some told) None → b ≡ false
told_none true told e = absurd cc
told_none false told e = refl

abbrev told : ℕ → List LogEntry → OpenTxn
told txn past = record { txn = txn; first = begin_back txn past; patches = writes_back txn past }

-- by a table that the records make
low_by : (past : List LogEntry) (table : Table) → table ≡ table_back past → Rises (length past) table → MatchOption (oldest table) (NoneOpen past) (IsOldestOpen past)
low_by past [] same rises = λ txn. told_none (open_back txn past) (told txn past) (ap (lookup txn) same ∙ lookup-table_back txn past)
low_by past (o ∷ others) same rises =
    let test : (o.txn == o.txn) ≡ true = grind (arith, nat_tests) in
    let first : lookup o.txn (o ∷ others) ≡ Some o = rw test refl in
    let parts : (open_back o.txn past ≡ true) × (told o.txn past ≡ o) =
    told_some (open_back o.txn past) (told o.txn past) o (sym (lookup-table_back o.txn past) ∙ ap (lookup o.txn) (sym same) ∙ first) in
    record {
      running = parts.0;
      begun = sym (ap (λ (x : OpenTxn). x.first) parts.1);
      none_older = λ txn running.
          found_from o.first txn (o ∷ others) (told txn past) (omega arith, rises.1)
          (ap (lookup txn) same ∙ lookup-table_back txn past ∙ ap (λ (b : Bool). cond b (Some (told txn past)) None) running);
    }

pub low_is_oldest : (history : History) → MatchOption (oldest (table_of history)) (NoneOpen (reverse history)) (IsOldestOpen (reverse history))
low_is_oldest history = low_by (reverse history) (table_of history) refl (table_rises (reverse history))
