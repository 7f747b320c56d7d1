-- The table of a reader has the open transactions that began behind where it began; once all did, it is the table of the whole log.
use Rattle.std.specs.Prelude.{◌≡◌, ℕ, suc, ◌+◌, ◌<◌, ◌≤◌, ◌==◌, Bool, true, false, nat_lt, if◌then◌else◌, List, [], ◌∷◌, ◌++◌, length, Option, Some, None}
use Rattle.std.specs.List.{AllByRecursion}
use Rattle.std.proofs.Common.{refl, sym, ap, ◌∙◌, cond, arith, length-append}
use Rattle.std.proofs.lemmas.Bool.Decides.{nat_tests}
use Rattle.log_history.specs.History.{Patch, LogEntry, begin, write, commit, abort, reset}
use Rattle.log_history.specs.Transactions.{OpenTxn, Table, Refusal, after, lookup, low_of, refusal, table_back, too_many_open, unless_new, unless_open, with_write, without, open_back, InOrderBack}
use Rattle.log_history.specs.Effects.{writes_back}
use Rattle.txn_table.specs.OrderLaws.{begin_back, lookup-table_back}
use Rattle.held_laws.specs.Reading.{begun_behind, read_after, read_back, unless_refused}
use Rattle.held_laws.specs.KeptLaws.{all_kept, kept-append, kept-with_write, kept-without, kept_few, none-with_write, none-without, none_kept, table_apart}

-- when the transactions of a table began

abbrev From : ℕ → OpenTxn → Type 0
From low o = low < o.first

abbrev UpTo : ℕ → OpenTxn → Type 0
UpTo end o = o.first ≤ end

module _ (P : ℕ → Type 0) where
  abbrev All : Table → Type 0
  All table = AllByRecursion (λ (o : OpenTxn). P o.first) table

  all-without : (txn : ℕ) (table : Table) → All table → All (without txn table)
  all-without txn [] all = tt
  all-without txn (o ∷ others) all = by (o.txn == txn) (all-without txn others all.1)
    where
      by : (b : Bool) → All (without txn others) → All (cond b others (o ∷ without txn others))
      by true ih = all.1
      by false ih = (all.0, ih)

  all-with_write : (txn : ℕ) (patch : Patch) (table : Table) → All table → All (with_write txn patch table)
  all-with_write txn patch [] all = tt
  all-with_write txn patch (o ∷ others) all = by (o.txn == txn) (all-with_write txn patch others all.1)
    where
      by : (b : Bool) → All (with_write txn patch others)
          → All (cond b (record o { patches = o.patches ++ patch ∷ [] } ∷ others) (o ∷ with_write txn patch others))
      by true ih = all
      by false ih = (all.0, ih)

  all-push : (table : Table) (o : OpenTxn) → All table → P o.first → All (table ++ o ∷ [])
  all-push [] o all is = (is, tt)
  all-push (p ∷ ps) o all is = (all.0, all-push ps o all.1 is)

  -- behind a record at a position
  all-after : (at : ℕ) (entry : LogEntry) (table : Table) → P at → All table → All (after at entry table)
  all-after at (begin txn) table is all = all-push (without txn table) (record { txn = txn; first = at; patches = [] }) (all-without txn table all) is
  all-after at (write txn patch) table is all = all-with_write txn patch table all
  all-after at (commit txn time) table is all = all-without txn table all
  all-after at (abort txn) table is all = all-without txn table all
  all-after at (reset restore target time) table is all = tt

weaker : (P Q : ℕ → Type 0) → ((n : ℕ) → P n → Q n) → (table : Table) → All P table → All Q table
weaker P Q is [] all = tt
weaker P Q is (o ∷ others) all = (is o.first all.0, weaker P Q is others all.1)

-- none begins behind the end
table_began : (past : List LogEntry) → All (λ n. n ≤ length past) (table_back past)
table_began [] = tt
table_began (entry ∷ past) =
    all-after (λ n. n ≤ suc (length past)) (suc (length past)) entry (table_back past) (omega arith)
    (weaker (λ n. n ≤ length past) (λ n. n ≤ suc (length past)) (λ n le. omega (arith, le)) (table_back past) (table_began past))

none_behind : (before : ℕ) (table : Table) → All (λ n. n ≤ before) table → begun_behind before table ≡ []
none_behind before [] all = refl
none_behind before (o ∷ others) all =
    let test : nat_lt before o.first ≡ false = grind (arith, nat_tests, all.0) in
    rw test (none_behind before others all.1)

-- what a reader has

isnt_open : (txn : ℕ) (past : List LogEntry) → open_back txn past ≡ false → lookup txn (table_back past) ≡ None
isnt_open txn past is = lookup-table_back txn past ∙ ap (λ (b : Bool). cond b (Some (record { txn = txn; first = begin_back txn past; patches = writes_back txn past })) None) is

-- a Write, a Commit or an Abort is passed over where its transaction isn't there, and would change nothing
goes_on : (entry : LogEntry) (at : ℕ) (table next : Table) (found : Option OpenTxn) → unless_open found ≡ refusal entry table
    → (found ≡ None → next ≡ table) → unless_refused (unless_open found) table next ≡ next
goes_on entry at table next None same none = sym (none refl)
goes_on entry at table next (Some o) same none = refl

module _ (older : List LogEntry) where
  before : ℕ
  before = length older

  -- one record more
  step : (entry : LogEntry) (newer : List LogEntry) → InOrderBack (entry ∷ (newer ++ older))
      → read_back (length older) newer ≡ begun_behind (length older) (table_back (newer ++ older))
      → (at : ℕ) → at ≡ suc (length (newer ++ older))
      → read_after at entry (begun_behind (length older) (table_back (newer ++ older)))
      ≡ begun_behind (length older) (after at entry (table_back (newer ++ older)))
  step (begin txn) newer order ih at is =
      let past = newer ++ older in
      let T = table_back past in
      let none : lookup txn T ≡ None = isnt_open txn past order.0.0 in
      let none_of_kept : lookup txn (begun_behind (length older) T) ≡ None = none_kept (length older) txn T none in
      let few : nat_lt (length (begun_behind (length older) T)) 64 ≡ true =
      (let less = order.0.1 in let fewer = kept_few (length older) T in grind (arith, nat_tests, less, fewer)) in
      let allowed : unless_new (lookup txn (begun_behind (length older) T)) (length (begun_behind (length older) T)) ≡ None =
      ap (λ (o : Option OpenTxn). unless_new o (length (begun_behind (length older) T))) none_of_kept ∙ ap (λ (b : Bool). if b then None else Some too_many_open) few in
      let later : length older < at = omega (arith, is, length-append newer older) in
      ap (λ (r : Option Refusal). unless_refused r (begun_behind (length older) T) (after at (begin txn) (begun_behind (length older) T))) allowed
      ∙ ap (λ (t : Table). t ++ record { txn = txn; first = at; patches = [] } ∷ []) (sym (kept-without (length older) txn T (table_apart past)))
      ∙ sym (kept-append (length older) (without txn T) (record { txn = txn; first = at; patches = [] }) later)
  step (write txn patch) newer order ih at is =
      let past = newer ++ older in
      let T = table_back past in
      goes_on (write txn patch) at (begun_behind (length older) T) (with_write txn patch (begun_behind (length older) T)) (lookup txn (begun_behind (length older) T)) refl
      (λ none. none-with_write txn patch (begun_behind (length older) T) none)
      ∙ sym (kept-with_write (length older) txn patch T (table_apart past))
  step (commit txn time) newer order ih at is =
      let past = newer ++ older in
      let T = table_back past in
      goes_on (commit txn time) at (begun_behind (length older) T) (without txn (begun_behind (length older) T)) (lookup txn (begun_behind (length older) T)) refl
      (λ none. none-without txn (begun_behind (length older) T) none)
      ∙ sym (kept-without (length older) txn T (table_apart past))
  step (abort txn) newer order ih at is =
      let past = newer ++ older in
      let T = table_back past in
      goes_on (abort txn) at (begun_behind (length older) T) (without txn (begun_behind (length older) T)) (lookup txn (begun_behind (length older) T)) refl
      (λ none. none-without txn (begun_behind (length older) T) none)
      ∙ sym (kept-without (length older) txn T (table_apart past))
  step (reset restore target time) newer order ih at is = refl

  -- A reader of records in order that come behind some others has the open transactions that began among them.
  pub reads : (newer : List LogEntry) → InOrderBack (newer ++ older) → read_back (length older) newer ≡ begun_behind (length older) (table_back (newer ++ older))
  reads [] order = sym (none_behind (length older) (table_back older) (table_began older))
  reads (entry ∷ newer) order =
      let ih : read_back (length older) newer ≡ begun_behind (length older) (table_back (newer ++ older)) = reads newer order.1 in
      let at : length older + suc (length newer) ≡ suc (length (newer ++ older)) = omega (arith, length-append newer older) in
      ap (read_after (length older + suc (length newer)) entry) ih
      ∙ step entry newer order ih (length older + suc (length newer)) at
      ∙ ap (λ (n : ℕ). begun_behind (length older) (after n entry (table_back (newer ++ older)))) at

  -- where all that were open at a later position began among them, it has all from there on
  pub all_began : (newer front : List LogEntry) → All (λ n. length older < n) (table_back (front ++ older))
      → All (λ n. length older < n) (table_back (newer ++ (front ++ older)))
  all_began [] front all = all
  all_began (entry ∷ newer) front all =
      all-after (λ n. length older < n) (suc (length (newer ++ (front ++ older)))) entry (table_back (newer ++ (front ++ older)))
      (omega (arith, length-append newer (front ++ older), length-append front older)) (all_began newer front all)

  pub reads_all : (newer : List LogEntry) → InOrderBack (newer ++ older) → All (λ n. length older < n) (table_back (newer ++ older))
      → read_back (length older) newer ≡ table_back (newer ++ older)
  reads_all newer order all = reads newer order ∙ all_kept (length older) (table_back (newer ++ older)) all

-- the oldest open Begin tells when all began

abbrev Rises : Table → Type 0
Rises [] = Unit {0}
Rises (o ∷ others) = All (λ n. o.first ≤ n) others × Rises others

rises-without : (txn : ℕ) (table : Table) → Rises table → Rises (without txn table)
rises-without txn [] rises = tt
rises-without txn (o ∷ others) rises = by (o.txn == txn) (rises-without txn others rises.1)
  where
    by : (b : Bool) → Rises (without txn others) → Rises (cond b others (o ∷ without txn others))
    by true ih = rises.1
    by false ih = (all-without (λ n. o.first ≤ n) txn others rises.0, ih)

rises-with_write : (txn : ℕ) (patch : Patch) (table : Table) → Rises table → Rises (with_write txn patch table)
rises-with_write txn patch [] rises = tt
rises-with_write txn patch (o ∷ others) rises = by (o.txn == txn) (rises-with_write txn patch others rises.1)
  where
    by : (b : Bool) → Rises (with_write txn patch others)
        → Rises (cond b (record o { patches = o.patches ++ patch ∷ [] } ∷ others) (o ∷ with_write txn patch others))
    by true ih = rises
    by false ih = (all-with_write (λ n. o.first ≤ n) txn patch others rises.0, ih)

rises-push : (end : ℕ) (table : Table) (o : OpenTxn) → All (λ n. n ≤ end) table → end ≤ o.first → Rises table → Rises (table ++ o ∷ [])
rises-push end [] o few le rises = (tt, tt)
rises-push end (p ∷ ps) o few le rises =
    (all-push (λ n. p.first ≤ n) ps o rises.0 (omega (arith, few.0, le)), rises-push end ps o few.1 le rises.1)

table_rises : (past : List LogEntry) → Rises (table_back past)
table_rises [] = tt
table_rises (begin txn ∷ past) =
    rises-push (length past) (without txn (table_back past)) (record { txn = txn; first = suc (length past); patches = [] })
    (all-without (λ n. n ≤ length past) txn (table_back past) (table_began past)) (omega arith) (rises-without txn (table_back past) (table_rises past))
table_rises (write txn patch ∷ past) = rises-with_write txn patch (table_back past) (table_rises past)
table_rises (commit txn time ∷ past) = rises-without txn (table_back past) (table_rises past)
table_rises (abort txn ∷ past) = rises-without txn (table_back past) (table_rises past)
table_rises (reset restore target time ∷ past) = tt

by_oldest : (from end : ℕ) (table : Table) → Rises table → from < low_of table end → All (λ n. from < n) table
by_oldest from end [] rises lt = tt
by_oldest from end (o ∷ others) rises lt = (lt, weaker (λ n. o.first ≤ n) (λ n. from < n) (λ n le. omega (arith, le, lt)) others rises.0)

-- all open transactions began behind a position that comes before the oldest of their Begins
pub all_behind : (from end : ℕ) (past : List LogEntry) → from < low_of (table_back past) end → All (λ n. from < n) (table_back past)
all_behind from end past lt = by_oldest from end (table_back past) (table_rises past) lt

-- the oldest open Begin is no further than one behind the end
pub low_bound : (past : List LogEntry) → low_of (table_back past) (length past) ≤ suc (length past)
low_bound past = by (table_back past) (table_began past)
  where
    by : (table : Table) → All (λ n. n ≤ length past) table → low_of table (length past) ≤ suc (length past)
    by [] all = omega arith
    by (o ∷ others) all = omega (arith, all.0)
