-- Laws of the open transactions: the oldest Begin never falls, and what an open transaction has lies behind its Begin.
use Rattle.std.specs.Prelude.{ℕ, suc, ◌+◌, ◌<◌, ◌≤◌, ◌==◌, List, [], ◌∷◌, ◌++◌, length, reverse, take, drop, Bool, true, false, if◌then◌else◌}
use Rattle.std.proofs.Common.{arith, sym, subst, length-append, take-append-drop}
use Rattle.std.proofs.lemmas.List.{reverse-append, length-reverse, take-take}
use Rattle.log_history.specs.History.{Patch, LogEntry, History, begin, write, commit, abort, reset}
use Rattle.log_history.specs.Transactions.{Table, without, with_write, after, table_back, low_of, low}
use Rattle.site_worlds.specs.Files.{low_at}
use Rattle.site_worlds.specs.Fitness.{AreBrief, IsBriefBack}

-- the Begins don't fall, from a position on; each transaction has no more Writes than there are positions behind its Begin, up to another
abbrev pub Rises : ℕ → ℕ → Table → Type 0
Rises from at [] = from ≤ suc at
Rises from at (o ∷ others) = (from ≤ o.first) × (o.first + length o.patches ≤ at) × Rises o.first at others

rises_from : (less from at : ℕ) (table : Table) → less ≤ from → Rises from at table → Rises less at table
rises_from less from at [] le rises = omega (arith, le, rises)
rises_from less from at (o ∷ others) le rises = (omega (arith, le, rises.0), rises.1, rises.2)

rises_later : (from at : ℕ) (table : Table) → Rises from at table → Rises from (suc at) table
rises_later from at [] rises = omega (arith, rises)
rises_later from at (o ∷ others) rises = (rises.0, omega (arith, rises.1), rises_later o.first at others rises.2)

rises_without : (txn from at : ℕ) (table : Table) → Rises from at table → Rises from at (without txn table)
rises_without txn from at [] rises = rises
rises_without txn from at (o ∷ others) rises = by (o.txn == txn) (rises_without txn o.first at others rises.2)
  where
    by : (b : Bool) → Rises o.first at (without txn others) → Rises from at (if b then others else o ∷ without txn others)
    by true rest = rises_from from o.first at others rises.0 rises.2
    by false rest = (rises.0, rises.1, rest)

rises_write : (txn : ℕ) (patch : Patch) (from at : ℕ) (table : Table) → Rises from at table → Rises from (suc at) (with_write txn patch table)
rises_write txn patch from at [] rises = omega (arith, rises)
rises_write txn patch from at (o ∷ others) rises = by (o.txn == txn) (rises_write txn patch o.first at others rises.2)
  where
    by : (b : Bool) → Rises o.first (suc at) (with_write txn patch others) → Rises from (suc at) (if b then record o { patches = o.patches ++ patch ∷ [] } ∷ others else o ∷ with_write txn patch others)
    by true rest = (rises.0, omega (arith, rises.1, length-append o.patches (patch ∷ [])), rises_later o.first at others rises.2)
    by false rest = (rises.0, omega (arith, rises.1), rest)

rises_begin : (txn from at : ℕ) (table : Table) → Rises from at table → Rises from (suc at) (table ++ record { txn = txn; first = suc at; patches = [] } ∷ [])
rises_begin txn from at [] rises = (rises, omega arith, omega arith)
rises_begin txn from at (o ∷ others) rises = (rises.0, omega (arith, rises.1), rises_begin txn o.first at others rises.2)

rises_after : (entry : LogEntry) (from at : ℕ) (table : Table) → from ≤ suc at → Rises from at table → Rises from (suc at) (after (suc at) entry table)
rises_after (begin txn) from at table le rises = rises_begin txn from at (without txn table) (rises_without txn from at table rises)
rises_after (write txn patch) from at table le rises = rises_write txn patch from at table rises
rises_after (commit txn time) from at table le rises = rises_later from at (without txn table) (rises_without txn from at table rises)
rises_after (abort txn) from at table le rises = rises_later from at (without txn table) (rises_without txn from at table rises)
rises_after (reset restore target time) from at table le rises = omega (arith, le)

-- more records, newest first
pub rises_back : (newer past : List LogEntry) (from : ℕ) → from ≤ suc (length past) → Rises from (length past) (table_back past)
    → Rises from (length (newer ++ past)) (table_back (newer ++ past))
rises_back [] past from le rises = rises
rises_back (entry ∷ newer) past from le rises =
    rises_after entry from (length (newer ++ past)) (table_back (newer ++ past)) (omega (arith, le, length-append newer past)) (rises_back newer past from le rises)

pub rises_all : (past : List LogEntry) → Rises 0 (length past) (table_back past)
rises_all [] = omega arith
rises_all (entry ∷ past) = rises_after entry 0 (length past) (table_back past) (omega arith) (rises_all past)

rises_low : (from at : ℕ) (table : Table) → Rises from at table → Rises (low_of table at) at table
rises_low from at [] rises = omega arith
rises_low from at (o ∷ others) rises = (omega arith, rises.1, rises.2)

low_within : (from at : ℕ) (table : Table) → Rises from at table → low_of table at ≤ suc at
low_within from at [] rises = omega arith
low_within from at (o ∷ others) rises = omega (arith, rises.1)

low_above : (from at : ℕ) (table : Table) → Rises from at table → from ≤ low_of table at
low_above from at [] rises = omega (arith, rises)
low_above from at (o ∷ others) rises = rises.0

-- the oldest open Begin is at most the position behind the end
pub low_within_back : (past : List LogEntry) → low_of (table_back past) (length past) ≤ suc (length past)
low_within_back past = low_within 0 (length past) (table_back past) (rises_all past)

-- from it on the Begins rise
pub rises_from_low : (past : List LogEntry) → Rises (low_of (table_back past) (length past)) (length past) (table_back past)
rises_from_low past = rises_low 0 (length past) (table_back past) (rises_all past)

-- more records don't make it fall
pub low_back : (newer past : List LogEntry) → low_of (table_back past) (length past) ≤ low_of (table_back (newer ++ past)) (length (newer ++ past))
low_back newer past =
    low_above (low_of (table_back past) (length past)) (length (newer ++ past)) (table_back (newer ++ past))
    (rises_back newer past (low_of (table_back past) (length past)) (low_within_back past) (rises_from_low past))

-- The oldest open Begin of more records isn't before that of fewer.
pub low_rises : (history more : History) → low history ≤ low (history ++ more)
low_rises history more =
    subst (λ (n : ℕ). low_of (table_back (reverse history)) n ≤ low_of (table_back (reverse (history ++ more))) (length (history ++ more))) (length-reverse history)
    (subst (λ (n : ℕ). low_of (table_back (reverse history)) (length (reverse history)) ≤ low_of (table_back (reverse (history ++ more))) n) (length-reverse (history ++ more))
    (subst (λ (back : List LogEntry). low_of (table_back (reverse history)) (length (reverse history)) ≤ low_of (table_back back) (length back)) (sym (reverse-append history more))
    (low_back (reverse more) (reverse history))))

pub low_at_rises : (history : History) (a b : ℕ) → a ≤ b → low_at history a ≤ low_at history b
low_at_rises history a b le =
    subst (λ (h : History). low_at history a ≤ low h) (take-append-drop a (take b history))
    (subst (λ (h : History). low h ≤ low (take a (take b history) ++ drop a (take b history))) (take-take a b history le)
    (low_rises (take a (take b history)) (drop a (take b history))))

brief_table : (from at : ℕ) (table : Table) → at < from + 2048 → Rises from at table → AreBrief table
brief_table from at [] lt rises = tt
brief_table from at (o ∷ others) lt rises =
    (omega (arith, lt, rises.0, rises.1), brief_table o.first at others (omega (arith, lt, rises.0)) rises.2)

-- Where all that is open begins in the last 2,048 positions, no transaction has too many records.
pub brief_back : (newer past : List LogEntry) (from : ℕ) → from ≤ low_of (table_back past) (length past) → length (newer ++ past) < from + 2048
    → IsBriefBack past → IsBriefBack (newer ++ past)
brief_back [] past from low lt brief = brief
brief_back (entry ∷ newer) past from low lt brief = (
  brief_table from (length (entry ∷ newer ++ past)) (table_back (entry ∷ newer ++ past)) lt
      (rises_from from (low_of (table_back past) (length past)) (length (entry ∷ newer ++ past)) (table_back (entry ∷ newer ++ past)) low
      (rises_back (entry ∷ newer) past (low_of (table_back past) (length past)) (low_within_back past) (rises_from_low past))),
  brief_back newer past from low (omega (arith, lt)) brief,
)
