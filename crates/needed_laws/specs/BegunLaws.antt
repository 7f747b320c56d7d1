-- What an open transaction has lies behind its Begin, and is live where its Commit is.
use Rattle.std.specs.Prelude.{◌≡◌, ◌⊎◌, ℕ, suc, ◌==◌, ◌≤◌, List, [], ◌∷◌, ◌++◌, length, Bool, true, false, nat_le, if◌then◌else◌}
use mathlib.Core.Logic.{inl, inr}
use Rattle.std.proofs.Common.{arith, refl, sym, ap, ◌∙◌}
use Rattle.std.proofs.lemmas.Bool.{false≢true}
use Rattle.std.proofs.lemmas.Bool.Decides.{nat_tests}
use Rattle.log_history.specs.History.{Patch, LogEntry, begin, write, commit, abort, reset}
use Rattle.log_history.specs.Live.{live_by, reset_points_back}
use Rattle.log_history.specs.Transactions.{open_back, Table, without, with_write, table_back, low_of}
use Rattle.log_history.specs.Effects.{writes_back}
use Rattle.history_laws.specs.LiveLaws.{live_behind}
use Rattle.world_laws.specs.TableLaws.{Rises, rises_from_low}
use Rattle.needed_laws.specs.Needed.{read_back}

-- the position of a transaction's last Begin, in records given newest first
abbrev pub begun : ℕ → List LogEntry → ℕ
begun txn [] = 0
begun txn (begin other ∷ past) = if other == txn then suc (length past) else begun txn past
begun txn (entry ∷ past) = begun txn past

pub begun_within : (txn : ℕ) (back : List LogEntry) → begun txn back ≤ length back
begun_within txn [] = omega arith
begun_within txn (begin other ∷ past) = by (other == txn) (begun_within txn past)
  where
    by : (b : Bool) → begun txn past ≤ length past → (if b then suc (length past) else begun txn past) ≤ suc (length past)
    by true le = omega arith
    by false le = omega (arith, le)
begun_within txn (write other patch ∷ past) = omega (arith, begun_within txn past)
begun_within txn (commit other time ∷ past) = omega (arith, begun_within txn past)
begun_within txn (abort other ∷ past) = omega (arith, begun_within txn past)
begun_within txn (reset restore target time ∷ past) = omega (arith, begun_within txn past)

-- where an ended transaction would be, another one is open
still_open : (b c : Bool) → (if b then false else c) ≡ true → (b ≡ false) × (c ≡ true)
still_open true c is = absurd (false≢true is)
still_open false c is = (refl, is)

-- reading the records from the Begin on is reading all

module _ (is_read : ℕ → Bool) (txn : ℕ) where
  pub record ReadsSame (back : List LogEntry) : Type 0 where
    pub is_open : open_back txn (read_back is_read back) ≡ true
    pub writes : writes_back txn (read_back is_read back) ≡ writes_back txn back

  pub reads_same : (back : List LogEntry) → open_back txn back ≡ true → ((x : ℕ) → begun txn back ≤ x → x ≤ length back → is_read x ≡ true) → ReadsSame back
  reads_same [] is each = absurd (false≢true is)
  reads_same (begin other ∷ past) is each = by (other == txn) refl is each (λ o e. reads_same past o e)
    where
      here : (b : Bool) → (other == txn) ≡ b → is_read (suc (length past)) ≡ true → (if b then true else open_back txn past) ≡ true
          → (b ≡ false → ReadsSame past) → ReadsSame (begin other ∷ past)
      here true same read open_now later = record {
        is_open = ap (λ (c : Bool). open_back txn (if c then begin other ∷ read_back is_read past else read_back is_read past)) read
            ∙ ap (λ (c : Bool). if c then true else open_back txn (read_back is_read past)) same;
        writes = ap (λ (c : Bool). writes_back txn (if c then begin other ∷ read_back is_read past else read_back is_read past)) read
            ∙ ap (λ (c : Bool). if c then [] else writes_back txn (read_back is_read past)) same
            ∙ sym (ap (λ (c : Bool). if c then [] else writes_back txn past) same);
      }
      here false isnt read open_now later =
          let rest : ReadsSame past = later refl in
          record {
            is_open = ap (λ (c : Bool). open_back txn (if c then begin other ∷ read_back is_read past else read_back is_read past)) read
                ∙ ap (λ (c : Bool). if c then true else open_back txn (read_back is_read past)) isnt ∙ rest.is_open;
            writes = ap (λ (c : Bool). writes_back txn (if c then begin other ∷ read_back is_read past else read_back is_read past)) read
                ∙ ap (λ (c : Bool). if c then [] else writes_back txn (read_back is_read past)) isnt ∙ rest.writes
                ∙ sym (ap (λ (c : Bool). if c then [] else writes_back txn past) isnt);
          }

      by : (b : Bool) → (other == txn) ≡ b → (if b then true else open_back txn past) ≡ true
          → ((x : ℕ) → (if b then suc (length past) else begun txn past) ≤ x → x ≤ suc (length past) → is_read x ≡ true)
          → (open_back txn past ≡ true → ((x : ℕ) → begun txn past ≤ x → x ≤ length past → is_read x ≡ true) → ReadsSame past) → ReadsSame (begin other ∷ past)
      by true same open_now reads later = here true same (reads (suc (length past)) (omega arith) (omega arith)) open_now (λ differs. absurd (false≢true (sym differs)))
      by false isnt open_now reads later =
          here false isnt (reads (suc (length past)) (omega (arith, begun_within txn past)) (omega arith)) open_now
          (λ differs. later open_now (λ x le within. reads x le (omega (arith, within))))
  reads_same (write other patch ∷ past) is each =
      let rest : ReadsSame past = reads_same past is (λ x le within. each x le (omega (arith, within))) in
      let read : is_read (suc (length past)) ≡ true = each (suc (length past)) (omega (arith, begun_within txn past)) (omega arith) in
      record {
        is_open = ap (λ (c : Bool). open_back txn (if c then write other patch ∷ read_back is_read past else read_back is_read past)) read ∙ rest.is_open;
        writes = ap (λ (c : Bool). writes_back txn (if c then write other patch ∷ read_back is_read past else read_back is_read past)) read
            ∙ ap (λ (l : List Patch). l ++ (if other == txn then patch ∷ [] else [])) rest.writes;
      }
  reads_same (commit other time ∷ past) is each =
      let parts = still_open (other == txn) (open_back txn past) is in
      let rest : ReadsSame past = reads_same past parts.1 (λ x le within. each x le (omega (arith, within))) in
      let read : is_read (suc (length past)) ≡ true = each (suc (length past)) (omega (arith, begun_within txn past)) (omega arith) in
      record {
        is_open = ap (λ (c : Bool). open_back txn (if c then commit other time ∷ read_back is_read past else read_back is_read past)) read
            ∙ ap (λ (c : Bool). if c then false else open_back txn (read_back is_read past)) parts.0 ∙ rest.is_open;
        writes = ap (λ (c : Bool). writes_back txn (if c then commit other time ∷ read_back is_read past else read_back is_read past)) read ∙ rest.writes;
      }
  reads_same (abort other ∷ past) is each =
      let parts = still_open (other == txn) (open_back txn past) is in
      let rest : ReadsSame past = reads_same past parts.1 (λ x le within. each x le (omega (arith, within))) in
      let read : is_read (suc (length past)) ≡ true = each (suc (length past)) (omega (arith, begun_within txn past)) (omega arith) in
      record {
        is_open = ap (λ (c : Bool). open_back txn (if c then abort other ∷ read_back is_read past else read_back is_read past)) read
            ∙ ap (λ (c : Bool). if c then false else open_back txn (read_back is_read past)) parts.0 ∙ rest.is_open;
        writes = ap (λ (c : Bool). writes_back txn (if c then abort other ∷ read_back is_read past else read_back is_read past)) read ∙ rest.writes;
      }
  reads_same (reset restore target time ∷ past) is each = absurd (false≢true is)

-- from the Begin of an open transaction on all is live: no Reset came

pub live_from_begin : (txn : ℕ) (back : List LogEntry) (n x : ℕ) → open_back txn back ≡ true → begun txn back ≤ x → x ≤ n → live_by (reset_points_back back) n x ≡ true
live_from_begin txn [] n x is from le = absurd (false≢true is)
live_from_begin txn (begin other ∷ past) n x is from le = by (other == txn) is from (λ o f. live_from_begin txn past n x o f le)
  where
    by : (b : Bool) → (if b then true else open_back txn past) ≡ true → (if b then suc (length past) else begun txn past) ≤ x
        → (open_back txn past ≡ true → begun txn past ≤ x → live_by (reset_points_back past) n x ≡ true) → live_by (reset_points_back past) n x ≡ true
    by true open_now behind later = live_behind past n x (omega (arith, behind)) ∙ here
      where
        here : nat_le x n ≡ true
        here = grind (arith, nat_tests, le)
    by false open_now behind later = later open_now behind
live_from_begin txn (write other patch ∷ past) n x is from le = live_from_begin txn past n x is from le
live_from_begin txn (commit other time ∷ past) n x is from le = live_from_begin txn past n x (still_open (other == txn) (open_back txn past) is).1 from le
live_from_begin txn (abort other ∷ past) n x is from le = live_from_begin txn past n x (still_open (other == txn) (open_back txn past) is).1 from le
live_from_begin txn (reset restore target time ∷ past) n x is from le = absurd (false≢true is)

-- the oldest open Begin isn't behind that of an open transaction

abbrev Has : ℕ → ℕ → Table → Type 0
Has txn first [] = ⊥
Has txn first (o ∷ others) = ((o.txn ≡ txn) × (o.first ≡ first)) ⊎ Has txn first others

has_low : (txn first from at : ℕ) (table : Table) → Rises from at table → Has txn first table → from ≤ first
has_low txn first from at [] rises has = absurd has
has_low txn first from at (o ∷ others) rises (inl it) = omega (arith, rises.0, it.1)
has_low txn first from at (o ∷ others) rises (inr later) = omega (arith, rises.0, has_low txn first o.first at others rises.2 later)

has_without : (txn first other : ℕ) (table : Table) → (other == txn) ≡ false → Has txn first table → Has txn first (without other table)
has_without txn first other [] isnt has = absurd has
has_without txn first other (o ∷ others) isnt has = by (o.txn == other) refl has (λ h. has_without txn first other others isnt h)
  where
    by : (b : Bool) → (o.txn == other) ≡ b → ((o.txn ≡ txn) × (o.first ≡ first)) ⊎ Has txn first others → (Has txn first others → Has txn first (without other others))
        → Has txn first (if b then others else o ∷ without other others)
    by true same (inl it) later = absurd (false≢true (sym isnt ∙ twice))
      where
        twice : (other == txn) ≡ true
        twice = grind (arith, nat_tests, same, it.0)
    by true same (inr rest) later = rest
    by false differs (inl it) later = inl it
    by false differs (inr rest) later = inr (later rest)

has_write : (txn first other : ℕ) (patch : Patch) (table : Table) → Has txn first table → Has txn first (with_write other patch table)
has_write txn first other patch [] has = has
has_write txn first other patch (o ∷ others) has = by (o.txn == other) has (λ h. has_write txn first other patch others h)
  where
    by : (b : Bool) → ((o.txn ≡ txn) × (o.first ≡ first)) ⊎ Has txn first others → (Has txn first others → Has txn first (with_write other patch others))
        → Has txn first (if b then record o { patches = o.patches ++ patch ∷ [] } ∷ others else o ∷ with_write other patch others)
    by true (inl it) later = inl it
    by true (inr rest) later = inr rest
    by false (inl it) later = inl it
    by false (inr rest) later = inr (later rest)

has_front : (txn first : ℕ) (xs ys : Table) → Has txn first xs → Has txn first (xs ++ ys)
has_front txn first [] ys has = absurd has
has_front txn first (o ∷ xs) ys (inl it) = inl it
has_front txn first (o ∷ xs) ys (inr rest) = inr (has_front txn first xs ys rest)

has_last : (txn first : ℕ) (xs ys : Table) → Has txn first ys → Has txn first (xs ++ ys)
has_last txn first [] ys has = has
has_last txn first (o ∷ xs) ys has = inr (has_last txn first xs ys has)

open_has : (txn : ℕ) (back : List LogEntry) → open_back txn back ≡ true → Has txn (begun txn back) (table_back back)
open_has txn [] is = absurd (false≢true is)
open_has txn (begin other ∷ past) is = by (other == txn) refl is (λ o. open_has txn past o)
  where
    by : (b : Bool) → (other == txn) ≡ b → (if b then true else open_back txn past) ≡ true → (open_back txn past ≡ true → Has txn (begun txn past) (table_back past))
        → Has txn (if b then suc (length past) else begun txn past) (table_back (begin other ∷ past))
    by true same open_now later =
        has_last txn (suc (length past)) (without other (table_back past)) (record { txn = other; first = suc (length past); patches = [] } ∷ []) (inl (number, refl))
      where
        number : other ≡ txn
        number = grind (arith, nat_tests, same)
    by false isnt open_now later = has_front txn (begun txn past) (without other (table_back past)) (record { txn = other; first = suc (length past); patches = [] } ∷ [])
        (has_without txn (begun txn past) other (table_back past) isnt (later open_now))
open_has txn (write other patch ∷ past) is = has_write txn (begun txn past) other patch (table_back past) (open_has txn past is)
open_has txn (commit other time ∷ past) is =
    let parts = still_open (other == txn) (open_back txn past) is in
    has_without txn (begun txn past) other (table_back past) parts.0 (open_has txn past parts.1)
open_has txn (abort other ∷ past) is =
    let parts = still_open (other == txn) (open_back txn past) is in
    has_without txn (begun txn past) other (table_back past) parts.0 (open_has txn past parts.1)
open_has txn (reset restore target time ∷ past) is = absurd (false≢true is)

pub low_begun : (txn : ℕ) (back : List LogEntry) → open_back txn back ≡ true → low_of (table_back back) (length back) ≤ begun txn back
low_begun txn back is = has_low txn (begun txn back) (low_of (table_back back) (length back)) (length back) (table_back back) (rises_from_low back) (open_has txn back is)

pub begun_some : (txn : ℕ) (back : List LogEntry) → open_back txn back ≡ true → 1 ≤ begun txn back
begun_some txn [] is = absurd (false≢true is)
begun_some txn (begin other ∷ past) is = by (other == txn) is (λ o. begun_some txn past o)
  where
    by : (b : Bool) → (if b then true else open_back txn past) ≡ true → (open_back txn past ≡ true → 1 ≤ begun txn past) → 1 ≤ (if b then suc (length past) else begun txn past)
    by true open_now later = omega arith
    by false open_now later = later open_now
begun_some txn (write other patch ∷ past) is = begun_some txn past is
begun_some txn (commit other time ∷ past) is = begun_some txn past (still_open (other == txn) (open_back txn past) is).1
begun_some txn (abort other ∷ past) is = begun_some txn past (still_open (other == txn) (open_back txn past) is).1
begun_some txn (reset restore target time ∷ past) is = absurd (false≢true is)
