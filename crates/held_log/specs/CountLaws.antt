-- Each change that is read stands for a Write of its own among the records.
use Rattle.std.specs.Prelude.{◌≡◌, ℕ, suc, ◌+◌, ◌==◌, ◌≤◌, List, [], ◌∷◌, ◌++◌, length, map, filter, Bool, true, false, if◌then◌else◌, Option, None, Some, refl}
use Rattle.std.proofs.Common.{arith, sym, ap, ◌∙◌, length-append}
use Rattle.std.proofs.lemmas.Bool.Decides.{nat_tests}
use Rattle.std.proofs.lemmas.List.{length-map}
use Rattle.log_history.specs.History.{Patch, LogEntry, begin, write, commit, abort, reset}
use Rattle.log_history.specs.Live.{ResetPoint, live_by}
use Rattle.log_history.specs.Effects.{Change, change_by}
use Rattle.log_history.specs.Transactions.{OpenTxn, Table, Refusal, after, given, lookup, patches_of, refusal, with_write, without}
use Rattle.space_pages.specs.ProgressLaws.{refused_gives_nothing}
use Rattle.held_laws.specs.Reading.{changes_read_back, read_after, read_back, unless_refused}
use Rattle.held_log.specs.Readers.{gathered_back}
use Rattle.held_log.specs.ChangesLaws.{live_gathered}

-- how many Writes open transactions have
abbrev writes_in : Table → ℕ
writes_in [] = 0
writes_in (o ∷ others) = length o.patches + writes_in others

writes_in-append : (table : Table) (o : OpenTxn) → writes_in (table ++ o ∷ []) ≡ writes_in table + length o.patches
writes_in-append [] o = omega arith
writes_in-append (p ∷ ps) o = omega (arith, writes_in-append ps o)

taken_out : (txn : ℕ) (table : Table) → length (patches_of (lookup txn table)) + writes_in (without txn table) ≤ writes_in table
taken_out txn [] = omega arith
taken_out txn (o ∷ others) = by (o.txn == txn) (taken_out txn others)
  where
    by : (b : Bool) → length (patches_of (lookup txn others)) + writes_in (without txn others) ≤ writes_in others
        → length (patches_of (if b then Some o else lookup txn others)) + writes_in (if b then others else o ∷ without txn others) ≤ length o.patches + writes_in others
    by true rest = omega arith
    by false rest = omega (arith, rest)

one_write : (txn : ℕ) (patch : Patch) (table : Table) → writes_in (with_write txn patch table) ≤ suc (writes_in table)
one_write txn patch [] = omega arith
one_write txn patch (o ∷ others) = by (o.txn == txn) (one_write txn patch others)
  where
    by : (b : Bool) → writes_in (with_write txn patch others) ≤ suc (writes_in others)
        → writes_in (if b then record o { patches = o.patches ++ patch ∷ [] } ∷ others else o ∷ with_write txn patch others) ≤ suc (length o.patches + writes_in others)
    by true rest = omega (arith, length-append o.patches (patch ∷ []))
    by false rest = omega (arith, rest)

one_more : (at : ℕ) (entry : LogEntry) (table : Table) → length (given entry table) + writes_in (after at entry table) ≤ suc (writes_in table)
one_more at (begin txn) table = omega (arith, writes_in-append (without txn table) (record { txn = txn; first = at; patches = [] }), taken_out txn table)
one_more at (write txn patch) table = omega (arith, one_write txn patch table)
one_more at (commit txn time) table = omega (arith, taken_out txn table)
one_more at (abort txn) table = omega (arith, taken_out txn table)
one_more at (reset restore target time) table = omega arith

nothing_given : (at : ℕ) (entry : LogEntry) (table : Table) (why : Refusal) → refusal entry table ≡ Some why → length (given entry table) ≡ 0
nothing_given at entry table why is =
    let live : live_by [] at at ≡ true = grind (arith, nat_tests) in
    let none : map (change_by at) (given entry table) ≡ [] =
    sym (ap (λ (b : Bool). if b then map (change_by at) (given entry table) else []) live) ∙ refused_gives_nothing [] at at entry table why is in
    sym (length-map (given entry table) (change_by at)) ∙ ap (λ (l : List Change). length l) none

one_read : (at : ℕ) (entry : LogEntry) (table : Table) → length (given entry table) + writes_in (read_after at entry table) ≤ suc (writes_in table)
one_read at entry table = by (refusal entry table) refl
  where
    by : (r : Option Refusal) → refusal entry table ≡ r → length (given entry table) + writes_in (unless_refused r table (after at entry table)) ≤ suc (writes_in table)
    by None is = one_more at entry table
    by (Some why) is = omega (arith, nothing_given at entry table why is)

few_gathered : (before : ℕ) (past : List LogEntry) → length (gathered_back before past) + writes_in (read_back before past) ≤ length past
few_gathered before [] = omega arith
few_gathered before (entry ∷ past) =
    let x : ℕ = before + suc (length past) in
    let table : Table = read_back before past in
    omega (
      arith,
      length-append (gathered_back before past) (map (change_by x) (given entry table)),
      length-map (given entry table) (change_by x),
      one_read x entry table,
      few_gathered before past,
    )

few_kept : (p : Change → Bool) (list : List Change) → length (filter p list) ≤ length list
few_kept p [] = omega arith
few_kept p (change ∷ list) = by (p change) (few_kept p list)
  where
    by : (b : Bool) → length (filter p list) ≤ length list → length (if b then change ∷ filter p list else filter p list) ≤ suc (length list)
    by true rest = omega (arith, rest)
    by false rest = omega (arith, rest)

-- so there are no more of them than records
pub few_read : (resets : List ResetPoint) (n before : ℕ) (past : List LogEntry) → length (changes_read_back resets n before past) ≤ length past
few_read resets n before past =
    omega (
      arith,
      ap (λ (l : List Change). length l) (live_gathered resets n before past),
      few_kept (λ change. live_by resets n change.commit) (gathered_back before past),
      few_gathered before past,
    )
