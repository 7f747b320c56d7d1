-- The changes of all commits read, and those of them that are in effect.
use Rattle.std.proofs.Common.{◌≡◌, ℕ, suc, ◌+◌, ◌<◌, ◌≤◌, List, [], ◌∷◌, ◌++◌, length, map, filter, reverse, Bool, true, false, if◌then◌else◌, Option, None, Some, refl, sym, ap, ◌∙◌, subst, arith}
use Rattle.std.specs.Prelude.{◌==◌}
use Rattle.std.specs.List.{AllByRecursion}
use Rattle.std.proofs.lemmas.List.Elements.{filter-append}
use Rattle.log_history.specs.History.{Patch, LogEntry, begin, write, commit, abort, reset}
use Rattle.log_history.specs.Live.{ResetPoint, live_by}
use Rattle.log_history.specs.Effects.{Change, change_by}
use Rattle.log_history.specs.Transactions.{OpenTxn, Table, Refusal, after, given, lookup, patches_of, refusal, with_write, without}
use Rattle.log_record.specs.Layout.{IsRecord}
use Rattle.space_pages.specs.Pages.{LiesInPage}
use Rattle.space_pages.specs.Progress.{given_at}
use Rattle.lane_ways.specs.ListLaws.{Rises, all_append, all_means, rises_append}
use Rattle.held_laws.specs.Reading.{changes_read_back, read_after, read_back, unless_refused}
use Rattle.held_log.specs.Readers.{gathered_back}
use Rattle.held_log.specs.Logs.{AreChanges}

-- those that are in effect

kept_if : (b : Bool) (change : Change) (rest kept : List Change) → kept ≡ (if b then rest else [])
    → (if b then change ∷ kept else kept) ≡ (if b then change ∷ rest else [])
kept_if true change rest kept is = ap (λ (l : List Change). change ∷ l) is
kept_if false change rest kept is = is

live_given : (resets : List ResetPoint) (n x : ℕ) (patches : List Patch)
    → filter (λ change. live_by resets n change.commit) (map (change_by x) patches) ≡ (if live_by resets n x then map (change_by x) patches else [])
live_given resets n x [] = by (live_by resets n x) []
  where
    by : (b : Bool) (none : List Change) → none ≡ (if b then none else none)
    by true none = refl
    by false none = refl
live_given resets n x (patch ∷ patches) =
    kept_if (live_by resets n x) (change_by x patch) (map (change_by x) patches) (filter (λ change. live_by resets n change.commit) (map (change_by x) patches)) (live_given resets n x patches)

pub live_gathered : (resets : List ResetPoint) (n before : ℕ) (past : List LogEntry)
    → filter (λ change. live_by resets n change.commit) (gathered_back before past) ≡ changes_read_back resets n before past
live_gathered resets n before [] = refl
live_gathered resets n before (entry ∷ past) =
    let x : ℕ = before + suc (length past) in
    let more : List Change = map (change_by x) (given entry (read_back before past)) in
    filter-append (λ (change : Change). live_by resets n change.commit) (gathered_back before past) more
    ∙ ap (λ (l : List Change). l ++ filter (λ change. live_by resets n change.commit) more) (live_gathered resets n before past)
    ∙ ap (λ (l : List Change). changes_read_back resets n before past ++ l) (live_given resets n x (given entry (read_back before past)))

-- what each Write has each change has

abbrev pub WritesHave : (Patch → Type 0) → LogEntry → Type 0
WritesHave P (write txn patch) = P patch
WritesHave P entry = Unit {0}

module _ (P : Patch → Type 0) where
  abbrev Have : OpenTxn → Type 0
  Have o = AllByRecursion P o.patches

  have_without : (txn : ℕ) (table : Table) → AllByRecursion Have table → AllByRecursion Have (without txn table)
  have_without txn [] all = tt
  have_without txn (o ∷ others) all = by (o.txn == txn) (have_without txn others all.1)
    where
      by : (same : Bool) → AllByRecursion Have (without txn others) → AllByRecursion Have (if same then others else o ∷ without txn others)
      by true rest = all.1
      by false rest = (all.0, rest)

  have_with_write : (txn : ℕ) (patch : Patch) (table : Table) → P patch → AllByRecursion Have table → AllByRecursion Have (with_write txn patch table)
  have_with_write txn patch [] is all = tt
  have_with_write txn patch (o ∷ others) is all = by (o.txn == txn) (have_with_write txn patch others is all.1)
    where
      by : (same : Bool) → AllByRecursion Have (with_write txn patch others)
          → AllByRecursion Have (if same then record o { patches = o.patches ++ patch ∷ [] } ∷ others else o ∷ with_write txn patch others)
      by true rest = (all_append P o.patches (patch ∷ []) all.0 (is, tt), all.1)
      by false rest = (all.0, rest)

  have_after : (x : ℕ) (entry : LogEntry) (table : Table) → WritesHave P entry → AllByRecursion Have table → AllByRecursion Have (after x entry table)
  have_after x (begin txn) table is all =
      all_append Have (without txn table) (record { txn = txn; first = x; patches = [] } ∷ []) (have_without txn table all) (tt, tt)
  have_after x (write txn patch) table is all = have_with_write txn patch table is all
  have_after x (commit txn time) table is all = have_without txn table all
  have_after x (abort txn) table is all = have_without txn table all
  have_after x (reset restore target time) table is all = tt

  have_unless : (refused : Option Refusal) (table next : Table) → AllByRecursion Have table → AllByRecursion Have next
      → AllByRecursion Have (unless_refused refused table next)
  have_unless None table next old new = new
  have_unless (Some why) table next old new = old

  have_read : (before : ℕ) (past : List LogEntry) → AllByRecursion (WritesHave P) past → AllByRecursion Have (read_back before past)
  have_read before [] all = tt
  have_read before (entry ∷ past) all =
      let ih : AllByRecursion Have (read_back before past) = have_read before past all.1 in
      have_unless (refusal entry (read_back before past)) (read_back before past) (after (before + suc (length past)) entry (read_back before past)) ih
      (have_after (before + suc (length past)) entry (read_back before past) all.0 ih)

  have_found : (txn : ℕ) (table : Table) → AllByRecursion Have table → AllByRecursion P (patches_of (lookup txn table))
  have_found txn [] all = tt
  have_found txn (o ∷ others) all = by (o.txn == txn) (have_found txn others all.1)
    where
      by : (same : Bool) → AllByRecursion P (patches_of (lookup txn others)) → AllByRecursion P (patches_of (if same then Some o else lookup txn others))
      by true rest = all.0
      by false rest = rest

  have_given : (entry : LogEntry) (table : Table) → AllByRecursion Have table → AllByRecursion P (given entry table)
  have_given (begin txn) table all = tt
  have_given (write txn patch) table all = tt
  have_given (commit txn time) table all = have_found txn table all
  have_given (abort txn) table all = tt
  have_given (reset restore target time) table all = tt

  have_made : (x : ℕ) (patches : List Patch) → AllByRecursion P patches → AllByRecursion (λ (change : Change). P change.patch) (map (change_by x) patches)
  have_made x [] all = tt
  have_made x (patch ∷ patches) all = (all.0, have_made x patches all.1)

  have_live : (b : Bool) (list : List Change) → AllByRecursion (λ (change : Change). P change.patch) list
      → AllByRecursion (λ (change : Change). P change.patch) (if b then list else [])
  have_live true list all = all
  have_live false list all = tt

  pub changes_have : (resets : List ResetPoint) (n before : ℕ) (past : List LogEntry) → AllByRecursion (WritesHave P) past
      → AllByRecursion (λ (change : Change). P change.patch) (changes_read_back resets n before past)
  changes_have resets n before [] all = tt
  changes_have resets n before (entry ∷ past) all =
      let x : ℕ = before + suc (length past) in
      let made : List Change = map (change_by x) (given entry (read_back before past)) in
      all_append (λ (change : Change). P change.patch) (changes_read_back resets n before past) (if live_by resets n x then made else [])
      (changes_have resets n before past all.1)
      (have_live (live_by resets n x) made (have_made x (given entry (read_back before past)) (have_given entry (read_back before past) (have_read before past all.1))))

-- records write within pages
writes_within : (entry : LogEntry) → IsRecord entry → WritesHave LiesInPage entry
writes_within (begin txn) is = tt
writes_within (write txn patch) is = is.1.within
writes_within (commit txn time) is = tt
writes_within (abort txn) is = tt
writes_within (reset restore target time) is = tt

-- in order of their commits

rises_made : (x : ℕ) (patches : List Patch) → Rises x (map (change_by x) patches)
rises_made x [] = tt
rises_made x (patch ∷ patches) = (omega arith, rises_made x patches)

upto_made : (x : ℕ) (patches : List Patch) → AllByRecursion (λ (change : Change). change.commit ≤ x) (map (change_by x) patches)
upto_made x [] = tt
upto_made x (patch ∷ patches) = (omega arith, upto_made x patches)

in_order_if : (b : Bool) (x : ℕ) (patches : List Patch)
    → Rises x (if b then map (change_by x) patches else []) × AllByRecursion (λ (change : Change). change.commit ≤ x) (if b then map (change_by x) patches else [])
in_order_if true x patches = (rises_made x patches, upto_made x patches)
in_order_if false x patches = (tt, tt)

in_order : (resets : List ResetPoint) (n before : ℕ) (past : List LogEntry)
    → Rises 0 (changes_read_back resets n before past) × AllByRecursion (λ (change : Change). change.commit ≤ before + length past) (changes_read_back resets n before past)
in_order resets n before [] = (tt, tt)
in_order resets n before (entry ∷ past) =
    let x : ℕ = before + suc (length past) in
    let read : List Change = changes_read_back resets n before past in
    let more : List Change = given_at resets n x entry (read_back before past) in
    let ih : Rises 0 read × AllByRecursion (λ (change : Change). change.commit ≤ before + length past) read = in_order resets n before past in
    let are : Rises x more × AllByRecursion (λ (change : Change). change.commit ≤ x) more = in_order_if (live_by resets n x) x (given entry (read_back before past)) in
    let wider : AllByRecursion (λ (change : Change). change.commit ≤ x) read =
    all_means (λ (change : Change). change.commit ≤ before + length past) (λ (change : Change). change.commit ≤ x) read (λ change le. omega (arith, le)) ih.1 in
    (rises_append 0 x read more (omega arith) ih.0 wider are.0, all_append (λ (change : Change). change.commit ≤ x) read more wider are.1)

pub are_changes : (resets : List ResetPoint) (n before end : ℕ) (past : List LogEntry) → AllByRecursion IsRecord past → before + length past ≡ end
    → AreChanges end (changes_read_back resets n before past)
are_changes resets n before end past all at =
    let are = in_order resets n before past in record {
      rises = are.0;
      upto = subst (λ (k : ℕ). AllByRecursion (λ (change : Change). change.commit ≤ k) (changes_read_back resets n before past)) at are.1;
      within = changes_have LiesInPage resets n before past (all_means IsRecord (WritesHave LiesInPage) past writes_within all);
    }
