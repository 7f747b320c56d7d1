-- The changes at a position, one record after another.
use Rattle.std.specs.Prelude.{◌≡◌, ℕ, suc, ◌-◌, ◌≤◌, Bool, true, false, ◌&&◌, ◌==◌, if◌then◌else◌, List, [], ◌∷◌, ◌++◌, length, map, filter, take, reverse, Option, Some, None, slice_get}
use Rattle.std.specs.List.{AllByRecursion, flat_map}
use Rattle.std.proofs.Common.{refl, sym, ap, ◌∙◌, subst, cond, arith, append_assoc}
use Rattle.std.proofs.lemmas.Bool.Decides.{nat_tests}
use Rattle.std.proofs.lemmas.List.{append-nil, length-reverse, reverse-append, reverse-reverse, take_at}
use Rattle.std.proofs.lemmas.List.Concat.{flat_map-append}
use Rattle.std.proofs.lemmas.List.Elements.{filter-append}
use Rattle.log_history.specs.History.{Patch, LogEntry, History, begin, write, commit, abort, reset, entry_at, positions}
use Rattle.log_history.specs.Live.{ResetPoint, live_by, reset_points}
use Rattle.log_history.specs.Effects.{Change, Page, change_by, changes, is_commit, writes, writes_of, writes_back}
use Rattle.log_history.specs.Transactions.{OpenTxn, Table, Refusal, given, lookup, open_back, patches_of, refusal, table_back, table_of, unless_open}
use Rattle.log_record.specs.Layout.{IsPatch, IsRecord}
use Rattle.txn_table.specs.OrderLaws.{given_back}
use Rattle.txn_table.specs.TableLaws.{reverse_push}
use Rattle.space_pages.specs.Pages.{LieWithin, brought}
use Rattle.space_pages.specs.PagesLaws.{brought-append}
use Rattle.space_pages.specs.Progress.{changes_back, changes_until, given_at}

-- without a Reset all up to n is live
pub all_live : (n x : ℕ) → x ≤ n → live_by [] n x ≡ true
all_live n x within = grind (arith, nat_tests)

-- one record more
pub changes_until-push : (resets : List ResetPoint) (n : ℕ) (past : History) (entry : LogEntry)
    → changes_until resets n (past ++ entry ∷ [])
    ≡ changes_until resets n past ++ given_at resets n (suc (length past)) entry (table_of past)
changes_until-push resets n past entry =
    ap (changes_back resets n) (reverse_push past entry)
    ∙ ap (λ (k : ℕ). changes_until resets n past ++ given_at resets n (suc k) entry (table_of past)) (length-reverse past)

-- what a position of a history gives at n
abbrev effect : History → ℕ → List Change
effect history x = map (change_by x) (writes history x)

abbrev counts : History → List ResetPoint → ℕ → ℕ → Bool
counts history resets n x = is_commit (entry_at history x) && live_by resets n x

nothing_given : (b : Bool) (x : ℕ) → cond b (map (change_by x) []) [] ≡ []
nothing_given true x = refl
nothing_given false x = refl

-- what a record brings into effect behind others, given newest first
given_is : (resets : List ResetPoint) (n x : ℕ) (entry : LogEntry) (past : List LogEntry)
    → (if is_commit (Some entry) && live_by resets n x then map (change_by x) (writes_of (Some entry) past) else [])
    ≡ given_at resets n x entry (table_back past)
given_is resets n x (commit txn time) past =
    ap (λ (patches : List Patch). cond (live_by resets n x) (map (change_by x) patches) []) (sym (given_back txn time past))
given_is resets n x (begin txn) past = sym (nothing_given (live_by resets n x) x)
given_is resets n x (write txn patch) past = sym (nothing_given (live_by resets n x) x)
given_is resets n x (abort txn) past = sym (nothing_given (live_by resets n x) x)
given_is resets n x (reset restore target time) past = sym (nothing_given (live_by resets n x) x)

entry_behind : (front rest : History) (entry : LogEntry) → slice_get (front ++ entry ∷ rest) (length front) ≡ Some entry
entry_behind [] rest entry = refl
entry_behind (first ∷ front) rest entry = entry_behind front rest entry

one : (history : History) (resets : List ResetPoint) (n x : ℕ)
    → flat_map (effect history) (filter (counts history resets n) (x ∷ []))
    ≡ (if counts history resets n x then effect history x else [])
one history resets n x = by (counts history resets n x) where
  by : (b : Bool) → flat_map (effect history) (cond b (x ∷ []) []) ≡ cond b (effect history x) []
  by true = append-nil (effect history x)
  by false = refl

-- what the record behind those newest first brings into effect
at_next : (history : History) (resets : List ResetPoint) (n : ℕ) (past : List LogEntry) (entry : LogEntry) (rest : History)
    → history ≡ reverse past ++ entry ∷ rest
    → (if counts history resets n (suc (length past)) then effect history (suc (length past)) else [])
    ≡ given_at resets n (suc (length past)) entry (table_back past)
at_next history resets n past entry rest is =
    let x : ℕ = suc (length past) in
    let here : entry_at history x ≡ Some entry =
    ap (λ (h : History). slice_get h (length past)) is
    ∙ ap (slice_get (reverse past ++ entry ∷ rest)) (sym (length-reverse past)) ∙ entry_behind (reverse past) rest entry in
    let before : reverse (take (x - 1) history) ≡ past =
    ap (λ (h : History). reverse (take (x - 1) h)) is
    ∙ ap reverse (take_at (reverse past) (entry ∷ rest) (x - 1) (omega (arith, length-reverse past))) ∙ reverse-reverse past in
    ap (λ (o : Option LogEntry). if is_commit o && live_by resets n x then map (change_by x) (writes_of o (reverse (take (x - 1) history))) else []) here
    ∙ ap (λ (p : List LogEntry). if is_commit (Some entry) && live_by resets n x then map (change_by x) (writes_of (Some entry) p) else []) before
    ∙ given_is resets n x entry past

changes-along : (history : History) (resets : List ResetPoint) (n : ℕ) (past : List LogEntry) (rest : History)
    → history ≡ reverse past ++ rest
    → changes_back resets n past ≡ flat_map (effect history) (filter (counts history resets n) (positions (length past)))
changes-along history resets n [] rest is = refl
changes-along history resets n (entry ∷ past) rest is =
    let x : ℕ = suc (length past) in
    let split : history ≡ reverse past ++ entry ∷ rest =
    is ∙ ap (λ (h : History). h ++ rest) (reverse-append (entry ∷ []) past) ∙ append_assoc (reverse past) (entry ∷ []) rest in
    let ih : changes_back resets n past ≡ flat_map (effect history) (filter (counts history resets n) (positions (length past))) =
    changes-along history resets n past (entry ∷ rest) split in
    ap (λ (before : List Change). before ++ given_at resets n x entry (table_back past)) ih
    ∙ ap (λ (last : List Change). flat_map (effect history) (filter (counts history resets n) (positions (length past))) ++ last)
    (sym (one history resets n x ∙ at_next history resets n past entry rest split))
    ∙ sym (ap (flat_map (effect history)) (filter-append (counts history resets n) (positions (length past)) (x ∷ []))
    ∙ flat_map-append (effect history) (filter (counts history resets n) (positions (length past))) (filter (counts history resets n) (x ∷ [])))

-- all records of a history, by its own resets
pub all_changes : (history : History) (n : ℕ) → changes_until (reset_points history) n history ≡ changes history n
all_changes history n =
    changes-along history (reset_points history) n (reverse history) [] (sym (append-nil (reverse (reverse history)) ∙ reverse-reverse history))
    ∙ ap (λ (k : ℕ). flat_map (effect history) (filter (counts history (reset_points history) n) (positions k))) (length-reverse history)

-- pages that the records so far brought forward, and what the next one gives
pub one_record_further : (resets : List ResetPoint) (n space first : ℕ) (past : History) (entry : LogEntry) (pages : List Page)
    → brought space first (changes_until resets n (past ++ entry ∷ [])) pages
    ≡ brought space first (given_at resets n (suc (length past)) entry (table_of past)) (brought space first (changes_until resets n past) pages)
one_record_further resets n space first past entry pages =
    ap (λ (changes : List Change). brought space first changes pages) (changes_until-push resets n past entry)
    ∙ brought-append space first (changes_until resets n past) (given_at resets n (suc (length past)) entry (table_of past)) pages

no_patches : (found : Option OpenTxn) (r : Refusal) → unless_open found ≡ Some r → patches_of found ≡ []
no_patches None r refused = refl
no_patches (Some o) r refused = cc

-- a record that the table refuses gives nothing
given-refused : (entry : LogEntry) (table : Table) (r : Refusal) → refusal entry table ≡ Some r → given entry table ≡ []
given-refused (commit txn time) table r refused = no_patches (lookup txn table) r refused
given-refused (begin txn) table r refused = refl
given-refused (write txn patch) table r refused = refl
given-refused (abort txn) table r refused = refl
given-refused (reset restore target time) table r refused = refl

pub refused_gives_nothing : (resets : List ResetPoint) (n x : ℕ) (entry : LogEntry) (table : Table) (r : Refusal) → refusal entry table ≡ Some r → given_at resets n x entry table ≡ []
refused_gives_nothing resets n x entry table r refused =
    ap (λ (patches : List Patch). cond (live_by resets n x) (map (change_by x) patches) []) (given-refused entry table r refused)
    ∙ nothing_given (live_by resets n x) x

AllByRecursion-append : {X : Type 0} (P : X → Type 0) (xs ys : List X) → AllByRecursion P xs → AllByRecursion P ys → AllByRecursion P (xs ++ ys)
AllByRecursion-append P [] ys first second = second
AllByRecursion-append P (x ∷ xs) ys first second = (first.0, AllByRecursion-append P xs ys first.1 second)

AllByRecursion-reverse : {X : Type 0} (P : X → Type 0) (xs : List X) → AllByRecursion P xs → AllByRecursion P (reverse xs)
AllByRecursion-reverse P [] all = tt
AllByRecursion-reverse P (x ∷ xs) all =
    subst (AllByRecursion P) (sym (reverse-append (x ∷ []) xs)) (AllByRecursion-append P (reverse xs) (x ∷ []) (AllByRecursion-reverse P xs all.1) (all.0, tt))

patch_if : (b : Bool) (patch : Patch) → IsPatch patch → AllByRecursion IsPatch (cond b (patch ∷ []) [])
patch_if true patch is = (is, tt)
patch_if false patch is = tt

none_or : (b : Bool) (patches : List Patch) → AllByRecursion IsPatch patches → AllByRecursion IsPatch (cond b [] patches)
none_or true patches all = tt
none_or false patches all = all

some_or : (b : Bool) (patches : List Patch) → AllByRecursion IsPatch patches → AllByRecursion IsPatch (cond b patches [])
some_or true patches all = all
some_or false patches all = tt

writes_back-patches : (txn : ℕ) (past : List LogEntry) → AllByRecursion IsRecord past → AllByRecursion IsPatch (writes_back txn past)
writes_back-patches txn [] all = tt
writes_back-patches txn (begin other ∷ past) all = none_or (other == txn) (writes_back txn past) (writes_back-patches txn past all.1)
writes_back-patches txn (write other patch ∷ past) all =
    AllByRecursion-append IsPatch (writes_back txn past) (cond (other == txn) (patch ∷ []) [])
    (writes_back-patches txn past all.1) (patch_if (other == txn) patch all.0.1)
writes_back-patches txn (commit other time ∷ past) all = writes_back-patches txn past all.1
writes_back-patches txn (abort other ∷ past) all = writes_back-patches txn past all.1
writes_back-patches txn (reset restore target time ∷ past) all = writes_back-patches txn past all.1

given-patches : (entry : LogEntry) (past : List LogEntry) → AllByRecursion IsRecord past → AllByRecursion IsPatch (given entry (table_back past))
given-patches (commit txn time) past all =
    subst (AllByRecursion IsPatch) (sym (given_back txn time past)) (some_or (open_back txn past) (writes_back txn past) (writes_back-patches txn past all))
given-patches (begin txn) past all = tt
given-patches (write txn patch) past all = tt
given-patches (abort txn) past all = tt
given-patches (reset restore target time) past all = tt

LieWithin-change_by : (x : ℕ) (patches : List Patch) → AllByRecursion IsPatch patches → LieWithin (map (change_by x) patches)
LieWithin-change_by x [] all = tt
LieWithin-change_by x (patch ∷ patches) all = (all.0.within, LieWithin-change_by x patches all.1)

-- what a record gives lies within pages, where the records before it have spellings
pub given_lies_within : (x : ℕ) (past : History) (entry : LogEntry) → AllByRecursion IsRecord past → LieWithin (map (change_by x) (given entry (table_of past)))
given_lies_within x past entry all =
    LieWithin-change_by x (given entry (table_of past)) (given-patches entry (reverse past) (AllByRecursion-reverse IsRecord past all))
