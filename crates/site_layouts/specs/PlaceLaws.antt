-- A place of a lane fits its mark.
use Rattle.std.specs.Prelude.{◌≡◌, ◌⊎◌, ℕ, zero, suc, ◌-◌, ◌==◌, ◌^◌, ◌<◌, ◌≤◌, List, [], ◌∷◌, ◌++◌, length, reverse, take, drop, map, filter, Bool, true, false, nat_lt, if◌then◌else◌, Option, Some, None}
use Rattle.std.specs.List.{flat_map}
use mathlib.Core.Logic.{inl, inr}
use Rattle.std.proofs.Common.{arith, refl, sym, ap, subst, ◌∙◌, ⊎_elim}
use Rattle.std.proofs.lemmas.Bool.{cases_lt, true≢false}
use Rattle.std.proofs.lemmas.Bool.Decides.{nat_tests}
use Rattle.std.proofs.lemmas.List.{append-nil, length-map, reverse-append, take-append-drop}
use Rattle.std.proofs.lemmas.List.Elements.{filter-append}
use Rattle.log_history.specs.History.{History, LogEntry, Patch, begin, write, commit, abort, reset, entry_at, positions}
use Rattle.log_history.specs.Live.{reset_points}
use Rattle.log_history.specs.Effects.{Change, change_by, changes, writes, writes_of}
use Rattle.log_history.specs.Transactions.{Table, lookup, patches_of, table_back}
use Rattle.history_laws.specs.LiveLaws.{live_within}
use Rattle.history_laws.specs.PagesLaws.{effect}
use Rattle.txn_table.specs.OrderLaws.{given_back}
use Rattle.lane_mark.specs.Layout.{FitsPlace}
use Rattle.lane_ways.specs.Ways.{IsPlace, changes_behind, changes_by, count_of, count_of_first, lane_changes}
use Rattle.lane_ways.specs.ChangesLaws.{all_changes, changes_is, counts, effects_filter}
use Rattle.site_worlds.specs.Worlds.{Site}
use Rattle.site_worlds.specs.Fitness.{AreBrief, IsBriefBack, IsFitSite}

-- those of one commit

counted : (c : ℕ) (list : List Change) → count_of c list ≤ length (changes_by c list)
counted c [] = omega arith
counted c (change ∷ list) = by (change.commit == c) (counted c list)
  where
    by : (b : Bool) → count_of c list ≤ length (changes_by c list)
        → (if b then suc (count_of c list) else 0) ≤ length (if b then change ∷ changes_by c list else changes_by c list)
    by true le = omega (arith, le)
    by false le = omega arith

fewer : (p : Change → Bool) (c : ℕ) (list : List Change) → length (changes_by c (filter p list)) ≤ length (changes_by c list)
fewer p c [] = omega arith
fewer p c (change ∷ list) = by (p change) (fewer p c list)
  where
    kept : (same : Bool) → length (changes_by c (filter p list)) ≤ length (changes_by c list)
        → length (if same then change ∷ changes_by c (filter p list) else changes_by c (filter p list)) ≤ length (if same then change ∷ changes_by c list else changes_by c list)
    kept true le = omega (arith, le)
    kept false le = le

    left_out : (same : Bool) → length (changes_by c (filter p list)) ≤ length (changes_by c list)
        → length (changes_by c (filter p list)) ≤ length (if same then change ∷ changes_by c list else changes_by c list)
    left_out true le = omega (arith, le)
    left_out false le = le

    by : (b : Bool) → length (changes_by c (filter p list)) ≤ length (changes_by c list)
        → length (changes_by c (if b then change ∷ filter p list else filter p list)) ≤ length (changes_by c (change ∷ list))
    by true le = kept (change.commit == c) le
    by false le = left_out (change.commit == c) le

-- each position is one

no_later : (c n : ℕ) → n < c → filter (λ x. x == c) (positions n) ≡ []
no_later c zero lt = refl
no_later c (suc n) lt =
    filter-append (λ x. x == c) (positions n) (suc n ∷ [])
    ∙ ap (λ (l : List ℕ). l ++ filter (λ x. x == c) (suc n ∷ [])) (no_later c n (omega (arith, lt)))
    ∙ ap (λ (b : Bool). if b then suc n ∷ [] else []) (differs (suc n) c lt)
  where
    differs : (a b : ℕ) → a < b → (a == b) ≡ false
    differs a b less = grind (arith, nat_tests, less)

found_once : (c n : ℕ) → (filter (λ x. x == c) (positions n) ≡ []) ⊎ (filter (λ x. x == c) (positions n) ≡ c ∷ [])
found_once c zero = inl refl
found_once c (suc n) = ⊎_elim
    (λ lt. last (suc n == c) refl (split ∙ ap (λ (l : List ℕ). l ++ filter (λ x. x == c) (suc n ∷ [])) (no_later c n lt)))
    (λ ge. ⊎_elim (λ none. inl (before ge ∙ none)) (λ one. inr (before ge ∙ one)) (found_once c n))
    (cases_lt n c)
  where
    same_by : (a b : ℕ) → (a == b) ≡ true → a ≡ b
    same_by a b is = grind (arith, nat_tests, is)

    split : filter (λ x. x == c) (positions (suc n)) ≡ filter (λ x. x == c) (positions n) ++ filter (λ x. x == c) (suc n ∷ [])
    split = filter-append (λ x. x == c) (positions n) (suc n ∷ [])

    last : (b : Bool) → (suc n == c) ≡ b → filter (λ x. x == c) (positions (suc n)) ≡ (if suc n == c then suc n ∷ [] else [])
        → (filter (λ x. x == c) (positions (suc n)) ≡ []) ⊎ (filter (λ x. x == c) (positions (suc n)) ≡ c ∷ [])
    last true is whole = inr (whole ∙ ap (λ (t : Bool). if t then suc n ∷ [] else []) is ∙ ap (λ (x : ℕ). x ∷ []) (same_by (suc n) c is))
    last false is whole = inl (whole ∙ ap (λ (t : Bool). if t then suc n ∷ [] else []) is)

    apart : (a b : ℕ) → b < a → (a == b) ≡ false
    apart a b lt = grind (arith, nat_tests, lt)

    before : c ≤ n → filter (λ x. x == c) (positions (suc n)) ≡ filter (λ x. x == c) (positions n)
    before ge =
        split ∙ ap (λ (t : Bool). filter (λ x. x == c) (positions n) ++ (if t then suc n ∷ [] else [])) (apart (suc n) c (omega (arith, ge)))
        ∙ append-nil (filter (λ x. x == c) (positions n))

-- so the changes of one commit are at most its Writes
all_few : (history : History) (c : ℕ) → length (changes_by c (all_changes history)) ≤ length (writes history c)
all_few history c =
    subst (λ (l : List Change). length l ≤ length (writes history c)) (effects_filter history (λ x. x == c) (positions (length history)))
    (⊎_elim
    (λ none. subst (λ (xs : List ℕ). length (flat_map (effect history) xs) ≤ length (writes history c)) (sym none) (omega arith))
    (λ one. subst (λ (xs : List ℕ). length (flat_map (effect history) xs) ≤ length (writes history c)) (sym one)
    (omega (arith, ap length (append-nil (map (change_by c) (writes history c))), length-map (writes history c) (change_by c))))
    (found_once c (length history)))

way_few : (history : History) (n space upto c : ℕ) → length (changes_by c (changes_behind upto (lane_changes history n space))) ≤ length (writes history c)
way_few history n space upto c =
    let behind = fewer (λ change. nat_lt upto change.commit) c (lane_changes history n space) in
    let own = fewer (λ change. change.patch.space == space) c (changes history n) in
    let live_ones : length (changes_by c (changes history n)) ≤ length (changes_by c (all_changes history)) =
    subst (λ (l : List Change). length (changes_by c l) ≤ length (changes_by c (all_changes history))) (sym (changes_is history n))
    (fewer (λ change. counts history n change.commit) c (all_changes history)) in
    omega (arith, behind, own, live_ones, all_few history c)

first_few : (history : History) (bound : ℕ) (list : List Change) → ((c : ℕ) → length (changes_by c list) < bound) → 1 ≤ bound → count_of_first list < bound
first_few history bound [] each some = omega (arith, some)
first_few history bound (change ∷ list) each some = by (change.commit == change.commit) (same change.commit) (counted change.commit (change ∷ list)) (each change.commit)
  where
    same : (a : ℕ) → (a == a) ≡ true
    same a = grind (arith, nat_tests)

    by : (b : Bool) → b ≡ true → (if b then suc (count_of change.commit list) else 0) ≤ length (changes_by change.commit (change ∷ list))
        → length (changes_by change.commit (change ∷ list)) < bound → suc (count_of change.commit list) < bound
    by true is le lt = omega (arith, le, lt)
    by false is le lt = absurd (true≢false (sym is))

-- and these are few

lookup_few : (txn : ℕ) (table : Table) → AreBrief table → length (patches_of (lookup txn table)) < 2 ^ 32
lookup_few txn [] brief = omega arith
lookup_few txn (o ∷ others) brief = by (o.txn == txn) (lookup_few txn others brief.1)
  where
    by : (b : Bool) → length (patches_of (lookup txn others)) < 2 ^ 32 → length (patches_of (if b then Some o else lookup txn others)) < 2 ^ 32
    by true rest = omega (arith, brief.0)
    by false rest = rest

brief_past : (newer past : List LogEntry) → IsBriefBack (newer ++ past) → IsBriefBack past
brief_past [] past brief = brief
brief_past (entry ∷ newer) past brief = brief_past newer past brief.1

brief_table : (past : List LogEntry) → IsBriefBack past → AreBrief (table_back past)
brief_table [] brief = tt
brief_table (entry ∷ past) brief = brief.0

writes_few : (history : History) (c : ℕ) → IsBriefBack (reverse history) → length (writes history c) < 2 ^ 32
writes_few history c brief = by (entry_at history c)
  where
    past : List LogEntry
    past = reverse (take (c - 1) history)

    past_brief : IsBriefBack past
    past_brief = brief_past (reverse (drop (c - 1) history)) past
        (subst IsBriefBack (ap reverse (sym (take-append-drop (c - 1) history)) ∙ reverse-append (take (c - 1) history) (drop (c - 1) history)) brief)

    by : (entry : Option LogEntry) → length (writes_of entry past) < 2 ^ 32
    by (Some (commit txn time)) =
        subst (λ (l : List Patch). length l < 2 ^ 32) (given_back txn time past) (lookup_few txn (table_back past) (brief_table past past_brief))
    by (Some (begin txn)) = omega arith
    by (Some (write txn patch)) = omega arith
    by (Some (abort txn)) = omega arith
    by (Some (reset restore target time)) = omega arith
    by None = omega arith

-- A place on a way to a position within the history of a fit site fits a mark.
pub place_fits : (site : Site) (n space upto part : ℕ) → IsFitSite site → n ≤ length site.history → IsPlace site.history n space upto part → FitsPlace upto part
place_fits site n space upto part fit le place = record {
  upto_fits = omega (arith, le, fit.history.few, live_within (reset_points site.history) n upto place.is_live);
  part_fits = omega (
    arith,
    place.within,
    first_few site.history (2 ^ 32) (changes_behind upto (lane_changes site.history n space))
        (λ c. omega (arith, way_few site.history n space upto c, writes_few site.history c fit.brief)) (omega arith),
  );
}
