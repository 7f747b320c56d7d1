-- The changes that a reader finds are those of the log, from where all that is open began among what it reads.
use Rattle.std.specs.Prelude.{◌≡◌, ℕ, suc, ◌+◌, ◌<◌, ◌≤◌, Bool, true, false, nat_lt, nat_le, ◌&&◌, if◌then◌else◌, List, [], ◌∷◌, ◌++◌, length, map, filter}
use Rattle.std.proofs.Common.{refl, sym, ap, ◌∙◌, arith, length-append}
use Rattle.std.proofs.lemmas.Bool.Decides.{nat_tests}
use Rattle.std.proofs.lemmas.List.Elements.{filter-append}
use Rattle.log_history.specs.History.{Patch, LogEntry, begin, write, commit, abort, reset}
use Rattle.log_history.specs.Live.{ResetPoint, live_by, reset_points_back}
use Rattle.log_history.specs.Effects.{Change, change_by}
use Rattle.log_history.specs.Transactions.{Table, given, table_back, InOrderBack}
use Rattle.space_pages.specs.Progress.{changes_back, given_at}
use Rattle.held_laws.specs.Reading.{changes_read_back, read_back, resets_read_back}

-- the changes of commits behind a position
abbrev pub behind : ℕ → List Change → List Change
behind upto list = filter (λ change. nat_lt upto change.commit) list

-- what a record at a position gives is behind another position, or isn't

given_behind : (upto x : ℕ) (patches : List Patch) → upto < x → behind upto (map (change_by x) patches) ≡ map (change_by x) patches
given_behind upto x [] lt = refl
given_behind upto x (patch ∷ patches) lt =
    let test : nat_lt upto x ≡ true = grind (arith, nat_tests, lt) in
    rw test (ap (λ (l : List Change). change_by x patch ∷ l) (given_behind upto x patches lt))

given_before : (upto x : ℕ) (patches : List Patch) → x ≤ upto → behind upto (map (change_by x) patches) ≡ []
given_before upto x [] le = refl
given_before upto x (patch ∷ patches) le =
    let test : nat_lt upto x ≡ false = grind (arith, nat_tests, le) in
    rw test (given_before upto x patches le)

at_before : (resets : List ResetPoint) (n upto x : ℕ) (entry : LogEntry) (table : Table) → x ≤ upto → behind upto (given_at resets n x entry table) ≡ []
at_before resets n upto x entry table le = by (live_by resets n x)
  where
    by : (b : Bool) → behind upto (if b then map (change_by x) (given entry table) else []) ≡ []
    by true = given_before upto x (given entry table) le
    by false = refl

-- of records up to a position nothing is behind it
pub none_up_to : (resets : List ResetPoint) (n upto : ℕ) (past : List LogEntry) → length past ≤ upto → behind upto (changes_back resets n past) ≡ []
none_up_to resets n upto [] le = refl
none_up_to resets n upto (entry ∷ past) le =
    filter-append (λ (change : Change). nat_lt upto change.commit) (changes_back resets n past) (given_at resets n (suc (length past)) entry (table_back past))
    ∙ ap (λ (l : List Change). l ++ behind upto (given_at resets n (suc (length past)) entry (table_back past))) (none_up_to resets n upto past (omega (arith, le)))
    ∙ at_before resets n upto (suc (length past)) entry (table_back past) le

none_read_up_to : (resets : List ResetPoint) (n before upto : ℕ) (past : List LogEntry) → before + length past ≤ upto
    → behind upto (changes_read_back resets n before past) ≡ []
none_read_up_to resets n before upto [] le = refl
none_read_up_to resets n before upto (entry ∷ past) le =
    filter-append (λ (change : Change). nat_lt upto change.commit) (changes_read_back resets n before past) (given_at resets n (before + suc (length past)) entry (read_back before past))
    ∙ ap (λ (l : List Change). l ++ behind upto (given_at resets n (before + suc (length past)) entry (read_back before past)))
    (none_read_up_to resets n before upto past (omega (arith, le)))
    ∙ at_before resets n upto (before + suc (length past)) entry (read_back before past) le

module _ (resets : List ResetPoint) (n : ℕ) (older front : List LogEntry) where
  module _ (all : (newer : List LogEntry) → InOrderBack (newer ++ (front ++ older)) → read_back (length older) (newer ++ front) ≡ table_back (newer ++ (front ++ older))) where
    -- the changes behind the front, record by record
    pub changes_as_read : (newer : List LogEntry) → InOrderBack (newer ++ (front ++ older))
        → behind (length (front ++ older)) (changes_read_back resets n (length older) (newer ++ front))
        ≡ behind (length (front ++ older)) (changes_back resets n (newer ++ (front ++ older)))
    changes_as_read [] order =
        none_read_up_to resets n (length older) (length (front ++ older)) front (omega (arith, length-append front older))
        ∙ sym (none_up_to resets n (length (front ++ older)) (front ++ older) (omega arith))
    changes_as_read (entry ∷ newer) order =
        let upto : ℕ = length (front ++ older) in
        let read : List Change = changes_read_back resets n (length older) (newer ++ front) in
        let made : List Change = changes_back resets n (newer ++ (front ++ older)) in
        let at : length older + suc (length (newer ++ front)) ≡ suc (length (newer ++ (front ++ older))) =
        omega (arith, length-append newer front, length-append newer (front ++ older), length-append front older) in
        let same : given_at resets n (length older + suc (length (newer ++ front))) entry (read_back (length older) (newer ++ front))
        ≡ given_at resets n (suc (length (newer ++ (front ++ older)))) entry (table_back (newer ++ (front ++ older))) =
        ap (λ (x : ℕ). given_at resets n x entry (read_back (length older) (newer ++ front))) at
        ∙ ap (given_at resets n (suc (length (newer ++ (front ++ older)))) entry) (all newer order.1) in
        filter-append (λ (change : Change). nat_lt upto change.commit) read (given_at resets n (length older + suc (length (newer ++ front))) entry (read_back (length older) (newer ++ front)))
        ∙ ap (λ (l : List Change). l ++ behind upto (given_at resets n (length older + suc (length (newer ++ front))) entry (read_back (length older) (newer ++ front))))
        (changes_as_read newer order.1)
        ∙ ap (λ (l : List Change). behind upto made ++ behind upto l) same
        ∙ sym (filter-append (λ (change : Change). nat_lt upto change.commit) made (given_at resets n (suc (length (newer ++ (front ++ older)))) entry (table_back (newer ++ (front ++ older)))))

-- Resets

-- behind all of some records each position up to n is live by them
older_live : (past : List LogEntry) (n x : ℕ) → length past < x → live_by (reset_points_back past) n x ≡ nat_le x n
older_live [] n x lt = refl
older_live (reset restore target time ∷ past) n x lt = by (nat_lt n (suc (length past))) (older_live past n x (omega (arith, lt)))
  where
    here : nat_le (suc (length past)) x ≡ true
    here = grind (arith, nat_tests, lt)

    by : (b : Bool) → live_by (reset_points_back past) n x ≡ nat_le x n
        → (if b then live_by (reset_points_back past) n x
        else (if nat_le (suc (length past)) x then nat_le x n else (nat_lt target (suc (length past)) && live_by (reset_points_back past) target x)))
        ≡ nat_le x n
    by true ih = ih
    by false ih = rw here refl
older_live (begin txn ∷ past) n x lt = older_live past n x (omega (arith, lt))
older_live (write txn patch ∷ past) n x lt = older_live past n x (omega (arith, lt))
older_live (commit txn time ∷ past) n x lt = older_live past n x (omega (arith, lt))
older_live (abort txn ∷ past) n x lt = older_live past n x (omega (arith, lt))

-- a position behind some records is live by the Resets of all as it is by those behind them
pub live_as_read : (newer older : List LogEntry) (n x : ℕ) → length older < x
    → live_by (reset_points_back (newer ++ older)) n x ≡ live_by (resets_read_back (length older) newer) n x
live_as_read [] older n x lt = older_live older n x lt
live_as_read (reset restore target time ∷ newer) older n x lt =
    let at : suc (length (newer ++ older)) ≡ length older + suc (length newer) = omega (arith, length-append newer older) in
    ap (λ (point : ℕ). if nat_lt n point then live_by (reset_points_back (newer ++ older)) n x
    else (if nat_le point x then nat_le x n else (nat_lt target point && live_by (reset_points_back (newer ++ older)) target x))) at
    ∙ ap (λ (b : Bool). if nat_lt n (length older + suc (length newer)) then b
    else (if nat_le (length older + suc (length newer)) x then nat_le x n
    else (nat_lt target (length older + suc (length newer)) && live_by (reset_points_back (newer ++ older)) target x))) (live_as_read newer older n x lt)
    ∙ ap (λ (b : Bool). if nat_lt n (length older + suc (length newer)) then live_by (resets_read_back (length older) newer) n x
    else (if nat_le (length older + suc (length newer)) x then nat_le x n else (nat_lt target (length older + suc (length newer)) && b)))
    (live_as_read newer older target x lt)
live_as_read (begin txn ∷ newer) older n x lt = live_as_read newer older n x lt
live_as_read (write txn patch ∷ newer) older n x lt = live_as_read newer older n x lt
live_as_read (commit txn time ∷ newer) older n x lt = live_as_read newer older n x lt
live_as_read (abort txn ∷ newer) older n x lt = live_as_read newer older n x lt

-- so the same is read by either
pub read_by_those : (newer older : List LogEntry) (n : ℕ) (entries : List LogEntry)
    → changes_read_back (reset_points_back (newer ++ older)) n (length older) entries ≡ changes_read_back (resets_read_back (length older) newer) n (length older) entries
read_by_those newer older n [] = refl
read_by_those newer older n (entry ∷ entries) =
    let x : ℕ = length older + suc (length entries) in
    ap (λ (l : List Change). l ++ given_at (reset_points_back (newer ++ older)) n x entry (read_back (length older) entries)) (read_by_those newer older n entries)
    ∙ ap (λ (b : Bool). changes_read_back (resets_read_back (length older) newer) n (length older) entries
    ++ (if b then map (change_by x) (given entry (read_back (length older) entries)) else []))
    (live_as_read newer older n x (omega arith))
