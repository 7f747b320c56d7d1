-- What each record of the log brings into effect.
use Rattle.std.proofs.Common.{◌≡◌, ℕ, zero, suc, ◌+◌, ◌-◌, ◌<◌, Bool, true, false, cond, ◌&&◌, List, [], ◌∷◌, ◌++◌, length, take, map, reverse, get_or, Option, Some, refl, sym, ap, ◌∙◌, arith, slice_get}
use Rattle.std.specs.List.{filter, flat_map}
use Rattle.std.proofs.lemmas.List.{take-map, length-map}
use Rattle.log_history.specs.History.{LogEntry, History, commit, entry_at, positions}
use Rattle.log_history.specs.Live.{live}
use Rattle.log_history.specs.Effects.{Change, change_by, changes, is_commit, writes, writes_of, writes_back}
use Rattle.log_history.specs.Transactions.{open_back}
use Rattle.log_record.specs.declared.records.Record.{Record}
use Rattle.log_record.specs.declared.records.Record.TheVariants.{Begin, Write, Commit, Abort, Reset}
use Rattle.log_record.specs.Entry.{entry_of, history_of}
use Rattle.plain_pages.specs.Page.{is_effective, changes_at}

slice_get-history_of : (records : List Record) (i : ℕ) (d : Record) → i < length records → slice_get (history_of records) i ≡ Some (entry_of (get_or records i d))
slice_get-history_of [] i d below = absurd (omega arith)
slice_get-history_of (r ∷ rs) zero d below = refl
slice_get-history_of (r ∷ rs) (suc i) d below = slice_get-history_of rs i d (omega arith)

entry_here : (records : List Record) (i : ℕ) (r : Record) → i < length records → r ≡ get_or records i r → entry_at (history_of records) (i + 1) ≡ Some (entry_of r)
entry_here records i r below read =
    let next : i + 1 ≡ suc i = omega arith in
    ap (entry_at (history_of records)) next ∙ slice_get-history_of records i r below ∙ ap (λ (x : Record). Some (entry_of x)) (sym read)

-- what a record brings into effect, by the record
abbrev brought : History → ℕ → ℕ → Option LogEntry → List Change
brought history n x entry =
    cond (is_commit entry && live history n x) (map (change_by x) (writes_of entry (reverse (take (x - 1) history)))) []

not_commit : (r : Record) → ((txn time : ℕ) → r ≡ Commit txn time → ⊥) → is_commit (Some (entry_of r)) ≡ false
not_commit (Begin txn) h = refl
not_commit (Write txn space page offset bytes) h = refl
not_commit (Commit txn time) h = absurd (h txn time refl)
not_commit (Abort txn) h = refl
not_commit (Reset restore target time) h = refl

pub changes_at-other : (records : List Record) (i n : ℕ) (r : Record) → i < length records → r ≡ get_or records i r
    → ((txn time : ℕ) → r ≡ Commit txn time → ⊥) → changes_at (history_of records) n (i + 1) ≡ []
changes_at-other records i n r below read h =
    ap (brought (history_of records) n (i + 1)) (entry_here records i r below read) ∙ rw (not_commit r h) refl

-- what a Commit that is live brings into effect
changes_at-live : (records : List Record) (i n txn time : ℕ) (r : Record) → i < length records → r ≡ get_or records i r → r ≡ Commit txn time
    → live (history_of records) n (i + 1) ≡ true
    → changes_at (history_of records) n (i + 1) ≡ map (change_by (i + 1)) (writes_of (Some (commit txn time)) (reverse (history_of (take i records))))
changes_at-live records i n txn time r below read is alive =
    let before : take (i + 1 - 1) (history_of records) ≡ history_of (take i records) =
    ap (λ (k : ℕ). take k (history_of records)) (omega arith) ∙ take-map entry_of i records in
    ap (brought (history_of records) n (i + 1)) (entry_here records i r below read ∙ ap (λ (x : Record). Some (entry_of x)) is)
    ∙ rw (alive, before) refl

pub changes_at-commit : (records : List Record) (i n txn time : ℕ) (r : Record) → i < length records → r ≡ get_or records i r → r ≡ Commit txn time
    → live (history_of records) n (i + 1) ≡ true → open_back txn (reverse (history_of (take i records))) ≡ true
    → changes_at (history_of records) n (i + 1) ≡ map (change_by (i + 1)) (writes_back txn (reverse (history_of (take i records))))
changes_at-commit records i n txn time r below read is alive running =
    changes_at-live records i n txn time r below read is alive ∙ rw running refl

pub changes_at-not_open : (records : List Record) (i n txn time : ℕ) (r : Record) → i < length records → r ≡ get_or records i r → r ≡ Commit txn time
    → live (history_of records) n (i + 1) ≡ true → open_back txn (reverse (history_of (take i records))) ≡ false
    → changes_at (history_of records) n (i + 1) ≡ []
changes_at-not_open records i n txn time r below read is alive ended =
    changes_at-live records i n txn time r below read is alive ∙ rw ended refl

flat_map-filter : {X A : Type 0} (f : X → List A) (p : X → Bool) (xs : List X) → flat_map f (filter p xs) ≡ flat_map (λ x. cond (p x) (f x) []) xs
flat_map-filter f p [] = refl
flat_map-filter {X} {A} f p (x ∷ xs) = by (p x) (flat_map-filter f p xs) where
  by : (b : Bool) → flat_map f (filter p xs) ≡ flat_map (λ y. cond (p y) (f y) []) xs
      → flat_map f (cond b (x ∷ filter p xs) (filter p xs)) ≡ cond b (f x) [] ++ flat_map (λ y. cond (p y) (f y) []) xs
  by true rest = ap (λ (ys : List A). f x ++ ys) rest
  by false rest = rest

pub changes-by_positions : (records : List Record) (n i : ℕ) → i ≡ length records
    → changes (history_of records) n ≡ flat_map (changes_at (history_of records) n) (positions i)
changes-by_positions records n i all =
    let history : History = history_of records in
    ap (λ (k : ℕ). flat_map (λ c. map (change_by c) (writes history c)) (filter (is_effective history n) (positions k))) (length-map records entry_of ∙ sym all)
    ∙ flat_map-filter (λ c. map (change_by c) (writes history c)) (is_effective history n) (positions i)
