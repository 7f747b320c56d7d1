-- Records taken one by one.
use Rattle.std.specs.Prelude.{Result, Ok, Err}
use Rattle.std.proofs.Common.{◌≡◌, ℕ, suc, ◌+◌, ◌<◌, List, [], ◌∷◌, ◌++◌, length, map, take, drop, reverse, filter, get_or, Option, None, Some, Bool, true, false, if◌then◌else◌, refl, sym, ap, ◌∙◌, subst, arith, length-append, length-take}
use Rattle.std.proofs.Math.Seq.{drop-cons}
use Rattle.std.proofs.lemmas.List.{drop-map, drop_all, length-map, length-reverse, map_more, reverse-append, take-map, take_all}
use Rattle.log_history.specs.History.{LogEntry, History, begin, write, commit, abort, reset}
use Rattle.log_history.specs.Live.{ResetPoint}
use Rattle.log_history.specs.Effects.{Change, change_by}
use Rattle.log_history.specs.Transactions.{Table, given}
use Rattle.log_record.specs.Entry.{entry_of, history_of}
use Rattle.log_record.specs.declared.records.Record.{Record}
use Rattle.txn_table.specs.Table.{change_of}
use Rattle.held_laws.specs.Reading.{read_after, read_back, resets_read_back}
use Rattle.held_log.specs.Strays.{is_stray, stray_from}
use Rattle.held_log.specs.Readers.{FileIs, HasTaken, IsRefused, Takes, gathered_back, resets_after}
use Rattle.held_log.specs.declared.faults.HeldFault.{HeldFault}
use Rattle.held_log.specs.declared.faults.HeldFault.TheVariants.{OutOfMemory, Failed, BadRecord}
use Rattle.held_log.specs.declared.reader.Reader.{Reader}

pub map_filtered : {X Y : Type 0} (f : X → Y) (p : Y → Bool) (xs : List X) → map f (filter (λ x. p (f x)) xs) ≡ filter p (map f xs)
map_filtered f p [] = refl
map_filtered {X} {Y} f p (x ∷ xs) = by (p (f x)) (map_filtered f p xs)
  where
    by : (b : Bool) → map f (filter (λ x. p (f x)) xs) ≡ filter p (map f xs)
        → map f (if b then x ∷ filter (λ x. p (f x)) xs else filter (λ x. p (f x)) xs) ≡ (if b then f x ∷ filter p (map f xs) else filter p (map f xs))
    by true rest = ap (λ (l : List Y). f x ∷ l) rest
    by false rest = rest

-- one record after another

module _ (before : ℕ) (past : List LogEntry) (entry : LogEntry) (old new : Reader) (position : ℕ) (has : HasTaken before past old) (takes : Takes position entry old new)
    (at : position ≡ before + suc (length past)) where
  resets_on : (e : LogEntry) → resets_after (before + suc (length past)) e (resets_read_back before past) ≡ resets_read_back before (e ∷ past)
  resets_on (begin txn) = refl
  resets_on (write txn patch) = refl
  resets_on (commit txn time) = refl
  resets_on (abort txn) = refl
  resets_on (reset restore target time) = refl

  pub has_more : HasTaken before (entry ∷ past) new
  has_more = record {
    table = takes.table ∙ ap (λ (n : ℕ). read_after n entry old.open) at ∙ ap (read_after (before + suc (length past)) entry) has.table;
    changes = takes.changes
        ∙ ap (λ (l : List Change). l ++ map (change_by position) (given entry old.open)) has.changes
        ∙ ap (λ (n : ℕ). gathered_back before past ++ map (change_by n) (given entry old.open)) at
        ∙ ap (λ (t : Table). gathered_back before past ++ map (change_by (before + suc (length past))) (given entry t)) has.table;
    resets = takes.resets ∙ ap (λ (n : ℕ). resets_after n entry old.resets) at ∙ ap (resets_after (before + suc (length past)) entry) has.resets ∙ resets_on entry;
  }

  pub no_stray_here : is_stray entry (read_back before past) ≡ false
  no_stray_here = ap (is_stray entry) (sym has.table) ∙ takes.in_order

-- the first records of a file are taken, and the rest is left
pub record PartFile (before : ℕ) (past : List LogEntry) (slot : ℕ) (entries : History) (i : ℕ) (now : Reader) : Type 0 where
  pub taken : HasTaken before (reverse (take i entries) ++ past) now
  pub left : stray_from slot before past entries ≡ stray_from (slot + i) before (reverse (take i entries) ++ past) (drop i entries)

pub record IsPartway (first slot : ℕ) (entries : History) (i : ℕ) (begun now : Reader) : Type 0 where
  pub part : (before : ℕ) (past : List LogEntry) → HasTaken before past begun → first ≡ before + suc (length past) → PartFile before past slot entries i now

pub none_yet : (first slot : ℕ) (entries : History) (begun : Reader) → IsPartway first slot entries 0 begun begun
none_yet first slot entries begun = record {
  part = λ before past has at. record { taken = has; left = ap (λ (n : ℕ). stray_from n before past entries) (let e : slot ≡ slot + 0 = omega arith in e) };
}

module _ (before : ℕ) (past : List LogEntry) (slot : ℕ) (entries : History) (i : ℕ) (entry : LogEntry) (old : Reader) (part : PartFile before past slot entries i old)
    (here : drop i entries ≡ entry ∷ drop (i + 1) entries) where
  abbrev rest : History
  rest = drop (i + 1) entries

  pub stopped_here : is_stray entry old.open ≡ true → stray_from slot before past entries ≡ Some (slot + i)
  stopped_here stray =
      let is : is_stray entry (read_back before (reverse (take i entries) ++ past)) ≡ true = ap (is_stray entry) (sym part.taken.table) ∙ stray in
      part.left ∙ ap (stray_from (slot + i) before (reverse (take i entries) ++ past)) here
      ∙ ap (λ (b : Bool). if b then Some (slot + i) else stray_from (slot + i + 1) before (entry ∷ (reverse (take i entries) ++ past)) rest) is

  pub one_more : (new : Reader) (position : ℕ) → take (i + 1) entries ≡ take i entries ++ entry ∷ [] → Takes position entry old new
      → position ≡ before + suc (length (reverse (take i entries) ++ past)) → PartFile before past slot entries (i + 1) new
  one_more new position next takes at =
      let grown : reverse (take (i + 1) entries) ++ past ≡ entry ∷ (reverse (take i entries) ++ past) =
      ap (λ (l : List LogEntry). reverse l ++ past) next ∙ ap (λ (l : List LogEntry). l ++ past) (reverse-append (take i entries) (entry ∷ [])) in
      let is : is_stray entry (read_back before (reverse (take i entries) ++ past)) ≡ false =
      no_stray_here before (reverse (take i entries) ++ past) entry old new position part.taken takes at in record {
        taken = subst (λ (l : List LogEntry). HasTaken before l new) (sym grown) (has_more before (reverse (take i entries) ++ past) entry old new position part.taken takes at);
        left = part.left ∙ ap (stray_from (slot + i) before (reverse (take i entries) ++ past)) here
            ∙ ap (λ (b : Bool). if b then Some (slot + i) else stray_from (slot + i + 1) before (entry ∷ (reverse (take i entries) ++ past)) rest) is
            ∙ ap (λ (n : ℕ). stray_from n before (entry ∷ (reverse (take i entries) ++ past)) rest) (let e : slot + i + 1 ≡ slot + (i + 1) = omega arith in e)
            ∙ ap (λ (l : List LogEntry). stray_from (slot + (i + 1)) before l rest) (sym grown);
      }

-- a record of a file by its place

count_taken : (records : List Record) (i : ℕ) → i < length records → length (take i (history_of records)) ≡ i
count_taken records i lt = omega (arith, length-take i (history_of records), length-map records entry_of, lt)

pub left_at : (records : List Record) (i : ℕ) (one : Record) → i < length records → one ≡ get_or records i one
    → drop i (history_of records) ≡ entry_of one ∷ drop (i + 1) (history_of records)
left_at records i one lt is =
    drop-map entry_of i records
    ∙ ap (map entry_of) (drop-cons records i one lt)
    ∙ ap (λ (e : Record). entry_of e ∷ map entry_of (drop (suc i) records)) (sym is)
    ∙ ap (λ (l : History). entry_of one ∷ l) (sym (drop-map entry_of (suc i) records) ∙ ap (λ (n : ℕ). drop n (history_of records)) (let e : suc i ≡ i + 1 = omega arith in e))

pub taken_at : (records : List Record) (i : ℕ) (one : Record) → i < length records → one ≡ get_or records i one
    → take (i + 1) (history_of records) ≡ take i (history_of records) ++ entry_of one ∷ []
taken_at records i one lt is =
    take-map entry_of (i + 1) records
    ∙ map_more entry_of records i one lt
    ∙ ap (λ (e : Record). map entry_of (take i records) ++ entry_of e ∷ []) (sym is)
    ∙ ap (λ (l : History). l ++ entry_of one ∷ []) (sym (take-map entry_of i records))

module _ (first slot : ℕ) (records : List Record) (i : ℕ) (one : Record) (begun old : Reader) (lt : i < length records) (is : one ≡ get_or records i one)
    (partway : IsPartway first slot (history_of records) i begun old) where
  pub next_partway : (new : Reader) → Takes (first + i) (entry_of one) old new → IsPartway first slot (history_of records) (i + 1) begun new
  next_partway new takes = record {
    part = λ before past has at.
        one_more before past slot (history_of records) i (entry_of one) old (partway.part before past has at) (left_at records i one lt is) new (first + i)
        (taken_at records i one lt is) takes (place before past at);
  }
    where
      place : (before : ℕ) (past : List LogEntry) → first ≡ before + suc (length past) → first + i ≡ before + suc (length (reverse (take i (history_of records)) ++ past))
      place before past at = omega (
        arith,
        at,
        length-append (reverse (take i (history_of records))) past,
        length-reverse (take i (history_of records)),
        count_taken records i lt,
      )

  pub stops_here : (before : ℕ) (past : List LogEntry) (new : Reader) (number : ℕ) (fault : HeldFault) → HasTaken before past begun → first ≡ before + suc (length past)
      → number ≡ slot + i → IsRefused number (entry_of one) old.open fault → FileIs before past slot (history_of records) new (Err fault)
  stops_here before past new number OutOfMemory has at is_at refused = tt
  stops_here before past new number Failed has at is_at refused = tt
  stops_here before past new number (BadRecord other) has at is_at refused =
      stopped_here before past slot (history_of records) i (entry_of one) old (partway.part before past has at) (left_at records i one lt is) refused.0
      ∙ ap (λ (n : ℕ). Some n) (sym (refused.1 ∙ is_at))

-- all are taken
pub all_taken : (first slot : ℕ) (records : List Record) (i : ℕ) (begun now : Reader) → IsPartway first slot (history_of records) i begun now → length records ≡ i
    → (before : ℕ) (past : List LogEntry) → HasTaken before past begun → first ≡ before + suc (length past) → FileIs before past slot (history_of records) now (Ok tt)
all_taken first slot records i begun now partway end before past has at =
    let part = partway.part before past has at in
    let entries : History = history_of records in
    let whole : take i entries ≡ entries = take_all i entries (omega (arith, length-map records entry_of, end)) in
    let none : drop i entries ≡ [] = drop_all i entries (omega (arith, length-map records entry_of, end)) in (
      subst (λ (l : History). HasTaken before (reverse l ++ past) now) whole part.taken,
      part.left ∙ ap (stray_from (slot + i) before (reverse (take i entries) ++ past)) none,
    )
