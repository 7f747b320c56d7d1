-- A drawn transaction may come behind a history with none open.
use Rattle.std.specs.Prelude.{◌≡◌, ℕ, zero, suc, ◌+◌, ◌/◌, ◌^◌, ◌<◌, ◌≤◌, ◌==◌, List, [], ◌∷◌, ◌++◌, length, reverse, Bool, true, false, if◌then◌else◌, slice_get, codes, Some}
use Rattle.std.specs.List.{AllByRecursion}
use Rattle.std.proofs.Common.{arith, refl, sym, ap, subst, ◌∙◌, length-append}
use Rattle.std.proofs.lemmas.Bool.Decides.{nat_tests}
use Rattle.std.proofs.lemmas.List.{reverse-append}
use Rattle.std.proofs.Math.Nat.{mod-lt}
use Rattle.log_history.specs.History.{LogEntry, History, begin, write, commit, abort, reset}
use Rattle.log_history.specs.Transactions.{OpenTxn, Table, InOrderBack, open_back, table_back, last_time, last_time_back, with_write, without}
use Rattle.onbar_grammar.specs.Script.{Space}
use Rattle.site_worlds.specs.Fitness.{IsWithin}
use Rattle.site_worlds.specs.Allowed.{IsNoReset}
use Rattle.course_laws.specs.AppendingLaws.{IsBatch}
use Rattle.world_laws.specs.ListLaws.{all_append}
use Rattle.site_courses.specs.Generated.{draw, pages_drawn_from, draw_write, draw_writes, draw_transaction, next_state}

abbrev pub drawn_spaces : List Space
drawn_spaces = record { name = codes "A"; pages = 64 } ∷ record { name = codes "B"; pages = 48 } ∷ []

-- what is drawn

drawn_below : (n x : ℕ) → 0 < n → (draw n x).value < n
unfolding draw
drawn_below n x some = mod-lt (next_state x / 2 ^ 33) some

-- a Write of a transaction, into a page that is there
abbrev IsDrawn : ℕ → LogEntry → Type 0
IsDrawn txn (write other patch) = (other ≡ txn) × IsWithin drawn_spaces (write other patch)
IsDrawn txn (begin other) = ⊥
IsDrawn txn (commit other time) = ⊥
IsDrawn txn (abort other) = ⊥
IsDrawn txn (reset restore target time) = ⊥

page_there : (space page : ℕ) → space < 2 → page < pages_drawn_from space → (s : Space) × (slice_get drawn_spaces space ≡ Some s) × (page < s.pages)
page_there zero page lt within = (record { name = codes "A"; pages = 64 }, refl, within)
page_there (suc zero) page lt within = (record { name = codes "B"; pages = 48 }, refl, within)
page_there (suc (suc space)) page lt within = absurd (omega (arith, lt))

some_pages : (space : ℕ) → 0 < pages_drawn_from space
some_pages space = by (space == 0)
  where
    by : (b : Bool) → 0 < (if b then 64 else 48)
    by true = omega arith
    by false = omega arith

write_is_drawn : (txn x : ℕ) → IsDrawn txn (draw_write txn x).value
write_is_drawn txn x = (
  refl,
  page_there (draw 2 x).value (draw (pages_drawn_from (draw 2 x).value) (draw 2 x).state).value (drawn_below 2 x (omega arith))
      (drawn_below (pages_drawn_from (draw 2 x).value) (draw 2 x).state (some_pages (draw 2 x).value)),
)

writes_are_drawn : (txn count x : ℕ) → AllByRecursion (IsDrawn txn) (draw_writes txn count x).value
writes_are_drawn txn zero x = tt
writes_are_drawn txn (suc count) x = (write_is_drawn txn x, writes_are_drawn txn count (draw_write txn x).state)

length-draw_writes : (txn count x : ℕ) → length (draw_writes txn count x).value ≡ count
length-draw_writes txn zero x = refl
length-draw_writes txn (suc count) x = ap suc (length-draw_writes txn count (draw_write txn x).state)

-- records behind others, newest first

abbrev pushed : List LogEntry → List LogEntry → List LogEntry
pushed back [] = back
pushed back (entry ∷ entries) = pushed (entry ∷ back) entries

reverse-behind : (history more : History) → reverse (history ++ more) ≡ pushed (reverse history) more
reverse-behind history [] = ap reverse (none history)
  where
    none : (h : History) → h ++ [] ≡ h
    none [] = refl
    none (entry ∷ h) = ap (λ (l : History). entry ∷ l) (none h)
reverse-behind history (entry ∷ more) =
    ap reverse (sym (moved history)) ∙ reverse-behind (history ++ entry ∷ []) more ∙ ap (λ (back : List LogEntry). pushed back more) (reverse-append history (entry ∷ []))
  where
    moved : (h : History) → (h ++ entry ∷ []) ++ more ≡ h ++ entry ∷ more
    moved [] = refl
    moved (first ∷ h) = ap (λ (l : History). first ∷ l) (moved h)

-- none is open
pub record AllEnded (back : List LogEntry) : Type 0 where
  pub order : InOrderBack back
  pub empty : table_back back ≡ []
  pub ended : (txn : ℕ) → open_back txn back ≡ false

-- one is
record IsAlone (txn last : ℕ) (back : List LogEntry) : Type 0 where
  order : InOrderBack back
  is_open : open_back txn back ≡ true
  one : OpenTxn
  table : table_back back ≡ one ∷ []
  same : one.txn ≡ txn
  time : last_time_back back ≡ last
  others : (other : ℕ) → (txn ≡ other → ⊥) → open_back other back ≡ false

itself : (n : ℕ) → (n == n) ≡ true
itself n = grind (arith, nat_tests)

differ : (a b : ℕ) → (a ≡ b → ⊥) → (a == b) ≡ false
differ a b isnt = by (a == b) refl
  where
    same : (a == b) ≡ true → a ≡ b
    same is = grind (arith, nat_tests, is)

    by : (c : Bool) → (a == b) ≡ c → c ≡ false
    by true is = absurd (isnt (same is))
    by false is = refl

begun : (txn : ℕ) (back : List LogEntry) → AllEnded back → IsAlone txn (last_time_back back) (begin txn ∷ back)
begun txn back all = record {
  order = ((all.ended txn, omega (arith, ap (λ (t : Table). length t) all.empty)), all.order);
  is_open = ap (λ (b : Bool). if b then true else open_back txn back) (itself txn);
  one = record { txn = txn; first = suc (length back); patches = [] };
  table = ap (λ (t : Table). without txn t ++ record { txn = txn; first = suc (length back); patches = [] } ∷ []) all.empty;
  same = refl;
  time = refl;
  others = λ other isnt. ap (λ (b : Bool). if b then true else open_back other back) (differ txn other isnt) ∙ all.ended other;
}

wrote : (txn last : ℕ) (entry : LogEntry) (back : List LogEntry) → IsDrawn txn entry → IsAlone txn last back → IsAlone txn last (entry ∷ back)
wrote txn last (begin other) back drawn alone = absurd drawn
wrote txn last (commit other time) back drawn alone = absurd drawn
wrote txn last (abort other) back drawn alone = absurd drawn
wrote txn last (reset restore target time) back drawn alone = absurd drawn
wrote txn last (write other patch) back drawn alone = record {
  order = (ap (λ (n : ℕ). open_back n back) drawn.0 ∙ alone.is_open, alone.order);
  is_open = alone.is_open;
  one = record (alone.one) { patches = alone.one.patches ++ patch ∷ [] };
  table = ap (with_write other patch) alone.table
      ∙ ap (λ (b : Bool). if b then record (alone.one) { patches = alone.one.patches ++ patch ∷ [] } ∷ [] else alone.one ∷ [])
      (ap (λ (n : ℕ). alone.one.txn == n) drawn.0 ∙ ap (λ (n : ℕ). n == txn) alone.same ∙ itself txn);
  same = alone.same;
  time = alone.time;
  others = alone.others;
}

wrote_all : (txn last : ℕ) (entries : List LogEntry) (back : List LogEntry) → AllByRecursion (IsDrawn txn) entries → IsAlone txn last back → IsAlone txn last (pushed back entries)
wrote_all txn last [] back drawn alone = alone
wrote_all txn last (entry ∷ entries) back drawn alone = wrote_all txn last entries (entry ∷ back) drawn.1 (wrote txn last entry back drawn.0 alone)

-- the end of a transaction
abbrev ends : ℕ → ℕ → Bool → LogEntry
ends txn time true = abort txn
ends txn time false = commit txn time

closed_others : (txn last : ℕ) (back : List LogEntry) → IsAlone txn last back → (other : ℕ) → (if txn == other then false else open_back other back) ≡ false
closed_others txn last back alone other = by (txn == other) refl
  where
    not_same : (txn == other) ≡ false → txn ≡ other → ⊥
    not_same isnt same = grind (arith, nat_tests, isnt, same)

    by : (b : Bool) → (txn == other) ≡ b → (if b then false else open_back other back) ≡ false
    by true is = refl
    by false is = alone.others other (not_same is)

closed_table : (txn last : ℕ) (back : List LogEntry) → IsAlone txn last back → without txn (table_back back) ≡ []
closed_table txn last back alone =
    ap (without txn) alone.table ∙ ap (λ (b : Bool). if b then [] else alone.one ∷ []) (ap (λ (n : ℕ). n == txn) alone.same ∙ itself txn)

ended_by : (txn last time : ℕ) (aborts : Bool) (back : List LogEntry) → last ≤ time → IsAlone txn last back → AllEnded (ends txn time aborts ∷ back)
ended_by txn last time true back le alone = record {
  order = (alone.is_open, alone.order);
  empty = closed_table txn last back alone;
  ended = closed_others txn last back alone;
}
ended_by txn last time false back le alone = record {
  order = ((alone.is_open, omega (arith, alone.time, le)), alone.order);
  empty = closed_table txn last back alone;
  ended = closed_others txn last back alone;
}

pushed-append : (back xs ys : List LogEntry) → pushed back (xs ++ ys) ≡ pushed (pushed back xs) ys
pushed-append back [] ys = refl
pushed-append back (x ∷ xs) ys = pushed-append (x ∷ back) xs ys

module _ (txn time x : ℕ) where
  abbrev count : ℕ
  count = 1 + (draw 4 x).value

  abbrev writes : List LogEntry
  writes = (draw_writes txn count (draw 4 x).state).value

  abbrev aborts : Bool
  aborts = (draw 8 (draw_writes txn count (draw 4 x).state).state).value == 0

  abbrev drawn : History
  drawn = begin txn ∷ (writes ++ ends txn time aborts ∷ [])

  is_drawn : (draw_transaction txn time x).value ≡ drawn
  is_drawn = ap (λ (e : LogEntry). begin txn ∷ (writes ++ e ∷ [])) (by aborts)
    where
      by : (b : Bool) → (if b then abort txn else commit txn time) ≡ ends txn time b
      by true = refl
      by false = refl

  ended_behind : (back : List LogEntry) → AllEnded back → last_time_back back ≤ time → AllEnded (pushed back drawn)
  ended_behind back all le =
      subst AllEnded (sym (pushed-append (begin txn ∷ back) writes (ends txn time aborts ∷ [])))
      (ended_by txn (last_time_back back) time aborts (pushed (begin txn ∷ back) writes) le
      (wrote_all txn (last_time_back back) writes (begin txn ∷ back) (writes_are_drawn txn count (draw 4 x).state) (begun txn back all)))

  few_drawn : length drawn ≤ 256
  few_drawn = omega (
    arith,
    length-append writes (ends txn time aborts ∷ []),
    length-draw_writes txn count (draw 4 x).state,
    drawn_below 4 x (omega arith),
  )

  within_end : (b : Bool) → IsWithin drawn_spaces (ends txn time b)
  within_end true = tt
  within_end false = tt

  plain_end : (b : Bool) → IsNoReset (ends txn time b)
  plain_end true = tt
  plain_end false = tt

  within_writes : (entries : List LogEntry) → AllByRecursion (IsDrawn txn) entries → AllByRecursion (IsWithin drawn_spaces) entries
  within_writes [] all = tt
  within_writes (begin other ∷ entries) all = absurd all.0
  within_writes (commit other at ∷ entries) all = absurd all.0
  within_writes (abort other ∷ entries) all = absurd all.0
  within_writes (reset restore target at ∷ entries) all = absurd all.0
  within_writes (write other patch ∷ entries) all = (all.0.1, within_writes entries all.1)

  plain_writes : (entries : List LogEntry) → AllByRecursion (IsDrawn txn) entries → AllByRecursion IsNoReset entries
  plain_writes [] all = tt
  plain_writes (begin other ∷ entries) all = absurd all.0
  plain_writes (commit other at ∷ entries) all = absurd all.0
  plain_writes (abort other ∷ entries) all = absurd all.0
  plain_writes (reset restore target at ∷ entries) all = absurd all.0
  plain_writes (write other patch ∷ entries) all = (tt, plain_writes entries all.1)

  -- A drawn transaction is a batch behind a history with none open, if its time isn't before the last one,
  pub drawn_is_batch : (history : History) → AllEnded (reverse history) → last_time history ≤ time → IsBatch drawn_spaces history (draw_transaction txn time x).value
  drawn_is_batch history all le =
      subst (IsBatch drawn_spaces history) (sym is_drawn) (record {
        some = omega arith;
        few = few_drawn;
        order = subst InOrderBack (sym (reverse-behind history drawn)) (ended_behind (reverse history) all le).order;
        within = (tt, all_append (IsWithin drawn_spaces) writes (ends txn time aborts ∷ []) (within_writes writes (writes_are_drawn txn count (draw 4 x).state)) (within_end aborts, tt));
        plain = (tt, all_append IsNoReset writes (ends txn time aborts ∷ []) (plain_writes writes (writes_are_drawn txn count (draw 4 x).state)) (plain_end aborts, tt));
      })

  -- and behind it none is open.
  pub drawn_ends : (history : History) → AllEnded (reverse history) → last_time history ≤ time → AllEnded (reverse (history ++ (draw_transaction txn time x).value))
  drawn_ends history all le =
      subst (λ (records : History). AllEnded (reverse (history ++ records))) (sym is_drawn)
      (subst AllEnded (sym (reverse-behind history drawn)) (ended_behind (reverse history) all le))
