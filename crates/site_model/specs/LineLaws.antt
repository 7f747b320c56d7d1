-- Laws of a script's lines: the record of a line is into a space of the site and a page that it has, and may follow where the open
-- transactions don't refuse it.
use Rattle.std.specs.Prelude.{◌≡◌, ℕ, suc, ◌+◌, ◌<◌, ◌≤◌, List, [], ◌∷◌, length, reverse, Bool, true, false, nat_lt, nat_le, nat_eq, if◌then◌else◌, slice_get, Option, None, Some, Result, Ok, Err, codes, refl}
use Rattle.std.specs.Cmp.Lexicographic.{pointwise}
use Rattle.std.specs.Option.{ok_or}
use Rattle.std.proofs.Common.{arith, ap, sym, subst, ◌∙◌}
use Rattle.std.proofs.lemmas.Bool.{ltb-true}
use Rattle.std.proofs.lemmas.Option.{some_pair_parts}
use Rattle.log_history.specs.History.{LogEntry, History, write}
use Rattle.log_history.specs.Transactions.{OpenTxn, table_back, table_of, lookup, refusal, unless_open, unless_new, open_back, last_time, MayFollow}
use Rattle.txn_table.specs.OrderLaws.{lookup-table_back}
use Rattle.onbar_grammar.specs.declared.Why.{Why}
use Rattle.onbar_grammar.specs.declared.Why.TheVariants.{Words, NoSpace, NoPage, Range}
use Rattle.onbar_grammar.specs.Numbers.{hex_bytes, is_name}
use Rattle.onbar_grammar.specs.Script.{Space, Line, begin_line, write_line, commit_line, abort_line, entry_of_line, tokens_of, is_token, line_of_tokens, short_line_of, write_line_of, line_of, place_from, place_of, txn_number, any_number, unless, ◌>>=◌}

-- a Write is into a space of the site and a page that it has
abbrev pub IsWithin : List Space → LogEntry → Type 0
IsWithin spaces (write txn patch) = (space : Space) × (slice_get spaces patch.space ≡ Some space) × (patch.page < space.pages)
IsWithin spaces entry = Unit {0}

bound : {A B : Type 0} (read : Result A Why) (f : A → Result B Why) (y : B) → read >>= f ≡ Ok y → (x : A) × (read ≡ Ok x) × (f x ≡ Ok y)
bound (Ok x) f y is = (x, refl, is)
bound (Err why) f y is = cc is

found : {A : Type 0} (o : Option A) (why : Why) (x : A) → ok_or o why ≡ Ok x → o ≡ Some x
found (Some y) why x is = cc
found None why x is = cc is

holds : (b : Bool) (why : Why) (x : Unit {0}) → unless b why ≡ Ok x → b ≡ true
holds true why x is = refl
holds false why x is = cc is

same_line : (x y : Line) → ◌≡◌ {A = Result Line Why} (Ok x) (Ok y) → x ≡ y
same_line x y is = cc

same_some : (x y : Line) → ◌≡◌ {A = Result (Option Line) Why} (Ok (Some x)) (Ok (Some y)) → x ≡ y
same_some x y is = cc

-- the space with a name stands at its place among those counted from n
record StandsAt (n : ℕ) (spaces : List Space) (place pages : ℕ) : Type 0 where
  at : ℕ
  is : place ≡ n + at
  space : Space
  has : slice_get spaces at ≡ Some space
  pages_are : space.pages ≡ pages

stands_at : (n : ℕ) (name : List ℕ) (spaces : List Space) (place pages : ℕ) → place_from n name spaces ≡ Some (place, pages) → StandsAt n spaces place pages
stands_at n name [] place pages is = cc is
stands_at n name (space ∷ spaces) place pages is = by (pointwise nat_eq space.name name) (stands_at (suc n) name spaces place pages) is
  where
    by : (b : Bool) → (place_from (suc n) name spaces ≡ Some (place, pages) → StandsAt (suc n) spaces place pages)
        → (if b then Some (n, space.pages) else place_from (suc n) name spaces) ≡ Some (place, pages) → StandsAt n (space ∷ spaces) place pages
    by true further same =
        let parts = some_pair_parts n place space.pages pages same in
        record { at = 0; is = (let e = parts.0 in omega (arith, e)); space = space; has = refl; pages_are = parts.1 }
    by false further same =
        let later = further same in
        record { at = suc later.at; is = (let e = later.is in omega (arith, e)); space = later.space; has = later.has; pages_are = later.pages_are }

module _ (spaces : List Space) (time : ℕ) where
  abbrev Within : Line → Type 0
  Within line = IsWithin spaces (entry_of_line time line)

  within_short : (keyword token : List ℕ) (line : Line) → short_line_of keyword token ≡ Ok line → Within line
  within_short keyword token line = by (txn_number token) (is_token (codes "begin") keyword) (is_token (codes "commit") keyword) (is_token (codes "abort") keyword)
    where
      by : (txn : Result ℕ Why) (begins commits aborts : Bool)
          → (if begins then txn >>= (λ txn. Ok (begin_line txn)) else (if commits then txn >>= (λ txn. Ok (commit_line txn)) else (if aborts then txn >>= (λ txn. Ok (abort_line txn)) else Err Words))) ≡ Ok line
          → Within line
      by (Ok txn) true commits aborts is = subst Within (same_line (begin_line txn) line is) tt
      by (Ok txn) false true aborts is = subst Within (same_line (commit_line txn) line is) tt
      by (Ok txn) false false true is = subst Within (same_line (abort_line txn) line is) tt
      by (Ok txn) false false false is = cc is
      by (Err why) true commits aborts is = cc is
      by (Err why) false true aborts is = cc is
      by (Err why) false false true is = cc is
      by (Err why) false false false is = cc is

  within_write : (txn name page offset hex : List ℕ) (line : Line) → write_line_of spaces txn name page offset hex ≡ Ok line → Within line
  unfolding write_line_of
  within_write txn name page offset hex line is =
      let a = bound (txn_number txn) _ line is in
      let b = bound (unless (is_name name) Words) _ line a.2 in
      let c = bound (any_number page) _ line b.2 in
      let d = bound (any_number offset) _ line c.2 in
      let e = bound (ok_or (hex_bytes hex) Words) _ line d.2 in
      let f = bound (ok_or (place_of name spaces) NoSpace) _ line e.2 in
      let g = bound (unless (nat_lt c.0 f.0.1) NoPage) _ line f.2 in
      let h = bound (unless (nat_le (d.0 + length e.0) 4080) Range) _ line g.2 in
      let below : c.0 < f.0.1 = ltb-true c.0 f.0.1 (holds (nat_lt c.0 f.0.1) NoPage g.0 g.1) in
      let stands = stands_at 0 name spaces f.0.0 f.0.1 (found (place_of name spaces) NoSpace f.0 f.1) in
      let place : stands.at ≡ f.0.0 = (let e = stands.is in omega (arith, e)) in
      subst Within (same_line _ line h.2) (
        stands.space,
        subst (λ (n : ℕ). slice_get spaces n ≡ Some stands.space) place stands.has,
        subst (λ (n : ℕ). c.0 < n) (sym stands.pages_are) below,
      )

  within_tokens : (tokens : List (List ℕ)) (line : Line) → line_of_tokens spaces tokens ≡ Ok line → Within line
  within_tokens [] line is = cc is
  within_tokens (keyword ∷ []) line is = cc is
  within_tokens (keyword ∷ a ∷ []) line is = within_short keyword a line is
  within_tokens (keyword ∷ a ∷ b ∷ []) line is = cc is
  within_tokens (keyword ∷ a ∷ b ∷ c ∷ []) line is = cc is
  within_tokens (keyword ∷ a ∷ b ∷ c ∷ d ∷ []) line is = cc is
  within_tokens (keyword ∷ a ∷ b ∷ c ∷ d ∷ e ∷ []) line is = by (is_token (codes "write") keyword) is
    where
      by : (writes : Bool) → (if writes then write_line_of spaces a b c d e else Err Words) ≡ Ok line → Within line
      by true same = within_write a b c d e line same
      by false same = cc same
  within_tokens (keyword ∷ a ∷ b ∷ c ∷ d ∷ e ∷ f ∷ more) line is = cc is

  -- a line's record is within the site
  pub line_within : (text : List ℕ) (line : Line) → line_of spaces text ≡ Ok (Some line) → Within line
  unfolding line_of
  line_within [] line is = cc is
  line_within (c ∷ cs) line is =
      let read = bound (line_of_tokens spaces (tokens_of (c ∷ cs))) (λ line. Ok (Some line)) (Some line) is in
      subst Within (same_some read.0 line read.2) (within_tokens (tokens_of (c ∷ cs)) read.0 read.1)

is_open : (txn : ℕ) (past : List LogEntry) → unless_open (lookup txn (table_back past)) ≡ None → open_back txn past ≡ true
is_open txn past none = by (open_back txn past) _ (ap unless_open (sym (lookup-table_back txn past)) ∙ none)
  where
    by : (b : Bool) (o : OpenTxn) → unless_open (if b then Some o else None) ≡ None → b ≡ true
    by true o is = refl
    by false o is = cc is

is_new : (txn : ℕ) (past : List LogEntry) → unless_new (lookup txn (table_back past)) (length (table_back past)) ≡ None
    → (open_back txn past ≡ false) × (length (table_back past) < 64)
is_new txn past none =
    by (open_back txn past) (nat_lt (length (table_back past)) 64) _ refl (ap (λ (o : Option OpenTxn). unless_new o (length (table_back past))) (sym (lookup-table_back txn past)) ∙ none)
  where
    by : (b few : Bool) (o : OpenTxn) → nat_lt (length (table_back past)) 64 ≡ few → unless_new (if b then Some o else None) (length (table_back past)) ≡ None
        → (b ≡ false) × (length (table_back past) < 64)
    by true few o count is = cc is
    by false true o count is = (refl, ltb-true (length (table_back past)) 64 count)
    by false false o count is = cc (is, count)

-- and may follow behind a log whose open transactions don't refuse it, at a time no earlier than the log's last
pub line_follows : (history : History) (time : ℕ) (line : Line) → last_time history ≤ time → refusal (entry_of_line time line) (table_of history) ≡ None
    → MayFollow (reverse history) (entry_of_line time line)
line_follows history time (begin_line txn) le none = is_new txn (reverse history) none
line_follows history time (write_line txn patch) le none = is_open txn (reverse history) none
line_follows history time (commit_line txn) le none = (is_open txn (reverse history) none, le)
line_follows history time (abort_line txn) le none = is_open txn (reverse history) none
