-- The numbers of a line that is read are those of a record.
use Rattle.std.proofs.Common.{◌≡◌, ℕ, suc, ◌+◌, ◌<◌, ◌≤◌, ◌∷◌, List, [], length, Bool, true, false, nat_le, nat_lt, ◌&&◌, cond, Option, None, Some, Result, Ok, Err, codes, refl, sym, subst, ◌∙◌, inl, inr, arith}
use Rattle.std.proofs.lemmas.Bool.{cases_Bool, and_parts, leb-true, ltb-true}
use Rattle.std.proofs.lemmas.Option.{cond_some, option_and_then_some, some_pair_parts, IfSome_then}
use Rattle.std.specs.Prelude.{IfSome, slice_get, nat_eq, if◌then◌else◌}
use Rattle.std.specs.List.{AllByRecursion}
use Rattle.std.specs.Option.{ok_or, option_and_then}
use Rattle.std.specs.Result.{result_ok}
use Rattle.std.specs.Cmp.Lexicographic.{pointwise}
use Rattle.hex.specs.declared.error.FromHexError.{FromHexError}
use Rattle.hex.specs.Hex.{decode_of, IsBytes}
use Rattle.hex.proofs.HexLemmas.{decode_of-ok}
use Rattle.log_record.specs.Layout.{IsTxn}
use Rattle.onbar_grammar.specs.declared.Why.{Why}
use Rattle.onbar_grammar.specs.declared.Why.TheVariants.{Words, NoSpace, NoPage, Range}
use Rattle.onbar_grammar.specs.Numbers.{number, number_within, hex_bytes, is_name}
use Rattle.onbar_grammar.specs.Script.{Space, Line, begin_line, write_line, commit_line, abort_line, tokens_of, is_token, line_of_tokens, short_line_of, write_line_of, line_of, place_from, place_of, txn_number, any_number, unless, ◌>>=◌}
use Rattle.script_lines.specs.TxnLine.{IsLineIn}
use Rattle.onbar_grammar.proofs.DigitLemmas.{number_within-Some}
use Rattle.script_lines.proofs.LineLemmas.{line_of_tokens-write, line_of_tokens-short}

bind_ok : {A B : Type 0} (read : Result A Why) (f : A → Result B Why) (y : B) → read >>= f ≡ Ok y → (x : A) × (read ≡ Ok x) × (f x ≡ Ok y)
bind_ok (Ok x) f y is = (x, refl, is)
bind_ok (Err why) f y is = cc is

ok_or_ok : {A : Type 0} (o : Option A) (why : Why) (x : A) → ok_or o why ≡ Ok x → o ≡ Some x
ok_or_ok (Some y) why x is = cc
ok_or_ok None why x is = cc is

same_Ok : {A : Type 0} (x y : A) → ◌≡◌ {A = Result A Why} (Ok x) (Ok y) → x ≡ y
same_Ok x y is = cc

unless_ok : (b : Bool) (why : Why) (x : Unit {0}) → unless b why ≡ Ok x → b ≡ true
unless_ok true why x is = refl
unless_ok false why x is = cc is

IsTxn-txn_number : (word : List ℕ) (txn : ℕ) → txn_number word ≡ Ok txn → IsTxn txn
IsTxn-txn_number word txn is =
    let within = number_within-Some 1 4294967295 word txn (ok_or_ok (number_within 1 4294967295 word) _ txn is) in
    record { numbered = omega (arith, within.0); fits = omega (arith, within.1) }

IsLineIn-begin : (spaces : List Space) (token : List ℕ) (line : Line) → txn_number token >>= (λ txn. Ok (begin_line txn)) ≡ Ok line
    → IsLineIn spaces line
IsLineIn-begin spaces token line is =
    let read = bind_ok (txn_number token) (λ txn. Ok (begin_line txn)) line is in
    subst (IsLineIn spaces) (same_Ok _ _ read.2) (IsTxn-txn_number token read.0 read.1)

IsLineIn-commit : (spaces : List Space) (token : List ℕ) (line : Line) → txn_number token >>= (λ txn. Ok (commit_line txn)) ≡ Ok line
    → IsLineIn spaces line
IsLineIn-commit spaces token line is =
    let read = bind_ok (txn_number token) (λ txn. Ok (commit_line txn)) line is in
    subst (IsLineIn spaces) (same_Ok _ _ read.2) (IsTxn-txn_number token read.0 read.1)

IsLineIn-abort : (spaces : List Space) (token : List ℕ) (line : Line) → txn_number token >>= (λ txn. Ok (abort_line txn)) ≡ Ok line
    → IsLineIn spaces line
IsLineIn-abort spaces token line is =
    let read = bind_ok (txn_number token) (λ txn. Ok (abort_line txn)) line is in
    subst (IsLineIn spaces) (same_Ok _ _ read.2) (IsTxn-txn_number token read.0 read.1)

IsLineIn-keyword : (spaces : List Space) (token : List ℕ) (line : Line) (begins commits aborts : Bool)
    → (if begins then txn_number token >>= (λ txn. Ok (begin_line txn))
    else (if commits then txn_number token >>= (λ txn. Ok (commit_line txn))
    else (if aborts then txn_number token >>= (λ txn. Ok (abort_line txn)) else Err Words))) ≡ Ok line
    → IsLineIn spaces line
IsLineIn-keyword spaces token line true commits aborts is = IsLineIn-begin spaces token line is
IsLineIn-keyword spaces token line false true aborts is = IsLineIn-commit spaces token line is
IsLineIn-keyword spaces token line false false true is = IsLineIn-abort spaces token line is
IsLineIn-keyword spaces token line false false false is = cc is

IsLineIn-short : (spaces : List Space) (keyword token : List ℕ) (line : Line) → short_line_of keyword token ≡ Ok line → IsLineIn spaces line
IsLineIn-short spaces keyword token line is =
    IsLineIn-keyword spaces token line (is_token (codes "begin") keyword) (is_token (codes "commit") keyword) (is_token (codes "abort") keyword) is

-- the place of the name is that of a space with it
record Places (n : ℕ) (spaces : List Space) (place pages : ℕ) : Type 0 where
  at : ℕ
  is : place ≡ n + at
  space : IfSome (slice_get spaces at) (λ space. space.pages ≡ pages)
  within : at < length spaces

Places-cond : (n : ℕ) (name : List ℕ) (space : Space) (spaces : List Space) (place pages : ℕ)
    → (place_from (suc n) name spaces ≡ Some (place, pages) → Places (suc n) spaces place pages) → (same : Bool)
    → (if same then Some (n, space.pages) else place_from (suc n) name spaces) ≡ Some (place, pages) → Places n (space ∷ spaces) place pages
Places-cond n name space spaces place pages further true is =
    let parts = some_pair_parts n place space.pages pages is in
    record { at = 0; is = omega (arith, parts.0); space = parts.1; within = omega arith }
Places-cond n name space spaces place pages further false is =
    let later = further is in
    record { at = suc later.at; is = omega (arith, later.is); space = later.space; within = omega (arith, later.within) }

Places-place_from : (n : ℕ) (name : List ℕ) (spaces : List Space) (place pages : ℕ)
    → place_from n name spaces ≡ Some (place, pages) → Places n spaces place pages
Places-place_from n name [] place pages is = cc is
Places-place_from n name (space ∷ spaces) place pages is =
    Places-cond n name space spaces place pages (Places-place_from (suc n) name spaces place pages) (pointwise nat_eq space.name name) is

AllByRecursion-IsBytes : (bytes : List ℕ) → IsBytes bytes → AllByRecursion (λ b. b < 256) bytes
AllByRecursion-IsBytes [] each = tt
AllByRecursion-IsBytes (b ∷ bytes) each = (each 0, AllByRecursion-IsBytes bytes (λ k. each (suc k)))

-- what a word of hexadecimal digits spells
record AreBytes (bytes : List ℕ) : Type 0 where
  some : 1 ≤ length bytes
  few : length bytes ≤ 64
  each : AllByRecursion (λ b. b < 256) bytes

AreBytes-read : (word bytes : List ℕ) (read : Result (List ℕ) FromHexError) → decode_of word ≡ read
    → option_and_then (λ bytes. cond (nat_le 1 (length bytes) && nat_le (length bytes) 64) (Some bytes) None) (result_ok read) ≡ Some bytes
    → AreBytes bytes
AreBytes-read word bytes (Ok decoded) was is =
    let parts = cond_some (nat_le 1 (length decoded) && nat_le (length decoded) 64) decoded bytes is in
    let both = and_parts (nat_le 1 (length decoded)) (nat_le (length decoded) 64) parts.0 in
    let each = (decode_of-ok word decoded was).3 in
    subst AreBytes parts.1 (record {
      some = leb-true 1 (length decoded) both.0;
      few = leb-true (length decoded) 64 both.1;
      each = AllByRecursion-IsBytes decoded each;
    })
AreBytes-read word bytes (Err e) was is = cc is

AreBytes-hex_bytes : (word bytes : List ℕ) → hex_bytes word ≡ Some bytes → AreBytes bytes
AreBytes-hex_bytes word bytes is = AreBytes-read word bytes (decode_of word) refl is

-- the checks behind the tokens' forms
IsLineIn-checked : (spaces : List Space) (txn page offset place pages : ℕ) (bytes : List ℕ) (line : Line)
    → IsTxn txn → AreBytes bytes → Places 0 spaces place pages
    → unless (nat_lt page pages) NoPage >>= (λ within. unless (nat_le (offset + length bytes) 4080) Range
    >>= (λ fits. Ok (write_line txn (record { space = place; page = page; offset = offset; bytes = bytes })))) ≡ Ok line
    → IsLineIn spaces line
IsLineIn-checked spaces txn page offset place pages bytes line is_txn are places is =
    let within = bind_ok (unless (nat_lt page pages) NoPage) _ line is in
    let fits = bind_ok (unless (nat_le (offset + length bytes) 4080) Range) _ line within.2 in
    let below : page < pages = ltb-true page pages (unless_ok (nat_lt page pages) NoPage within.0 within.1) in
    let short : offset + length bytes ≤ 4080 =
    leb-true (offset + length bytes) 4080 (unless_ok (nat_le (offset + length bytes) 4080) Range fits.0 fits.1) in
    let is_there : place ≡ places.at = omega (arith, places.is) in
    let pages_there : IfSome (slice_get spaces place) (λ space. page < space.pages) =
    rw is_there (IfSome_then (slice_get spaces places.at) places.space (λ space same. omega (arith, below, same))) in
    subst (IsLineIn spaces) (same_Ok _ _ fits.2) (
      is_txn,
      record {
        place = omega (arith, places.is, places.within);
        page = pages_there;
        some = are.some;
        few = are.few;
        within = short;
        each = are.each;
      },
    )

IsLineIn-write : (spaces : List Space) (txn name page offset hex : List ℕ) (line : Line)
    → write_line_of spaces txn name page offset hex ≡ Ok line → IsLineIn spaces line
unfolding write_line_of
IsLineIn-write spaces txn name page offset hex line is =
    let a = bind_ok (txn_number txn) _ line is in
    let b = bind_ok (unless (is_name name) Words) _ line a.2 in
    let c = bind_ok (any_number page) _ line b.2 in
    let d = bind_ok (any_number offset) _ line c.2 in
    let e = bind_ok (ok_or (hex_bytes hex) Words) _ line d.2 in
    let f = bind_ok (ok_or (place_of name spaces) NoSpace) _ line e.2 in
    IsLineIn-checked spaces a.0 c.0 d.0 f.0.0 f.0.1 e.0 line (IsTxn-txn_number txn a.0 a.1)
    (AreBytes-hex_bytes hex e.0 (ok_or_ok (hex_bytes hex) Words e.0 e.1))
    (Places-place_from 0 name spaces f.0.0 f.0.1 (ok_or_ok (place_of name spaces) NoSpace f.0 f.1)) f.2

IsLineIn-tokens : (spaces : List Space) (tokens : List (List ℕ)) (line : Line) → line_of_tokens spaces tokens ≡ Ok line → IsLineIn spaces line
IsLineIn-tokens spaces [] line is = cc is
IsLineIn-tokens spaces (keyword ∷ []) line is = cc is
IsLineIn-tokens spaces (keyword ∷ a ∷ []) line is = IsLineIn-short spaces keyword a line is
IsLineIn-tokens spaces (keyword ∷ a ∷ b ∷ []) line is = cc is
IsLineIn-tokens spaces (keyword ∷ a ∷ b ∷ c ∷ []) line is = cc is
IsLineIn-tokens spaces (keyword ∷ a ∷ b ∷ c ∷ d ∷ []) line is = cc is
IsLineIn-tokens spaces (keyword ∷ a ∷ b ∷ c ∷ d ∷ e ∷ []) line is =
    elim (cases_Bool (is_token (codes "write") keyword)) [
      | inl yes_write ↦ IsLineIn-write spaces a b c d e line (sym (line_of_tokens-write spaces keyword (a ∷ b ∷ c ∷ d ∷ e ∷ []) yes_write) ∙ is)
      | inr no_write ↦ let none : Err Words ≡ Ok line = sym (line_of_tokens-short spaces keyword (a ∷ b ∷ c ∷ d ∷ e ∷ []) no_write) ∙ is in cc none
    ]
IsLineIn-tokens spaces (keyword ∷ a ∷ b ∷ c ∷ d ∷ e ∷ f ∷ more) line is = cc is

same_Some_line : (x y : Line) → ◌≡◌ {A = Result (Option Line) Why} (Ok (Some x)) (Ok (Some y)) → x ≡ y
same_Some_line x y is = cc

pub IsLineIn-line_of : (spaces : List Space) (bytes : List ℕ) (line : Line) → line_of spaces bytes ≡ Ok (Some line) → IsLineIn spaces line
unfolding line_of
IsLineIn-line_of spaces [] line is = cc is
IsLineIn-line_of spaces (c ∷ cs) line is =
    let read = bind_ok (line_of_tokens spaces (tokens_of (c ∷ cs))) (λ line. Ok (Some line)) (Some line) is in
    subst (IsLineIn spaces) (same_Some_line _ _ read.2) (IsLineIn-tokens spaces (tokens_of (c ∷ cs)) read.0 read.1)
