-- What the tokens of a line say, by its keyword.
use Rattle.std.proofs.Common.{◌≡◌, ℕ, ◌<◌, ◌∷◌, List, [], length, true, false, ◌==◌, None, Some, Result, Ok, Err, codes, refl, sym, ap, ◌∙◌, inl, inr, arith}
use Rattle.std.proofs.lemmas.Bool.{cases_Bool}
use Rattle.std.proofs.lemmas.Slice.Eq.{bytes_eq-Decides}
use Rattle.onbar_grammar.specs.declared.Why.{Why}
use Rattle.onbar_grammar.specs.declared.Why.TheVariants.{Words}
use Rattle.onbar_grammar.specs.Script.{Space, Line, tokens_of, with_character, is_token, line_of_tokens, short_line_of, line_of, ◌>>=◌}
use Rattle.script_lines.specs.Tokens.{HasTwo, short_tokens, write_tokens}

-- a line has a token at least
record HasOne (tokens : List (List ℕ)) : Type 0 where
  first : List ℕ
  others : List (List ℕ)
  are : tokens ≡ first ∷ others

HasOne-with_character : (c : ℕ) (tokens : List (List ℕ)) → HasOne (with_character c tokens)
HasOne-with_character c [] = record { first = c ∷ []; others = []; are = refl }
HasOne-with_character c (token ∷ tokens) = record { first = c ∷ token; others = tokens; are = refl }

HasOne-tokens_of : (bytes : List ℕ) → HasOne (tokens_of bytes)
HasOne-tokens_of [] = record { first = []; others = []; are = refl }
HasOne-tokens_of (c ∷ bytes) =
    elim (cases_Bool (c == 32)) [
      | inl is ↦ record { first = []; others = tokens_of bytes; are = rw is }
      | inr is_not ↦
          let later = HasOne-with_character c (tokens_of bytes) in
          record { first = later.first; others = later.others; are = rw is_not later.are }
    ]

pub HasTwo-tokens_of : (tokens : List (List ℕ)) (first rest : List ℕ) → tokens ≡ first ∷ tokens_of rest → HasTwo tokens
HasTwo-tokens_of tokens first rest is =
    let later = HasOne-tokens_of rest in
    record { first = first; second = later.first; others = later.others; are = is ∙ ap (λ more. first ∷ more) later.are }

short_line_of-write : (keyword token : List ℕ) → keyword ≡ codes "write" → short_line_of keyword token ≡ Err Words
short_line_of-write keyword token is = rw is

pub line_of_tokens-write : (spaces : List Space) (keyword : List ℕ) (tokens : List (List ℕ)) → is_token (codes "write") keyword ≡ true
    → line_of_tokens spaces (keyword ∷ tokens) ≡ write_tokens spaces tokens
line_of_tokens-write spaces keyword [] is = refl
line_of_tokens-write spaces keyword (a ∷ []) is = short_line_of-write keyword a ((bytes_eq-Decides keyword (codes "write")).0 is)
line_of_tokens-write spaces keyword (a ∷ b ∷ []) is = refl
line_of_tokens-write spaces keyword (a ∷ b ∷ c ∷ []) is = refl
line_of_tokens-write spaces keyword (a ∷ b ∷ c ∷ d ∷ []) is = refl
line_of_tokens-write spaces keyword (a ∷ b ∷ c ∷ d ∷ e ∷ []) is = rw is
line_of_tokens-write spaces keyword (a ∷ b ∷ c ∷ d ∷ e ∷ f ∷ more) is = refl

pub line_of_tokens-short : (spaces : List Space) (keyword : List ℕ) (tokens : List (List ℕ)) → is_token (codes "write") keyword ≡ false
    → line_of_tokens spaces (keyword ∷ tokens) ≡ short_tokens keyword tokens
line_of_tokens-short spaces keyword [] is_not = refl
line_of_tokens-short spaces keyword (a ∷ []) is_not = refl
line_of_tokens-short spaces keyword (a ∷ b ∷ []) is_not = refl
line_of_tokens-short spaces keyword (a ∷ b ∷ c ∷ []) is_not = refl
line_of_tokens-short spaces keyword (a ∷ b ∷ c ∷ d ∷ []) is_not = refl
line_of_tokens-short spaces keyword (a ∷ b ∷ c ∷ d ∷ e ∷ []) is_not = rw is_not
line_of_tokens-short spaces keyword (a ∷ b ∷ c ∷ d ∷ e ∷ f ∷ more) is_not = refl

pub line_of-cons : (spaces : List Space) (bytes : List ℕ) (tokens : List (List ℕ)) → 0 < length bytes → tokens_of bytes ≡ tokens
    → line_of spaces bytes ≡ line_of_tokens spaces tokens >>= (λ line. Ok (Some line))
unfolding line_of
line_of-cons spaces [] tokens some are = absurd (omega arith)
line_of-cons spaces (c ∷ cs) tokens some are = ap (λ (tokens : List (List ℕ)). line_of_tokens spaces tokens >>= (λ line. Ok (Some line))) are

pub line_of-empty : (spaces : List Space) (bytes : List ℕ) → length bytes ≡ 0 → line_of spaces bytes ≡ Ok None
unfolding line_of
line_of-empty spaces [] none = refl
line_of-empty spaces (c ∷ cs) none = absurd (omega arith)

-- a line that its tokens read
pub line_of-read : (spaces : List Space) (bytes : List ℕ) (tokens : List (List ℕ)) (read : Result Line Why) → 0 < length bytes
    → tokens_of bytes ≡ tokens → read ≡ line_of_tokens spaces tokens → read >>= (λ line. Ok (Some line)) ≡ line_of spaces bytes
line_of-read spaces bytes tokens read some are is =
    ap (λ (read : Result Line Why). read >>= (λ line. Ok (Some line))) is ∙ sym (line_of-cons spaces bytes tokens some are)
