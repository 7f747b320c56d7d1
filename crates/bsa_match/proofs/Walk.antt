-- What a walk along a pattern and a text keeps.
use Rattle.std.proofs.Common.{◌≡◌, ℕ, ◌+◌, ◌<◌, ◌≤◌, Bool, true, false, ◌&&◌, inl, inr, nat_eq, List, [], ◌∷◌, length, drop, get_or, refl, sym, ap, ◌∙◌, arith, suc, zero, eq-eqb}
use Rattle.std.proofs.lemmas.Bool.{cases_Bool, cases_lt, ne_eqb}
use Rattle.std.proofs.lemmas.List.{drop-drop, drop_more, drop_all}
use Rattle.std.specs.List.{list_all}
use Rattle.bsa_match.specs.Wild.{any_suffix, is_wild_match, stands_for, behind_one, is_empty}

-- a pattern that matches here matches a suffix
pub any_suffix-here : (m : List ℕ → Bool) (text : List ℕ) → m text ≡ true → any_suffix m text ≡ true
any_suffix-here m [] h = h
any_suffix-here m (c ∷ text) h = rw h refl

any_suffix-tail : (m : List ℕ → Bool) (c : ℕ) (text : List ℕ) → any_suffix m text ≡ true → any_suffix m (c ∷ text) ≡ true
any_suffix-tail m c text h = elim (cases_Bool (m (c ∷ text))) [ inl e ↦ rw (e) refl | inr e ↦ rw (e, h) refl ]

-- a suffix of a suffix is one
pub any_suffix-drop : (m : List ℕ → Bool) (k : ℕ) (text : List ℕ) → any_suffix m (drop k text) ≡ true → any_suffix m text ≡ true
any_suffix-drop m zero text h = h
any_suffix-drop m (suc k) [] h = h
any_suffix-drop m (suc k) (c ∷ text) h = any_suffix-tail m c text (any_suffix-drop m k text h)

-- the suffix that passes
pub any_suffix-found : (m : List ℕ → Bool) (text : List ℕ) → any_suffix m text ≡ true → (k : ℕ) × (m (drop k text) ≡ true)
any_suffix-found m [] h = (0, h)
any_suffix-found m (c ∷ text) h =
    elim (cases_Bool (m (c ∷ text))) [ inl e ↦ (0, e) | inr e ↦ let later = any_suffix-found m text (rw e at h) in (suc later.0, later.1) ]

-- where a suffix passes only if the whole does, only the whole counts
pub any_suffix-only : (m : List ℕ → Bool) (text : List ℕ) (b : Bool) → m text ≡ b → ((k : ℕ) → m (drop k text) ≡ true → b ≡ true) → any_suffix m text ≡ b
any_suffix-only m text true here later = any_suffix-here m text here
any_suffix-only m text false here later =
    elim (cases_Bool (any_suffix m text)) [ inl e ↦ let found = any_suffix-found m text e in e ∙ sym (later found.0 found.1) | inr e ↦ e ]

-- behind a place where it doesn't pass
pub any_suffix-next : (m : List ℕ → Bool) (from : ℕ) (text : List ℕ) → from < length text → m (drop from text) ≡ false → any_suffix m (drop from text) ≡ any_suffix m (drop (from + 1) text)
any_suffix-next m from text within h =
    let split = drop_more text from 0 within in
    let fails : m (get_or text from 0 ∷ drop (from + 1) text) ≡ false = ap m (sym split) ∙ h in
    rw (split, fails) refl

-- at a star
pub is_wild_match-star : (pattern : List ℕ) (at : ℕ) (text : List ℕ) → at < length pattern → get_or pattern at 0 ≡ 42
    → is_wild_match (drop at pattern) text ≡ any_suffix (is_wild_match (drop (at + 1) pattern)) text
is_wild_match-star pattern at text within h = rw (drop_more pattern at 0 within, h) refl

-- at another character
pub is_wild_match-one : (pattern : List ℕ) (at : ℕ) (text : List ℕ) → at < length pattern → nat_eq (get_or pattern at 0) 42 ≡ false
    → is_wild_match (drop at pattern) text ≡ behind_one (get_or pattern at 0) (is_wild_match (drop (at + 1) pattern)) text
is_wild_match-one pattern at text within h = rw (drop_more pattern at 0 within, h) refl

and_right : (a b : Bool) → (a && b) ≡ true → b ≡ true
and_right true b h = h
and_right false b h = cc

-- what passes behind a character passes on the rest
behind_one-rest : (p : ℕ) (m : List ℕ → Bool) (text : List ℕ) → behind_one p m text ≡ true → m (drop 1 text) ≡ true
behind_one-rest p m [] h = cc
behind_one-rest p m (c ∷ text) h = and_right (stands_for p c) (m text) h

-- at a character of the text
behind_one-at : (p : ℕ) (m : List ℕ → Bool) (text : List ℕ) (at : ℕ) → at < length text
    → behind_one p m (drop at text) ≡ (stands_for p (get_or text at 0) && m (drop (at + 1) text))
behind_one-at p m text at within = rw (drop_more text at 0 within) refl

-- a character that doesn't stand for the next one, and the end of the pattern before the end of the text
pub mismatch : (pattern text : List ℕ) (at next : ℕ) → at < length pattern → next < length text → nat_eq (get_or pattern at 0) 42 ≡ false
    → stands_for (get_or pattern at 0) (get_or text next 0) ≡ false → is_wild_match (drop at pattern) (drop next text) ≡ false
mismatch pattern text at next within more other fails =
    is_wild_match-one pattern at (drop next text) within other
    ∙ behind_one-at (get_or pattern at 0) (is_wild_match (drop (at + 1) pattern)) text next more
    ∙ ap (λ (b : Bool). b && is_wild_match (drop (at + 1) pattern) (drop (next + 1) text)) fails

pub too_long : (pattern text : List ℕ) (at next : ℕ) → length pattern ≤ at → next < length text → is_wild_match (drop at pattern) (drop next text) ≡ false
too_long pattern text at next ends more = rw (drop_all at pattern ends, drop_more text next 0 more) refl

-- what holds of the walk when it has read so many characters behind the last star
pub record Walked (pattern text : List ℕ) (star from matched : ℕ) : Type 0 where
  pub in_pattern : star + matched ≤ length pattern
  pub in_text : from + matched ≤ length text
  -- it comes down to the pattern behind the last star, which no place before `from` fits
  pub answer : any_suffix (is_wild_match pattern) text ≡ any_suffix (is_wild_match (drop star pattern)) (drop from text)
  -- at `from` it comes down to what isn't read
  pub here : is_wild_match (drop star pattern) (drop from text) ≡ is_wild_match (drop (star + matched) pattern) (drop (from + matched) text)
  -- whatever the pattern behind the last star matches, what isn't read of it matches that without so many characters
  pub anywhere : (other : List ℕ) → is_wild_match (drop star pattern) other ≡ true → is_wild_match (drop (star + matched) pattern) (drop matched other) ≡ true

-- nothing is read yet
pub Walked-fresh : (pattern text : List ℕ) (star from : ℕ) → star ≤ length pattern → from ≤ length text
    → any_suffix (is_wild_match pattern) text ≡ any_suffix (is_wild_match (drop star pattern)) (drop from text) → Walked pattern text star from 0
Walked-fresh pattern text star from in_pattern in_text answer =
    let at : star + 0 ≡ star = omega arith in
    let next : from + 0 ≡ from = omega arith in
    record {
      in_pattern = omega arith;
      in_text = omega arith;
      answer = answer;
      here = rw (at, next) refl;
      anywhere = λ other h. rw at h;
    }

-- in whatever order they are dropped
drops_commute : (m k from : ℕ) (text : List ℕ) → drop m (drop k (drop from text)) ≡ drop k (drop (from + m) text)
drops_commute m k from text =
    let same : from + k + m ≡ from + m + k = omega arith in
    ap (drop m) (drop-drop k from text) ∙ drop-drop m (from + k) text ∙ ap (λ (n : ℕ). drop n text) same ∙ sym (drop-drop k (from + m) text)

-- a star takes whatever an earlier one could
pub Walked-star : (pattern text : List ℕ) (star from matched : ℕ) → Walked pattern text star from matched
    → star + matched < length pattern → get_or pattern (star + matched) 0 ≡ 42 → Walked pattern text (star + matched + 1) (from + matched) 0
Walked-star pattern text star from matched walked within is_star =
    let behind : List ℕ → Bool = is_wild_match (drop (star + matched + 1) pattern) in
    let rest : List ℕ = drop (from + matched) text in
    let here : is_wild_match (drop star pattern) (drop from text) ≡ any_suffix behind rest =
    walked.here ∙ is_wild_match-star pattern (star + matched) rest within is_star in
    let later : (k : ℕ) → is_wild_match (drop star pattern) (drop k (drop from text)) ≡ true → any_suffix behind rest ≡ true =
    λ k h. any_suffix-drop behind k rest
    (ap (any_suffix behind) (sym (drops_commute matched k from text))
    ∙ sym (is_wild_match-star pattern (star + matched) (drop matched (drop k (drop from text))) within is_star)
    ∙ walked.anywhere (drop k (drop from text)) h) in
    Walked-fresh pattern text (star + matched + 1) (from + matched) (omega arith) walked.in_text
    (walked.answer ∙ any_suffix-only (is_wild_match (drop star pattern)) (drop from text) (any_suffix behind rest) here later)

-- a character that stands for the next one
pub Walked-on : (pattern text : List ℕ) (star from matched : ℕ) → Walked pattern text star from matched
    → star + matched < length pattern → from + matched < length text → nat_eq (get_or pattern (star + matched) 0) 42 ≡ false
    → stands_for (get_or pattern (star + matched) 0) (get_or text (from + matched) 0) ≡ true → Walked pattern text star from (matched + 1)
Walked-on pattern text star from matched walked within more other stands =
    let at : star + (matched + 1) ≡ star + matched + 1 = omega arith in
    let next : from + (matched + 1) ≡ from + matched + 1 = omega arith in
    let p : ℕ = get_or pattern (star + matched) 0 in
    let behind : List ℕ → Bool = is_wild_match (drop (star + matched + 1) pattern) in
    record {
      in_pattern = omega arith;
      in_text = omega arith;
      answer = walked.answer;
      here = rw (at, next) (walked.here ∙ is_wild_match-one pattern (star + matched) (drop (from + matched) text) within other
          ∙ behind_one-at p behind text (from + matched) more ∙ ap (λ (b : Bool). b && behind (drop (from + matched + 1) text)) stands);
      anywhere = λ other_text h. rw (at, ← drop-drop 1 matched other_text) (behind_one-rest p behind (drop matched other_text)
          (sym (is_wild_match-one pattern (star + matched) (drop matched other_text) within other) ∙ walked.anywhere other_text h));
    }

-- a mismatch
pub Walked-back : (pattern text : List ℕ) (star from matched : ℕ) → Walked pattern text star from matched
    → from + matched < length text → is_wild_match (drop (star + matched) pattern) (drop (from + matched) text) ≡ false
    → Walked pattern text star (from + 1) 0
Walked-back pattern text star from matched walked more fails =
    let in_pattern : star + matched ≤ length pattern = walked.in_pattern in
    Walked-fresh pattern text star (from + 1) (omega arith) (omega arith)
    (walked.answer ∙ any_suffix-next (is_wild_match (drop star pattern)) from text (omega arith) (walked.here ∙ fails))

-- the end of the text
pub Walked-end : (pattern text : List ℕ) (star from matched : ℕ) → Walked pattern text star from matched → length text ≤ from + matched
    → any_suffix (is_wild_match pattern) text ≡ is_wild_match (drop (star + matched) pattern) []
Walked-end pattern text star from matched walked ends =
    let rest : List ℕ → Bool = is_wild_match (drop (star + matched) pattern) in
    let none : (k : ℕ) → drop k (drop (from + matched) text) ≡ [] = λ k. drop-drop k (from + matched) text ∙ drop_all (from + matched + k) text (omega arith) in
    walked.answer ∙ any_suffix-only (is_wild_match (drop star pattern)) (drop from text) (rest [])
    (walked.here ∙ ap rest (none 0))
    (λ k h. ap rest (sym (none k) ∙ sym (drops_commute matched k from text)) ∙ walked.anywhere (drop k (drop from text)) h)

-- only stars match the empty text
pub is_wild_match-nothing : (pattern : List ℕ) → is_wild_match pattern [] ≡ list_all (λ p. nat_eq p 42) pattern
is_wild_match-nothing [] = refl
is_wild_match-nothing (p ∷ pattern) = elim (cases_Bool (nat_eq p 42)) [ inl e ↦ rw (e, is_wild_match-nothing pattern) refl | inr e ↦ rw e refl ]

-- an exhausted pattern matches the text's end
is_empty-drop : (at : ℕ) (text : List ℕ) → at ≤ length text → is_empty (drop at text) ≡ nat_eq at (length text)
is_empty-drop at text within =
    elim (cases_lt at (length text)) [
      | inl more ↦ rw (drop_more text at 0 more, ne_eqb at (length text) (λ (e : at ≡ length text). omega arith)) refl
      | inr ends ↦ let same : at ≡ length text = omega arith in rw (drop_all at text ends) (sym (eq-eqb at (length text) same))
    ]

pub is_wild_match-end : (pattern text : List ℕ) (at : ℕ) → at ≡ length pattern → at ≤ length text
    → is_wild_match (drop at pattern) (drop at text) ≡ nat_eq (length pattern) (length text)
is_wild_match-end pattern text at ends within =
    let past : length pattern ≤ at = omega arith in
    rw (drop_all at pattern past) (is_empty-drop at text within ∙ ap (λ (n : ℕ). nat_eq n (length text)) ends)
