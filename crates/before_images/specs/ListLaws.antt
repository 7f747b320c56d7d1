-- Laws of the list of the pages.
use Rattle.std.specs.Prelude.{◌≡◌, ◌≢◌, ℕ, zero, suc, ◌+◌, ◌-◌, ◌*◌, ◌<◌, ◌≤◌, List, [], ◌∷◌, length, drop, Bool, true, false, ◌&&◌, ◌||◌, not, if◌then◌else◌, nat_eq, nat_lt, nat_le, Some, None, get_or, refl}
use Rattle.std.proofs.Common.{arith, ap, sym, ◌∙◌, eq-eqb}
use Rattle.std.proofs.lemmas.List.{drop_more, drop_all}
use Rattle.std.proofs.lemmas.Bool.{eqb-true}
use borrow.Author.Tests.{ltb-true}
use mathlib.Core.Bool.{true≢false}
use Rattle.std.proofs.lemmas.Bool.Decides.{nat_tests}
use Rattle.before_images.specs.Saved.{u32_at, count_in, numbers, all_zero, is_among, are_distinct, are_below, is_sound, is_list, list_len}

-- page numbers

pub numbers-suc : (i n : ℕ) (head : List ℕ) → numbers i (suc n) head ≡ u32_at (32 + 4 * i) head ∷ numbers (i + 1) n head
unfolding numbers
numbers-suc i n head = refl

pub numbers-none : (i : ℕ) (head : List ℕ) → numbers i 0 head ≡ []
unfolding numbers
numbers-none i head = refl

pub numbers-more : (i n : ℕ) (head : List ℕ) → i < n → numbers i (n - i) head ≡ u32_at (32 + 4 * i) head ∷ numbers (i + 1) (n - (i + 1)) head
numbers-more i n head lt = let k : n - i ≡ suc (n - (i + 1)) = omega (arith, lt) in ap (λ (m : ℕ). numbers i m head) k ∙ numbers-suc i (n - (i + 1)) head

-- where none is left
pub numbers-end : (i n m : ℕ) (head : List ℕ) → n ≤ i → m ≡ n - i → numbers i m head ≡ []
numbers-end i n m head le is = let none : m ≡ 0 = omega (arith, le, is) in ap (λ (k : ℕ). numbers i k head) none ∙ numbers-none i head

-- zero bytes

other_byte : (b : ℕ) (bytes : List ℕ) → all_zero (suc b ∷ bytes) ≡ false
unfolding all_zero
other_byte b bytes = refl

module _ (bytes : List ℕ) (i : ℕ) (lt : i < length bytes) where
  pub all_zero-zero : get_or bytes i 0 ≡ 0 → all_zero (drop i bytes) ≡ all_zero (drop (i + 1) bytes)
  unfolding all_zero
  all_zero-zero is = ap all_zero (drop_more bytes i 0 lt ∙ ap (λ (b : ℕ). b ∷ drop (i + 1) bytes) is)

  pub all_zero-other : get_or bytes i 0 ≢ 0 → all_zero (drop i bytes) ≡ false
  all_zero-other is = ap all_zero (drop_more bytes i 0 lt) ∙ by (get_or bytes i 0) is
    where
      by : (b : ℕ) → b ≢ 0 → all_zero (b ∷ drop (i + 1) bytes) ≡ false
      by zero none = absurd (none refl)
      by (suc b) some = other_byte b (drop (i + 1) bytes)

pub all_zero-end : (bytes : List ℕ) (i : ℕ) → length bytes ≤ i → all_zero (drop i bytes) ≡ true
unfolding all_zero
all_zero-end bytes i le = ap all_zero (drop_all i bytes le)

-- tests of page numbers

pub is_among-none : (page : ℕ) → is_among page [] ≡ false
unfolding is_among
is_among-none page = refl

is_among-cons : (page other : ℕ) (pages : List ℕ) → is_among page (other ∷ pages) ≡ (nat_eq page other || is_among page pages)
unfolding is_among
is_among-cons page other pages = refl

pub is_among-found : (page other : ℕ) (pages : List ℕ) → other ≡ page → is_among page (other ∷ pages) ≡ true
is_among-found page other pages is = is_among-cons page other pages ∙ grind (arith, nat_tests)

pub is_among-other : (page other : ℕ) (pages : List ℕ) → other ≢ page → is_among page (other ∷ pages) ≡ is_among page pages
is_among-other page other pages is = is_among-cons page other pages ∙ grind (arith, nat_tests)

pub are_distinct-none : are_distinct [] ≡ true
unfolding are_distinct
are_distinct-none = refl

are_distinct-cons : (page : ℕ) (pages : List ℕ) → are_distinct (page ∷ pages) ≡ (not (is_among page pages) && are_distinct pages)
unfolding are_distinct
are_distinct-cons page pages = refl

pub are_distinct-twice : (page : ℕ) (pages : List ℕ) → is_among page pages ≡ true → are_distinct (page ∷ pages) ≡ false
are_distinct-twice page pages is = are_distinct-cons page pages ∙ ap (λ (b : Bool). not b && are_distinct pages) is

pub are_distinct-once : (page : ℕ) (pages : List ℕ) → is_among page pages ≡ false → are_distinct (page ∷ pages) ≡ are_distinct pages
are_distinct-once page pages is = are_distinct-cons page pages ∙ ap (λ (b : Bool). not b && are_distinct pages) is

pub are_below-none : (limit : ℕ) → are_below limit [] ≡ true
unfolding are_below
are_below-none limit = refl

are_below-cons : (limit page : ℕ) (pages : List ℕ) → are_below limit (page ∷ pages) ≡ (nat_lt page limit && are_below limit pages)
unfolding are_below
are_below-cons limit page pages = refl

pub are_below-past : (limit page : ℕ) (pages : List ℕ) → limit ≤ page → are_below limit (page ∷ pages) ≡ false
are_below-past limit page pages le = are_below-cons limit page pages ∙ grind (arith, nat_tests)

pub are_below-more : (limit page : ℕ) (pages : List ℕ) → page < limit → are_below limit (page ∷ pages) ≡ are_below limit pages
are_below-more limit page pages lt = are_below-cons limit page pages ∙ grind (arith, nat_tests)

-- the whole list

module _ (head : List ℕ) where
  pub is_list-short : length head ≢ 4096 → is_list head ≡ false
  unfolding is_list
  is_list-short short = by (nat_eq (length head) 4096) refl
    where
      by : (test : Bool) → nat_eq (length head) 4096 ≡ test → (test && nat_le 1 (count_in head) && nat_le (count_in head) 16 && is_sound (count_in head) head) ≡ false
      by true is = absurd (short (eqb-true (length head) 4096 is))
      by false is = refl

  is_list-by : (a b c d : Bool) → nat_eq (length head) 4096 ≡ a → nat_le 1 (count_in head) ≡ b → nat_le (count_in head) 16 ≡ c → is_sound (count_in head) head ≡ d
      → is_list head ≡ (a && b && c && d)
  unfolding is_list
  is_list-by a b c d ea eb ec ed =
      ap (λ (x : Bool). x && nat_le 1 (count_in head) && nat_le (count_in head) 16 && is_sound (count_in head) head) ea
      ∙ ap (λ (x : Bool). a && x && nat_le (count_in head) 16 && is_sound (count_in head) head) eb
      ∙ ap (λ (x : Bool). a && b && x && is_sound (count_in head) head) ec
      ∙ ap (λ (x : Bool). a && b && c && x) ed

  pub is_list-none : count_in head ≡ 0 → is_list head ≡ false
  is_list-none none = is_list-by (nat_eq (length head) 4096) false (nat_le (count_in head) 16) (is_sound (count_in head) head) refl (ap (nat_le 1) none) refl refl ∙ grind (arith, nat_tests)

  pub is_list-many : 16 < count_in head → is_list head ≡ false
  is_list-many many = is_list-by (nat_eq (length head) 4096) (nat_le 1 (count_in head)) false (is_sound (count_in head) head) refl refl (grind (arith, nat_tests)) refl ∙ grind (arith, nat_tests)

  pub is_list-fits : length head ≡ 4096 → 1 ≤ count_in head → count_in head ≤ 16 → (sound : Bool) → is_sound (count_in head) head ≡ sound → is_list head ≡ sound
  is_list-fits long some few sound is = is_list-by true true true sound (eq-eqb (length head) 4096 long) (grind (arith, nat_tests)) (grind (arith, nat_tests)) is

  pub list_len-not : is_list head ≡ false → list_len head ≡ None
  list_len-not is = ap (λ (b : Bool). if b then Some (count_in head) else None) is

  pub list_len-is : is_list head ≡ true → list_len head ≡ Some (count_in head)
  list_len-is is = ap (λ (b : Bool). if b then Some (count_in head) else None) is

-- page numbers by their places

pub length-numbers : (i n : ℕ) (head : List ℕ) → length (numbers i n head) ≡ n
length-numbers i zero head = ap (λ (l : List ℕ). length l) (numbers-none i head)
length-numbers i (suc n) head = ap (λ (l : List ℕ). length l) (numbers-suc i n head) ∙ ap suc (length-numbers (i + 1) n head)

numbers-at : (i n j : ℕ) (head : List ℕ) → j < n → get_or (numbers i n head) j 0 ≡ u32_at (32 + 4 * (i + j)) head
numbers-at i zero j head lt = absurd (omega (arith, lt))
numbers-at i (suc n) zero head lt = ap (λ (l : List ℕ). get_or l 0 0) (numbers-suc i n head) ∙ ap (λ (k : ℕ). u32_at k head) (omega arith)
numbers-at i (suc n) (suc j) head lt =
    ap (λ (l : List ℕ). get_or l (suc j) 0) (numbers-suc i n head) ∙ numbers-at (i + 1) n j head (omega (arith, lt)) ∙ ap (λ (k : ℕ). u32_at k head) (omega arith)

pub numbers-get : (n j : ℕ) (head : List ℕ) → j < n → get_or (numbers 0 n head) j 0 ≡ u32_at (32 + 4 * j) head
numbers-get n j head lt = numbers-at 0 n j head lt ∙ ap (λ (k : ℕ). u32_at k head) (omega arith)

pub are_below-both : (limit page : ℕ) (pages : List ℕ) → are_below limit (page ∷ pages) ≡ true → (page < limit) × (are_below limit pages ≡ true)
are_below-both limit page pages is = by (nat_lt page limit) (are_below limit pages) refl refl (sym (are_below-cons limit page pages) ∙ is)
  where
    by : (a b : Bool) → nat_lt page limit ≡ a → are_below limit pages ≡ b → (nat_lt page limit && are_below limit pages) ≡ true → (page < limit) × (are_below limit pages ≡ true)
    by true true first rest both = (ltb-true page limit first, rest)
    by true false first rest both = absurd (true≢false (sym both ∙ ap (λ (x : Bool). x && are_below limit pages) first ∙ ap (λ (x : Bool). true && x) rest))
    by false b first rest both = absurd (true≢false (sym both ∙ ap (λ (x : Bool). x && are_below limit pages) first))

pub are_below-get : (limit k : ℕ) (pages : List ℕ) → are_below limit pages ≡ true → k < length pages → get_or pages k 0 < limit
are_below-get limit k [] is lt = absurd (omega (arith, lt))
are_below-get limit zero (page ∷ pages) is lt = (are_below-both limit page pages is).0
are_below-get limit (suc k) (page ∷ pages) is lt = are_below-get limit k pages (are_below-both limit page pages is).1 (omega (arith, lt))
