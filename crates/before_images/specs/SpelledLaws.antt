-- A list that was written is read again.
use Rattle.std.specs.Prelude.{◌≡◌, ℕ, zero, suc, ◌+◌, ◌-◌, ◌*◌, ◌^◌, ◌<◌, ◌≤◌, List, [], ◌∷◌, ◌++◌, length, take, drop, replicate, Bool, true, ◌&&◌, get_or, refl}
use Rattle.std.specs.Int.{w32, w64, to_be_bytes, from_be_bytes}
use Rattle.std.proofs.Common.{arith, ap, sym, ◌∙◌, append_assoc, length-append}
use Rattle.std.proofs.lemmas.List.{drop_at, drop-drop, length-replicate, take_more}
use Rattle.std.proofs.lemmas.Nat.{from_be_bytes-to_be_bytes_4, from_be_bytes-to_be_bytes_8}
use Rattle.before_images.specs.Saved.{u64_at, u32_at, count_in, numbers, all_zero, are_distinct, is_sound, is_list, page_bytes, front_bytes, spelled}
use Rattle.before_images.specs.ListLaws.{numbers-none, numbers-suc, is_list-fits}

pub length-page_bytes : (pages : List ℕ) → length (page_bytes pages) ≡ 4 * length pages
unfolding page_bytes
length-page_bytes [] = refl
length-page_bytes (page ∷ pages) = omega (arith, length-page_bytes pages)

pub length-front_bytes : (upto part count : ℕ) → length (front_bytes upto part count) ≡ 32
unfolding front_bytes
length-front_bytes upto part count = refl

page_bytes-cons : (page : ℕ) (pages rest : List ℕ) → page_bytes (page ∷ pages) ++ rest ≡ to_be_bytes w32 page ++ (page_bytes pages ++ rest)
unfolding page_bytes
page_bytes-cons page pages rest = append_assoc (to_be_bytes w32 page) (page_bytes pages) rest

-- a number of four bytes at a place
u32_at-written : (at n : ℕ) (rest head : List ℕ) → n < 2 ^ 32 → drop at head ≡ to_be_bytes w32 n ++ rest → u32_at at head ≡ n
unfolding u32_at
u32_at-written at n rest head lt is = ap (λ (l : List ℕ). from_be_bytes w32 (take 4 l)) is ∙ from_be_bytes-to_be_bytes_4 n lt

numbers-written : (i : ℕ) (pages rest head : List ℕ) → ((k : ℕ) → get_or pages k 0 < 2 ^ 32) → drop (32 + 4 * i) head ≡ page_bytes pages ++ rest
    → numbers i (length pages) head ≡ pages
numbers-written i [] rest head fits is = numbers-none i head
numbers-written i (page ∷ pages) rest head fits is =
    let here : drop (32 + 4 * i) head ≡ to_be_bytes w32 page ++ (page_bytes pages ++ rest) = is ∙ page_bytes-cons page pages rest in
    let next : drop (32 + 4 * (i + 1)) head ≡ page_bytes pages ++ rest =
    ap (λ (k : ℕ). drop k head) (omega arith) ∙ sym (drop-drop 4 (32 + 4 * i) head) ∙ ap (λ (l : List ℕ). drop 4 l) here in
    numbers-suc i (length pages) head
    ∙ ap (λ (n : ℕ). n ∷ numbers (i + 1) (length pages) head) (u32_at-written (32 + 4 * i) page (page_bytes pages ++ rest) head (fits 0) here)
    ∙ ap (λ (l : List ℕ). page ∷ l) (numbers-written (i + 1) pages rest head (λ k. fits (suc k)) next)

all_zero-replicate : (n : ℕ) → all_zero (replicate n 0) ≡ true
unfolding all_zero
all_zero-replicate zero = refl
all_zero-replicate (suc n) = all_zero-replicate n

module _ (upto part : ℕ) (pages : List ℕ) (upto_fits : upto < 2 ^ 64) (part_fits : part < 2 ^ 32) (some : 1 ≤ length pages) (few : length pages ≤ 16)
    (fits : (k : ℕ) → get_or pages k 0 < 2 ^ 32) (distinct : are_distinct pages ≡ true) where
  abbrev zeros : List ℕ
  zeros = replicate (4064 - 4 * length pages) 0

  abbrev head : List ℕ
  head = spelled upto part pages

  pub length-spelled : length head ≡ 4096
  length-spelled =
      simp length-append (omega (arith, length-front_bytes upto part (length pages), length-page_bytes pages, length-replicate {A = ℕ} (4064 - 4 * length pages) 0, few))

  behind_front : drop 32 head ≡ page_bytes pages ++ zeros
  unfolding front_bytes
  behind_front = refl

  pub upto-spelled : u64_at 16 head ≡ upto
  unfolding u64_at front_bytes
  upto-spelled = from_be_bytes-to_be_bytes_8 upto upto_fits

  pub part-spelled : u32_at 24 head ≡ part
  unfolding u32_at front_bytes
  part-spelled = from_be_bytes-to_be_bytes_4 part part_fits

  pub count-spelled : count_in head ≡ length pages
  unfolding u32_at front_bytes
  count-spelled = from_be_bytes-to_be_bytes_4 (length pages) (omega (arith, few))

  pub numbers-spelled : numbers 0 (length pages) head ≡ pages
  numbers-spelled = numbers-written 0 pages zeros head fits behind_front

  zeros_before : all_zero (take 16 head) ≡ true
  unfolding front_bytes all_zero
  zeros_before = refl

  zeros_behind : all_zero (drop (32 + 4 * length pages) head) ≡ true
  zeros_behind =
      ap all_zero (sym (drop-drop (4 * length pages) 32 head) ∙ ap (λ (l : List ℕ). drop (4 * length pages) l) behind_front ∙ drop_at (page_bytes pages) zeros (4 * length pages) (length-page_bytes pages))
      ∙ all_zero-replicate (4064 - 4 * length pages)

  sound-spelled : is_sound (length pages) head ≡ true
  sound-spelled =
      ap (λ (b : Bool). b && all_zero (drop (32 + 4 * length pages) head) && are_distinct (numbers 0 (length pages) head)) zeros_before
      ∙ ap (λ (b : Bool). b && are_distinct (numbers 0 (length pages) head)) zeros_behind
      ∙ ap are_distinct numbers-spelled ∙ distinct

  pub is_list-spelled : is_list head ≡ true
  is_list-spelled = is_list-fits head length-spelled (omega (arith, count-spelled, some)) (omega (arith, count-spelled, few)) true (ap (λ (n : ℕ). is_sound n head) count-spelled ∙ sound-spelled)

-- of writing

pub page_bytes-none : page_bytes [] ≡ []
unfolding page_bytes
page_bytes-none = refl

pub page_bytes-append : (xs ys : List ℕ) → page_bytes (xs ++ ys) ≡ page_bytes xs ++ page_bytes ys
unfolding page_bytes
page_bytes-append [] ys = refl
page_bytes-append (x ∷ xs) ys = ap (λ (l : List ℕ). to_be_bytes w32 x ++ l) (page_bytes-append xs ys) ∙ sym (append_assoc (to_be_bytes w32 x) (page_bytes xs) (page_bytes ys))

page_bytes-one : (page : ℕ) → page_bytes (page ∷ []) ≡ to_be_bytes w32 page
unfolding page_bytes
page_bytes-one page = refl

-- one page number more
pub page_bytes-more : (i : ℕ) (pages : List ℕ) → i < length pages → page_bytes (take (i + 1) pages) ≡ page_bytes (take i pages) ++ to_be_bytes w32 (get_or pages i 0)
page_bytes-more i pages lt =
    ap page_bytes (take_more pages i 0 lt) ∙ page_bytes-append (take i pages) (get_or pages i 0 ∷ []) ∙ ap (λ (l : List ℕ). page_bytes (take i pages) ++ l) (page_bytes-one (get_or pages i 0))

-- the first 32 bytes, written one field behind another
pub front_by : (upto part count : ℕ) (clear one two three a b c : List ℕ) → a ≡ to_be_bytes w64 upto → b ≡ to_be_bytes w32 part → c ≡ to_be_bytes w32 count
    → take 16 clear ≡ replicate 16 0 → take (16 + length a) one ≡ take 16 clear ++ a → take (24 + length b) two ≡ take 24 one ++ b → take (28 + length c) three ≡ take 28 two ++ c
    → take 32 three ≡ front_bytes upto part count
unfolding front_bytes
front_by upto part count clear one two three a b c ea eb ec is first second third =
    let size_a : 16 + length a ≡ 24 = omega (arith, ap length ea) in
    let size_b : 24 + length b ≡ 28 = omega (arith, ap length eb) in
    let size_c : 28 + length c ≡ 32 = omega (arith, ap length ec) in
    let second_is : take 28 two ≡ take 24 one ++ b = ap (λ (n : ℕ). take n two) (sym size_b) ∙ second in
    let first_is : take 24 one ≡ take 16 clear ++ a = ap (λ (n : ℕ). take n one) (sym size_a) ∙ first in
    ap (λ (n : ℕ). take n three) (sym size_c) ∙ third
    ∙ ap (λ (l : List ℕ). l ++ c) second_is
    ∙ ap (λ (l : List ℕ). l ++ b ++ c) first_is
    ∙ ap (λ (l : List ℕ). l ++ a ++ b ++ c) is
    ∙ ap (λ (l : List ℕ). replicate 16 0 ++ l ++ b ++ c) ea
    ∙ ap (λ (l : List ℕ). replicate 16 0 ++ to_be_bytes w64 upto ++ l ++ c) eb
    ∙ ap (λ (l : List ℕ). replicate 16 0 ++ to_be_bytes w64 upto ++ to_be_bytes w32 part ++ l) ec

-- one page number more behind those written
pub pages_more : (i : ℕ) (pages front old new bytes : List ℕ) → i < length pages → bytes ≡ to_be_bytes w32 (get_or pages i 0) → take (32 + 4 * i) old ≡ front ++ page_bytes (take i pages)
    → take (32 + 4 * i + length bytes) new ≡ take (32 + 4 * i) old ++ bytes → take (32 + 4 * (i + 1)) new ≡ front ++ page_bytes (take (i + 1) pages)
pages_more i pages front old new bytes lt is so_far more =
    let size : 32 + 4 * i + length bytes ≡ 32 + 4 * (i + 1) = omega (arith, ap length is) in
    ap (λ (n : ℕ). take n new) (sym size) ∙ more
    ∙ ap (λ (l : List ℕ). l ++ bytes) so_far
    ∙ append_assoc front (page_bytes (take i pages)) bytes
    ∙ ap (λ (l : List ℕ). front ++ (page_bytes (take i pages) ++ l)) is
    ∙ ap (λ (l : List ℕ). front ++ l) (sym (page_bytes-more i pages lt))
