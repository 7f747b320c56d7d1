-- Laws of lists of blocks: how often a block stands in one that is made of others, and blocks in ascending order.
use Rattle.std.proofs.Common.{◌≡◌, ◌≢◌, ℕ, zero, suc, ◌+◌, ◌<◌, ◌≤◌, ◌⊎◌, List, [], ◌∷◌, ◌++◌, length, refl, sym, ap, ◌∙◌, subst, arith, inl, inr, ⊎_elim, append_assoc}
use Rattle.block_chain.specs.Blocks.{times, AreApart, ascending, last_or, ArePartition}
use Rattle.std.proofs.lemmas.Bool.{cases_eq, cases_lt}

pub times-append : (block : ℕ) (xs ys : List ℕ) → times block (xs ++ ys) ≡ times block xs + times block ys
times-append block [] ys = omega arith
times-append block (x ∷ xs) ys = omega (arith, times-append block xs ys)

-- a block that heads a list stands there
pub times_head : (block : ℕ) (xs : List ℕ) → times block (block ∷ xs) ≡ suc (times block xs)
times_head block xs = grind arith

-- another one counts in what is behind
pub times_other : (block x : ℕ) (xs : List ℕ) → x ≢ block → times block (x ∷ xs) ≡ times block xs
times_other block x xs ne = grind arith

pub times-tail : (block x : ℕ) (xs : List ℕ) → times block xs ≤ times block (x ∷ xs)
times-tail block x xs = omega arith

-- the last block of a list stands there
pub times_last : (x : ℕ) (xs : List ℕ) → 0 < times (last_or x xs) (x ∷ xs)
times_last x [] = omega (arith, times_head x [])
times_last x (y ∷ ys) = omega (arith, times_last y ys, times-tail (last_or y ys) x (y ∷ ys))

pub last_or-append : (default x : ℕ) (xs ys : List ℕ) → last_or default (xs ++ x ∷ ys) ≡ last_or x ys
last_or-append default x [] ys = refl
last_or-append default x (y ∷ xs) ys = last_or-append y x xs ys

-- a list that a block doesn't stand in begins with another
pub head_apart : (block x : ℕ) (xs : List ℕ) → times block (x ∷ xs) ≡ 0 → x ≢ block
head_apart block x xs none e = grind (arith, times_head block xs)

-- where each block stands once, the head doesn't stand behind itself
pub head_once : (x y : ℕ) (xs : List ℕ) → times x (x ∷ xs) ≤ 1 → 0 < times y xs → x ≢ y
head_once x y xs once some e = grind (arith, times_head x xs)

pub length-ascending : (first count : ℕ) → length (ascending first count) ≡ count
unfolding ascending
length-ascending first zero = refl
length-ascending first (suc count) = ap suc (length-ascending (suc first) count)

pub times_below : (block first count : ℕ) → block < first → times block (ascending first count) ≡ 0
unfolding ascending
times_below block first zero low = refl
times_below block first (suc count) low =
    let ne : first ≢ block = λ e. omega (arith, e) in
    times_other block first (ascending (suc first) count) ne ∙ times_below block (suc first) count (omega arith)

pub times_above : (block first count : ℕ) → first + count ≤ block → times block (ascending first count) ≡ 0
unfolding ascending
times_above block first zero high = refl
times_above block first (suc count) high =
    let ne : first ≢ block = λ e. omega (arith, e) in
    times_other block first (ascending (suc first) count) ne ∙ times_above block (suc first) count (omega arith)

pub times_within : (block first count : ℕ) → first ≤ block → block < first + count → times block (ascending first count) ≡ 1
unfolding ascending
times_within block first zero low high = omega arith
times_within block first (suc count) low high =
    ⊎_elim
    (λ (e : first ≡ block). let one : times first (first ∷ ascending (suc first) count) ≡ suc (times first (ascending (suc first) count)) = times_head first (ascending (suc first) count) in
    subst (λ b. times b (first ∷ ascending (suc first) count) ≡ 1) e (omega (arith, one, times_below first (suc first) count (omega arith))))
    (λ (ne : first ≢ block). times_other block first (ascending (suc first) count) ne ∙ times_within block (suc first) count (omega (arith, ne)) (omega arith))
    (cases_eq first block)

-- how many places of a list have a block below a bound
abbrev seen : ℕ → List ℕ → ℕ
seen zero xs = 0
seen (suc n) xs = times n xs + seen n xs

seen_past : (n x : ℕ) (xs : List ℕ) → n ≤ x → seen n (x ∷ xs) ≡ seen n xs
seen_past zero x xs past = refl
seen_past (suc n) x xs past =
    let ne : x ≢ n = λ e. omega (arith, e) in omega (arith, times_other n x xs ne, seen_past n x xs (omega arith))

seen_below : (n x : ℕ) (xs : List ℕ) → x < n → seen n (x ∷ xs) ≡ suc (seen n xs)
seen_below zero x xs below = omega arith
seen_below (suc n) x xs below =
    ⊎_elim
    (λ (e : x ≡ n). let one : times n (x ∷ xs) ≡ suc (times n xs) = subst (λ b. times n (b ∷ xs) ≡ suc (times n xs)) (sym e) (times_head n xs) in
    omega (arith, one, seen_past n x xs (omega (arith, e))))
    (λ (ne : x ≢ n). omega (arith, times_other n x xs ne, seen_below n x xs (omega (arith, ne))))
    (cases_eq x n)

seen_all : (n : ℕ) (xs : List ℕ) → ((b : ℕ) → 0 < times b xs → b < n) → seen n xs ≡ length xs
seen_all n [] below = seen_none n
  where
    seen_none : (n : ℕ) → seen n [] ≡ 0
    seen_none zero = refl
    seen_none (suc n) = omega (arith, seen_none n)
seen_all n (x ∷ xs) below =
    let in_range : x < n = below x (omega (arith, times_head x xs)) in
    seen_below n x xs in_range ∙ ap suc (seen_all n xs (λ b some. below b (omega (arith, times-tail b x xs))))

seen_once : (n : ℕ) (xs : List ℕ) → ((b : ℕ) → times b xs ≤ 1) → seen n xs ≤ n
seen_once zero xs once = omega arith
seen_once (suc n) xs once = omega (arith, once n, seen_once n xs once)

-- distinct blocks below a number are no more than that number
pub length_of_distinct : (n : ℕ) (xs : List ℕ) → ((b : ℕ) → times b xs ≤ 1) → ((b : ℕ) → 0 < times b xs → b < n) → length xs ≤ n
length_of_distinct n xs once below = omega (arith, seen_all n xs below, seen_once n xs once)

pub ascending_once : (block first count : ℕ) → times block (ascending first count) ≤ 1
ascending_once block first count =
    ⊎_elim
    (λ (low : block < first). omega (arith, times_below block first count low))
    (λ (at_least : first ≤ block). ⊎_elim
    (λ (high : block < first + count). omega (arith, times_within block first count at_least high))
    (λ (past : first + count ≤ block). omega (arith, times_above block first count past))
    (cases_lt block (first + count)))
    (cases_lt block first)

-- of two lists with no block in common, one doesn't have the block
pub apart_cases : (xs ys : List ℕ) → AreApart xs ys → (b : ℕ) → (times b xs ≡ 0) ⊎ (times b ys ≡ 0)
apart_cases xs ys apart b = ⊎_elim (λ (h : 0 < times b xs). inr (apart b h)) (λ (h : times b xs ≤ 0). inl (omega (arith, h))) (cases_lt 0 (times b xs))

-- no block in common, the other way round
pub apart_back : (xs ys : List ℕ) → AreApart xs ys → AreApart ys xs
apart_back xs ys apart block some = ⊎_elim
    (λ (both : 0 < times block xs). absurd (omega (arith, some, apart block both)))
    (λ (none : times block xs ≤ 0). omega (arith, none))
    (cases_lt 0 (times block xs))

-- the one block of a list
pub times_single : (block x : ℕ) → 0 < times block (x ∷ []) → x ≡ block
times_single block x some = ⊎_elim (λ (e : x ≡ block). e) (λ (ne : x ≢ block). absurd (omega (arith, some, times_other block x [] ne))) (cases_eq x block)

pub times-single : (block x : ℕ) → times block (x ∷ []) ≤ 1
unfolding ascending
times-single block x = ascending_once block x 1

-- blocks in ascending order, cut in two
pub ascending-append : (first a b : ℕ) → ascending first (a + b) ≡ ascending first a ++ ascending (first + a) b
unfolding ascending
ascending-append first zero b =
    let plain : 0 + b ≡ b = omega arith in
    let at_first : first + 0 ≡ first = omega arith in
    rw (plain, at_first) refl
ascending-append first (suc a) b =
    let plain : suc a + b ≡ suc (a + b) = omega arith in
    let at_first : first + suc a ≡ suc first + a = omega arith in
    rw (plain, at_first) (ap (λ (xs : List ℕ). first ∷ xs) (ascending-append (suc first) a b))

-- blocks in ascending order, cut at one of them
pub ascending-split : (first k n : ℕ) → ascending first (k + suc n) ≡ ascending first k ++ (first + k) ∷ ascending (suc (first + k)) n
unfolding ascending
ascending-split first zero n =
    let plain : 0 + suc n ≡ suc n = omega arith in
    let at_first : first + 0 ≡ first = omega arith in
    rw (plain, at_first) refl
ascending-split first (suc k) n =
    let plain : suc k + suc n ≡ suc (k + suc n) = omega arith in
    let at_first : first + suc k ≡ suc first + k = omega arith in
    rw (plain, at_first) (ap (λ (xs : List ℕ). first ∷ xs) (ascending-split (suc first) k n))

-- the same blocks in another order are a partition too
pub ArePartition-moved : (old new : ℕ) (xs ys : List ℕ) → new ≡ old → ((b : ℕ) → times b ys ≡ times b xs) → ArePartition old xs → ArePartition new ys
ArePartition-moved old new xs ys blocks same are = record {
  each = λ b below. same b ∙ are.each b (omega (arith, below, blocks));
  below = λ b some. omega (arith, are.below b (omega (arith, some, same b)), blocks);
}

-- the first free block goes to the end of a list
pub ArePartition-taken : (old new : ℕ) (free free' list list' others : List ℕ) (block : ℕ) → new ≡ old → free ≡ block ∷ free' → list' ≡ list ++ block ∷ []
    → ArePartition old (free ++ (list ++ others)) → ArePartition new (free' ++ (list' ++ others))
ArePartition-taken old new free free' list list' others block blocks taken moved are =
    ArePartition-moved old new ((block ∷ free') ++ (list ++ others)) (free' ++ (list' ++ others)) blocks
    (λ b. rw moved (omega (arith, times-append b free' ((list ++ block ∷ []) ++ others), times-append b (list ++ block ∷ []) others, times-append b list (block ∷ []), times-append b free' (list ++ others), times-append b list others)))
    (rw taken at are)

-- a list goes behind the free blocks
pub ArePartition-given : (old new : ℕ) (free free' list others : List ℕ) → new ≡ old → free' ≡ free ++ list → ArePartition old (free ++ (list ++ others)) → ArePartition new (free' ++ others)
ArePartition-given old new free free' list others blocks given are = rw (given, blocks, append_assoc free list others) are
