-- Laws of what blocks and objects read as.
use Rattle.std.specs.Prelude.{◌≡◌, ℕ, zero, suc, ◌+◌, ◌-◌, ◌*◌, ◌<◌, ◌≤◌, List, [], ◌∷◌, ◌++◌, length, take, drop, refl}
use mathlib.Core.Logic.{inl, inr}
use Rattle.std.proofs.Common.{arith, ap, sym, ◌∙◌, subst, ⊎_elim, length-append, length-take, length-drop}
use Rattle.std.proofs.lemmas.List.{drop-drop}
use Rattle.std.proofs.lemmas.List.Concat.{flat_map-append}
use Rattle.std.proofs.lemmas.Bool.{cases_lt}
use Rattle.site_disk.specs.Bytes.{extent, Apart}
use Rattle.block_chain.specs.Blocks.{times, ascending, AreApart}
use Rattle.block_chain.specs.BlocksLaws.{ascending-append, times-append, times_head, times-tail, times_below, times_above, length-ascending}
use Rattle.block_chain.specs.Table.{Table, AreListed}
use Rattle.object_volume.specs.Objects.{place_of, places, followed_by, bytes_at, Spares}

-- places in ascending order

pub drop-ascending : (k first n : ℕ) → drop k (ascending first n) ≡ ascending (first + k) (n - k)
unfolding ascending
drop-ascending zero first n =
    let placed : first ≡ first + 0 = omega arith in
    let counted : n ≡ n - 0 = omega arith in
    ap (λ (j : ℕ). ascending j n) placed ∙ ap (λ (j : ℕ). ascending (first + 0) j) counted
drop-ascending (suc k) first zero =
    let counted : 0 ≡ 0 - suc k = omega arith in
    ap (λ (j : ℕ). ascending (first + suc k) j) counted
drop-ascending (suc k) first (suc n) =
    let counted : n - k ≡ suc n - suc k = omega arith in
    let placed : suc first + k ≡ first + suc k = omega arith in
    drop-ascending k (suc first) n ∙ ap (λ (j : ℕ). ascending j (n - k)) placed ∙ ap (λ (j : ℕ). ascending (first + suc k) j) counted

pub take-ascending : (k first n : ℕ) → k ≤ n → take k (ascending first n) ≡ ascending first k
unfolding ascending
take-ascending zero first n le = refl
take-ascending (suc k) first zero le = absurd (omega arith)
take-ascending (suc k) first (suc n) le = ap (λ (l : List ℕ). first ∷ l) (take-ascending k (suc first) n (omega arith))

pub places-append : (xs ys : List ℕ) → places (xs ++ ys) ≡ places xs ++ places ys
unfolding places
places-append xs ys = flat_map-append (λ (block : ℕ). ascending (place_of block) 4096) xs ys

pub places-nil : places [] ≡ []
unfolding places
places-nil = refl

pub places-cons : (block : ℕ) (blocks : List ℕ) → places (block ∷ blocks) ≡ ascending (place_of block) 4096 ++ places blocks
unfolding places
places-cons block blocks = refl

pub length-places : (blocks : List ℕ) → length (places blocks) ≡ 4096 * length blocks
length-places [] = ap length places-nil
length-places (b ∷ bs) =
    ap length (places-cons b bs) ∙ length-append (ascending (place_of b) 4096) (places bs)
    ∙ omega (arith, length-ascending (place_of b) 4096, length-places bs)

-- neighbouring blocks have neighbouring places
pub places-ascending : (first count : ℕ) → places (ascending first count) ≡ ascending (place_of first) (4096 * count)
unfolding ascending
places-ascending first zero = places-nil
places-ascending first (suc count) =
    let placed : place_of (suc first) ≡ place_of first + 4096 = omega arith in
    let counted : 4096 + 4096 * count ≡ 4096 * suc count = omega arith in
    places-cons first (ascending (suc first) count)
    ∙ ap (λ (l : List ℕ). ascending (place_of first) 4096 ++ l) (places-ascending (suc first) count ∙ ap (λ (k : ℕ). ascending k (4096 * count)) placed)
    ∙ sym (ascending-append (place_of first) 4096 (4096 * count)) ∙ ap (λ (k : ℕ). ascending (place_of first) k) counted

-- a place among those of blocks is in one of them
pub place_within : (at : ℕ) (blocks : List ℕ) → 0 < times at (places blocks) → (block : ℕ) × (0 < times block blocks) × (place_of block ≤ at) × (at < place_of block + 4096)
place_within at [] some = absurd (omega (arith, some, ap (times at) places-nil))
place_within at (b ∷ bs) some =
    let split : times at (places (b ∷ bs)) ≡ times at (ascending (place_of b) 4096) + times at (places bs) =
    ap (times at) (places-cons b bs) ∙ times-append at (ascending (place_of b) 4096) (places bs) in
    ⊎_elim
    (λ (behind : 0 < times at (places bs)). let found = place_within at bs behind in
    (found.0, omega (arith, found.1, times-tail found.0 b bs), found.2, found.3))
    (λ (none : times at (places bs) ≤ 0). ⊎_elim
    (λ (low : at < place_of b). absurd (omega (arith, some, split, none, times_below at (place_of b) 4096 low)))
    (λ (from : place_of b ≤ at). ⊎_elim
    (λ (to : at < place_of b + 4096). (b, omega (arith, times_head b bs), from, to))
    (λ (past : place_of b + 4096 ≤ at). absurd (omega (arith, some, split, none, times_above at (place_of b) 4096 past)))
    (cases_lt at (place_of b + 4096)))
    (cases_lt at (place_of b)))
    (cases_lt 0 (times at (places bs)))

-- bytes at places

pub bytes_at-nil : (file : List ℕ) → bytes_at file [] ≡ []
unfolding bytes_at
bytes_at-nil file = refl

pub bytes_at-cons : (file : List ℕ) (at : ℕ) (ps : List ℕ) → bytes_at file (at ∷ ps) ≡ followed_by (extent at 1 file) (bytes_at file ps)
unfolding bytes_at
bytes_at-cons file at ps = refl

followed-le : (one rest : List ℕ) → length (followed_by one rest) ≤ suc (length rest)
followed-le [] rest = omega arith
followed-le (b ∷ bs) rest = omega arith

pub length-bytes_at : (file ps : List ℕ) → length (bytes_at file ps) ≤ length ps
length-bytes_at file [] = omega (arith, ap length (bytes_at-nil file))
length-bytes_at file (p ∷ ps) =
    omega (arith, ap length (bytes_at-cons file p ps), followed-le (extent p 1 file) (bytes_at file ps), length-bytes_at file ps)

-- neighbouring places read as a range
pub bytes_at-ascending : (file : List ℕ) (first n : ℕ) → bytes_at file (ascending first n) ≡ extent first n file
unfolding ascending
bytes_at-ascending file first zero = bytes_at-nil file
bytes_at-ascending file first (suc n) =
    let placed : first + 1 ≡ suc first = omega arith in
    bytes_at-cons file first (ascending (suc first) n)
    ∙ ap (λ (l : List ℕ). followed_by (extent first 1 file) l) (bytes_at-ascending file (suc first) n ∙ ap (take n) (sym (drop-drop 1 first file ∙ ap (λ (k : ℕ). drop k file) placed)))
    ∙ head_first (drop first file)
  where
    head_first : (l : List ℕ) → followed_by (take 1 l) (take n (drop 1 l)) ≡ take (suc n) l
    head_first [] = refl
    head_first (b ∷ bs) = refl

followed-append : (one rest more : List ℕ) → 0 < length (followed_by one rest) → followed_by one (rest ++ more) ≡ followed_by one rest ++ more
followed-append [] rest more some = absurd (omega arith)
followed-append (b ∷ bs) rest more some = refl

followed-whole : (one rest : List ℕ) (n : ℕ) → length (followed_by one rest) ≡ suc n → length rest ≡ n
followed-whole [] rest n is = absurd (omega (arith, is))
followed-whole (b ∷ bs) rest n is = omega (arith, is)

-- where all of some places are there, what comes behind them follows
pub bytes_at-append : (file xs ys : List ℕ) → length (bytes_at file xs) ≡ length xs → bytes_at file (xs ++ ys) ≡ bytes_at file xs ++ bytes_at file ys
bytes_at-append file [] ys whole = ap (λ (l : List ℕ). l ++ bytes_at file ys) (sym (bytes_at-nil file))
bytes_at-append file (x ∷ xs) ys whole =
    let e = bytes_at-cons file x xs in
    let long : length (followed_by (extent x 1 file) (bytes_at file xs)) ≡ suc (length xs) = sym (ap length e) ∙ whole in
    bytes_at-cons file x (xs ++ ys)
    ∙ ap (followed_by (extent x 1 file)) (bytes_at-append file xs ys (followed-whole (extent x 1 file) (bytes_at file xs) (length xs) long))
    ∙ followed-append (extent x 1 file) (bytes_at file xs) (bytes_at file ys) (omega (arith, long))
    ∙ ap (λ (l : List ℕ). l ++ bytes_at file ys) (sym e)

followed-cut : (one rest more : List ℕ) (n : ℕ) → length (followed_by one rest) ≤ n → (length rest < n → more ≡ rest) → followed_by one more ≡ followed_by one rest
followed-cut [] rest more n short same = refl
followed-cut (b ∷ bs) rest more n short same = ap (λ (l : List ℕ). b ∷ l) (same (omega (arith, short)))

-- where one of them isn't there, nothing follows
pub bytes_at-cut : (file xs ys : List ℕ) → length (bytes_at file xs) < length xs → bytes_at file (xs ++ ys) ≡ bytes_at file xs
bytes_at-cut file [] ys short = absurd (omega (arith, short))
bytes_at-cut file (x ∷ xs) ys short =
    let e = bytes_at-cons file x xs in
    bytes_at-cons file x (xs ++ ys)
    ∙ followed-cut (extent x 1 file) (bytes_at file xs) (bytes_at file (xs ++ ys)) (length xs) (omega (arith, short, ap length e))
    (λ less. bytes_at-cut file xs ys less)
    ∙ sym e

-- places that read alike give the same bytes
pub bytes_at-same : (old new ps : List ℕ) → ((at : ℕ) → 0 < times at ps → extent at 1 new ≡ extent at 1 old) → bytes_at new ps ≡ bytes_at old ps
bytes_at-same old new [] same = bytes_at-nil new ∙ sym (bytes_at-nil old)
bytes_at-same old new (p ∷ ps) same =
    bytes_at-cons new p ps
    ∙ ap (λ (l : List ℕ). followed_by l (bytes_at new ps)) (same p (omega (arith, times_head p ps)))
    ∙ ap (followed_by (extent p 1 old)) (bytes_at-same old new ps (λ at some. same at (omega (arith, some, times-tail at p ps))))
    ∙ sym (bytes_at-cons old p ps)

-- a place whose byte was found is there
pub place_there : (file ps : List ℕ) → length (bytes_at file ps) ≡ length ps → (at : ℕ) → 0 < times at ps → at < length file
place_there file [] whole at some = absurd (omega (arith, some))
place_there file (p ∷ ps) whole at some =
    let long : length (followed_by (extent p 1 file) (bytes_at file ps)) ≡ suc (length ps) = sym (ap length (bytes_at-cons file p ps)) ∙ whole in
    let here : p < length file = omega (arith, one_there (extent p 1 file) (bytes_at file ps) (omega (arith, long)), length-take 1 (drop p file), length-drop p file) in
    ⊎_elim
    (λ (behind : 0 < times at ps). place_there file ps (followed-whole (extent p 1 file) (bytes_at file ps) (length ps) long) at behind)
    (λ (none : times at ps ≤ 0). subst (λ (k : ℕ). k < length file) (only_head p at ps some none) here)
    (cases_lt 0 (times at ps))
  where
    one_there : (one rest : List ℕ) → 0 < length (followed_by one rest) → 0 < length one
    one_there [] rest some = absurd (omega (arith, some))
    one_there (b ∷ bs) rest some = omega arith

    only_head : (p at : ℕ) (ps : List ℕ) → 0 < times at (p ∷ ps) → times at ps ≤ 0 → p ≡ at
    only_head p at ps some none = grind (arith, some, none)

times-take : (at n : ℕ) (xs : List ℕ) → times at (take n xs) ≤ times at xs
times-take at zero xs = omega arith
times-take at (suc n) [] = omega arith
times-take at (suc n) (x ∷ xs) = omega (arith, times-take at n xs)

-- what is spared

pub spares_none : (blocks : List ℕ) (limit : ℕ) (file : List ℕ) → Spares blocks limit file file
spares_none blocks limit file = record { kept = λ at below apart. refl; no_shorter = omega arith }

pub spares_again : (blocks : List ℕ) (limit : ℕ) (old mid new : List ℕ) → Spares blocks limit old mid → Spares blocks limit mid new → Spares blocks limit old new
spares_again blocks limit old mid new first second = record {
  kept = λ at below apart. second.kept at below apart ∙ first.kept at below apart;
  no_shorter = omega (arith, first.no_shorter, second.no_shorter);
}

-- more blocks, and fewer bytes
pub spares_less : (blocks more : List ℕ) (limit lower : ℕ) (old new : List ℕ) → ((block : ℕ) → 0 < times block blocks → 0 < times block more) → lower ≤ limit
    → Spares blocks limit old new → Spares more lower old new
spares_less blocks more limit lower old new within le spares = record {
  kept = λ at below apart. spares.kept at (omega (arith, below, le)) (λ block some. apart block (within block some));
  no_shorter = spares.no_shorter;
}

-- places in blocks apart from them read as before, where each is below the limit
pub spared_below : (own blocks ps : List ℕ) (limit : ℕ) (old new : List ℕ) → Spares own limit old new → AreApart own blocks → ((at : ℕ) → 0 < times at ps → at < limit)
    → ((at : ℕ) → 0 < times at ps → 0 < times at (places blocks)) → bytes_at new ps ≡ bytes_at old ps
spared_below own blocks ps limit old new spares apart below among =
    bytes_at-same old new ps
    (λ at some.
    let within = place_within at blocks (among at some) in
    spares.kept at (below at some) (λ block taken. two_blocks block within.0 at within.2 within.3 (λ e. absurd (omega (arith, within.1, apart within.0 (subst (λ (b : ℕ). 0 < times b own) e taken))))))
  where
    two_blocks : (a b at : ℕ) → place_of b ≤ at → at < place_of b + 4096 → (a ≡ b → ⊥) → Apart (place_of a) 4096 at 1
    two_blocks a b at from to other = ⊎_elim
        (λ (before : b < a). inl (omega (arith, to, before)))
        (λ (after : a ≤ b). ⊎_elim
        (λ (behind : a < b). inr (omega (arith, from, behind)))
        (λ (same : b ≤ a). absurd (other (omega (arith, after, same))))
        (cases_lt a b))
        (cases_lt b a)

-- the first bytes of some blocks, as those of an object
pub spared_front : (own blocks : List ℕ) (n limit : ℕ) (old new : List ℕ) → Spares own limit old new → AreApart own blocks
    → ((at : ℕ) → 0 < times at (take n (places blocks)) → at < limit) → bytes_at new (take n (places blocks)) ≡ bytes_at old (take n (places blocks))
spared_front own blocks n limit old new spares apart below =
    spared_below own blocks (take n (places blocks)) limit old new spares apart below (λ at some. omega (arith, some, times-take at n (places blocks)))

-- the whole of some blocks
pub spared_blocks : (own blocks : List ℕ) (limit : ℕ) (old new : List ℕ) → Spares own limit old new → AreApart own blocks → length old ≤ limit
    → length (bytes_at old (places blocks)) ≡ length (places blocks) → bytes_at new (places blocks) ≡ bytes_at old (places blocks)
spared_blocks own blocks limit old new spares apart le whole =
    spared_below own blocks (places blocks) limit old new spares apart (λ at some. omega (arith, place_there old (places blocks) whole at some, le)) (λ at some. some)

-- live blocks are neither those of the object that is being sent nor free ones
pub live_are_apart : (table : Table) (sent xs : List ℕ) → AreListed table xs → AreApart sent xs → AreApart (sent ++ table.free) xs
live_are_apart table sent xs listed apart block some = ⊎_elim
    (λ (own : 0 < times block sent). apart block own)
    (λ (none : times block sent ≤ 0). ⊎_elim
    (λ (live : 0 < times block xs). absurd (omega (arith, none, some, times-append block sent table.free, listed.1.taken block (subst (λ (l : List ℕ). 0 < times block l) (sym listed.2) live))))
    (λ (not_live : times block xs ≤ 0). omega (arith, not_live))
    (cases_lt 0 (times block xs)))
    (cases_lt 0 (times block sent))
