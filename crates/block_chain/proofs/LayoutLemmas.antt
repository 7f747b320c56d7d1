-- The layout of a table: which blocks are in range, and what a change of its links leaves.
use Rattle.std.proofs.Common.{◌≡◌, ℕ, zero, suc, ◌+◌, ◌-◌, ◌<◌, ◌≤◌, List, [], ◌∷◌, ◌++◌, length, get_or, refl, arith, length-append, append_assoc, ⊎_elim}
use Rattle.std.proofs.lemmas.Bool.{cases_lt}
use Rattle.block_chain.specs.Blocks.{times, last_or, AreApart, AreSound, ascending}
use Rattle.block_chain.specs.Table.{Table, chain, linked_blocks, blocks_of, IsListOf, KeepsOthers}
use Rattle.block_chain.specs.Layout.{IsChain, joined, joined_links, free_blocks, table_of, IsLaidOut}
use Rattle.block_chain.specs.declared.lists.BlockList.{BlockList}
use Rattle.block_chain.specs.BlocksLaws.{times-append, times_head, times-tail, times_below, times_above, times_within, length_of_distinct, length-ascending, ascending_once, apart_cases}
use Rattle.block_chain.proofs.ChainLemmas.{length-chain, chain-append}
use Rattle.block_chain.proofs.JoinLemmas.{tail_stands, length-joined_links, chain-joined_links, linked_blocks-joined, joined-ends}

-- the tail of a list that isn't empty has a link
pub tail_within : (links : List ℕ) (list : BlockList) → IsChain links list → (list.len ≡ 0 → ⊥) → list.tail < length links
tail_within links list is some = by_len links list.head list.tail list.len is some
  where
    by_len : (links : List ℕ) (head tail len : ℕ) → IsChain links (record { head = head; tail = tail; len = len }) → (len ≡ 0 → ⊥) → tail < length links
    by_len links head tail zero is some = absurd (some refl)
    by_len links head tail (suc n) is some = is.within tail (tail_stands links head tail n is.ends)

-- and so has its head
pub head_within : (links : List ℕ) (list : BlockList) → IsChain links list → (list.len ≡ 0 → ⊥) → list.head < length links
head_within links list is some = by_len links list.head list.tail list.len is some
  where
    by_len : (links : List ℕ) (head tail len : ℕ) → IsChain links (record { head = head; tail = tail; len = len }) → (len ≡ 0 → ⊥) → head < length links
    by_len links head tail zero is some = absurd (some refl)
    by_len links head tail (suc n) is some = is.within head (omega (arith, times_head head (chain links (get_or links head 0) n)))

last_or-tail : (links : List ℕ) (head tail n : ℕ) → last_or tail (chain links head (suc n)) ≡ tail → last_or tail (chain links (get_or links head 0) n) ≡ tail
last_or-tail links head tail zero ends = refl
last_or-tail links head tail (suc n) ends = ends

-- a list without its first block
pub IsChain-pop : (links : List ℕ) (list : BlockList) → IsChain links list → (list.len ≡ 0 → ⊥) → IsChain links (record { head = get_or links list.head 0; tail = list.tail; len = list.len - 1 })
IsChain-pop links list is some = by_len links list.head list.tail list.len is some
  where
    by_len : (links : List ℕ) (head tail len : ℕ) → IsChain links (record { head = head; tail = tail; len = len }) → (len ≡ 0 → ⊥) → IsChain links (record { head = get_or links head 0; tail = tail; len = len - 1 })
    by_len links head tail zero is some = absurd (some refl)
    by_len links head tail (suc n) is some =
        let one_less : suc n - 1 ≡ n = omega arith in
        rw one_less (record {
          within = λ b stands. is.within b (omega arith);
          ends = last_or-tail links head tail n is.ends;
        })

-- the block that heads a list has a link
pub block_within : (links : List ℕ) (list : BlockList) (block : ℕ) (rest : List ℕ) → IsChain links list → linked_blocks links list ≡ block ∷ rest → block < length links
block_within links list block rest is e = is.within block (rw e (omega (arith, times_head block rest)))

-- two lists with no block twice have no more blocks than there are links
pub lens_fit : (links : List ℕ) (front behind : BlockList) → IsChain links front → IsChain links behind
    → ((b : ℕ) → times b (linked_blocks links front) + times b (linked_blocks links behind) ≤ 1) → front.len + behind.len ≤ length links
lens_fit links front behind is is' once =
    let xs : List ℕ = linked_blocks links front in
    let ys : List ℕ = linked_blocks links behind in
    let both : length (xs ++ ys) ≤ length links = length_of_distinct (length links) (xs ++ ys) (λ b. omega (arith, once b, times-append b xs ys))
    (λ b some. ⊎_elim (λ (h : 0 < times b xs). is.within b h) (λ (h : times b xs ≤ 0). is'.within b (omega (arith, times-append b xs ys))) (cases_lt 0 (times b xs))) in
    omega (arith, both, length-append xs ys, length-chain links front.head front.len, length-chain links behind.head behind.len)

-- no block past the links stands in a list
times_past : (links : List ℕ) (list : BlockList) (b : ℕ) → IsChain links list → length links ≤ b → times b (linked_blocks links list) ≡ 0
times_past links list b is past =
    ⊎_elim (λ (h : 0 < times b (linked_blocks links list)). absurd (omega (arith, is.within b h))) (λ (h : times b (linked_blocks links list) ≤ 0). omega (arith, h)) (cases_lt 0 (times b (linked_blocks links list)))

-- a list apart from the front is linked as before
IsChain-joined_links : (links : List ℕ) (front behind list : BlockList) → IsChain links front → AreApart (linked_blocks links front) (linked_blocks links list) → IsChain links list
    → IsChain (joined_links links front behind) list
IsChain-joined_links links front behind list is apart is' =
    let same : linked_blocks (joined_links links front behind) list ≡ linked_blocks links list = chain-joined_links links front behind list.head list.len is apart in
    record {
      within = rw (same, length-joined_links links front behind) is'.within;
      ends = rw same is'.ends;
    }

pub IsChain-joined : (links : List ℕ) (front behind : BlockList) → IsChain links front → IsChain links behind
    → ((b : ℕ) → times b (linked_blocks links front) + times b (linked_blocks links behind) ≤ 1) → IsChain (joined_links links front behind) (joined front behind)
IsChain-joined links front behind is is' once =
    let xs : List ℕ = linked_blocks links front in
    let ys : List ℕ = linked_blocks links behind in
    record {
      within = rw (linked_blocks-joined links front behind is once, length-joined_links links front behind)
          (λ b some. ⊎_elim (λ (h : 0 < times b xs). is.within b h) (λ (h : times b xs ≤ 0). is'.within b (omega (arith, times-append b xs ys))) (cases_lt 0 (times b xs)));
      ends = joined-ends links front behind is is' once;
    }

IsChain-append : (links more : List ℕ) (list : BlockList) → IsChain links list → IsChain (links ++ more) list
IsChain-append links more list is =
    let same : linked_blocks (links ++ more) list ≡ linked_blocks links list = chain-append links more list.head list.len is.within in
    record {
      within = rw same (λ b some. omega (arith, is.within b some, length-append links more));
      ends = rw same is.ends;
    }

-- a change that keeps the links of the other lists, and frees no block but its own, keeps those lists
KeepsOthers-links : (old new : Table) (own : List ℕ) → new.blocks ≡ old.blocks → ((b : ℕ) → times b new.free ≤ times b old.free + times b own)
    → ((other : BlockList) → IsListOf old other → AreApart own (blocks_of old other) → blocks_of new other ≡ blocks_of old other) → KeepsOthers old new own
KeepsOthers-links old new own blocks free same other is apart =
    let e : blocks_of new other ≡ blocks_of old other = same other is apart in (
      record {
        sound = rw (e, blocks) is.sound;
        taken = rw e (λ b some. ⊎_elim
            (λ (h : times b own ≡ 0). omega (arith, free b, is.taken b some))
            (λ (h : times b (blocks_of old other) ≡ 0). absurd (omega (arith, some)))
            (apart_cases own (blocks_of old other) apart b));
        ends = rw e is.ends;
      },
      e,
    )

module _ (blocks capacity : ℕ) (links : List ℕ) (holes returned : BlockList) where
  pub times-free_blocks : (b : ℕ) → times b (free_blocks blocks links holes returned)
      ≡ times b (linked_blocks links holes) + (times b (ascending (length links) (blocks - length links)) + times b (linked_blocks links returned))
  times-free_blocks b = omega (arith, times-append b (linked_blocks links holes) (ascending (length links) (blocks - length links) ++ linked_blocks links returned), times-append b (ascending (length links) (blocks - length links)) (linked_blocks links returned))

  -- a block with no link is free
  fresh_is_free : (b : ℕ) → length links ≤ b → b < blocks → 0 < times b (free_blocks blocks links holes returned)
  fresh_is_free b past below = omega (arith, times-free_blocks b, times_within b (length links) (blocks - length links) past (omega arith))

  -- the links reach each block of a list
  pub IsChain-list : (list : BlockList) → IsListOf (table_of blocks links holes returned) list → IsChain links list
  IsChain-list list is = record {
    within = λ b stands. ⊎_elim (λ (h : b < length links). h) (λ (h : length links ≤ b). absurd (omega (arith, fresh_is_free b h (is.sound.below b stands), is.taken b stands))) (cases_lt b (length links));
    ends = is.ends;
  }

  -- the free blocks are distinct and in range
  pub AreSound-free_blocks : IsLaidOut blocks capacity links holes returned → AreSound blocks (free_blocks blocks links holes returned)
  AreSound-free_blocks is = record {
    once = λ b. ⊎_elim
        (λ (h : b < length links). omega (arith, times-free_blocks b, is.once b, times_below b (length links) (blocks - length links) h))
        (λ (h : length links ≤ b). omega (arith, times-free_blocks b, times_past links holes b is.hole_chain h, times_past links returned b is.returned_chain h, ascending_once b (length links) (blocks - length links)))
        (cases_lt b (length links));
    below = λ b some. ⊎_elim
        (λ (h : b < blocks). h)
        (λ (h : blocks ≤ b).
        let past : length links ≤ b = omega (arith, is.filled) in
        absurd (omega (arith, times-free_blocks b, times_past links holes b is.hole_chain past, times_past links returned b is.returned_chain past, times_above b (length links) (blocks - length links) (omega (arith, is.filled)))))
        (cases_lt b blocks);
  }

  -- the links of a list that isn't free
  pub IsLaidOut-joined_links : (front behind : BlockList) → IsLaidOut blocks capacity links holes returned → IsChain links front → AreApart (linked_blocks links front) (free_blocks blocks links holes returned)
      → IsLaidOut blocks capacity (joined_links links front behind) holes returned
  IsLaidOut-joined_links front behind is chained apart =
      let apart_holes : AreApart (linked_blocks links front) (linked_blocks links holes) = λ b some. omega (arith, apart b some, times-free_blocks b) in
      let apart_returned : AreApart (linked_blocks links front) (linked_blocks links returned) = λ b some. omega (arith, apart b some, times-free_blocks b) in
      record {
        limit = is.limit;
        room = is.room;
        filled = rw (length-joined_links links front behind) is.filled;
        hole_chain = IsChain-joined_links links front behind holes chained apart_holes is.hole_chain;
        returned_chain = IsChain-joined_links links front behind returned chained apart_returned is.returned_chain;
        once = rw (chain-joined_links links front behind holes.head holes.len chained apart_holes, chain-joined_links links front behind returned.head returned.len chained apart_returned) is.once;
      }

  pub free_blocks-joined_links : (front behind : BlockList) → IsChain links front → AreApart (linked_blocks links front) (free_blocks blocks links holes returned)
      → free_blocks blocks (joined_links links front behind) holes returned ≡ free_blocks blocks links holes returned
  free_blocks-joined_links front behind chained apart =
      let apart_holes : AreApart (linked_blocks links front) (linked_blocks links holes) = λ b some. omega (arith, apart b some, times-free_blocks b) in
      let apart_returned : AreApart (linked_blocks links front) (linked_blocks links returned) = λ b some. omega (arith, apart b some, times-free_blocks b) in
      rw (chain-joined_links links front behind holes.head holes.len chained apart_holes, chain-joined_links links front behind returned.head returned.len chained apart_returned, length-joined_links links front behind)

  -- what is given back is apart from what was given back before, and from the holes
  pub returned_once : (list : BlockList) → IsLaidOut blocks capacity links holes returned → IsListOf (table_of blocks links holes returned) list
      → (b : ℕ) → times b (linked_blocks links returned) + times b (linked_blocks links list) ≤ 1
  returned_once list is own b = ⊎_elim
      (λ (h : times b (linked_blocks links list) ≡ 0). omega (arith, is.once b))
      (λ (h : times b (free_blocks blocks links holes returned) ≡ 0). omega (arith, own.sound.once b, times-free_blocks b))
      (apart_cases (linked_blocks links list) (free_blocks blocks links holes returned) own.taken b)

  holes_apart : (list : BlockList) → IsLaidOut blocks capacity links holes returned → AreApart (linked_blocks links returned) (linked_blocks links holes)
  holes_apart list is b some = omega (arith, is.once b)

  pub IsLaidOut-joined : (list : BlockList) → IsLaidOut blocks capacity links holes returned → IsListOf (table_of blocks links holes returned) list
      → IsLaidOut blocks capacity (joined_links links returned list) holes (joined returned list)
  IsLaidOut-joined list is own =
      let once : (b : ℕ) → times b (linked_blocks links returned) + times b (linked_blocks links list) ≤ 1 = returned_once list is own in
      let apart : AreApart (linked_blocks links returned) (linked_blocks links holes) = holes_apart list is in
      record {
        limit = is.limit;
        room = is.room;
        filled = rw (length-joined_links links returned list) is.filled;
        hole_chain = IsChain-joined_links links returned list holes is.returned_chain apart is.hole_chain;
        returned_chain = IsChain-joined links returned list is.returned_chain (IsChain-list list own) once;
        once = rw (chain-joined_links links returned list holes.head holes.len is.returned_chain apart, linked_blocks-joined links returned list is.returned_chain once)
            (λ b. ⊎_elim
            (λ (h : times b (linked_blocks links list) ≡ 0). omega (arith, times-append b (linked_blocks links returned) (linked_blocks links list), is.once b))
            (λ (h : times b (free_blocks blocks links holes returned) ≡ 0). omega (arith, times-append b (linked_blocks links returned) (linked_blocks links list), own.sound.once b, times-free_blocks b))
            (apart_cases (linked_blocks links list) (free_blocks blocks links holes returned) own.taken b));
      }

  pub free_blocks-joined : (list : BlockList) → IsLaidOut blocks capacity links holes returned → IsListOf (table_of blocks links holes returned) list
      → free_blocks blocks (joined_links links returned list) holes (joined returned list) ≡ free_blocks blocks links holes returned ++ linked_blocks links list
  free_blocks-joined list is own =
      let once : (b : ℕ) → times b (linked_blocks links returned) + times b (linked_blocks links list) ≤ 1 = returned_once list is own in
      let apart : AreApart (linked_blocks links returned) (linked_blocks links holes) = holes_apart list is in
      rw (chain-joined_links links returned list holes.head holes.len is.returned_chain apart, linked_blocks-joined links returned list is.returned_chain once, length-joined_links links returned list)
      (simp append_assoc)

  -- a link for one more block
  pub IsLaidOut-append : (v capacity' : ℕ) → IsLaidOut blocks capacity links holes returned → length links < blocks → capacity' ≡ capacity
      → IsLaidOut blocks capacity' (links ++ v ∷ []) holes returned
  IsLaidOut-append v capacity' is more same = record {
    limit = is.limit;
    room = omega (arith, is.room);
    filled = omega (arith, length-append links (v ∷ []));
    hole_chain = IsChain-append links (v ∷ []) holes is.hole_chain;
    returned_chain = IsChain-append links (v ∷ []) returned is.returned_chain;
    once = rw (chain-append links (v ∷ []) holes.head holes.len is.hole_chain.within, chain-append links (v ∷ []) returned.head returned.len is.returned_chain.within) is.once;
  }

  pub free_blocks-append : (v : ℕ) → IsLaidOut blocks capacity links holes returned → length links < blocks → holes.len ≡ 0
      → free_blocks blocks links holes returned ≡ length links ∷ free_blocks blocks (links ++ v ∷ []) holes returned
  unfolding ascending
  free_blocks-append v is more none =
      let one_more : length (links ++ v ∷ []) ≡ suc (length links) = omega (arith, length-append links (v ∷ [])) in
      let some : blocks - length links ≡ suc (blocks - suc (length links)) = omega arith in
      rw (chain-append links (v ∷ []) returned.head returned.len is.returned_chain.within, one_more, none, some) refl

  pub length-free_blocks : length (free_blocks blocks links holes returned) ≡ holes.len + (blocks - length links) + returned.len
  length-free_blocks = omega (arith, length-append (linked_blocks links holes) (ascending (length links) (blocks - length links) ++ linked_blocks links returned), length-append (ascending (length links) (blocks - length links)) (linked_blocks links returned), length-chain links holes.head holes.len, length-chain links returned.head returned.len, length-ascending (length links) (blocks - length links))

  -- what stays when a list is given back
  pub KeepsOthers-joined : (list : BlockList) → IsLaidOut blocks capacity links holes returned → IsListOf (table_of blocks links holes returned) list
      → KeepsOthers (table_of blocks links holes returned) (table_of blocks (joined_links links returned list) holes (joined returned list)) (linked_blocks links list)
  KeepsOthers-joined list is own =
      KeepsOthers-links (table_of blocks links holes returned) (table_of blocks (joined_links links returned list) holes (joined returned list)) (linked_blocks links list) refl
      (rw (free_blocks-joined list is own) (λ b. omega (arith, times-append b (free_blocks blocks links holes returned) (linked_blocks links list))))
      (λ other other_is apart. chain-joined_links links returned list other.head other.len is.returned_chain (λ b some. ⊎_elim
      (λ (h : times b (linked_blocks links other) ≡ 0). h)
      (λ (h : times b (free_blocks blocks links holes returned) ≡ 0). absurd (omega (arith, some, times-free_blocks b)))
      (apart_cases (linked_blocks links other) (free_blocks blocks links holes returned) other_is.taken b)))

  -- what stays when a list that isn't free gets a link at its end
  pub KeepsOthers-joined_links : (front behind : BlockList) → IsChain links front → AreApart (linked_blocks links front) (free_blocks blocks links holes returned)
      → KeepsOthers (table_of blocks links holes returned) (table_of blocks (joined_links links front behind) holes returned) (linked_blocks links front)
  KeepsOthers-joined_links front behind chained apart =
      KeepsOthers-links (table_of blocks links holes returned) (table_of blocks (joined_links links front behind) holes returned) (linked_blocks links front) refl
      (rw (free_blocks-joined_links front behind chained apart) (λ b. omega arith))
      (λ other other_is other_apart. chain-joined_links links front behind other.head other.len chained other_apart)

  -- what stays when a block is taken that had no link
  pub KeepsOthers-append : (v : ℕ) → IsLaidOut blocks capacity links holes returned → length links < blocks → holes.len ≡ 0
      → KeepsOthers (table_of blocks links holes returned) (table_of blocks (links ++ v ∷ []) holes returned) []
  KeepsOthers-append v is more none =
      KeepsOthers-links (table_of blocks links holes returned) (table_of blocks (links ++ v ∷ []) holes returned) [] refl
      (λ b. rw (free_blocks-append v is more none) (omega (arith, times-tail b (length links) (free_blocks blocks (links ++ v ∷ []) holes returned))))
      (λ other other_is apart. chain-append links (v ∷ []) other.head other.len (IsChain-list other other_is).within)
