-- What a list with another behind it has, and what the change of link leaves as it was.
use Rattle.std.proofs.Common.{◌≡◌, ℕ, zero, suc, ◌+◌, ◌<◌, ◌≤◌, List, ◌++◌, length, get_or, refl, sym, ap, ◌∙◌, subst, arith, length-set}
use Rattle.std.proofs.Math.Dec.{eqb-suc-zero}
use Rattle.std.proofs.lemmas.List.{append-nil}
use Rattle.block_chain.specs.Blocks.{times, last_or, AreApart}
use Rattle.block_chain.specs.Table.{chain, linked_blocks}
use Rattle.block_chain.specs.Layout.{IsChain, joined, joined_links}
use Rattle.block_chain.specs.declared.lists.BlockList.{BlockList}
use Rattle.block_chain.specs.BlocksLaws.{times_last, last_or-append}
use Rattle.block_chain.proofs.ChainLemmas.{chain-set, chain-join}

-- the tail of a list that isn't empty stands in it
pub tail_stands : (links : List ℕ) (head tail count : ℕ) → last_or tail (chain links head (suc count)) ≡ tail → 0 < times tail (chain links head (suc count))
tail_stands links head tail count ends = subst (λ t. 0 < times t (chain links head (suc count))) ends (times_last head (chain links (get_or links head 0) count))

pub length-joined_links : (links : List ℕ) (front behind : BlockList) → length (joined_links links front behind) ≡ length links
length-joined_links links front behind = by_len links front.head front.tail front.len behind.head behind.tail behind.len
  where
    by_len : (links : List ℕ) (head tail len head' tail' len' : ℕ) → length (joined_links links (record { head = head; tail = tail; len = len }) (record { head = head'; tail = tail'; len = len' })) ≡ length links
    by_len links head tail zero head' tail' len' = refl
    by_len links head tail (suc n) head' tail' zero = simp eqb-suc-zero
    by_len links head tail (suc n) head' tail' (suc m) = simp eqb-suc-zero (length-set links tail head')

-- a chain with no block in common with the front
pub chain-joined_links : (links : List ℕ) (front behind : BlockList) (block count : ℕ) → IsChain links front → AreApart (linked_blocks links front) (chain links block count)
    → chain (joined_links links front behind) block count ≡ chain links block count
chain-joined_links links front behind block count is apart = by_len links front.head front.tail front.len behind.head behind.tail behind.len block count is.ends apart
  where
    by_len : (links : List ℕ) (head tail len head' tail' len' block count : ℕ) → last_or tail (chain links head len) ≡ tail → AreApart (chain links head len) (chain links block count)
        → chain (joined_links links (record { head = head; tail = tail; len = len }) (record { head = head'; tail = tail'; len = len' })) block count ≡ chain links block count
    by_len links head tail zero head' tail' len' block count ends apart = refl
    by_len links head tail (suc n) head' tail' zero block count ends apart = simp eqb-suc-zero
    by_len links head tail (suc n) head' tail' (suc m) block count ends apart = simp eqb-suc-zero (chain-set links block count tail head' (apart tail (tail_stands links head tail n ends)))

-- the blocks of the joined list
pub linked_blocks-joined : (links : List ℕ) (front behind : BlockList) → IsChain links front
    → ((b : ℕ) → times b (linked_blocks links front) + times b (linked_blocks links behind) ≤ 1)
    → linked_blocks (joined_links links front behind) (joined front behind) ≡ linked_blocks links front ++ linked_blocks links behind
linked_blocks-joined links front behind is once = by_len links front.head front.tail front.len behind.head behind.tail behind.len is once
  where
    by_len : (links : List ℕ) (head tail len head' tail' len' : ℕ) → IsChain links (record { head = head; tail = tail; len = len })
        → ((b : ℕ) → times b (chain links head len) + times b (chain links head' len') ≤ 1)
        → linked_blocks (joined_links links (record { head = head; tail = tail; len = len }) (record { head = head'; tail = tail'; len = len' })) (joined (record { head = head; tail = tail; len = len }) (record { head = head'; tail = tail'; len = len' }))
        ≡ chain links head len ++ chain links head' len'
    by_len links head tail zero head' tail' zero is once = refl
    by_len links head tail zero head' tail' (suc m) is once = simp eqb-suc-zero
    by_len links head tail (suc n) head' tail' zero is once =
        let same : joined_links links (record { head = head; tail = tail; len = suc n }) (record { head = head'; tail = tail'; len = zero }) ≡ links = simp eqb-suc-zero in
        ap (λ (ls : List ℕ). chain ls head (suc n)) same ∙ sym (append-nil (chain links head (suc n)))
    by_len links head tail (suc n) head' tail' (suc m) is once =
        let in_range : tail < length links = is.within tail (tail_stands links head tail n is.ends) in
        let plain : suc n + suc m ≡ suc (n + suc m) = omega arith in
        simp eqb-suc-zero (rw plain (chain-join links head n tail head' (suc m) is.ends once in_range))

-- and its tail
pub joined-ends : (links : List ℕ) (front behind : BlockList) → IsChain links front → IsChain links behind
    → ((b : ℕ) → times b (linked_blocks links front) + times b (linked_blocks links behind) ≤ 1)
    → let list = joined front behind in last_or list.tail (linked_blocks (joined_links links front behind) list) ≡ list.tail
joined-ends links front behind is is' once = rw (linked_blocks-joined links front behind is once) (by_len links front.head front.tail front.len behind.head behind.tail behind.len is.ends is'.ends)
  where
    by_len : (links : List ℕ) (head tail len head' tail' len' : ℕ) → last_or tail (chain links head len) ≡ tail → last_or tail' (chain links head' len') ≡ tail'
        → let list = joined (record { head = head; tail = tail; len = len }) (record { head = head'; tail = tail'; len = len' }) in last_or list.tail (chain links head len ++ chain links head' len') ≡ list.tail
    by_len links head tail zero head' tail' zero ends ends' = refl
    by_len links head tail zero head' tail' (suc m) ends ends' = simp eqb-suc-zero ends'
    by_len links head tail (suc n) head' tail' zero ends ends' = rw (append-nil (chain links head (suc n))) ends
    by_len links head tail (suc n) head' tail' (suc m) ends ends' = simp eqb-suc-zero (last_or-append tail' head' (chain links head (suc n)) (chain links (get_or links head' 0) m) ∙ ends')
