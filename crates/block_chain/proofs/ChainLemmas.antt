-- What a change of one link, or another link, leaves of a chain.
use Rattle.std.proofs.Common.{◌≡◌, ◌≢◌, ℕ, zero, suc, ◌+◌, ◌<◌, ◌≤◌, List, [], ◌∷◌, ◌++◌, length, get_or, set, refl, ap, subst, arith, get_or-set_same, get_or-set_other}
use Rattle.std.proofs.lemmas.List.{get_or_append_left}
use Rattle.block_chain.specs.Blocks.{times, last_or}
use Rattle.block_chain.specs.Table.{chain}
use Rattle.block_chain.specs.BlocksLaws.{times_head, times-tail, times_last, head_apart, head_once}

pub length-chain : (links : List ℕ) (block count : ℕ) → length (chain links block count) ≡ count
length-chain links block zero = refl
length-chain links block (suc count) = ap suc (length-chain links (get_or links block 0) count)

-- a link of a block that isn't in the chain
pub chain-set : (links : List ℕ) (block count i v : ℕ) → times i (chain links block count) ≡ 0 → chain (set links i v) block count ≡ chain links block count
chain-set links block zero i v none = refl
chain-set links block (suc count) i v none =
    let ne : block ≢ i = head_apart i block (chain links (get_or links block 0) count) none in
    let none_behind : times i (chain links (get_or links block 0) count) ≡ 0 = omega (arith, times-tail i block (chain links (get_or links block 0) count)) in
    let same : get_or (set links i v) block 0 ≡ get_or links block 0 = get_or-set_other links i block v 0 ne in
    rw same (ap (λ t. block ∷ t) (chain-set links (get_or links block 0) count i v none_behind))

-- links of further blocks
pub chain-append : (links more : List ℕ) (block count : ℕ) → ((b : ℕ) → 0 < times b (chain links block count) → b < length links) → chain (links ++ more) block count ≡ chain links block count
chain-append links more block zero within = refl
chain-append links more block (suc count) within =
    let in_range : block < length links = within block (omega (arith, times_head block (chain links (get_or links block 0) count))) in
    let same : get_or (links ++ more) block 0 ≡ get_or links block 0 = get_or_append_left links more 0 block in_range in
    let rest : (b : ℕ) → 0 < times b (chain links (get_or links block 0) count) → b < length links
    = λ b some. within b (omega (arith, times-tail b block (chain links (get_or links block 0) count))) in
    rw same (ap (λ t. block ∷ t) (chain-append links more (get_or links block 0) count rest))

-- a link from the last block of a chain leads into another chain
pub chain-join : (links : List ℕ) (block count tail head more : ℕ)
    → last_or block (chain links (get_or links block 0) count) ≡ tail
    → ((b : ℕ) → times b (block ∷ chain links (get_or links block 0) count) + times b (chain links head more) ≤ 1)
    → tail < length links
    → chain (set links tail head) block (suc (count + more)) ≡ block ∷ chain links (get_or links block 0) count ++ chain links head more
chain-join links block zero tail head more ends once within =
    let at : block ≡ tail = ends in
    let none : times tail (chain links head more) ≡ 0 = subst (λ t. times t (chain links head more) ≡ 0) at (omega (arith, once block, times_head block [])) in
    let link : get_or (set links tail head) block 0 ≡ head = rw at (get_or-set_same links tail head 0 within) in
    let plain : 0 + more ≡ more = omega arith in
    rw (link, plain) (ap (λ t. block ∷ t) (chain-set links head more tail head none))
chain-join links block (suc count) tail head more ends once within =
    let next : ℕ = get_or links block 0 in
    let some : 0 < times tail (chain links next (suc count))
    = subst (λ t. 0 < times t (chain links next (suc count))) ends (times_last next (chain links (get_or links next 0) count)) in
    let ne : block ≢ tail = head_once block tail (chain links next (suc count)) (omega (arith, once block)) some in
    let same : get_or (set links tail head) block 0 ≡ next = get_or-set_other links tail block head 0 ne in
    let plain : suc count + more ≡ suc (count + more) = omega arith in
    let once_behind : (b : ℕ) → times b (chain links next (suc count)) + times b (chain links head more) ≤ 1
    = λ b. omega (arith, once b, times-tail b block (chain links next (suc count))) in
    rw (same, plain) (ap (λ t. block ∷ t) (chain-join links next count tail head more ends once_behind within))
