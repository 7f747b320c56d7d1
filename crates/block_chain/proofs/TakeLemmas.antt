-- A block that has just left the free chain goes behind a list.
use Rattle.std.proofs.Common.{◌≡◌, ℕ, ◌+◌, ◌<◌, ◌≤◌, List, [], ◌∷◌, ◌++◌, length, refl, ap, ◌∙◌, subst, arith, ⊎_elim}
use Rattle.std.proofs.lemmas.Bool.{cases_lt}
use Rattle.block_chain.specs.Blocks.{times, AreApart, AreSound}
use Rattle.block_chain.specs.Table.{Table, linked_blocks, blocks_of, IsListOf, KeepsOthers}
use Rattle.block_chain.specs.Layout.{IsChain, joined, joined_links, free_blocks, table_of, IsLaidOut}
use Rattle.block_chain.specs.declared.lists.BlockList.{BlockList}
use Rattle.block_chain.specs.BlocksLaws.{times-append, times_head, times_single, times-single, apart_cases}
use Rattle.block_chain.proofs.JoinLemmas.{linked_blocks-joined, joined-ends}
use Rattle.block_chain.proofs.LayoutLemmas.{IsChain-list, lens_fit, IsLaidOut-joined_links, free_blocks-joined_links, KeepsOthers-joined_links}

-- the block as a list
abbrev pub single : ℕ → BlockList
single block = record { head = block; tail = block; len = 1 }

-- a list of the old table, and a block that was its first free one and has left the free chain
pub record HasTaken (old : Table) (list : BlockList) (block blocks capacity : ℕ) (links : List ℕ) (holes returned : BlockList) : Type 0 where
  pub laid_out : IsLaidOut blocks capacity links holes returned
  pub own : IsListOf old list
  pub others : KeepsOthers old (table_of blocks links holes returned) []
  pub free : old.free ≡ block ∷ free_blocks blocks links holes returned
  pub same_blocks : blocks ≡ old.blocks
  pub within : block < length links
  pub free_sound : AreSound old.blocks old.free

nothing_apart : (xs : List ℕ) → AreApart [] xs
nothing_apart xs b some = omega (arith, some)

module _ {old : Table} {list : BlockList} {block blocks capacity : ℕ} {links : List ℕ} {holes returned : BlockList} where
  own_now : HasTaken old list block blocks capacity links holes returned → IsListOf (table_of blocks links holes returned) list
  own_now has = (has.others list has.own (nothing_apart (blocks_of old list))).0

  same_list : HasTaken old list block blocks capacity links holes returned → linked_blocks links list ≡ blocks_of old list
  same_list has = (has.others list has.own (nothing_apart (blocks_of old list))).1

  pub front_chain : HasTaken old list block blocks capacity links holes returned → IsChain links list
  front_chain has = IsChain-list blocks capacity links holes returned list (own_now has)

  pub single_chain : HasTaken old list block blocks capacity links holes returned → IsChain links (single block)
  single_chain has = record { within = λ b some. subst (λ n. n < length links) (times_single b block some) has.within; ends = refl }

  -- the block doesn't stand in the list
  pub single_once : HasTaken old list block blocks capacity links holes returned → (b : ℕ) → times b (linked_blocks links list) + times b (block ∷ []) ≤ 1
  single_once has b =
      let taken : AreApart (linked_blocks links list) (block ∷ free_blocks blocks links holes returned) = rw (same_list has) (rw has.free at has.own.taken) in
      ⊎_elim
      (λ (h : times b (linked_blocks links list) ≡ 0). omega (arith, times-single b block))
      (λ (h : times b (block ∷ free_blocks blocks links holes returned) ≡ 0). omega (arith, (own_now has).sound.once b))
      (apart_cases (linked_blocks links list) (block ∷ free_blocks blocks links holes returned) taken b)

  pub single_fits : HasTaken old list block blocks capacity links holes returned → list.len + 1 ≤ blocks
  single_fits has = omega (arith, lens_fit links list (single block) (front_chain has) (single_chain has) (single_once has), has.laid_out.filled)

  pub laid_out_after : HasTaken old list block blocks capacity links holes returned → IsLaidOut blocks capacity (joined_links links list (single block)) holes returned
  laid_out_after has = IsLaidOut-joined_links blocks capacity links holes returned list (single block) has.laid_out (front_chain has) (own_now has).taken

  pub free_after : HasTaken old list block blocks capacity links holes returned → free_blocks blocks (joined_links links list (single block)) holes returned ≡ free_blocks blocks links holes returned
  free_after has = free_blocks-joined_links blocks capacity links holes returned list (single block) (front_chain has) (own_now has).taken

  pub list_after : HasTaken old list block blocks capacity links holes returned → linked_blocks (joined_links links list (single block)) (joined list (single block)) ≡ blocks_of old list ++ block ∷ []
  list_after has = linked_blocks-joined links list (single block) (front_chain has) (single_once has) ∙ ap (λ (xs : List ℕ). xs ++ block ∷ []) (same_list has)

  -- the block isn't free any more
  gone : HasTaken old list block blocks capacity links holes returned → times block (free_blocks blocks links holes returned) ≡ 0
  gone has =
      let once : times block (block ∷ free_blocks blocks links holes returned) ≤ 1 = rw has.free at has.free_sound.once block in
      omega (arith, once, times_head block (free_blocks blocks links holes returned))

  pub own_after : HasTaken old list block blocks capacity links holes returned → IsListOf (table_of blocks (joined_links links list (single block)) holes returned) (joined list (single block))
  own_after has = record {
    sound = rw (linked_blocks-joined links list (single block) (front_chain has) (single_once has)) (record {
      once = λ b. omega (arith, times-append b (linked_blocks links list) (block ∷ []), single_once has b);
      below = λ b some. ⊎_elim
          (λ (h : 0 < times b (linked_blocks links list)). (own_now has).sound.below b h)
          (λ (h : times b (linked_blocks links list) ≤ 0).
          let e : block ≡ b = times_single b block (omega (arith, times-append b (linked_blocks links list) (block ∷ []))) in
          omega (arith, e, has.within, has.laid_out.filled))
          (cases_lt 0 (times b (linked_blocks links list)));
    });
    taken = rw (linked_blocks-joined links list (single block) (front_chain has) (single_once has), free_after has) (λ b some. ⊎_elim
        (λ (h : 0 < times b (linked_blocks links list)). (own_now has).taken b h)
        (λ (h : times b (linked_blocks links list) ≤ 0).
        let e : block ≡ b = times_single b block (omega (arith, times-append b (linked_blocks links list) (block ∷ []))) in
        subst (λ n. times n (free_blocks blocks links holes returned) ≡ 0) e (gone has))
        (cases_lt 0 (times b (linked_blocks links list))));
    ends = joined-ends links list (single block) (front_chain has) (single_chain has) (single_once has);
  }

  pub others_after : HasTaken old list block blocks capacity links holes returned → KeepsOthers old (table_of blocks (joined_links links list (single block)) holes returned) (blocks_of old list)
  others_after has other other_is apart =
      let first : IsListOf (table_of blocks links holes returned) other × (linked_blocks links other ≡ blocks_of old other) = has.others other other_is (nothing_apart (blocks_of old other)) in
      let apart_now : AreApart (linked_blocks links list) (linked_blocks links other) = rw (same_list has, first.1) apart in
      let second : IsListOf (table_of blocks (joined_links links list (single block)) holes returned) other × (linked_blocks (joined_links links list (single block)) other ≡ linked_blocks links other)
      = KeepsOthers-joined_links blocks capacity links holes returned list (single block) (front_chain has) (own_now has).taken other first.0 apart_now in
      (second.0, second.1 ∙ first.1)
