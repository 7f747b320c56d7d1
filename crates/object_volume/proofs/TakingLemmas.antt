-- Blocks taken one after another.
use Rattle.std.proofs.Common.{◌≡◌, ℕ, ◌<◌, ◌≤◌, List, [], ◌∷◌, ◌++◌, refl, arith, ap, sym, ◌∙◌, ⊎_elim, append_assoc}
use Rattle.std.proofs.lemmas.List.{append-nil}
use Rattle.std.proofs.lemmas.Bool.{cases_lt}
use Rattle.block_chain.specs.Blocks.{times, AreApart}
use Rattle.block_chain.specs.BlocksLaws.{times-append, times_head}
use Rattle.block_chain.specs.Table.{Table, blocks_of, IsListOf}
use Rattle.block_chain.specs.declared.lists.BlockList.{BlockList}
use Rattle.object_volume.specs.Taking.{Takes}

pub takes_nothing : (table : Table) (list : BlockList) → IsListOf table list → Takes table table list list []
takes_nothing table list own = record {
  blocks = refl;
  free = refl;
  list = sym (append-nil (blocks_of table list));
  own = own;
  others = λ other is apart. (is, refl);
  parted = λ others are. are;
}

module _ (old mid new : Table) (before between after : BlockList) (xs ys : List ℕ) where
  pub takes_again : Takes old mid before between xs → Takes mid new between after ys → Takes old new before after (xs ++ ys)
  takes_again first second = record {
    blocks = second.blocks ∙ first.blocks;
    free = first.free ∙ ap (λ (l : List ℕ). xs ++ l) second.free ∙ sym (append_assoc xs ys new.free);
    list = second.list ∙ ap (λ (l : List ℕ). l ++ ys) first.list ∙ append_assoc (blocks_of old before) xs ys;
    own = second.own;
    others = λ other is apart.
        let kept = first.others other is apart in
        let further = second.others other kept.0 (λ block some. in_other block other is apart kept.1 some) in
        (further.0, further.1 ∙ kept.1);
    parted = λ others are. second.parted others (first.parted others are);
  }
    where
      in_other : (block : ℕ) (other : BlockList) → IsListOf old other → AreApart (blocks_of old before) (blocks_of old other)
          → blocks_of mid other ≡ blocks_of old other → 0 < times block (blocks_of mid between) → times block (blocks_of mid other) ≡ 0
      in_other block other is apart same some =
          ap (times block) same ∙ ⊎_elim
          (λ (here : 0 < times block (blocks_of old before)). apart block here)
          (λ (none : times block (blocks_of old before) ≤ 0). ⊎_elim
          (λ (both : 0 < times block (blocks_of old other)). absurd (omega (
            arith,
            some,
            none,
            is.taken block both,
            ap (times block) first.free,
            times-append block xs mid.free,
            ap (times block) first.list,
            times-append block (blocks_of old before) xs,
          )))
          (λ (not : times block (blocks_of old other) ≤ 0). omega (arith, not))
          (cases_lt 0 (times block (blocks_of old other))))
          (cases_lt 0 (times block (blocks_of old before)))

-- a block that was taken is one of the table's
pub taken_below : (old new : Table) (before after : BlockList) (block : ℕ) → Takes old new before after (block ∷ []) → block < old.blocks
taken_below old new before after block takes =
    omega (
      arith,
      takes.blocks,
      takes.own.sound.below block
          (omega (arith, ap (times block) takes.list, times-append block (blocks_of old before) (block ∷ []), times_head block [])),
    )

-- what was taken was free
pub taken_free : (old new : Table) (before after : BlockList) (xs : List ℕ) → Takes old new before after xs → (block : ℕ) → 0 < times block xs → 0 < times block old.free
taken_free old new before after xs takes block some = omega (arith, some, ap (times block) takes.free, times-append block xs new.free)
