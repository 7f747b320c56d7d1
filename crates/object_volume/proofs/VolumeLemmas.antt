-- A volume's tables, and what stays live.
use Rattle.std.proofs.Common.{◌≡◌, ℕ, ◌<◌, ◌≤◌, Bool, List, refl, arith, ap, ◌∙◌, subst, ⊎_elim, Option, Some, None}
use Rattle.std.proofs.lemmas.Bool.{cases_lt}
use Rattle.block_chain.specs.Blocks.{times, AreApart}
use Rattle.block_chain.specs.BlocksLaws.{times-append}
use Rattle.block_chain.specs.Table.{Table, blocks_of, IsListOf, AreListed, KeepsOthers}
use Rattle.block_chain.specs.declared.lists.BlockList.{BlockList}
use Rattle.object_volume.specs.declared.sending.Sending.{Sending}
use Rattle.object_volume.specs.Taking.{Takes}
use Rattle.object_volume.specs.Sending.{IsSent}
use Rattle.object_volume.specs.Volumes.{table_or_none, blocks_or_none}

pub same_table : (chains : Option Table) (table : Table) → chains ≡ Some table → table_or_none chains ≡ table
same_table chains table is = ap table_or_none is

-- a list that a call keeps
module _ (old new : Table) (own : List ℕ) (others : KeepsOthers old new own) where
  pub kept_listed : (xs : List ℕ) → AreListed old xs → AreApart own xs → AreListed new xs
  kept_listed xs listed apart =
      let kept = others listed.0 listed.1 (λ block some. ap (times block) listed.2 ∙ apart block some) in
      (listed.0, kept.0, kept.1 ∙ listed.2)

  pub kept_sent : (object : Option Sending) → ((o : Sending) → object ≡ Some o → IsListOf old o.list) → AreApart own (blocks_or_none old object)
      → blocks_or_none new object ≡ blocks_or_none old object
  kept_sent None are apart = refl
  kept_sent (Some o) are apart = (others o.list (are o refl) apart).1

  pub kept_own : (object : Option Sending) → ((o : Sending) → object ≡ Some o → IsListOf old o.list) → AreApart own (blocks_or_none old object)
      → (o : Sending) → object ≡ Some o → IsListOf new o.list
  kept_own object are apart o is = (others o.list (are o is) (subst (λ (x : Option Sending). AreApart own (blocks_or_none old x)) is apart)).0

  pub kept_is_sent : {tells : Bool} {file part message : List ℕ} {object : Sending} → IsSent tells file old object part message → AreApart own (blocks_of old object.list)
      → IsSent tells file new object part message
  kept_is_sent {object = object} sent apart =
      let kept = others object.list sent.stored.own apart in
      let stored = sent.stored in
      record {
        stored = record {
          full = stored.full;
          front = stored.front;
          rest = stored.rest;
          parts = stored.parts;
          even = stored.even;
          few = stored.few;
          own = kept.0;
          blocks = kept.1 ∙ stored.blocks;
          kept = stored.kept;
          stands = stored.stands;
        };
        hashed = sent.hashed;
        size = sent.size;
        reached = sent.reached;
      }

-- a live object where an object that is being sent grows
module _ (old new : Table) (before after : BlockList) (taken : List ℕ) (takes : Takes old new before after taken) (xs : List ℕ) (listed : AreListed old xs) (apart : AreApart (blocks_of old before) xs) where
  pub live_listed : AreListed new xs
  live_listed = kept_listed old new (blocks_of old before) takes.others xs listed apart

  pub live_apart : AreApart (blocks_of new after) xs
  live_apart block some = ⊎_elim
      (λ (here : 0 < times block (blocks_of old before)). apart block here)
      (λ (none : times block (blocks_of old before) ≤ 0). ⊎_elim
      (λ (both : 0 < times block xs). absurd (omega (
        arith,
        some,
        none,
        ap (times block) takes.list,
        times-append block (blocks_of old before) taken,
        ap (times block) takes.free,
        times-append block taken new.free,
        free_not block both,
      )))
      (λ (not : times block xs ≤ 0). omega (arith, not))
      (cases_lt 0 (times block xs)))
      (cases_lt 0 (times block (blocks_of old before)))
    where
      free_not : (block : ℕ) → 0 < times block xs → times block old.free ≡ 0
      free_not block both = listed.1.taken block (omega (arith, both, ap (times block) listed.2))
