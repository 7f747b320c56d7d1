use Rattle.std.proofs.Common.{◌≡◌, ℕ, List, true}
use Rattle.level_archive.specs.declared.reader.ImageFault.{ImageFault}
use Rattle.level_archive.specs.declared.reader.ImageFault.TheVariants.{BadHead, BadEntry}
use Rattle.level_archive.specs.Reading.{HasEntry, Reading, Refuses}
use Rattle.lane_restore.proofs.merging.next_page.Goals as goal

-- a block that is refused behind the head is no entry's that may come next
no_entry : (old : Reading) (block : List ℕ) (fault : ImageFault) → old.is_begun ≡ true → Refuses old block fault
    → (number : ℕ) → HasEntry old.head old.pages old.from block number → ⊥
no_entry old block BadHead begun refuses number has = cc (refuses.first, begun)
no_entry old block (BadEntry entry) begun refuses number has = refuses.1.other number has

pub returns-in-Err-clause-none : goal.returns-in-Err-clause-none
returns-in-Err-clause-none c number has = no_entry c.args.reader.now c.args.block.now c.in-Err.field-0 c.requires c.in-Err.ensures.cause number has
