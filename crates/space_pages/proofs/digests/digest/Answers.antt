use Rattle.plain_pages.specs.Page.{page_of}
use Rattle.space_pages.specs.Layout.{all_bytes}
use Rattle.space_pages.specs.Slots.{pages_in}
use Rattle.std.proofs.Common.{take}
use Rattle.space_pages.proofs.DigestLemmas.{hashed_more}
use Rattle.space_pages.proofs.digests.digest.Goals as goal

pub loop-i-preserved : goal.loop-i-preserved
loop-i-preserved c =
    hashed_more c.hash_page.new.hasher c.args.space c.args.first c.args.slots.now c.loop-i.i c.index-slots-i.result (page_of c.page_or.result.now)
    c.loop-i-test.true c.index-slots-i.is c.page_or.ensures
    (c.hash_page.ensures (all_bytes c.args.space c.args.first (pages_in (take c.loop-i.i c.args.slots.now))) c.loop-i.invariant)
