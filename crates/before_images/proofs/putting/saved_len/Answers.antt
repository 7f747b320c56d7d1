use Rattle.std.proofs.Common.{take, arith, ap, sym, ◌∙◌}
use Rattle.site_disk.specs.Bytes.{extent}
use Rattle.before_images.specs.Saved.{u64_at, u32_at, applies}
use Rattle.before_images.specs.RegionLaws.{unlisted, listed_cut, listed_whole, listed_some}
use Rattle.before_images.specs.RestoredLaws.{listed_here}
use Rattle.before_images.proofs.putting.saved_len.Goals as goal

pub returns-in_default-clause-applies : goal.returns-in_default-clause-applies
returns-in_default-clause-applies c =
    let head = take 4096 c.args.region.now in
    sym (ap (applies c.args.limit c.args.from.0 c.args.from.1) (unlisted head (extent 4096 65536 c.args.region.now) (sym c.list_len.ensures.count ∙ c.in_default.is)))

pub returns-then-region-count-clause-applies : goal.returns-then-region-count-clause-applies
returns-then-region-count-clause-applies c =
    sym (ap (applies c.args.limit c.args.from.0 c.args.from.1) (listed_cut c.in-Some.count c.args.region.now (sym c.list_len.ensures.count ∙ c.in-Some.is) (omega (arith, c.if-region-count.true))))

pub returns-then-applies_to-clause-applies : goal.returns-then-applies_to-clause-applies
returns-then-applies_to-clause-applies c =
    let there = listed_whole c.in-Some.count c.args.region.now (sym c.list_len.ensures.count ∙ c.in-Some.is) c.in-Some.ensures.few (omega (arith, c.if-region-count.false)) in
    sym (ap (applies c.args.limit c.args.from.0 c.args.from.1) there ∙ sym c.applies_to.ensures ∙ c.if-applies_to.true)

pub returns-else-applies_to-clause-applies : goal.returns-else-applies_to-clause-applies
returns-else-applies_to-clause-applies c =
    let there = listed_whole c.in-Some.count c.args.region.now (sym c.list_len.ensures.count ∙ c.in-Some.is) c.in-Some.ensures.few (omega (arith, c.if-region-count.false)) in
    sym (ap (applies c.args.limit c.args.from.0 c.args.from.1) there ∙ sym c.applies_to.ensures ∙ c.if-applies_to.false)

pub returns-then-applies_to-clause-saved : goal.returns-then-applies_to-clause-saved
returns-then-applies_to-clause-saved c =
    let region = c.args.region.now in
    let head = take 4096 region in
    listed_whole c.in-Some.count region (sym c.list_len.ensures.count ∙ c.in-Some.is) c.in-Some.ensures.few (omega (arith, c.if-region-count.false))
    ∙ listed_here c.args.limit c.args.from.0 c.args.from.1 (u64_at 16 head) (u32_at 24 head) c.in-Some.count region (sym c.applies_to.ensures ∙ c.if-applies_to.true)

pub returns-then-applies_to-clause-some : goal.returns-then-applies_to-clause-some
returns-then-applies_to-clause-some c = listed_some c.in-Some.count (take 4096 c.args.region.now) (sym c.list_len.ensures.count ∙ c.in-Some.is)
