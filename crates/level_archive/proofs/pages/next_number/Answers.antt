use Rattle.std.proofs.lemmas.Bool.{both_ways}
use Rattle.level_archive.proofs.PageLemmas.{entry_found, may_not_stand, no_page_of}
use Rattle.level_archive.proofs.pages.next_number.Goals as goal

pub returns-then-not-is_page_of-clause-none : goal.returns-then-not-is_page_of-clause-none
returns-then-not-is_page_of-clause-none c =
    no_page_of c.args.head.now c.args.pages c.args.from c.args.block.now
    (λ is. both_ways c.is_page_of.result c.if-not-is_page_of.true (c.is_page_of.ensures.1 is))

pub returns-then-may_stand-clause-found : goal.returns-then-may_stand-clause-found
returns-then-may_stand-clause-found c =
    entry_found c.args.head.now c.args.pages c.args.from c.u32_at-number.result c.stamp_of-stamp.result c.args.block.now
    (c.is_page_of.ensures.0 c.if-not-is_page_of.false) c.u32_at-number.ensures.found c.stamp_of-stamp.ensures.found
    (c.may_stand.ensures.0 c.if-may_stand.true)

pub returns-else-may_stand-clause-none : goal.returns-else-may_stand-clause-none
returns-else-may_stand-clause-none c =
    may_not_stand c.args.head.now c.args.pages c.args.from c.u32_at-number.result c.stamp_of-stamp.result c.args.block.now
    c.ranges.pages.fits c.u32_at-number.ensures.number c.stamp_of-stamp.ensures.number
    (λ stands. both_ways c.may_stand.result c.if-may_stand.false (c.may_stand.ensures.1 stands))
