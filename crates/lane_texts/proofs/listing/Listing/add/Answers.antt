use Rattle.std.proofs.Common.{◌≡◌, ◌<◌, ◌+◌, [], sym, ap, ◌∙◌, arith}
use Rattle.std.proofs.lemmas.List.{append-nil}
use Rattle.page_texts.specs.Texts.{page_line}
use Rattle.space_pages.specs.Layout.{all_bytes}
use Rattle.lane_texts.proofs.ListingLemmas.{its_count, its_line, lists_more, no_count, no_line}
use Rattle.lane_texts.proofs.PageLemmas.{stamp_of_bytes}
use Rattle.lane_texts.proofs.listing.Listing.add.Goals as goal

pub returns-then-stamp-eq0-clause-lists : goal.returns-then-stamp-eq0-clause-lists
returns-then-stamp-eq0-clause-lists c space pages page long fits is lists =
    let stamp : page.stamp ≡ 0 = sym (stamp_of_bytes space c.args.number c.u64_at-stamp.result c.args.bytes.now page c.u64_at-stamp.ensures.number fits is) ∙ c.if-stamp-eq0.true in
    lists_more space c.args.number c.args.name.now [] c.args.bytes.now pages page c.args.self.now
    (record { text = c.args.self.now.text; hasher = c.update.new.self; used = c.args.self.now.used }) long is
    (no_line c.args.name.now c.args.number page.stamp stamp) (sym (append-nil _)) (c.update.ensures (all_bytes space 0 pages) lists.holds)
    (no_count c.args.self.now.used page.stamp stamp) lists

pub returns-clause-lists : goal.returns-clause-lists
returns-clause-lists c space pages page long fits is lists =
    let same : c.u64_at-stamp.result ≡ page.stamp = stamp_of_bytes space c.args.number c.u64_at-stamp.result c.args.bytes.now page c.u64_at-stamp.ensures.number fits is in
    let some : 0 < page.stamp = omega (arith, same, c.if-stamp-eq0.false) in
    lists_more space c.args.number c.args.name.now c.deref.result.now c.args.bytes.now pages page c.args.self.now
    (record { text = c.push_str.new.self; hasher = c.update.new.self; used = c.args.self.now.used + 1 }) long is
    (c.deref.ensures ∙ c.in_ok-line.ensures ∙ ap (page_line c.args.name.now c.args.number) same ∙ its_line c.args.name.now c.args.number page.stamp some)
    c.in_ok-push_str.ensures.bytes (c.update.ensures (all_bytes space 0 pages) lists.holds)
    (its_count c.args.self.now.used page.stamp some) lists
