use Rattle.std.proofs.Common.{◌++◌, List, ℕ, ap, ◌∙◌, string_bytes}
use Rattle.space_pages.specs.Layout.{all_bytes}
use Rattle.lane_texts.proofs.ListingLemmas.{whole_text}
use Rattle.lane_texts.proofs.listing.Listing.finish.Goals as goal

pub returns : goal.returns
returns c space pages long lists =
    c.in_ok-push_str.ensures.bytes
    ∙ ap (λ (line : List ℕ). string_bytes c.args.self.text ++ line) (c.deref.ensures ∙ c.in_ok-line.ensures)
    ∙ whole_text space c.args.count c.args.self.used c.args.name.now (string_bytes c.args.self.text) c.finalize.result pages
    lists.lines long lists.count (c.finalize.ensures (all_bytes space 0 pages) lists.holds)
