use Rattle.std.proofs.Common.{◌++◌}
use Rattle.plain_pages.specs.Page.{page_of}
use Rattle.space_pages.proofs.DigestLemmas.{hashed_page}
use Rattle.space_pages.proofs.digests.hash_page.Goals as goal

pub returns : goal.returns
returns c =
    λ message holds.
    hashed_page c.update-2.new.self c.args.space c.args.number (page_of c.args.page.now) message c.header.result c.header.ensures
    (c.update-2.ensures (message ++ c.header.result) (c.update.ensures message holds))
