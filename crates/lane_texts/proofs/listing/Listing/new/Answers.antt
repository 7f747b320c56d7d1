use Rattle.std.proofs.Common.{refl}
use Rattle.page_texts.specs.Texts.{used_lines}
use Rattle.lane_texts.proofs.listing.Listing.new.Goals as goal

pub returns-clause-lists : goal.returns-clause-lists
unfolding used_lines
returns-clause-lists c space name = record { lines = c.new.ensures.bytes; holds = c.new-2.ensures; count = refl }
