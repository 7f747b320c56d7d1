use Rattle.std.proofs.Common.{arith}
use Rattle.level_archive.specs.ReadingLaws.{entries_may_follow, size_of_entries}
use Rattle.level_archive.proofs.laws.the_entries_of_pages_are_read.Goals as goal

pub returns-clause-follow : goal.returns-clause-follow
returns-clause-follow c head pages known = entries_may_follow head _ 0 pages (omega arith) known

pub returns-clause-size : goal.returns-clause-size
returns-clause-size c = size_of_entries
