use Rattle.level_archive.specs.ReadingLaws.{begins_to_read, next_is_read, reads_on}
use Rattle.level_archive.proofs.laws.a_reader_goes_on.Goals as goal

pub returns-clause-begins : goal.returns-clause-begins
returns-clause-begins c = begins_to_read

pub returns-clause-gives : goal.returns-clause-gives
returns-clause-gives c = reads_on

pub returns-clause-next : goal.returns-clause-next
returns-clause-next c = next_is_read
