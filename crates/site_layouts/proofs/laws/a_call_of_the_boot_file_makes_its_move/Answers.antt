use Rattle.site_layouts.specs.BootLaws.{begin_moves, end_moves, lines_move, prepared_moves}
use Rattle.site_layouts.proofs.laws.a_call_of_the_boot_file_makes_its_move.Goals as goal

pub returns-clause-lines : goal.returns-clause-lines
returns-clause-lines c = lines_move

pub returns-clause-begins : goal.returns-clause-begins
returns-clause-begins c = begin_moves

pub returns-clause-prepared : goal.returns-clause-prepared
returns-clause-prepared c = prepared_moves

pub returns-clause-ends : goal.returns-clause-ends
returns-clause-ends c = end_moves
