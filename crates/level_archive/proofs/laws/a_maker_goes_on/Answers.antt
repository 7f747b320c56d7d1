use Rattle.level_archive.specs.MakingLaws.{head_is_given, none_is_left, page_is_given, page_is_passed}
use Rattle.level_archive.proofs.laws.a_maker_goes_on.Goals as goal

pub returns : goal.returns
returns c = record { head = head_is_given; given = page_is_given; passed = page_is_passed; end = none_is_left }
