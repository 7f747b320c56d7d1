use Rattle.site_layouts.specs.LogLaws.{move_shows, moves_show, format_shows}
use Rattle.site_layouts.proofs.laws.a_call_of_the_log_makes_its_moves.Goals as goal

pub returns-clause-one : goal.returns-clause-one
returns-clause-one c = move_shows

pub returns-clause-way : goal.returns-clause-way
returns-clause-way c = moves_show

pub returns-clause-format : goal.returns-clause-format
returns-clause-format c = format_shows
