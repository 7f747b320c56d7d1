use Rattle.site_headers.specs.HeaderLaws.{HasHeader-same, length-HasHeader, HasHeader-extent, extent-HasHeader}
use Rattle.site_headers.proofs.laws.header_is_the_first_page.Goals as goal

pub returns : goal.returns
returns c = record { stays = HasHeader-same; within = length-HasHeader; opened = HasHeader-extent; page = extent-HasHeader }
