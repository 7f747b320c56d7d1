use Rattle.site_layouts.specs.ChunkLaws.{lane_has_header, lane_has_pages}
use Rattle.site_layouts.proofs.laws.a_lane_has_its_header_and_pages.Goals as goal

pub returns-clause-header : goal.returns-clause-header
returns-clause-header c = lane_has_header

pub returns-clause-pages : goal.returns-clause-pages
returns-clause-pages c = lane_has_pages
