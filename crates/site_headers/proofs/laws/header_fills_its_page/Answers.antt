use Rattle.site_headers.specs.HeaderLaws.{length-log_tail, length-spare_tail, length-volume_tail, length-catalogue_tail}
use Rattle.site_headers.proofs.laws.header_fills_its_page.Goals as goal

pub returns : goal.returns
returns c = record { log = length-log_tail; spare = length-spare_tail; volume = length-volume_tail; catalogue = length-catalogue_tail }
