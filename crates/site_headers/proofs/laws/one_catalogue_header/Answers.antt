use Rattle.site_headers.specs.HeaderLaws.{one_catalogue_header}
use Rattle.site_headers.proofs.laws.one_catalogue_header.Goals as goal

pub returns : goal.returns
returns c = one_catalogue_header
