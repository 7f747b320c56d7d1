use Rattle.std.proofs.Common.{◌∙◌, ap, arith}
use Rattle.std.proofs.lemmas.Bool.{both_ways}
use Rattle.site_disk.specs.Bytes.{extent}
use Rattle.site_headers.specs.Headers.{spare_tail}
use Rattle.site_headers.specs.HeaderLaws.{length-spare_tail}
use Rattle.catalogue_replay.proofs.HeadLemmas.{page_has, file_has, is_header}
use Rattle.catalogue_replay.proofs.reading.has_spare_header.Goals as goal

pub returns-then-found-clause-header : goal.returns-then-found-clause-header
returns-then-found-clause-header g c tells =
    let page = c.in_ok-found.ensures.page tells c.if-found.true ∙ ap (extent 0 4096) c.in_ok-sync.ensures.bytes in (
      λ is. page_has (spare_tail c.args.site) _ _ (omega arith) page (c.is_spare_header.ensures.0 is),
      λ has. c.is_spare_header.ensures.1 (file_has (spare_tail c.args.site) _ _ (omega arith) page has),
    )

pub returns-else-found-clause-header : goal.returns-else-found-clause-header
returns-else-found-clause-header g c tells = (
  λ is. absurd (both_ways c.in_ok-found.found c.if-found.false is),
  λ has. absurd (both_ways c.in_ok-found.found c.if-found.false ((c.in_ok-found.ensures.header tells).1
      (rw c.in_ok-sync.ensures.bytes (is_header (spare_tail c.args.site) _ (length-spare_tail c.args.site) has)))),
)
