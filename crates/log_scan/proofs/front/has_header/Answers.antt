use Rattle.std.proofs.lemmas.Bool.{both_ways}
use Rattle.site_headers.specs.Headers.{log_tail}
use Rattle.site_headers.specs.HeaderLaws.{length-log_tail}
use Rattle.log_scan.proofs.HeaderLemmas.{page_has, file_has, found_where_it_is}
use Rattle.log_scan.proofs.front.has_header.Goals as goal

pub returns-then-found-clause-header : goal.returns-then-found-clause-header
returns-then-found-clause-header g c tells =
    let page = c.in_ok-found.ensures.page tells c.if-found.true in (
      λ is. page_has (log_tail c.args.site) _ _ page (c.is_log_header.ensures.0 is),
      λ has. c.is_log_header.ensures.1 (file_has (log_tail c.args.site) _ _ page has),
    )

pub returns-else-found-clause-header : goal.returns-else-found-clause-header
returns-else-found-clause-header g c tells = (
  λ is. absurd (both_ways c.in_ok-found.found c.if-found.false is),
  λ has. absurd (found_where_it_is (log_tail c.args.site) _ _ (length-log_tail c.args.site) (c.in_ok-found.ensures.header tells) c.if-found.false has),
)
