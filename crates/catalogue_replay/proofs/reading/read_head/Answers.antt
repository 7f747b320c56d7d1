use Rattle.std.proofs.Common.{arith}
use Rattle.std.proofs.lemmas.Bool.{both_ways}
use Rattle.site_headers.specs.Headers.{catalogue_tail}
use Rattle.site_headers.specs.HeaderLaws.{length-catalogue_tail}
use Rattle.site_headers.specs.Views.{head_of}
use Rattle.catalogue_replay.proofs.HeadLemmas.{page_has, file_has, is_header}
use Rattle.catalogue_replay.proofs.ReadingLemmas.{ok_value}
use Rattle.catalogue_replay.proofs.reading.read_head.Goals as goal

pub returns-then-not-branch-clause-none : goal.returns-then-not-branch-clause-none
returns-then-not-branch-clause-none g c tells same head is has =
    let header = ok_value _ _ _ c.header_read.result c.in_ok-map_err.field-0 c.in_ok-map_err.ensures.cases c.in_ok-map_err.ensures.variant (c.header_read.ensures.header tells) in
    absurd (both_ways c.in_ok-map_err.field-0 c.if-not-branch.true (header.1 (is_header (catalogue_tail head) _ (length-catalogue_tail head is) has)))

pub returns-in-Ok-Some-clause-head : goal.returns-in-Ok-Some-clause-head
returns-in-Ok-Some-clause-head g c tells =
    let page = ok_value _ _ _ c.header_read.result c.in_ok-map_err.field-0 c.in_ok-map_err.ensures.cases c.in_ok-map_err.ensures.variant (c.header_read.ensures.page tells) in
    let found = rw c.in-Ok-Some.field-0-is at c.in-Ok-Some.ensures.found in
    record {
      is_head = found.0;
      header = page_has (catalogue_tail (head_of c.in-Ok-Some.head)) _ _ (omega arith) (page c.if-not-branch.false) found.1;
    }

pub returns-in-Ok-None-clause-none : goal.returns-in-Ok-None-clause-none
returns-in-Ok-None-clause-none g c tells same head is has =
    let page = ok_value _ _ _ c.header_read.result c.in_ok-map_err.field-0 c.in_ok-map_err.ensures.cases c.in_ok-map_err.ensures.variant (c.header_read.ensures.page tells) in
    let only = c.in-Ok-None.ensures.only head is (file_has (catalogue_tail head) _ _ (omega arith) (page c.if-not-branch.false) has) in
    absurd (rw c.in-Ok-None.field-0-is at only)

pub returns-in-Err-clause-starved : goal.returns-in-Err-clause-starved
returns-in-Err-clause-starved g c tells none =
    let header = ok_value _ _ _ c.header_read.result c.in_ok-map_err.field-0 c.in_ok-map_err.ensures.cases c.in_ok-map_err.ensures.variant (c.header_read.ensures.header tells) in
    header.0 c.if-not-branch.false
