use Rattle.std.proofs.Common.{◌≡◌, List, ℕ, ap, sym, subst, ◌∙◌}
use Rattle.std.proofs.lemmas.Bool.{both_ways}
use Rattle.site_disk.specs.Bytes.{Same, extent}
use Rattle.site_disk.specs.CallsLaws.{then_same}
use Rattle.site_headers.specs.Headers.{HasHeader}
use Rattle.space_lane.specs.Chunks.{chunk_tail}
use Rattle.space_lane.proofs.HeaderLemmas.{header_is, header_of_page, length-chunk_tail, page_of_header}
use Rattle.space_lane.proofs.StateLemmas.{only_still}
use Rattle.space_lane.proofs.header.has_header.Goals as goal

pub returns-then-not-found-clause-found : goal.returns-then-not-found-clause-found
returns-then-not-found-clause-found g c tells =
    let tail = chunk_tail c.args.site c.args.space c.args.pages in
    let same : g.D.Disk.bytes c.sync.new.self ≡ g.D.Disk.bytes c.args.disk.now = c.in_ok-sync.ensures.bytes in (
      λ never. cc,
      λ has. absurd (both_ways c.in_ok-found.found c.if-not-found.true
          ((c.in_ok-found.ensures.header tells).1
          (header_is tail (g.D.Disk.bytes c.sync.new.self) (length-chunk_tail c.args.site c.args.space c.args.pages) (subst (HasHeader tail) (sym same) has)))),
    )

pub returns-clause-found : goal.returns-clause-found
returns-clause-found g c tells =
    let tail = chunk_tail c.args.site c.args.space c.args.pages in
    let page = c.header_read.new.into in
    let bytes = g.D.Disk.bytes c.args.disk.now in
    let same : g.D.Disk.bytes c.sync.new.self ≡ bytes = c.in_ok-sync.ensures.bytes in
    let is : page ≡ extent 0 4096 bytes = c.in_ok-found.ensures.page tells c.if-not-found.false ∙ ap (λ (l : List ℕ). extent 0 4096 l) same in (
      λ is_one. header_of_page tail bytes page is (c.is_header.ensures.0 is_one),
      λ has. c.is_header.ensures.1 (page_of_header tail bytes page is has),
    )

pub returns-clause-durable : goal.returns-clause-durable
returns-clause-durable g c tells =
    only_still c.args.era.now.number (g.D.Disk.bytes c.sync.new.self) (g.D.Disk.bytes c.header_read.new.disk) (g.D.Disk.image c.sync.new.self) (g.D.Disk.image c.header_read.new.disk)
    (c.in_ok-sync.ensures.durable tells) c.in_ok-found.ensures.images c.in_ok-found.ensures.bytes

pub returns-then-not-found-clause-durable : goal.returns-then-not-found-clause-durable
returns-then-not-found-clause-durable g c tells =
    only_still c.args.era.now.number (g.D.Disk.bytes c.sync.new.self) (g.D.Disk.bytes c.header_read.new.disk) (g.D.Disk.image c.sync.new.self) (g.D.Disk.image c.header_read.new.disk)
    (c.in_ok-sync.ensures.durable tells) c.in_ok-found.ensures.images c.in_ok-found.ensures.bytes

pub returns-clause-crash : goal.returns-clause-crash
returns-clause-crash g c =
    then_same Same c.args.era.now.number (g.D.Disk.image c.args.disk.now) (g.D.Disk.image c.sync.new.self) (g.D.Disk.image c.header_read.new.disk) c.sync.ensures.crash c.header_read.ensures.crash

pub returns-then-not-found-clause-crash : goal.returns-then-not-found-clause-crash
returns-then-not-found-clause-crash g c =
    then_same Same c.args.era.now.number (g.D.Disk.image c.args.disk.now) (g.D.Disk.image c.sync.new.self) (g.D.Disk.image c.header_read.new.disk) c.sync.ensures.crash c.header_read.ensures.crash

pub returns-in_err-found-clause-crash : goal.returns-in_err-found-clause-crash
returns-in_err-found-clause-crash g c =
    then_same Same c.args.era.now.number (g.D.Disk.image c.args.disk.now) (g.D.Disk.image c.sync.new.self) (g.D.Disk.image c.header_read.new.disk) c.sync.ensures.crash c.header_read.ensures.crash
