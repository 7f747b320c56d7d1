use Rattle.std.proofs.Common.{true, refl}
use Rattle.std.proofs.lemmas.Bool.{both_ways}
use Rattle.std.proofs.lemmas.Result.{err_from_is_err_and}
use Rattle.site_headers.specs.Headers.{catalogue_tail, spare_tail, HasHeader}
use Rattle.site_headers.specs.HeaderLaws.{length-catalogue_tail}
use Rattle.catalogue_replay.proofs.HeadLemmas.{is_header}
use Rattle.site_headers.specs.Views.{head_of}
use Rattle.catalogue_replay.specs.Places.{area_of}
use Rattle.catalogue_replay.specs.Replays.{contents_found}
use Rattle.catalogue_replay.specs.declared.faults.CatFault.TheVariants.{BadRecord, Failed}
use Rattle.catalogue_replay.proofs.ReadingLemmas.{journals_stay, bad_failed, bad_spare}
use Rattle.catalogue_journal.specs.Catalogues.{cat_of, spare_of, capacity_of}
use Rattle.catalogue_journal.proofs.catalogue.Catalogue.open.Goals as goal

pub returns-in_err-found-clause-bad : goal.returns-in_err-found-clause-bad
returns-in_err-found-clause-bad g c tells =
    let p = err_from_is_err_and c.from_residual.result c.from_residual.ensures.1 in
    rw (p.1, p.2) (c.in_err-found.ensures.bad (g.D.Disk.bytes (spare_of c.args.self.now)) tells)

pub returns-in_err-has_header-clause-bad : goal.returns-in_err-has_header-clause-bad
returns-in_err-has_header-clause-bad g c tells =
    let p = err_from_is_err_and c.from_residual-in_err-has_header.result c.from_residual-in_err-has_header.ensures.1 in
    rw (p.1, p.2)
    (bad_failed (area_of (capacity_of c.args.self.now)) (g.D.Disk.bytes (cat_of c.args.self.now)) (g.D.Disk.bytes (spare_of c.args.self.now)) true c.in_err-has_header.field-0.0 c.in_err-has_header.ensures.fault)

pub returns-in_err-has_header-clause-starved : goal.returns-in_err-has_header-clause-starved
returns-in_err-has_header-clause-starved g c tells starved =
    let head = head_of c.in_ok-found.found.head in
    let has = c.in_ok-found.ensures.head tells in
    is_header (catalogue_tail head) (g.D.Disk.bytes (cat_of c.args.self.now)) (length-catalogue_tail head has.is_head) has.header

pub returns-clause-head : goal.returns-clause-head
returns-clause-head g c tells = let has = c.in_ok-found.ensures.head tells in (has.is_head, has.header)

pub returns-then-not-has_header-clause-bad : goal.returns-then-not-has_header-clause-bad
returns-then-not-has_header-clause-bad g c tells =
    let bytes = g.D.Disk.bytes (cat_of c.args.self.now) in
    let spare = g.D.Disk.bytes (spare_of c.args.self.now) in
    let head = head_of c.in_ok-found.found.head in
    let header = c.in_ok-has_header.ensures.header tells in
    bad_spare (area_of (capacity_of c.args.self.now)) bytes spare head (contents_found c.in_ok-found.found) (c.in_ok-found.ensures.head tells) (c.in_ok-found.ensures.named tells)
    (c.in_ok-found.ensures.journal tells) (λ (has : HasHeader (spare_tail head.site) spare). both_ways c.in_ok-has_header.has_header c.if-not-has_header.true (header.1 has))

pub returns-clause-spare : goal.returns-clause-spare
returns-clause-spare g c tells =
    let header = c.in_ok-has_header.ensures.header tells in
    header.0 c.if-not-has_header.false

pub returns-clause-stands : goal.returns-clause-stands
returns-clause-stands g c tells =
    let new = g.D.Disk.bytes c.read_catalogue.new.disk in
    let area = area_of (capacity_of c.args.self.now) in
    let contents = contents_found c.in_ok-found.found in
    let now = journals_stay area area contents (g.D.Disk.bytes (cat_of c.args.self.now)) new refl c.in_ok-found.ensures.bytes (c.in_ok-found.ensures.journal tells) in
    record {
      agrees = c.in_ok-found.ensures.agrees tells;
      now = now;
      later = λ f image lt is. journals_stay area area contents new image refl (c.in_ok-found.ensures.durable tells f image lt is) now;
    }
