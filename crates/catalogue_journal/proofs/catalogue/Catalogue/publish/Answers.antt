use Rattle.site_headers.specs.Headers.{catalogue_tail}
use Rattle.site_headers.specs.HeaderLaws.{length-catalogue_tail}
use Rattle.site_headers.specs.Views.{head_of}
use Rattle.catalogue_journal.proofs.FormatLemmas.{header_there, mark_stays, journal_stays}
use Rattle.catalogue_journal.proofs.catalogue.Catalogue.publish.Goals as goal

pub returns-in-Ok-clause-header : goal.returns-in-Ok-clause-header
returns-in-Ok-clause-header g c tells =
    let head = head_of c.args.head.now in
    header_there (catalogue_tail head) (g.D.Disk.bytes c.args.self.now.cat) (g.D.Disk.bytes c.write_head.new.disk) (length-catalogue_tail head c.requires.head) (c.in-Ok.ensures.written tells)

pub returns-in-Ok-clause-journal : goal.returns-in-Ok-clause-journal
returns-in-Ok-clause-journal g c tells contents =
    let head = head_of c.args.head.now in
    journal_stays (catalogue_tail head) (g.D.Disk.bytes c.args.self.now.cat) (g.D.Disk.bytes c.write_head.new.disk) (length-catalogue_tail head c.requires.head) (c.in-Ok.ensures.written tells)
    c.args.self.now.capacity contents

pub returns-in-Ok-clause-mark : goal.returns-in-Ok-clause-mark
returns-in-Ok-clause-mark g c tells =
    let head = head_of c.args.head.now in
    mark_stays (catalogue_tail head) (g.D.Disk.bytes c.args.self.now.cat) (g.D.Disk.bytes c.write_head.new.disk) (length-catalogue_tail head c.requires.head) (c.in-Ok.ensures.written tells)
