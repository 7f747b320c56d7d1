use Rattle.std.proofs.Common.{◌∙◌, ap}
use Rattle.site_disk.specs.Bytes.{extent}
use Rattle.object_volume.proofs.EndingLemmas.{volume_on_disk, volume_on_page, volume_has_header}
use Rattle.object_volume.proofs.volume.blocks_named.Goals as goal

pub returns-then-branch-clause-found : goal.returns-then-branch-clause-found
returns-then-branch-clause-found g c tells =
    volume_on_disk c.args.number c.args.site c.header_read.new.into (g.D.Disk.bytes c.args.disk.now) c.read_volume_header.result
    (c.in_ok-header_read.ensures.page tells c.if-branch.true ∙ ap (extent 0 4096) c.in_ok-sync.ensures.bytes) c.read_volume_header.ensures.found

pub returns-then-branch-clause-only : goal.returns-then-branch-clause-only
returns-then-branch-clause-only g c tells blocks has =
    c.read_volume_header.ensures.only blocks has.size
    (volume_on_page c.args.number c.args.site blocks c.header_read.new.into (g.D.Disk.bytes c.args.disk.now)
    (c.in_ok-header_read.ensures.page tells c.if-branch.true ∙ ap (extent 0 4096) c.in_ok-sync.ensures.bytes) has)

pub returns-else-branch-clause-only : goal.returns-else-branch-clause-only
returns-else-branch-clause-only g c tells blocks has =
    cc (c.if-branch.false, (c.in_ok-header_read.ensures.header tells).1 (volume_has_header c.args.number c.args.site blocks (g.D.Disk.bytes c.sync.new.self) (g.D.Disk.bytes c.args.disk.now) c.in_ok-sync.ensures.bytes has))
