use Rattle.std.proofs.Common.{◌≡◌, ℕ, List, arith, ap, sym, subst, ◌∙◌}
use Rattle.site_disk.specs.Bytes.{Torn}
use Rattle.site_disk.specs.Images.{Leaves}
use Rattle.before_images.specs.Saved.{place_of}
use Rattle.lane_ways.specs.Pictures.{pages_at}
use Rattle.level_archive.specs.declared.head.ImageHead.{ImageHead}
use Rattle.level_archive.specs.Reading.{HasEntry}
use Rattle.space_lane.specs.Lanes.{count_of, disk_of as chunk_of, space_of}
use Rattle.object_volume.specs.Cursors.{offset_of}
use Rattle.object_volume.specs.Volumes.{disk_of}
use Rattle.lane_restore.specs.Images.{block_from}
use Rattle.lane_restore.proofs.PageLemmas.{is_page, own_number}
use Rattle.lane_restore.proofs.merging.merge_entry.Goals as goal

pub put_page-requires-clause-bytes : goal.put_page-requires-clause-bytes
put_page-requires-clause-bytes g c =
    let given = c.in-Some.ensures.given in
    is_page c.args.reader.now.head c.args.reader.now.pages c.args.reader.now.from (space_of c.args.lane.now) c.in-Some.page c.read_block.new.block
    (ap (λ (h : ImageHead). h.space) c.requires.head ∙ c.requires.space) c.read_block.auto.block given.has

pub returns-in_default-next_page-clause-unsound : goal.returns-in_default-next_page-clause-unsound
returns-in_default-next_page-clause-unsound g c tells is number takes =
    let reader = c.args.reader.now in
    let read : c.read_block.new.block ≡ block_from c.args.image.now (offset_of c.args.cursor.now) (g.D.Disk.bytes (disk_of c.args.volume.now)) =
    c.in-Ok.ensures.found tells c.if-not-is_whole.false in
    c.in_default-next_page.ensures.none number
    (subst (λ (l : List ℕ). HasEntry reader.head reader.pages reader.from l number) (sym read)
    (subst (λ (h : ImageHead). HasEntry h reader.pages reader.from (block_from c.args.image.now (offset_of c.args.cursor.now) (g.D.Disk.bytes (disk_of c.args.volume.now))) number) (sym c.requires.head) takes.has))

pub returns-in-Ok-put_page-clause-crash : goal.returns-in-Ok-put_page-clause-crash
returns-in-Ok-put_page-clause-crash g c tells number long has =
    let given = c.in-Some.ensures.given in
    let read : c.read_block.new.block ≡ block_from c.args.image.now (offset_of c.args.cursor.now) (g.D.Disk.bytes (disk_of c.args.volume.now)) =
    c.in-Ok.ensures.found tells c.if-not-is_whole.false in
    let own : number ≡ c.in-Some.page = own_number c.args.image.now.head (count_of c.args.lane.now) c.args.reader.now
    (block_from c.args.image.now (offset_of c.args.cursor.now) (g.D.Disk.bytes (disk_of c.args.volume.now))) c.read_block.new.block c.in-Some.page number
    c.requires.few c.requires.head c.requires.pages read given.has has in
    subst (λ (n : ℕ). Leaves c.args.era.now.number (Torn (place_of pages_at n) 4096) (g.D.Disk.image (chunk_of c.args.lane.now)) (g.D.Disk.image (chunk_of c.put_page.new.self))) (sym own)
    (c.put_page.ensures.crash tells (omega (arith, given.has.stands.within, given.has.number_is, c.requires.pages, long)))

pub returns-in-Err-clause-crash : goal.returns-in-Err-clause-crash
returns-in-Err-clause-crash g c tells number long has =
    let given = c.in-Some.ensures.given in
    let read : c.read_block.new.block ≡ block_from c.args.image.now (offset_of c.args.cursor.now) (g.D.Disk.bytes (disk_of c.args.volume.now)) =
    c.in-Ok.ensures.found tells c.if-not-is_whole.false in
    let own : number ≡ c.in-Some.page = own_number c.args.image.now.head (count_of c.args.lane.now) c.args.reader.now
    (block_from c.args.image.now (offset_of c.args.cursor.now) (g.D.Disk.bytes (disk_of c.args.volume.now))) c.read_block.new.block c.in-Some.page number
    c.requires.few c.requires.head c.requires.pages read given.has has in
    subst (λ (n : ℕ). Leaves c.args.era.now.number (Torn (place_of pages_at n) 4096) (g.D.Disk.image (chunk_of c.args.lane.now)) (g.D.Disk.image (chunk_of c.put_page.new.self))) (sym own)
    (c.put_page.ensures.crash tells (omega (arith, given.has.stands.within, given.has.number_is, c.requires.pages, long)))
