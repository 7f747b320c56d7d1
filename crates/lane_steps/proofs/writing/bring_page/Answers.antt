use Rattle.std.proofs.Common.{◌≡◌, ◌+◌, ◌≤◌, ◌∙◌, length}
use Rattle.site_disk.specs.Bytes.{extent}
use Rattle.site_disk.specs.CallsLaws.{on_ok}
use Rattle.before_images.specs.Saved.{place_of}
use Rattle.lane_ways.specs.Pictures.{pages_at}
use Rattle.lane_steps.proofs.WritingLemmas.{read_whole, written_there, written_torn}
use Rattle.lane_steps.proofs.writing.bring_page.Goals as goal

pub returns-clause-brought : goal.returns-clause-brought
returns-clause-brought g c tells lie page stands =
    let old = g.D.Disk.bytes c.args.disk.now in
    let reaches : place_of pages_at c.args.number + 4096 ≤ length old = c.requires.reaches tells in
    let read : c.read_at.new.into ≡ extent (place_of pages_at c.args.number) 4096 old =
    read_whole (place_of pages_at c.args.number) c.place_of-place.result _ c.read_at.new.into old c.place_of-place.ensures reaches c.read_at.auto.into (c.in_ok-read_at.ensures.count tells) (c.in_ok-read_at.ensures.found tells) in
    on_ok c.write_at.result
    (λ is. written_there (place_of pages_at c.args.number) c.place_of-place.result c.lay_all.new.page old (g.D.Disk.bytes c.read_at.new.self) (g.D.Disk.bytes c.write_at.new.self)
    c.place_of-place.ensures reaches c.lay_all.array_long c.in_ok-read_at.ensures.bytes is
    ∙ c.lay_all.ensures page (read ∙ stands) lie)
    (c.write_at.ensures.bytes tells)

pub returns-clause-others : goal.returns-clause-others
returns-clause-others g c tells =
    let old = g.D.Disk.bytes c.args.disk.now in
    on_ok c.write_at.result
    (λ is. written_torn (place_of pages_at c.args.number) c.place_of-place.result c.lay_all.new.page old (g.D.Disk.bytes c.read_at.new.self) (g.D.Disk.bytes c.write_at.new.self)
    c.place_of-place.ensures (c.requires.reaches tells) c.lay_all.array_long c.in_ok-read_at.ensures.bytes is)
    (c.write_at.ensures.bytes tells)
