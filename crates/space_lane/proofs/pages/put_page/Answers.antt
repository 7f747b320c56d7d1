use Rattle.std.proofs.Common.{◌≡◌, ◌-◌, ℕ, length, min, arith}
use Rattle.site_disk.specs.Bytes.{Torn}
use Rattle.site_disk.specs.BytesLaws.{torn_wider}
use Rattle.site_disk.specs.CallsLaws.{from_unchanged}
use Rattle.site_disk.specs.ImagesLaws.{weaker}
use Rattle.before_images.specs.Saved.{place_of}
use Rattle.lane_ways.specs.Pictures.{pages_at}
use Rattle.space_lane.proofs.pages.put_page.Goals as goal

pub returns-in_err-extend_to-clause-crash : goal.returns-in_err-extend_to-clause-crash
returns-in_err-extend_to-clause-crash g c tells long =
    let place : ℕ = place_of pages_at c.args.page in
    let at : c.place_of-place.result ≡ place = c.place_of-place.ensures in
    let first : ℕ = min c.place_of-place.result (length (g.D.Disk.bytes c.args.disk.now)) in
    let n : ℕ = c.place_of-place.result - first in
    let old = g.D.Disk.image c.args.disk.now in
    weaker (Torn place 4096) (Torn first n) c.args.era.now.number old old (g.D.Disk.image c.extend_to.new.disk) (c.extend_to.ensures.crash tells)
    (λ f d b lt image torn. torn_wider first n place 4096 d b (omega (arith, at, long)) (omega (arith, at, long)) torn)

pub returns-clause-crash : goal.returns-clause-crash
returns-clause-crash g c tells long =
    let e = c.args.era.now.number in
    let place : ℕ = place_of pages_at c.args.page in
    let at : c.place_of-place.result ≡ place = c.place_of-place.ensures in
    let size : length c.args.bytes.now ≡ 4096 = omega arith in
    let mid = g.D.Disk.image c.extend_to.new.disk in
    let new = g.D.Disk.image c.write_at.new.self in
    from_unchanged (Torn place 4096) e (g.D.Disk.image c.args.disk.now) mid new (c.extend_to.ensures.images tells (omega (arith, at, long)))
    (weaker (Torn place 4096) (Torn c.place_of-place.result (length c.args.bytes.now)) e mid mid new c.write_at.ensures.crash
    (λ f d b lt image torn. torn_wider c.place_of-place.result (length c.args.bytes.now) place 4096 d b (omega (arith, at)) (omega (arith, at, size)) torn))
