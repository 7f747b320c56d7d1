use Rattle.std.proofs.Common.{◌≡◌, ◌+◌, ◌-◌, ◌*◌, ℕ, List, take, drop, arith, ap, sym, subst, ◌∙◌, length-take}
use Rattle.site_disk.specs.Bytes.{extent}
use Rattle.site_disk.specs.CallsLaws.{from_unchanged, then_same, leaves_nothing, on_ok}
use Rattle.before_images.specs.Saved.{numbers, laid, Within}
use Rattle.before_images.proofs.Copying.{within_none}
use Rattle.before_images.proofs.putting.put_and_sync.Goals as goal

pub returns-in_err-extend_to-clause-crash : goal.returns-in_err-extend_to-clause-crash
returns-in_err-extend_to-clause-crash g c tells limit some below long =
    let pages = numbers 0 c.args.count (take 4096 c.args.region.now) in
    leaves_nothing (Within c.args.pages_at limit pages) c.args.era.now.number (g.D.Disk.image c.args.disk.now) (g.D.Disk.image c.args.disk.now) (g.D.Disk.image c.extend_to.new.disk)
    (within_none c.args.pages_at limit pages) (c.extend_to.ensures.images tells (omega (arith, c.greatest.ensures.below limit some below, long)))

pub returns-in_err-put_pages-clause-crash : goal.returns-in_err-put_pages-clause-crash
returns-in_err-put_pages-clause-crash g c tells limit some below long =
    from_unchanged (Within c.args.pages_at limit (numbers 0 c.args.count (take 4096 c.args.region.now))) c.args.era.now.number
    (g.D.Disk.image c.args.disk.now) (g.D.Disk.image c.extend_to.new.disk) (g.D.Disk.image c.put_pages.new.disk)
    (c.extend_to.ensures.images tells (omega (arith, c.greatest.ensures.below limit some below, long))) (c.put_pages.ensures.crash limit below)

pub returns-clause-crash : goal.returns-clause-crash
returns-clause-crash g c tells limit some below long =
    let pages = numbers 0 c.args.count (take 4096 c.args.region.now) in
    let e = c.args.era.now.number in
    let written = from_unchanged (Within c.args.pages_at limit pages) e (g.D.Disk.image c.args.disk.now) (g.D.Disk.image c.extend_to.new.disk) (g.D.Disk.image c.put_pages.new.disk)
    (c.extend_to.ensures.images tells (omega (arith, c.greatest.ensures.below limit some below, long))) (c.put_pages.ensures.crash limit below) in
    then_same (Within c.args.pages_at limit pages) e (g.D.Disk.image c.args.disk.now) (g.D.Disk.image c.put_pages.new.disk) (g.D.Disk.image c.sync.new.self) written c.sync.ensures.crash

pub greatest-requires : goal.greatest-requires
greatest-requires g c = omega (arith, c.requires.few, c.requires.list, length-take 4096 c.args.region.now)

pub put_pages-requires-clause-head : goal.put_pages-requires-clause-head
put_pages-requires-clause-head g c = omega (arith, c.requires.few, c.requires.list, length-take 4096 c.args.region.now)

pub returns-clause-bytes : goal.returns-clause-bytes
returns-clause-bytes g c tells limit some below long =
    let region = c.args.region.now in
    let pages = numbers 0 c.args.count (take 4096 region) in
    let before = g.D.Disk.bytes c.extend_to.new.disk in
    let n : 4096 * (c.args.count + 1) - 4096 ≡ 4096 * c.args.count = omega arith in
    on_ok c.sync.result
    (λ is. is
    ∙ c.in_ok-put_pages.ensures.bytes tells
    ∙ ap (λ (k : ℕ). laid c.args.pages_at pages (take k (drop 4096 region)) before) n
    ∙ ap (λ (l : List ℕ). laid c.args.pages_at pages (extent 4096 (4096 * c.args.count) region) l)
    (c.extend_to.ensures.bytes tells (omega (arith, c.greatest.ensures.below limit some below, long))))
    c.sync.ensures.bytes

pub returns-clause-kept : goal.returns-clause-kept
returns-clause-kept g c tells limit some below long =
    let pages = numbers 0 c.args.count (take 4096 c.args.region.now) in
    let mid = g.D.Disk.bytes c.put_pages.new.disk in
    let same = c.extend_to.ensures.bytes tells (omega (arith, c.greatest.ensures.below limit some below, long)) in
    on_ok c.sync.result
    (λ is. subst (λ (l : List ℕ). Within c.args.pages_at limit pages (g.D.Disk.bytes c.args.disk.now) l) (sym is)
    (subst (λ (l : List ℕ). Within c.args.pages_at limit pages l mid) same (c.in_ok-put_pages.ensures.kept tells limit below)))
    c.sync.ensures.bytes
