use Rattle.std.proofs.Common.{◌≡◌, ℕ, sym, subst}
use Rattle.site_disk.specs.Images.{Leaves, OnlyAfter}
use Rattle.site_disk.specs.Seen.{seen}
use Rattle.before_images.specs.Saved.{MayPutBack, Stands as ImagesStand, restored}
use Rattle.lane_ways.specs.Pictures.{pages_at}
use Rattle.space_lane.proofs.StateLemmas.{by_done, images_stand, only_still}
use Rattle.space_lane.proofs.opening.put_back.Goals as goal

pub returns-clause-bytes : goal.returns-clause-bytes
returns-clause-bytes g c tells long =
    let new = g.D.Disk.bytes c.put_back.new.disk in
    subst (λ (b : ℕ). new ≡ restored b pages_at c.args.pages c.args.from.0 c.args.from.1 (g.D.Disk.bytes c.args.disk.now)) c.requires.base (c.in_ok-put_back.ensures.bytes tells long)

pub returns-clause-settled : goal.returns-clause-settled
returns-clause-settled g c tells long =
    let new = g.D.Disk.bytes c.put_back.new.disk in
    subst (λ (b : ℕ). MayPutBack b pages_at c.args.pages c.args.from.0 c.args.from.1 (g.D.Disk.bytes c.args.disk.now) new) c.requires.base (c.in_ok-put_back.ensures.kept tells long)

pub returns-clause-durable : goal.returns-clause-durable
returns-clause-durable g c tells only =
    let e : ℕ = c.args.era.now.number in
    let old = g.D.Disk.bytes c.args.disk.now in
    let new = g.D.Disk.bytes c.put_back.new.disk in
    let is = c.in_ok-put_back.ensures in
    by_done {A = OnlyAfter e new (g.D.Disk.image c.put_back.new.disk)} c.in_ok-put_back.field-0 (is.durable tells)
    (λ rests. only_still e old new (g.D.Disk.image c.args.disk.now) (g.D.Disk.image c.put_back.new.disk) only (is.refused_images rests) (is.refused_bytes rests))

pub returns-in_err-put_back-clause-crash : goal.returns-in_err-put_back-clause-crash
returns-in_err-put_back-clause-crash g c tells long synced =
    let disk = seen g.D.Disk c.args.disk.now in
    subst (λ (b : ℕ). Leaves c.args.era.now.number (MayPutBack b pages_at c.args.pages c.args.from.0 c.args.from.1) disk.images (g.D.Disk.image c.put_back.new.disk)) c.requires.base
    (c.put_back.ensures.crash tells
    (subst (λ (b : ℕ). ImagesStand b pages_at c.args.pages disk.last disk.bytes disk.images) (sym c.requires.base) (images_stand c.args.pages disk synced long)))

pub returns-clause-crash : goal.returns-clause-crash
returns-clause-crash g c tells long synced =
    let disk = seen g.D.Disk c.args.disk.now in
    subst (λ (b : ℕ). Leaves c.args.era.now.number (MayPutBack b pages_at c.args.pages c.args.from.0 c.args.from.1) disk.images (g.D.Disk.image c.put_back.new.disk)) c.requires.base
    (c.put_back.ensures.crash tells
    (subst (λ (b : ℕ). ImagesStand b pages_at c.args.pages disk.last disk.bytes disk.images) (sym c.requires.base) (images_stand c.args.pages disk synced long)))
