use Rattle.std.proofs.Common.{◌≡◌, ◌≤◌, ◌+◌, ◌∙◌, ℕ, List, length, inl, refl, ap, arith, subst, sym}
use Rattle.site_disk.specs.Bytes.{extent}
use Rattle.site_disk.specs.CallsLaws.{from_unchanged, leaves_nothing, unchanged_again}
use Rattle.site_disk.specs.Gates.{GateStands}
use Rattle.site_disk.specs.GatesLaws.{may_shut_same}
use Rattle.site_disk.specs.Images.{Leaves}
use Rattle.before_images.specs.Saved.{region_of, MayFillAndOpen}
use Rattle.before_images.proofs.saving.save_pages_in.Goals as goal

pub returns-in_err-extend_to-clause-crash : goal.returns-in_err-extend_to-clause-crash
returns-in_err-extend_to-clause-crash g c tells long stands =
    let bytes = g.D.Disk.bytes c.args.disk.now in
    let read = c.in_ok-read_region.ensures in
    let there : c.args.base + 69632 ≤ length (g.D.Disk.bytes c.read_region.new.disk) = omega (arith, long, ap (λ (l : List ℕ). length l) read.bytes) in
    leaves_nothing (MayFillAndOpen c.args.base (region_of c.args.pages_at c.args.from.0 c.args.from.1 c.args.pages.now bytes) bytes) c.args.era.now.number
    (g.D.Disk.image c.args.disk.now) (g.D.Disk.image c.args.disk.now) (g.D.Disk.image c.extend_to.new.disk)
    (λ b. inl (inl (may_shut_same c.args.base b b refl))) (unchanged_again read.images (c.extend_to.ensures.images tells there))

pub returns-clause-crash : goal.returns-clause-crash
returns-clause-crash g c tells long stands =
    let base = c.args.base in
    let e = c.args.era.now.number in
    let bytes = g.D.Disk.bytes c.args.disk.now in
    let old = g.D.Disk.image c.args.disk.now in
    let mid = g.D.Disk.image c.extend_to.new.disk in
    let new = g.D.Disk.image c.replace_region.new.disk in
    let region = c.read_region.new.region in
    let read = c.in_ok-read_region.ensures in
    let there : base + 69632 ≤ length (g.D.Disk.bytes c.read_region.new.disk) = omega (arith, long, ap (λ (l : List ℕ). length l) read.bytes) in
    let same = unchanged_again read.images (c.extend_to.ensures.images tells there) in
    let known : g.D.Disk.bytes c.extend_to.new.disk ≡ bytes = c.extend_to.ensures.bytes tells there ∙ read.bytes in
    let later : (g.D.Disk.ledger c.args.disk.now).last ≤ (g.D.Disk.ledger c.extend_to.new.disk).last = omega (arith, read.ledger.no_earlier, c.extend_to.ensures.ledger.no_earlier) in
    let stands_mid : GateStands base (g.D.Disk.ledger c.extend_to.new.disk).last (g.D.Disk.bytes c.extend_to.new.disk) mid =
    λ f d lt image. stands f d (omega (arith, later, lt)) (same.back f d image) ∙ ap (λ (l : List ℕ). extent base 1 l) (sym known) in
    subst (λ (r : List ℕ). Leaves e (MayFillAndOpen base r bytes) old new) (read.found tells)
    (subst (λ (b : List ℕ). Leaves e (MayFillAndOpen base region b) old new) known
    (from_unchanged (MayFillAndOpen base region (g.D.Disk.bytes c.extend_to.new.disk)) e old mid new same (c.replace_region.ensures.crash tells stands_mid)))
