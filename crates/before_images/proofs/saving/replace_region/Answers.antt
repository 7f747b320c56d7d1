use Rattle.std.proofs.Common.{◌+◌, ℕ, List, [], ◌∷◌, drop, inl, inr, arith, subst, ap, refl, ◌∙◌}
use Rattle.site_disk.specs.Bytes.{written, Torn}
use Rattle.site_disk.specs.CallsLaws.{from_known, on_ok}
use Rattle.site_disk.specs.Gates.{MayFill}
use Rattle.site_disk.specs.GatesLaws.{fills}
use Rattle.site_disk.specs.ImagesLaws.{weaker}
use Rattle.site_disk.specs.Images.{Leaves}
use Rattle.before_images.specs.Saved.{MayFillAndOpen}
use Rattle.before_images.proofs.saving.replace_region.Goals as goal

filled_first : (base e : ℕ) (region bytes : List ℕ) (old new : ℕ → List ℕ → Type 0) → Leaves e (MayFill base (base + 1) 69631) old new
    → Leaves e (MayFillAndOpen base region bytes) old new
filled_first base e region bytes old new first =
    weaker (MayFillAndOpen base region bytes) (MayFill base (base + 1) 69631) e old old new first (λ f d c lt image may. inl may)

pub returns-in_err-fill_region-clause-crash : goal.returns-in_err-fill_region-clause-crash
returns-in_err-fill_region-clause-crash g c tells stands =
    let base = c.args.base in
    let e = c.args.era.now.number in
    let old = g.D.Disk.image c.args.disk.now in
    let mid = g.D.Disk.image c.close_gate.new.disk in
    let new = g.D.Disk.image c.fill_region.new.disk in
    filled_first base e c.args.region.now (g.D.Disk.bytes c.args.disk.now) old new
    (fills base (base + 1) 69631 e old mid new (c.close_gate.ensures.crash tells stands) (c.in_ok-close_gate.ensures.come tells stands) c.fill_region.ensures.crash)

pub returns-clause-bytes : goal.returns-clause-bytes
returns-clause-bytes g c tells =
    let base = c.args.base in
    let filled = c.in_ok-fill_region.ensures.bytes tells ∙ ap (λ (l : List ℕ). written (base + 1) (drop 1 c.args.region.now) l) (c.in_ok-close_gate.ensures.written tells) in
    on_ok c.write_and_sync.result (λ is. is ∙ ap (λ (l : List ℕ). written base (1 ∷ []) l) filled) (c.write_and_sync.ensures.bytes tells)

pub returns-clause-crash : goal.returns-clause-crash
returns-clause-crash g c tells stands =
    let base = c.args.base in
    let e = c.args.era.now.number in
    let region = c.args.region.now in
    let old = g.D.Disk.image c.args.disk.now in
    let mid = g.D.Disk.image c.close_gate.new.disk in
    let new = g.D.Disk.image c.fill_region.new.disk in
    let bytes = g.D.Disk.bytes c.args.disk.now in
    let filled = c.in_ok-fill_region.ensures.bytes tells ∙ ap (λ (l : List ℕ). written (base + 1) (drop 1 region) l) (c.in_ok-close_gate.ensures.written tells) in
    let first = filled_first base e region bytes old new
    (fills base (base + 1) 69631 e old mid new (c.close_gate.ensures.crash tells stands) (c.in_ok-close_gate.ensures.come tells stands) c.fill_region.ensures.crash) in
    from_known (MayFillAndOpen base region bytes) (Torn base 1) e bytes (g.D.Disk.bytes c.fill_region.new.disk) old new (g.D.Disk.image c.write_and_sync.new.disk)
    first (c.in_ok-fill_region.ensures.durable tells) (λ f lt. g.met.D.Disk.reads_as c.args.disk.now f tells (omega arith)) c.write_and_sync.ensures.crash
    (λ b torn. inr (refl, subst (λ (l : List ℕ). Torn base 1 l b) filled torn))
