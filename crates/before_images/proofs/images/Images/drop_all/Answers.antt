use Rattle.std.proofs.Common.{◌<◌, ◌≤◌, ℕ, List, length, arith, ap, ◌∙◌}
use Rattle.site_disk.specs.BytesLaws.{length-extent}
use Rattle.site_disk.specs.CallsLaws.{on_ok}
use Rattle.site_disk.specs.Gates.{MayShut, GateStands}
use Rattle.site_disk.specs.Images.{Leaves}
use Rattle.site_disk.specs.ImagesLaws.{weaker}
use Rattle.before_images.specs.Saved.{MayDrop}
use Rattle.before_images.specs.RegionLaws.{may_drop, drops}
use Rattle.before_images.proofs.images.Images.drop_all.Goals as goal

crash : (base e last : ℕ) (bytes : List ℕ) (old new : ℕ → List ℕ → Type 0) → last ≤ e → base < length bytes → GateStands base last bytes old → Leaves e (MayShut base) old new → Leaves e (MayDrop base) old new
crash base e last bytes old new le there stands l =
    weaker (MayDrop base) (MayShut base) e old old new l
    (λ f d c lt image may. may_drop base d c (ap (λ (l : List ℕ). length l) (stands f d (omega (arith, le, lt)) image) ∙ length-extent base 1 bytes (omega (arith, there))) may)

pub returns-clause-crash : goal.returns-clause-crash
returns-clause-crash g c = rw (← c.self.view_is) (λ tells there stands.
    crash c.self.inside.base c.args.era.now.number _ _ _ _ (omega arith) there stands (c.drop_region.ensures.crash tells (omega (arith, there)) stands))

pub returns-clause-dropped : goal.returns-clause-dropped
returns-clause-dropped g c = rw (← c.self.view_is) (λ tells within.
    on_ok c.drop_region.result (λ is. drops c.self.inside.base (g.D.Disk.bytes c.args.disk.now) (g.D.Disk.bytes c.drop_region.new.disk) within is) (c.drop_region.ensures.bytes tells within))
