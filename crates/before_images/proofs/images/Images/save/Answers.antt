use Rattle.std.proofs.Common.{◌+◌, ◌≤◌, arith, ap}
use Rattle.site_disk.specs.CallsLaws.{on_ok}
use Rattle.before_images.specs.Saved.{ImagesView}
use Rattle.before_images.specs.RegionLaws.{Fits, saves}
use Rattle.before_images.proofs.Keeping.{crash, within}
use Rattle.before_images.proofs.images.Images.save.Goals as goal

pub returns-clause-saved : goal.returns-clause-saved
returns-clause-saved g c = rw (← c.self.view_is) (λ tells lie.
    let fit : Fits c.args.from.0 c.args.from.1 c.args.pages.now = record { upto_fits = omega arith; part_fits = omega arith; some = c.requires.some; few = c.requires.few; fits = λ k. (c.type_inv.pages k).fits; distinct = c.requires.distinct } in
    let apart : c.self.inside.base + 69632 ≤ c.args.pages_at = omega (arith, c.requires.pages_at, ap (λ (v : ImagesView). v.base) c.self.view_is) in
    let there = within c.self.inside.base c.args.pages_at c.args.pages.now (g.D.Disk.bytes c.args.disk.now) c.requires.some apart lie in
    on_ok c.save_pages_in.result
    (λ is. saves c.self.inside.base c.args.pages_at c.args.from.0 c.args.from.1 c.args.pages.now (g.D.Disk.bytes c.args.disk.now) fit there (g.D.Disk.bytes c.save_pages_in.new.disk) is)
    (c.save_pages_in.ensures.bytes tells there))

pub returns-clause-crash : goal.returns-clause-crash
returns-clause-crash g c = rw (← c.self.view_is) (λ tells lie stands.
    let fit : Fits c.args.from.0 c.args.from.1 c.args.pages.now = record { upto_fits = omega arith; part_fits = omega arith; some = c.requires.some; few = c.requires.few; fits = λ k. (c.type_inv.pages k).fits; distinct = c.requires.distinct } in
    let apart : c.self.inside.base + 69632 ≤ c.args.pages_at = omega (arith, c.requires.pages_at, ap (λ (v : ImagesView). v.base) c.self.view_is) in
    let there = within c.self.inside.base c.args.pages_at c.args.pages.now (g.D.Disk.bytes c.args.disk.now) c.requires.some apart lie in
    crash c.self.inside.base c.args.pages_at c.args.from.0 c.args.from.1 c.args.era.now.number _ c.args.pages.now (g.D.Disk.bytes c.args.disk.now) _ _ fit there (omega arith) stands
    (c.save_pages_in.ensures.crash tells there stands))
