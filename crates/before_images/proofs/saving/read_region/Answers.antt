use Rattle.std.proofs.Common.{ℕ, List, ◌++◌, ap, ◌∙◌}
use Rattle.site_disk.specs.CallsLaws.{on_ok}
use Rattle.before_images.specs.Saved.{present}
use Rattle.before_images.proofs.saving.read_region.Goals as goal

pub returns-clause-found : goal.returns-clause-found
returns-clause-found g c tells =
    on_ok c.read_pages.result
    (λ is. is ∙ ap (λ (l : List ℕ). l ++ present c.args.pages_at c.args.pages.now (g.D.Disk.bytes c.args.disk.now)) c.write_list.ensures)
    (c.read_pages.ensures.found tells)
