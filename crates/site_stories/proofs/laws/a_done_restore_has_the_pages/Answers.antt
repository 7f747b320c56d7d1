use Rattle.site_stories.specs.RestartLaws.{restored_pages}
use Rattle.site_stories.proofs.laws.a_done_restore_has_the_pages.Goals as goal

pub returns : goal.returns
returns c = restored_pages
