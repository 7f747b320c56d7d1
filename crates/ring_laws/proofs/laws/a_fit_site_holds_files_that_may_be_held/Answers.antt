use Rattle.world_laws.specs.RingLaws.{ring_of}
use Rattle.ring_laws.specs.FitLaws.{fit_files}
use Rattle.ring_laws.proofs.laws.a_fit_site_holds_files_that_may_be_held.Goals as goal

pub returns : goal.returns
returns c = λ site ring is fit layout. fit_files site.head.spaces site.history site.starts site.lines ring fit.history (ring_of site ring is fit) layout
