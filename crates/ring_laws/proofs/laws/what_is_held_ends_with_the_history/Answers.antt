use Rattle.world_laws.specs.RingLaws.{ring_of}
use Rattle.ring_laws.specs.FitLaws.{current_id-files_of, end_of-files_of, last_time_in-files_of}
use Rattle.ring_laws.proofs.laws.what_is_held_ends_with_the_history.Goals as goal

pub returns-clause-current : goal.returns-clause-current
returns-clause-current c = λ site ring is fit.
    let holds = ring_of site ring is fit in current_id-files_of site.head.spaces site.history site.starts fit.history ring holds.oldest holds.held

pub returns-clause-end : goal.returns-clause-end
returns-clause-end c = λ site ring is fit.
    let holds = ring_of site ring is fit in end_of-files_of site.head.spaces site.history site.starts fit.history ring holds.oldest holds.held

pub returns-clause-time : goal.returns-clause-time
returns-clause-time c = λ site ring is fit.
    let holds = ring_of site ring is fit in last_time_in-files_of site.head.spaces site.history site.starts fit.history ring holds.oldest holds.held
