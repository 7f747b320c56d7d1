use Rattle.store_calls.specs.SessionLaws.{session_agrees}
use Rattle.store_calls.proofs.laws.a_store_agrees_behind_a_transaction.Goals as goal

pub returns : goal.returns
returns g c from to deleted additions old mid new lt sent committed contents taken head agrees =
    session_agrees g.D.Disk from to lt deleted additions old mid new sent committed contents taken head agrees
