use Rattle.store_calls.specs.SendingLaws.{writes_again}
use Rattle.store_calls.proofs.laws.sends_are_one_send.Goals as goal

pub returns : goal.returns
returns g c from was mid is leaves first second = writes_again g.D.Disk from was mid is leaves first second
