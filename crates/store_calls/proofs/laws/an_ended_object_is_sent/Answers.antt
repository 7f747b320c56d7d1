use Rattle.store_calls.specs.SendingLaws.{one_is_sent}
use Rattle.store_calls.proofs.laws.an_ended_object_is_sent.Goals as goal

pub returns : goal.returns
returns g c from e copy addition message volumes lt reads = one_is_sent g.D.Disk from e copy addition message volumes lt reads
