use Rattle.catalogue_replay.proofs.LiveLemmas.{AreBelow-without}
use Rattle.catalogue_replay.proofs.replay.Replay.take.Goals as goal

pub invariant_of-self : goal.invariant_of-self
invariant_of-self c = record {
  below = rw c.take_out.ensures.rest (AreBelow-without _ c.in-Del.copy c.args.self.now.objects c.args.self.now.below);
  waits = c.args.self.now.waits;
}
