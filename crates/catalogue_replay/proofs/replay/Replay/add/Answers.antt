use Rattle.std.proofs.Common.{arith}
use Rattle.catalogue_replay.proofs.LiveLemmas.{added-next}
use Rattle.catalogue_replay.proofs.replay.Replay.add.Goals as goal

pub invariant_of-self : goal.invariant_of-self
invariant_of-self c =
    let next = added-next c.args.self.now.added c.args.entry.copy c.args.self.now.rest c.args.self.now.objects (cc) (omega (arith, c.if-self-entry.false)) c.args.self.now.below in
    record { below = next.1; waits = next.2 }

pub with_runs-requires-clause-below : goal.with_runs-requires-clause-below
with_runs-requires-clause-below c =
    (added-next c.args.self.now.added c.args.entry.copy c.args.self.now.rest c.args.self.now.objects (cc) (omega (arith, c.if-self-entry.false)) c.args.self.now.below).0
