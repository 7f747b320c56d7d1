use Rattle.store_calls.specs.VoteCalls.{sends_ends, sends_fails}
use Rattle.store_calls.proofs.laws.a_store_that_only_sends_makes_no_move.Goals as goal

pub returns-clause-ended : goal.returns-clause-ended
returns-clause-ended g c tells from to old new sends fault le still =
    sends_ends g.D.Disk (λ it f last. g.met.D.Disk.reads_as it f tells last) from old new sends to fault le still

pub returns-clause-cut : goal.returns-clause-cut
returns-clause-cut g c tells from to old new sends course fault le cuts_it =
    sends_fails g.D.Disk (λ it f last. g.met.D.Disk.reads_as it f tells last) from old new sends to course fault le cuts_it
