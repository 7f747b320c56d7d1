use Rattle.store_calls.specs.VoteCalls.{transaction_done, transaction_fails}
use Rattle.store_calls.proofs.laws.a_transaction_is_one_move.Goals as goal

pub returns-clause-cut : goal.returns-clause-cut
returns-clause-cut g c tells from e to added deleted additions old new does fault le cuts_it =
    transaction_fails g.D.Disk (λ it f last. g.met.D.Disk.reads_as it f tells last) from old new e added deleted additions does to fault le cuts_it

pub returns-clause-ended : goal.returns-clause-ended
returns-clause-ended g c tells from e to added deleted additions old new does le gained =
    transaction_done g.D.Disk (λ it f last. g.met.D.Disk.reads_as it f tells last) from old new e added deleted additions does to le gained
