use Rattle.std.proofs.Common.{◌≡◌, take, reverse}
use Rattle.log_history.specs.Transactions.{open_back}
use Rattle.log_record.specs.Entry.{history_of}
use Rattle.plain_pages.proofs.live.is_open.Given as goal

abbrev pub invariant-loop-i : goal.invariant-loop-i
invariant-loop-i l = open_back l.txn (reverse (history_of (take l.i l.records))) ≡ open_back l.txn (reverse (history_of l.records))
