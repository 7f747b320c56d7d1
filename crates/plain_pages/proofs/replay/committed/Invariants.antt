use Rattle.std.proofs.Common.{◌≡◌, take, reverse, map, fold}
use Rattle.log_history.specs.Effects.{with_change, change_by, writes_back}
use Rattle.log_record.specs.Entry.{history_of}
use Rattle.plain_pages.specs.Page.{page_of}
use Rattle.plain_pages.proofs.replay.committed.Given as goal

abbrev pub invariant-loop-record : goal.invariant-loop-record
invariant-loop-record l =
    page_of l.page ≡ fold (with_change l.space l.number) (page_of l.base) (map (change_by l.commit) (writes_back l.txn (reverse (history_of (take l.record-index l.records)))))
