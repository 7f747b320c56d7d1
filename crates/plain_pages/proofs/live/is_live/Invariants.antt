use Rattle.std.proofs.Common.{◌≡◌, take, reverse}
use Rattle.log_history.specs.Live.{live, live_by, reset_points_back}
use Rattle.log_record.specs.Entry.{history_of}
use Rattle.plain_pages.proofs.live.is_live.Given as goal

abbrev pub invariant-loop-i : goal.invariant-loop-i
invariant-loop-i l = live_by (reset_points_back (reverse (history_of (take l.i l.records)))) l.limit l.x ≡ live (history_of l.records) l.n l.x
