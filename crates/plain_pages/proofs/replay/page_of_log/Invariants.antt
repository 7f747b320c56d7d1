use Rattle.std.proofs.Common.{◌≡◌, fold}
use Rattle.std.specs.List.{flat_map}
use Rattle.log_history.specs.History.{positions}
use Rattle.log_history.specs.Effects.{with_change, empty_page}
use Rattle.log_record.specs.Entry.{history_of}
use Rattle.plain_pages.specs.Page.{page_of, changes_at}
use Rattle.plain_pages.proofs.replay.page_of_log.Given as goal

abbrev pub invariant-loop-i : goal.invariant-loop-i
invariant-loop-i l =
    page_of l.page ≡ fold (with_change l.space l.number) empty_page (flat_map (changes_at (history_of l.records) l.n) (positions l.i))
