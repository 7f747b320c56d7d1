use Rattle.std.proofs.Common.{sym, ap, ◌∙◌, fold, arith}
use Rattle.log_history.specs.Effects.{with_change, empty_page}
use Rattle.plain_pages.proofs.PageLemmas.{changes-by_positions}
use Rattle.plain_pages.proofs.replay.page_of_log.Goals as goal

pub returns : goal.returns
returns c =
    c.loop-i.invariant
    ∙ sym (ap (fold (with_change c.args.space c.args.number) empty_page) (changes-by_positions c.args.records.now c.args.n c.loop-i.i (omega arith)))
