use Rattle.std.proofs.Common.{sym, ap, ◌∙◌, fold}
use Rattle.log_history.specs.Effects.{with_change}
use Rattle.plain_pages.specs.Page.{page_of}
use Rattle.plain_pages.proofs.PageLemmas.{changes_at-other, changes_at-commit, changes_at-not_open}
use Rattle.plain_pages.proofs.replay.with_position.Goals as goal

pub returns-in_default : goal.returns-in_default
returns-in_default c =
    sym (ap (fold (with_change c.args.space c.args.number) (page_of c.args.page))
    (changes_at-other c.args.records.now c.args.i c.args.n c.index-records-i.result c.requires.index c.index-records-i.is c.in_default.not-Commit))

pub returns-then-not-is_open : goal.returns-then-not-is_open
returns-then-not-is_open c =
    sym (ap (fold (with_change c.args.space c.args.number) (page_of c.args.page))
    (changes_at-not_open c.args.records.now c.args.i c.args.n c.in-Commit.txn c.in-Commit.time c.index-records-i.result c.requires.index c.index-records-i.is c.in-Commit.is (sym c.if-not-is_live.ensures) (sym c.if-not-is_open.ensures)))

pub returns : goal.returns
returns c =
    c.committed.ensures ∙ sym (ap (fold (with_change c.args.space c.args.number) (page_of c.args.page))
    (changes_at-commit c.args.records.now c.args.i c.args.n c.in-Commit.txn c.in-Commit.time c.index-records-i.result c.requires.index c.index-records-i.is c.in-Commit.is (sym c.if-not-is_live.ensures) (sym c.if-not-is_open.ensures)))
