use Rattle.std.proofs.Common.{ℕ, List, ◌+◌, ◌∙◌, ap}
use Rattle.site_disk.specs.Bytes.{written}
use Rattle.txn_table.specs.Table.{change_of}
use Rattle.lane_steps.proofs.PageLemmas.{lays}
use Rattle.lane_steps.proofs.laying.lay.Goals as goal

pub returns-clause-laid : goal.returns-clause-laid
returns-clause-laid c = λ space number was is lies.
    lays space number was (change_of c.args.change.now) (16 + c.from-from.result) c.args.page.now c.put.new.into c.put-2.new.into is
    (ap (λ (n : ℕ). 16 + n) c.from-from.ensures)
    (c.put.ensures ∙ ap (λ (l : List ℕ). written 0 l c.args.page.now) c.to_be_bytes.ensures)
    (c.put-2.ensures ∙ ap (λ (l : List ℕ). written (16 + c.from-from.result) l c.put.new.into) c.as_bytes-bytes.ensures.value)
