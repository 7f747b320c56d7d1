use Rattle.std.proofs.Common.{Some, sym, ap, ◌∙◌}
use Rattle.txn_table.specs.declared.running.Running.{Running}
use Rattle.txn_table.specs.Table.{open_of, table_in}
use Rattle.txn_table.proofs.TableLemmas.{lookup-absent, without-absent, lookup-at, without-at}
use Rattle.txn_table.proofs.running.take.Goals as goal

pub returns-in_err-i-clause-taken : goal.returns-in_err-i-clause-taken
returns-in_err-i-clause-taken c =
    rw c.from_residual.ensures (sym (lookup-absent c.args.txn c.args.running.now.items (rw c.as_slice.ensures.value at c.in_err-i.ensures)))

pub returns-in_err-i-clause-rest : goal.returns-in_err-i-clause-rest
returns-in_err-i-clause-rest c =
    sym (without-absent c.args.txn c.args.running.now.items (rw c.as_slice.ensures.value at c.in_err-i.ensures))

pub returns-clause-taken : goal.returns-clause-taken
returns-clause-taken c =
    ap (λ (r : Running). Some (open_of r)) c.remove.ensures.value
    ∙ sym (lookup-at c.args.txn c.args.running.now.items c.in_ok-i.i c.remove.result (rw c.as_slice.ensures.value at c.in_ok-i.ensures))

pub returns-clause-rest : goal.returns-clause-rest
returns-clause-rest c =
    ap table_in c.remove.ensures.items
    ∙ sym (without-at c.args.txn c.args.running.now.items c.in_ok-i.i c.remove.result (rw c.as_slice.ensures.value at c.in_ok-i.ensures))
