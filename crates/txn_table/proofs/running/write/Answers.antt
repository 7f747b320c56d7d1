use Rattle.std.proofs.Common.{sym}
use Rattle.txn_table.proofs.TableLemmas.{with_write-absent, with_write-at, set-same, open_of-kept, open_of-written, on_err}
use Rattle.txn_table.specs.Table.{patch_of}
use Rattle.txn_table.proofs.running.write.Goals as goal

pub returns-in_default-clause-ok : goal.returns-in_default-clause-ok
returns-in_default-clause-ok c =
    sym (with_write-absent c.args.txn (patch_of c.args.change) c.args.running.now.items (rw c.as_slice.ensures.value at c.in_default.ensures))

pub returns-in_err-push-clause-err : goal.returns-in_err-push-clause-err
returns-in_err-push-clause-err c =
    on_err c.from_residual.result
    (set-same c.args.running.now.items c.in-Some.i c.index_mut-one.result.now _ (rw c.as_slice.ensures.value at c.in-Some.ensures).0
    (open_of-kept c.index_mut-one.result.now _ _ c.index_mut-one.ensures.value c.in_err-push.ensures.items))

pub returns-clause-ok : goal.returns-clause-ok
returns-clause-ok c =
    sym (with_write-at c.args.txn (patch_of c.args.change) c.args.running.now.items c.in-Some.i c.index_mut-one.result.now _
    (rw c.as_slice.ensures.value at c.in-Some.ensures)
    (open_of-written c.index_mut-one.result.now _ _ c.args.change c.index_mut-one.ensures.value c.in_ok-push.ensures.items))
