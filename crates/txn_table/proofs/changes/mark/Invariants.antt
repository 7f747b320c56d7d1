use Rattle.std.proofs.Common.{◌≡◌, map}
use Rattle.std.specs.List.{AllWithin}
use Rattle.txn_table.specs.Table.{patch_of}
use Rattle.txn_table.proofs.ChangeLemmas.{IsBroughtBy}
use Rattle.txn_table.proofs.changes.mark.Given as goal

abbrev pub invariant-loop-change : goal.invariant-loop-change
invariant-loop-change l = record {
  marked : AllWithin (IsBroughtBy l.commit) l.changes 0 l.change-index;
  patches : map patch_of l.changes ≡ map patch_of l.fn.changes;
}
