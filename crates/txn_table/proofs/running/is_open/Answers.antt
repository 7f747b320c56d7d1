use Rattle.std.proofs.Common.{◌∙◌}
use Rattle.txn_table.proofs.TableLemmas.{is_open_is}
use Rattle.txn_table.proofs.running.is_open.Goals as goal

pub returns : goal.returns
returns c = c.is_some.ensures ∙ is_open_is c.args.txn c.args.running.now c.place.result c.place.ensures
