use Rattle.std.proofs.Common.{rules, ap, map, ◌∙◌}
use Rattle.std.proofs.lemmas.Fn.{filter_same}
use Rattle.log_history.specs.Effects.{Change}
use Rattle.log_history.specs.Live.{live_by}
use Rattle.txn_table.specs.declared.changes.Change.{Change as Brought}
use Rattle.txn_table.specs.Table.{change_of}
use Rattle.held_log.proofs.ReaderLemmas.{map_filtered}
use Rattle.held_log.proofs.reader.Reader.finish.Goals as goal

pub returns-clause-changes : goal.returns-clause-changes
returns-clause-changes c =
    ap (map change_of) (filter_same _ (λ (x : Brought). live_by c.args.self.resets c.args.end x.commit) _ (λ x b f' k. search rules) _ _ c.retain.ensures.filtered)
    ∙ map_filtered change_of (λ (change : Change). live_by c.args.self.resets c.args.end change.commit) c.args.self.changes.items
