use Rattle.std.proofs.Common.{◌∙◌}
use Rattle.object_queries.proofs.QueryLemmas.{superseded_map}
use Rattle.object_queries.proofs.finding.has_a_later.Goals as goal

pub returns : goal.returns
returns c = c.has_name.ensures ∙ superseded_map c.args.descriptor.now c.args.later.now
