use Rattle.std.proofs.Common.{sym, ◌∙◌}
use Rattle.catalogue_replay.proofs.ReplayLemmas.{end_of_last}
use Rattle.catalogue_replay.proofs.replay.end_of.Goals as goal

pub returns-in-Some : goal.returns-in-Some
returns-in-Some c = c.behind.ensures ∙ sym (end_of_last c.args.runs.now c.in-Some.last.now (sym c.in-Some.ensures.value))
