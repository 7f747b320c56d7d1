use Rattle.std.proofs.Common.{◌∙◌, ap}
use Rattle.std.specs.Prelude.{is_some}
use Rattle.catalogue_replay.specs.Live.{objects_in}
use Rattle.catalogue_replay.proofs.LiveLemmas.{has_copy-lookup, without-remove_entry, under-remove_entry}
use Rattle.catalogue_replay.proofs.live.LiveObjects.take_out.Goals as goal

pub invariant_of-self : goal.invariant_of-self
invariant_of-self c = rw c.remove.ensures.entries (under-remove_entry _ c.self.inside.entries.entries c.self.invariant)

pub returns-clause-found : goal.returns-clause-found
returns-clause-found c =
    rw (← c.self.view_is) (c.is_some.ensures ∙ ap is_some c.remove.ensures.value ∙ has_copy-lookup c.args.copy c.self.inside.entries.entries c.self.invariant)

pub returns-clause-rest : goal.returns-clause-rest
returns-clause-rest c =
    rw (← c.self.view_is) (ap objects_in c.remove.ensures.entries ∙ without-remove_entry c.args.copy c.self.inside.entries.entries c.self.invariant)
