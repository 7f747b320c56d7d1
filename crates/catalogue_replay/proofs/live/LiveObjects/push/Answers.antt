use Rattle.std.proofs.Common.{◌∙◌, sym, ap, subst}
use Rattle.std.specs.List.{AllByRecursion}
use Rattle.catalogue_replay.specs.Live.{objects_in, IsUnderItsCopy, AreBelow}
use Rattle.catalogue_replay.proofs.LiveLemmas.{insert_entry-end, under-push, objects_in-push}
use Rattle.catalogue_replay.proofs.live.LiveObjects.push.Goals as goal

pub invariant_of-self-2 : goal.invariant_of-self-2
invariant_of-self-2 c =
    let below = subst (AreBelow c.args.entry.copy) (sym c.self.view_is) c.requires in
    let end = c.in_ok-insert.ensures.entries ∙ insert_entry-end c.args.entry c.self.inside.entries.entries c.self.invariant below in
    subst (AllByRecursion IsUnderItsCopy) (sym end) (under-push c.args.entry c.self.inside.entries.entries c.self.invariant)

pub returns-clause-pushed : goal.returns-clause-pushed
returns-clause-pushed c =
    let below = subst (AreBelow c.args.entry.copy) (sym c.self.view_is) c.requires in
    let end = c.in_ok-insert.ensures.entries ∙ insert_entry-end c.args.entry c.self.inside.entries.entries c.self.invariant below in
    rw (← c.self.view_is) (ap objects_in end ∙ objects_in-push c.args.entry c.self.inside.entries.entries)
