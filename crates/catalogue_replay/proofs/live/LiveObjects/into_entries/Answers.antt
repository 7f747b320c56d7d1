use Rattle.std.proofs.Common.{rules, ◌≡◌, ◌∙◌, ap, map, IfOk}
use Rattle.std.specs.BTreeMap.{values}
use Rattle.std.proofs.lemmas.Result.{IfOk-weaker}
use Rattle.catalogue_slots.specs.Views.{object_of}
use Rattle.catalogue_replay.proofs.LiveLemmas.{objects_in-values}
use Rattle.catalogue_replay.proofs.live.LiveObjects.into_entries.Goals as goal

pub returns : goal.returns
returns c =
    let all : IfOk c.collect.result (λ entries. entries.items ≡ values c.self.inside.entries) = search rules in
    IfOk-weaker c.collect.result (λ entries. entries.items ≡ values c.self.inside.entries) (λ entries. map object_of entries.items ≡ c.args.self)
    (λ entries e. ap (map object_of) e ∙ objects_in-values c.self.inside.entries.entries ∙ c.self.view_is) all
