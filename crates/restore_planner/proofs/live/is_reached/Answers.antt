use Rattle.std.proofs.Common.{◌≡◌, ◌∙◌, ℕ, List, length, Option, None, Some, Bor, ap, sym, refl, rules}
use Rattle.std.specs.Prelude.{slice_get}
use Rattle.std.specs.Option.{option_copied}
use Rattle.std.specs.Slice.{IsItemAt}
use Rattle.std.proofs.lemmas.Option.{slice_get_past, slice_get_read}
use Rattle.std.proofs.lemmas.List.Sorted.{IsPartitionPoint-from_clause}
use Rattle.restore_planner.specs.Live.{limit_of, reached_by}
use Rattle.restore_planner.proofs.StretchLemmas.{begins_behind, reached_at, stretches_parted}
use Rattle.restore_planner.proofs.live.is_reached.Goals as goal

-- what a borrowed item is a copy of
copied_item : {X : Type 0} (xs : List X) (i : ℕ) (item : Option (Bor X)) → IsItemAt xs i item → option_copied item ≡ slice_get xs i
copied_item xs i None is = sym (slice_get_past xs i is.3)
copied_item xs i (Some item) is = sym (slice_get_read xs (length xs) i item.now refl is.3.0 is.1)

pub returns : goal.returns
returns c =
    let stretches = c.args.stretches.now in
    let next = c.partition_point-next.result in
    let parts = IsPartitionPoint-from_clause (begins_behind c.args.to) stretches next c.partition_point-next.ensures.partitioned
    (stretches_parted stretches (limit_of stretches) c.args.to c.requires) (λ a r f' k. search rules) in
    let at : option_copied c.get.result ≡ slice_get stretches next = copied_item stretches next c.get.result c.get.ensures.lookup in
    c.is_reached_by.ensures ∙ ap (reached_by c.args.from c.args.to) at
    ∙ sym (reached_at stretches (limit_of stretches) c.args.from c.args.to next c.requires parts.0 parts.1)
