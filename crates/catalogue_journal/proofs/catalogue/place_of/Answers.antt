use Rattle.std.proofs.Common.{◌≡◌, rules, ℕ, Option, false, map, get_or, sym, subst}
use Rattle.std.specs.Prelude.{IfSome, IsNone}
use Rattle.std.proofs.lemmas.List.Sorted.{answers_always}
use Rattle.catalogue_slots.specs.Views.{object_of}
use Rattle.catalogue_slots.specs.declared.entry.ObjectEntry.{ObjectEntry}
use Rattle.catalogue_replay.specs.Contents.{has_copy}
use Rattle.catalogue_journal.proofs.SearchLemmas.{found_any, none_any}
use Rattle.catalogue_journal.proofs.catalogue.place_of.Goals as goal

-- the closure gives an object's copy id
pub returns-clause-found : goal.returns-clause-found
returns-clause-found c =
    let by_key = c.binary_search_by_key.ensures.position (λ (entry : ObjectEntry). entry.copy) (answers_always _ _ _ (λ f a r k called. search rules)) in
    subst (λ (o : Option ℕ). IfSome o (λ (place : ℕ). (entry : ObjectEntry) → entry ≡ get_or c.args.objects.now place entry → entry.copy ≡ c.args.copy)) (sym c.ok.ensures.value)
    (found_any c.args.objects.now c.args.copy c.binary_search_by_key.result by_key)

pub returns-clause-none : goal.returns-clause-none
returns-clause-none c =
    let by_key = c.binary_search_by_key.ensures.position (λ (entry : ObjectEntry). entry.copy) (answers_always _ _ _ (λ f a r k called. search rules)) in
    subst (λ (o : Option ℕ). IsNone o → has_copy c.args.copy (map object_of c.args.objects.now) ≡ false) (sym c.ok.ensures.value)
    (none_any c.args.objects.now c.args.copy c.binary_search_by_key.result c.requires by_key)
