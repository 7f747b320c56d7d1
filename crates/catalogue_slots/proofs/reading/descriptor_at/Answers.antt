use Rattle.std.proofs.Common.{ℕ, List, subst, sym, ap, ◌∙◌, take}
use Rattle.std.specs.Prelude.{IfSome}
use Rattle.std.proofs.lemmas.List.{take_rest}
use Rattle.catalogue_slots.specs.Parts.{HoldsDescriptor}
use Rattle.catalogue_slots.proofs.reading.descriptor_at.Goals as goal

pub returns-clause-found : goal.returns-clause-found
returns-clause-found c =
    let same = c.in_ok-first_chunk.ensures.cases.same ∙ ap (take 2624) (take_rest c.args.bytes.now c.args.at) in
    subst (λ (l : List ℕ). IfSome c.descriptor_in.result (HoldsDescriptor c.args.copy l)) same c.descriptor_in.ensures.found

pub returns-clause-only : goal.returns-clause-only
returns-clause-only c d holds =
    let same = c.in_ok-first_chunk.ensures.cases.same ∙ ap (take 2624) (take_rest c.args.bytes.now c.args.at) in
    c.descriptor_in.ensures.only d (subst (λ (l : List ℕ). HoldsDescriptor c.args.copy l d) (sym same) holds)
