use Rattle.std.proofs.Common.{sym, ap, ◌∙◌, refl, arith}
use Rattle.std.proofs.lemmas.List.{take_rest}
use Rattle.std.proofs.lemmas.Option.{same_Some}
use Rattle.catalogue_slots.specs.Records.{Object, add}
use Rattle.catalogue_slots.specs.Fronts.{front_in}
use Rattle.catalogue_slots.proofs.AddLemmas.{HasAdd, found_add, one_add, same_objects}
use Rattle.catalogue_slots.proofs.reading.add_of.Goals as goal

pub returns-in_default-clause-only : goal.returns-in_default-clause-only
returns-in_default-clause-only c entry holds =
    let has : HasAdd (front_in c.args.front) c.args.own.now entry = one_add (front_in c.args.front) c.args.own.now entry c.requires.own c.requires.kind holds in
    cc (c.in_default.ensures.only has.object.descriptor has.parts.descriptor)

pub returns-in_default-2-clause-only : goal.returns-in_default-2-clause-only
returns-in_default-2-clause-only c entry holds =
    let has : HasAdd (front_in c.args.front) c.args.own.now entry = one_add (front_in c.args.front) c.args.own.now entry c.requires.own c.requires.kind holds in
    let runs = rw (← take_rest c.args.own.now 2664, ← c.min-here.ensures) at has.parts.runs in
    rw c.in_default-2.is at (c.in_ok-runs.ensures.only has.object.runs runs)

pub returns-clause-found : goal.returns-clause-found
returns-clause-found c =
    let runs = rw (take_rest c.args.own.now 2664, c.min-here.ensures) at (rw c.in-Some-2.is at c.in_ok-runs.ensures.found) in
    found_add (front_in c.args.front) c.args.own.now _ c.requires.own c.requires.kind (omega arith) (omega arith) (c.is_copy.ensures.0 c.if-not-is_copy.false) refl refl
    (record { size = c.u64_at.ensures.found; digest = sym c.copy_from_slice.ensures.after; descriptor = c.in-Some.ensures.found; runs = runs })

pub returns-clause-only : goal.returns-clause-only
returns-clause-only c entry holds =
    let has : HasAdd (front_in c.args.front) c.args.own.now entry = one_add (front_in c.args.front) c.args.own.now entry c.requires.own c.requires.kind holds in
    let runs = rw (← take_rest c.args.own.now 2664, ← c.min-here.ensures) at has.parts.runs in
    let same_runs = rw c.in-Some-2.is at (c.in_ok-runs.ensures.only has.object.runs runs) in
    ap (λ (object : Object). add c.args.front.double object)
    (same_objects _ has.object (sym has.copies) (sym has.volumes) (c.u64_at.ensures.only has.object.size has.parts.size)
    (c.copy_from_slice.ensures.after ∙ has.parts.digest) same_runs
    (same_Some _ _ (c.in-Some.ensures.only has.object.descriptor has.parts.descriptor)))
    ∙ has.is
