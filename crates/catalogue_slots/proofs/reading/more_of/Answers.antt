use Rattle.std.proofs.Common.{ℕ, subst, sym, arith}
use Rattle.catalogue_slots.specs.Fronts.{front_in}
use Rattle.catalogue_slots.specs.Parts.{HoldsRuns}
use Rattle.catalogue_slots.proofs.KindLemmas.{HasMore, found_more, one_more}
use Rattle.catalogue_slots.proofs.reading.more_of.Goals as goal

pub returns-in_default-clause-only : goal.returns-in_default-clause-only
returns-in_default-clause-only c entry holds =
    let has : HasMore (front_in c.args.front) c.args.own.now entry = one_more (front_in c.args.front) c.args.own.now entry c.requires.kind holds in
    let runs = subst (λ (n : ℕ). HoldsRuns c.args.own.now n has.found) (sym c.from-count.ensures) has.runs in
    rw c.in_default.is at (c.in_ok-runs.ensures.only has.found runs)

pub returns-clause-found : goal.returns-clause-found
returns-clause-found c =
    found_more (front_in c.args.front) c.args.own.now c.from-count.result c.in-Some.runs.items c.requires.own c.requires.kind c.from-count.ensures
    (omega arith) (c.is_copy.ensures.0 c.if-not-is_copy.false) (omega arith) (omega arith) (rw c.in-Some.is at c.in_ok-runs.ensures.found)

pub returns-clause-only : goal.returns-clause-only
returns-clause-only c entry holds =
    let has : HasMore (front_in c.args.front) c.args.own.now entry = one_more (front_in c.args.front) c.args.own.now entry c.requires.kind holds in
    let runs = subst (λ (n : ℕ). HoldsRuns c.args.own.now n has.found) (sym c.from-count.ensures) has.runs in
    let same = rw c.in-Some.is at (c.in_ok-runs.ensures.only has.found runs) in
    cc (same, has.is)
