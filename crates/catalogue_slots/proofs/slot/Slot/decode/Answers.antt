use Rattle.std.proofs.Common.{◌≡◌, ap, arith}
use Rattle.std.proofs.lemmas.List.{take_rest}
use Rattle.catalogue_slots.specs.Layout.{Front, front_of}
use Rattle.catalogue_slots.specs.Fronts.{front_in}
use Rattle.catalogue_slots.specs.Views.{record_of}
use Rattle.catalogue_slots.specs.declared.slot.Slot.{Slot}
use Rattle.catalogue_slots.proofs.SlotLemmas.{spelled, take-spelling, holds_spelled, fronts_fit, other_kind, if_some, if_ok_some}
use Rattle.catalogue_slots.proofs.slot.Slot.decode.Goals as goal

pub returns-in_default-clause-only : goal.returns-in_default-clause-only
returns-in_default-clause-only c entry is e = c.in_default.ensures.only (front_of entry) (fronts_fit entry is) (take-spelling c.args.slot.now entry e)

pub returns-in-1-clause-found : goal.returns-in-1-clause-found
returns-in-1-clause-found c =
    if_ok_some c.add_of.result (λ (found : Slot). spelled (front_in c.in-Some.front) c.args.slot.now _ (record_of found) (take_rest c.args.slot.now 16) c.in-Some.ensures.found) c.add_of.ensures.found

pub returns-in-1-clause-only : goal.returns-in-1-clause-only
returns-in-1-clause-only c entry is e =
    let same = c.in-Some.ensures.only (front_of entry) (fronts_fit entry is) (take-spelling c.args.slot.now entry e) in
    c.add_of.ensures.only entry (holds_spelled (front_in c.in-Some.front) c.args.slot.now _ entry (take_rest c.args.slot.now 16) is e same)

pub returns-in-2-clause-found : goal.returns-in-2-clause-found
returns-in-2-clause-found c =
    if_ok_some c.more_of.result (λ (found : Slot). spelled (front_in c.in-Some.front) c.args.slot.now _ (record_of found) (take_rest c.args.slot.now 16) c.in-Some.ensures.found) c.more_of.ensures.found

pub returns-in-2-clause-only : goal.returns-in-2-clause-only
returns-in-2-clause-only c entry is e =
    let same = c.in-Some.ensures.only (front_of entry) (fronts_fit entry is) (take-spelling c.args.slot.now entry e) in
    c.more_of.ensures.only entry (holds_spelled (front_in c.in-Some.front) c.args.slot.now _ entry (take_rest c.args.slot.now 16) is e same)

pub returns-in-3-clause-found : goal.returns-in-3-clause-found
returns-in-3-clause-found c =
    if_some c.del_of.result (λ (found : Slot). spelled (front_in c.in-Some.front) c.args.slot.now _ (record_of found) (take_rest c.args.slot.now 16) c.in-Some.ensures.found) c.del_of.ensures.found

pub returns-in-3-clause-only : goal.returns-in-3-clause-only
returns-in-3-clause-only c entry is e =
    let same = c.in-Some.ensures.only (front_of entry) (fronts_fit entry is) (take-spelling c.args.slot.now entry e) in
    c.del_of.ensures.only entry (holds_spelled (front_in c.in-Some.front) c.args.slot.now _ entry (take_rest c.args.slot.now 16) is e same)

pub returns-in-4-clause-found : goal.returns-in-4-clause-found
returns-in-4-clause-found c =
    if_some c.base_of.result (λ (found : Slot). spelled (front_in c.in-Some.front) c.args.slot.now _ (record_of found) (take_rest c.args.slot.now 16) c.in-Some.ensures.found) c.base_of.ensures.found

pub returns-in-4-clause-only : goal.returns-in-4-clause-only
returns-in-4-clause-only c entry is e =
    let same = c.in-Some.ensures.only (front_of entry) (fronts_fit entry is) (take-spelling c.args.slot.now entry e) in
    c.base_of.ensures.only entry (holds_spelled (front_in c.in-Some.front) c.args.slot.now _ entry (take_rest c.args.slot.now 16) is e same)

pub returns-in_default-kind-clause-only : goal.returns-in_default-kind-clause-only
returns-in_default-kind-clause-only c entry is e =
    let same = c.in-Some.ensures.only (front_of entry) (fronts_fit entry is) (take-spelling c.args.slot.now entry e) in
    other_kind c.in-Some.front.kind entry (ap (λ (f : Front). f.kind) same) (λ (k : c.in-Some.front.kind ≡ 1). absurd (omega arith)) (λ (k : c.in-Some.front.kind ≡ 2). absurd (omega arith))
    (λ (k : c.in-Some.front.kind ≡ 3). absurd (omega arith)) (λ (k : c.in-Some.front.kind ≡ 4). absurd (omega arith))
