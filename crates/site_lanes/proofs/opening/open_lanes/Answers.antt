use Rattle.std.proofs.Common.{◌≡◌, ◌+◌, ◌<◌, ◌≤◌, ℕ, List, refl, Some, length, get_or, arith, subst, sym, ap, ◌∙◌}
use Rattle.std.specs.Prelude.{slice_get}
use Rattle.std.proofs.lemmas.Option.{slice_get_read}
use Rattle.std.proofs.lemmas.Result.{err_from_is_err_and}
use Rattle.site_headers.specs.declared.heads.SpaceHead.{SpaceHead}
use Rattle.site_lanes.proofs.OneLemmas.{rose_from, same_later}
use Rattle.site_lanes.proofs.OpeningLemmas.{Partway, ahead_more, explained, one_more, told_opened, told_others, told_refused, untold, works_all, works_more}
use Rattle.site_lanes.proofs.opening.open_lanes.Goals as goal

-- a head as it is read
read_head : (heads items : List SpaceHead) (i : ℕ) (head : SpaceHead) → items ≡ heads → i < length items → head ≡ get_or items i head → slice_get heads i ≡ Some head
read_head heads items i head same lt is = ap (λ (l : List SpaceHead). slice_get l i) (sym same) ∙ slice_get_read items (length items) i head refl lt is

pub returns-in_err-opening-clause-works : goal.returns-in_err-opening-clause-works
returns-in_err-opening-clause-works g c =
    let heads = c.args.head.now.spaces.items in
    let i = c.loop-i.i in
    let old = c.args.lanes.now in
    let new = c.open_lane.new.lanes in
    let is_head = read_head heads c.deref-space-items.result.now i c.space-item.result c.deref-space-items.ensures.value (omega arith) c.space-item.is in
    works_all g.D.Disk c.args.era.now c.args.head.now.site heads (i + 1) old new c.requires.era c.requires.made
    (works_more g.D.Disk c.args.era.now c.args.head.now.site heads i old c.loop-i.lanes new c.loop-i.refusals c.space-item.result is_head c.loop-i.invariant c.open_lane.ensures.works)
    (ahead_more g.D.Disk c.args.era.now c.args.head.now.site heads i old c.loop-i.lanes new c.loop-i.refusals c.space-item.result is_head c.loop-i.invariant c.open_lane.ensures.works)

pub returns-in_err-opening-clause-refused : goal.returns-in_err-opening-clause-refused
returns-in_err-opening-clause-refused g c =
    let heads = c.args.head.now.spaces.items in
    let i = c.loop-i.i in
    let old = c.args.lanes.now in
    let new = c.open_lane.new.lanes in
    let is_head = read_head heads c.deref-space-items.result.now i c.space-item.result c.deref-space-items.ensures.value (omega arith) c.space-item.is in
    let p = err_from_is_err_and c.from_residual.result c.from_residual.ensures.1 in
    let is = c.in_err-opening.ensures.failed in
    let lt : i < length heads = omega (arith, ap (λ (l : List SpaceHead). length l) c.deref-space-items.ensures.value) in
    rw (p.1, p.2)
    (explained g.D.Disk c.args.era.now c.args.head.now.site heads i old new c.in_err-opening.field-0.0 is.0 lt
    (rose_from g.D.Disk i old c.loop-i.lanes new (c.loop-i.invariant.ahead i (omega arith)) is.1)
    (ahead_more g.D.Disk c.args.era.now c.args.head.now.site heads i old c.loop-i.lanes new c.loop-i.refusals c.space-item.result is_head c.loop-i.invariant c.open_lane.ensures.works))

pub returns-in_err-opening-clause-others : goal.returns-in_err-opening-clause-others
returns-in_err-opening-clause-others g c =
    let p = err_from_is_err_and c.from_residual.result c.from_residual.ensures.1 in
    let is = c.in_err-opening.ensures.failed in
    rw (p.1, p.2)
    (untold g.D.Disk c.args.era.now c.args.head.now.site c.args.head.now.spaces.items c.loop-i.i c.args.lanes.now c.open_lane.new.lanes c.in_err-opening.field-0.0 is.0)

pub returns-in_err-opening-clause-beyond : goal.returns-in_err-opening-clause-beyond
returns-in_err-opening-clause-beyond g c =
    let heads = c.args.head.now.spaces.items in
    let i = c.loop-i.i in
    let old = c.args.lanes.now in
    let new = c.open_lane.new.lanes in
    let is_head = read_head heads c.deref-space-items.result.now i c.space-item.result c.deref-space-items.ensures.value (omega arith) c.space-item.is in
    let le : i + 1 ≤ length heads = omega (arith, ap (λ (l : List SpaceHead). length l) c.deref-space-items.ensures.value) in
    same_later (i + 1) (length heads) old new le
    (ahead_more g.D.Disk c.args.era.now c.args.head.now.site heads i old c.loop-i.lanes new c.loop-i.refusals c.space-item.result is_head c.loop-i.invariant c.open_lane.ensures.works)

pub loop-i-preserved : goal.loop-i-preserved
loop-i-preserved g c =
    let heads = c.args.head.now.spaces.items in
    let i = c.loop-i.i in
    let is_head = read_head heads c.deref-space-items.result.now i c.space-item.result c.deref-space-items.ensures.value (omega arith) c.space-item.is in
    one_more g.D.Disk c.args.era.now c.args.head.now.site heads i c.args.lanes.now c.loop-i.lanes c.open_lane.new.lanes c.loop-i.refusals c.space-item.result is_head c.loop-i.invariant
    c.open_lane.ensures.works c.in_ok-opening.opening c.in_ok-opening.ensures.came c.note.new.self c.note.ensures

pub returns-clause-opened : goal.returns-clause-opened
returns-clause-opened g c =
    let heads = c.args.head.now.spaces.items in
    let end : c.loop-i.i ≡ length heads = omega (arith, ap (λ (l : List SpaceHead). length l) c.deref-space-items.ensures.value) in
    let all = subst (λ (n : ℕ). Partway g.D.Disk c.args.era.now c.args.head.now.site heads n c.args.lanes.now c.loop-i.lanes c.loop-i.refusals) end c.loop-i.invariant in
    told_opened g.D.Disk c.args.era.now c.args.head.now.site heads c.args.lanes.now c.loop-i.lanes c.loop-i.refusals all c.answer.result c.answer.ensures

pub returns-clause-refused : goal.returns-clause-refused
returns-clause-refused g c =
    let heads = c.args.head.now.spaces.items in
    let end : c.loop-i.i ≡ length heads = omega (arith, ap (λ (l : List SpaceHead). length l) c.deref-space-items.ensures.value) in
    let all = subst (λ (n : ℕ). Partway g.D.Disk c.args.era.now c.args.head.now.site heads n c.args.lanes.now c.loop-i.lanes c.loop-i.refusals) end c.loop-i.invariant in
    told_refused g.D.Disk c.args.era.now c.args.head.now.site heads c.args.lanes.now c.loop-i.lanes c.loop-i.refusals all c.answer.result c.answer.ensures

pub returns-clause-others : goal.returns-clause-others
returns-clause-others g c =
    let heads = c.args.head.now.spaces.items in
    let end : c.loop-i.i ≡ length heads = omega (arith, ap (λ (l : List SpaceHead). length l) c.deref-space-items.ensures.value) in
    let all = subst (λ (n : ℕ). Partway g.D.Disk c.args.era.now c.args.head.now.site heads n c.args.lanes.now c.loop-i.lanes c.loop-i.refusals) end c.loop-i.invariant in
    told_others g.D.Disk c.args.era.now c.args.head.now.site heads c.args.lanes.now c.loop-i.lanes c.loop-i.refusals all c.answer.result c.answer.ensures

pub returns-clause-works : goal.returns-clause-works
returns-clause-works g c =
    let heads = c.args.head.now.spaces.items in
    works_all g.D.Disk c.args.era.now c.args.head.now.site heads c.loop-i.i c.args.lanes.now c.loop-i.lanes c.requires.era c.requires.made c.loop-i.invariant.works c.loop-i.invariant.ahead
