use Rattle.std.proofs.Common.{◌∙◌, ℕ, map, take, sym, ap, subst, arith, length-take}
use Rattle.site_disk.specs.Images.{Leaves}
use Rattle.site_disk.specs.Seen.{seen}
use Rattle.txn_table.specs.Table.{change_of}
use Rattle.lane_mark.specs.Layout.{spelling}
use Rattle.lane_ways.specs.Pictures.{Picture}
use Rattle.lane_steps.specs.Choices.{own}
use Rattle.lane_steps.specs.Moves.{Moves, Rests}
use Rattle.lane_advance.specs.Places.{picture_at}
use Rattle.lane_advance.proofs.DiskLemmas.{advance_moves, advance_none, goes_so, left_is, left_of, some_pages, step_is}
use Rattle.lane_advance.proofs.WayLemmas.{chosen_some}
use Rattle.lane_advance.proofs.advancing.advance_one.Goals as goal

pub returns-then-chosen-eq0-clause-none : goal.returns-then-chosen-eq0-clause-none
returns-then-chosen-eq0-clause-none g c same =
    ap (own c.args.space c.args.count) (sym (left_is c.args.changes.now c.args.progress.now.taken))
    ∙ c.choose-chosen.ensures.none (ap (λ (k : ℕ). take k c.choose-chosen.new.pages) c.if-chosen-eq0.true)

pub returns-then-chosen-eq0-clause-crash : goal.returns-then-chosen-eq0-clause-crash
returns-then-chosen-eq0-clause-crash g c tells history n upto part first leads under rests =
    let disk = c.args.disk.now in
    let image = g.D.Disk.image disk in
    advance_none history n c.args.space c.args.count c.args.state.now upto part first c.args.era.now.number image image image c.args.progress.now.upto c.args.progress.now.part (g.D.Disk.bytes disk)
    under.place under.not_before (λ f b lt is. rests.synced f b (omega (arith, lt, c.requires.era.not_past)) is) rests.shows

pub returns-in_err-step-clause-crash : goal.returns-in_err-step-clause-crash
returns-in_err-step-clause-crash g c tells history n upto part first leads under rests =
    let old = c.args.progress.now in
    let next = c.behind-next.result in
    let list = map change_of c.args.changes.now in
    let space : ℕ = c.args.space in
    let count : ℕ = c.args.count in
    let state = c.args.state.now in
    let is = step_is history n space count c.args.to upto part c.args.changes.now c.split_at.result.0.now c.choose-chosen.result.changes c.choose-chosen.result.pages c.choose-chosen.new.pages state
    c.encode_into.new.bytes first old next leads under c.choose-chosen.ensures.chooses c.if-chosen-eq0.false c.choose-chosen.ensures.few c.choose-chosen.array_long
    (c.behind-next.ensures.goes history n upto part list) c.choose-chosen.ensures.lays c.split_at.ensures.front (c.encode_into.ensures ∙ ap spelling c.with_place.ensures.state) in
    let was = picture_at history n space count state old.upto old.part first in
    let image = g.D.Disk.image c.args.disk.now in
    let image_s = g.D.Disk.image c.step.new.disk in
    advance_moves history n space count state upto part first c.args.era.now.number image image image_s old.upto next.upto old.part next.part under.place under.not_before
    is.goes.under_way.place is.goes.under_way.not_before
    (subst (λ (p : Picture). Leaves c.args.era.now.number (Moves was p) image image_s) is.same
    (c.step.ensures.crash tells was.header was.record_there was.pages next.upto next.part is.size is.can rests))

pub returns-clause-more : goal.returns-clause-more
returns-clause-more g c same =
    let used : ℕ = c.choose-chosen.result.pages in
    let all = c.choose-chosen.new.pages in
    omega (
      arith,
      c.behind-next.ensures.taken,
      chosen_some c.args.space c.args.count (map change_of (left_of c.args.changes.now c.args.progress.now.taken)) c.choose-chosen.result.changes (take used all)
          c.choose-chosen.ensures.chooses (some_pages used all c.if-chosen-eq0.false c.choose-chosen.ensures.few c.choose-chosen.array_long),
    )

pub returns-clause-under_way : goal.returns-clause-under_way
returns-clause-under_way g c history n upto part leads under =
    let goes = goes_so history n c.args.space c.args.count c.args.to upto part c.args.changes.now c.split_at.result.0.now c.choose-chosen.result.changes c.choose-chosen.result.pages c.choose-chosen.new.pages
    c.args.state.now c.encode_into.new.bytes c.encode_into.new.bytes c.args.progress.now c.behind-next.result leads under c.choose-chosen.ensures.chooses c.if-chosen-eq0.false c.choose-chosen.ensures.few
    c.choose-chosen.array_long (c.behind-next.ensures.goes history n upto part (map change_of c.args.changes.now)) in
    goes.under_way

pub returns-clause-other : goal.returns-clause-other
returns-clause-other g c history n upto part leads under is =
    let goes = goes_so history n c.args.space c.args.count c.args.to upto part c.args.changes.now c.split_at.result.0.now c.choose-chosen.result.changes c.choose-chosen.result.pages c.choose-chosen.new.pages
    c.args.state.now c.encode_into.new.bytes c.encode_into.new.bytes c.args.progress.now c.behind-next.result leads under c.choose-chosen.ensures.chooses c.if-chosen-eq0.false c.choose-chosen.ensures.few
    c.choose-chosen.array_long (c.behind-next.ensures.goes history n upto part (map change_of c.args.changes.now)) in
    goes.other

pub returns-clause-rests : goal.returns-clause-rests
returns-clause-rests g c tells history n upto part first leads under rests =
    let old = c.args.progress.now in
    let next = c.behind-next.result in
    let list = map change_of c.args.changes.now in
    let space : ℕ = c.args.space in
    let count : ℕ = c.args.count in
    let state = c.args.state.now in
    let is = step_is history n space count c.args.to upto part c.args.changes.now c.split_at.result.0.now c.choose-chosen.result.changes c.choose-chosen.result.pages c.choose-chosen.new.pages state
    c.encode_into.new.bytes first old next leads under c.choose-chosen.ensures.chooses c.if-chosen-eq0.false c.choose-chosen.ensures.few c.choose-chosen.array_long
    (c.behind-next.ensures.goes history n upto part list) c.choose-chosen.ensures.lays c.split_at.ensures.front (c.encode_into.ensures ∙ ap spelling c.with_place.ensures.state) in
    let was = picture_at history n space count state old.upto old.part first in
    subst (λ (p : Picture). Rests p c.step.new.mark (seen g.D.Disk c.step.new.disk)) is.same
    (c.in_ok-step.ensures.rests tells was.header was.record_there was.pages next.upto next.part is.size is.can rests)

pub returns-clause-crash : goal.returns-clause-crash
returns-clause-crash g c tells history n upto part first leads under rests =
    let old = c.args.progress.now in
    let next = c.behind-next.result in
    let list = map change_of c.args.changes.now in
    let space : ℕ = c.args.space in
    let count : ℕ = c.args.count in
    let state = c.args.state.now in
    let is = step_is history n space count c.args.to upto part c.args.changes.now c.split_at.result.0.now c.choose-chosen.result.changes c.choose-chosen.result.pages c.choose-chosen.new.pages state
    c.encode_into.new.bytes first old next leads under c.choose-chosen.ensures.chooses c.if-chosen-eq0.false c.choose-chosen.ensures.few c.choose-chosen.array_long
    (c.behind-next.ensures.goes history n upto part list) c.choose-chosen.ensures.lays c.split_at.ensures.front (c.encode_into.ensures ∙ ap spelling c.with_place.ensures.state) in
    let was = picture_at history n space count state old.upto old.part first in
    let image = g.D.Disk.image c.args.disk.now in
    let image_s = g.D.Disk.image c.step.new.disk in
    advance_moves history n space count state upto part first c.args.era.now.number image image image_s old.upto next.upto old.part next.part under.place under.not_before
    is.goes.under_way.place is.goes.under_way.not_before
    (subst (λ (p : Picture). Leaves c.args.era.now.number (Moves was p) image image_s) is.same
    (c.step.ensures.crash tells was.header was.record_there was.pages next.upto next.part is.size is.can rests))

pub returns-in_err-step-clause-bound : goal.returns-in_err-step-clause-bound
returns-in_err-step-clause-bound g c tells long knows =
    omega (arith, c.step.ensures.bound tells long knows, length-take c.choose-chosen.result.pages c.choose-chosen.new.pages, c.choose-chosen.ensures.few)

pub returns-clause-bound : goal.returns-clause-bound
returns-clause-bound g c tells long knows =
    omega (arith, c.step.ensures.bound tells long knows, length-take c.choose-chosen.result.pages c.choose-chosen.new.pages, c.choose-chosen.ensures.few)
