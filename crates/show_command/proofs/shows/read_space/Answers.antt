use Rattle.std.specs.Prelude.{string_bytes}
use Rattle.std.proofs.lemmas.Result.{err_from_is_err_and}
use Rattle.show_command.proofs.ReadLemmas.{goes_behind, told_by}
use Rattle.show_command.proofs.shows.read_space.Goals as goal

pub returns-in_err-bring_lane-clause-told : goal.returns-in_err-bring_lane-clause-told
returns-in_err-bring_lane-clause-told g c tells at stands one may pages =
    let p = err_from_is_err_and c.from_residual.result c.from_residual.ensures.1 in
    rw (p.1, p.2) (c.in_err-bring_lane.ensures.brought tells at stands one may)

pub tell_space-requires-clause-lane : goal.tell_space-requires-clause-lane
tell_space-requires-clause-lane g c = c.in_ok-bring_lane.ensures.counted c.args.place.pages (λ n lane there same. (c.requires.lane n lane there same).1)

pub returns-clause-goes : goal.returns-clause-goes
returns-clause-goes g c tells at stands one may =
    goes_behind g.D.Disk c.args.era.now.number c.args.place.space at c.args.site.now c.bring_lane.new.site c.tell_space.new.site
    (c.in_ok-bring_lane.ensures.goes tells at stands one may) c.tell_space.ensures.quiet

pub returns-clause-told : goal.returns-clause-told
returns-clause-told g c tells at stands one may pages =
    let brought = c.in_ok-bring_lane.ensures.brought tells at stands one may in
    told_by g.D.Disk (λ text. string_bytes text) c.args.name.now c.args.page c.bring_lane.new.era.number c.args.place at c.args.site.now c.bring_lane.new.site c.tell_space.new.site pages c.requires.shown brought
    c.tell_space.ensures.quiet
    (λ space count n number history lt. c.the_pages_of_a_history_are_held.ensures.each space count n number history lt) c.tell_space.result
    (λ list holds. c.tell_space.ensures.text tells brought.value list brought.value_is holds)
