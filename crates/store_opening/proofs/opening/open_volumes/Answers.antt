use Rattle.std.proofs.Common.{◌≡◌, List, map, ap, ◌∙◌, subst, arith}
use Rattle.std.proofs.lemmas.Result.{err_from_is_err_and}
use Rattle.catalogue_slots.specs.Records.{Object}
use Rattle.catalogue_slots.specs.Views.{object_of}
use Rattle.catalogue_journal.specs.Catalogues.{objects_of}
use Rattle.object_store.specs.Reading.{ChangesOne}
use Rattle.store_opening.specs.Opening.{OpensVolume, MissesVolume}
use Rattle.store_opening.proofs.LoopLemmas.{first_more_back, stops_back, first_all}
use Rattle.store_opening.proofs.opening.open_volumes.Goals as goal

pub returns-in_err-open_one-clause-volumes : goal.returns-in_err-open_one-clause-volumes
returns-in_err-open_one-clause-volumes g c =
    let p = err_from_is_err_and c.from_residual.result c.from_residual.ensures.1 in
    let objects = objects_of c.args.store.now.cat in
    let list : map object_of c.objects.result.now ≡ objects = c.objects.ensures ∙ ap objects_of c.loop-number.invariant.0 in
    rw (p.1, p.2)
    (stops_back (OpensVolume g.D.Disk c.args.era.now c.args.site objects) c.loop-number.store.volumes c.loop-number.number c.args.store.now.volumes.items c.deref_mut.result.now c.open_one.new.volumes
    c.loop-number.invariant.1 c.deref_mut.ensures.value (MissesVolume g.D.Disk c.args.era.now c.args.site objects) c.in_err-open_one.field-0.0
    (subst (λ (l : List Object). ChangesOne (MissesVolume g.D.Disk c.args.era.now c.args.site l c.loop-number.number c.in_err-open_one.field-0.0) c.loop-number.number c.deref_mut.result.now c.open_one.new.volumes)
    list c.in_err-open_one.ensures))

pub loop-number-preserved : goal.loop-number-preserved
loop-number-preserved g c =
    let objects = objects_of c.args.store.now.cat in
    let list : map object_of c.objects.result.now ≡ objects = c.objects.ensures ∙ ap objects_of c.loop-number.invariant.0 in (
      c.loop-number.invariant.0,
      first_more_back (OpensVolume g.D.Disk c.args.era.now c.args.site objects) c.loop-number.store.volumes c.loop-number.number c.args.store.now.volumes.items c.deref_mut.result.now c.open_one.new.volumes
          c.loop-number.invariant.1 c.deref_mut.ensures.value
          (subst (λ (l : List Object). ChangesOne (OpensVolume g.D.Disk c.args.era.now c.args.site l c.loop-number.number) c.loop-number.number c.deref_mut.result.now c.open_one.new.volumes)
          list c.in_ok-open_one.ensures),
    )

pub returns-clause-volumes : goal.returns-clause-volumes
returns-clause-volumes g c =
    first_all (OpensVolume g.D.Disk c.args.era.now c.args.site (objects_of c.args.store.now.cat)) c.loop-number.number c.args.store.now.volumes.items c.loop-number.store.volumes.items
    c.loop-number.invariant.1 (omega (arith, c.requires.count))
