use Rattle.std.proofs.Common.{arith}
use Rattle.std.proofs.lemmas.Result.{err_from_is_err_and}
use Rattle.store_opening.specs.Syncing.{SyncsVolume, FailsToSync}
use Rattle.store_opening.proofs.LoopLemmas.{first_more_back, stops_back, first_all}
use Rattle.store_opening.proofs.syncing.sync_volumes.Goals as goal

pub returns-in_err-sync_one-clause-volumes : goal.returns-in_err-sync_one-clause-volumes
returns-in_err-sync_one-clause-volumes g c =
    let p = err_from_is_err_and c.from_residual.result c.from_residual.ensures.1 in
    rw (p.1, p.2)
    (stops_back (SyncsVolume g.D.Disk c.args.era.now) c.loop-number.store.volumes c.loop-number.number c.args.store.now.volumes.items c.deref_mut.result.now c.sync_one.new.volumes
    c.loop-number.invariant.1 c.deref_mut.ensures.value (FailsToSync g.D.Disk c.args.era.now) c.in_err-sync_one.field-0.0 c.in_err-sync_one.ensures)

pub loop-number-preserved : goal.loop-number-preserved
loop-number-preserved g c = (
  c.loop-number.invariant.0,
  first_more_back (SyncsVolume g.D.Disk c.args.era.now) c.loop-number.store.volumes c.loop-number.number c.args.store.now.volumes.items c.deref_mut.result.now c.sync_one.new.volumes
      c.loop-number.invariant.1 c.deref_mut.ensures.value c.in_ok-sync_one.ensures,
)

pub returns-clause-volumes : goal.returns-clause-volumes
returns-clause-volumes g c =
    first_all (SyncsVolume g.D.Disk c.args.era.now) c.loop-number.number c.args.store.now.volumes.items c.loop-number.store.volumes.items c.loop-number.invariant.1 (omega (arith, c.requires.count))
