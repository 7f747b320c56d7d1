use Rattle.std.proofs.lemmas.Result.{err_from_is_err_and}
use Rattle.walk_trials.specs.declared.trio.Move.TheVariants.{Seal}
use Rattle.std.proofs.Common.{◌∷◌, [], arith, ap, length, ◌∙◌}
use Rattle.walk_trials.specs.GrowsLaws.{grows_synced}
use Rattle.walk_trials.proofs.MovingLemmas.{answers_fault, seal_done, seal_fails}
use Rattle.walk_trials.proofs.moving.seal.Goals as goal

pub returns-in_err-grow-clause-call : goal.returns-in_err-grow-clause-call
returns-in_err-grow-clause-call g c tells =
    let p = err_from_is_err_and c.from_residual.result c.from_residual.ensures.1 in
    answers_fault g.D.Disk (Seal c.args.mark ∷ []) _ _ _ _ c.from_residual.result p.0 p.1 (seal_fails g.D.Disk c.args.mark _ _ c.args.trio.now c.grow.new.disk (c.grow.ensures.crash tells) (omega arith) p.0)

pub returns-in_err-sync-clause-call : goal.returns-in_err-sync-clause-call
returns-in_err-sync-clause-call g c tells =
    let p = err_from_is_err_and c.from_residual-in_err-sync.result c.from_residual-in_err-sync.ensures.1 in
    answers_fault g.D.Disk (Seal c.args.mark ∷ []) _ _ _ _ c.from_residual-in_err-sync.result p.0 p.1 (seal_fails g.D.Disk c.args.mark _ _ c.args.trio.now c.sync.new.self
    (grows_synced _ _ _ _ _ _ (c.grow.ensures.crash tells) c.sync.ensures.crash) (omega arith) p.0)

pub returns-clause-call : goal.returns-clause-call
returns-clause-call g c tells =
    seal_done g.D.Disk c.args.mark _ _ c.args.trio.now c.sync.new.self
    (grows_synced _ _ _ _ _ _ (c.grow.ensures.crash tells) c.sync.ensures.crash) (omega (arith, c.next.ensures.number))
    (ap length c.in_ok-sync.ensures.bytes ∙ c.in_ok-grow.ensures.come tells) (c.in_ok-sync.ensures.durable tells)
