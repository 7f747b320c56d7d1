use Rattle.std.proofs.Common.{◌∷◌, [], arith}
use Rattle.std.proofs.lemmas.Result.{err_from_is_err_and}
use Rattle.walk_trials.specs.declared.trio.Move.TheVariants.{Raise}
use Rattle.walk_trials.specs.TrialsLaws.{move_fails}
use Rattle.walk_trials.proofs.MovingLemmas.{answers_fault, grown_still, have_come, raise_done}
use Rattle.walk_trials.proofs.moving.raise.Goals as goal

pub returns-in_err-grow_all-clause-call : goal.returns-in_err-grow_all-clause-call
returns-in_err-grow_all-clause-call g c tells =
    let p = err_from_is_err_and c.from_residual.result c.from_residual.ensures.1 in
    answers_fault g.D.Disk (Raise c.args.goals ∷ []) _ _ _ _ c.from_residual.result p.0 p.1 (move_fails g.D.Disk (Raise c.args.goals) _ _ _ _ (omega arith) (c.grow_all.ensures.crash tells) p.0)

pub returns-in_err-sync_all-clause-call : goal.returns-in_err-sync_all-clause-call
returns-in_err-sync_all-clause-call g c tells =
    let p = err_from_is_err_and c.from_residual-in_err-sync_all.result c.from_residual-in_err-sync_all.ensures.1 in
    answers_fault g.D.Disk (Raise c.args.goals ∷ []) _ _ _ _ c.from_residual-in_err-sync_all.result p.0 p.1 (move_fails g.D.Disk (Raise c.args.goals) _ _ _ _ (omega arith)
    (grown_still g.D.Disk _ _ _ c.grow_all.new.trio _ (c.grow_all.ensures.crash tells) c.sync_all.ensures.crash) p.0)

pub returns-clause-call : goal.returns-clause-call
returns-clause-call g c tells =
    raise_done g.D.Disk c.args.goals _ _ _ _ (omega (arith, c.next.ensures.number))
    (grown_still g.D.Disk _ _ _ c.grow_all.new.trio _ (c.grow_all.ensures.crash tells) c.sync_all.ensures.crash)
    (have_come g.D.Disk _ _ c.grow_all.new.trio _ (c.in_ok-grow_all.ensures.come tells) c.in_ok-sync_all.ensures.bytes)
    (c.in_ok-sync_all.ensures.settled tells)
