use Rattle.std.proofs.Common.{◌∷◌, []}
use Rattle.std.proofs.lemmas.Result.{err_from_is_err_and}
use Rattle.walk_trials.specs.declared.trio.Move.TheVariants.{Raise, Seal}
use Rattle.walk_trials.specs.TrialsLaws.{first_fails, second_ends}
use Rattle.walk_trials.proofs.MovingLemmas.{answers_fault}
use Rattle.walk_trials.proofs.moving.raise_and_seal.Goals as goal

pub returns-in_err-make_move-clause-call : goal.returns-in_err-make_move-clause-call
returns-in_err-make_move-clause-call g c tells =
    let p = err_from_is_err_and c.from_residual.result c.from_residual.ensures.1 in
    answers_fault g.D.Disk (Raise c.args.goals ∷ Seal c.args.mark ∷ []) _ _ _ _ c.from_residual.result p.0 p.1
    (first_fails g.D.Disk (Raise c.args.goals) (Seal c.args.mark) _ 0 _ _ c.args.trio.now _ p.0 (c.in_err-make_move.ensures.call tells))

pub returns-clause-call : goal.returns-clause-call
returns-clause-call g c tells =
    second_ends g.D.Disk (Raise c.args.goals) (Seal c.args.mark) _ c.make_move.new.era.number _ _ c.make_move.new.trio _ _
    (c.in_ok-make_move.ensures.call tells) (c.make_move-2.ensures.call tells)
