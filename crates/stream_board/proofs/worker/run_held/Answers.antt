use Rattle.std.proofs.Common.{◌∷◌, sym, ap, ◌∙◌}
use Rattle.atomic_table.specs.Table.{rest}
use Rattle.stream_board.specs.Views.{next, counted}
use Rattle.stream_board.proofs.worker.run_held.Goals as goal

pub slot_mut-counted-requires : goal.slot_mut-counted-requires
slot_mut-counted-requires g c =
    let h = c.requires.held in
    (c.requires.own, (h.0, h.1 ∙ ap (λ held. (c.args.number, h.0) ∷ rest held) (sym h.1)))

pub returns-clause-ran : goal.returns-clause-ran
returns-clause-ran g c =
    let h = c.requires.held.1 in
    let found = c.slot_mut-counted.result.now in record {
      before = found;
      value = c.call.new.job;
      held = c.slot_mut-counted.ensures.value ∙ ap (λ held. (c.args.number, found) ∷ rest held) h;
      changed = c.call.ensures;
      after = ap (λ held. (c.args.worker.now.me.0, (c.args.number, counted c.call.new.job (next found.rounds)) ∷ rest held)) h;
    }
