use Rattle.std.proofs.Common.{◌≡◌, ◌⊎◌, ◌∙◌, ◌++◌, inl, inr, List, ℕ, refl, ap, subst}
use Rattle.command_texts.specs.Printing.{TakesFront}
use Rattle.onbar_command.proofs.telling.tell.Goals as goal

pub returns-in-Ok-print_all-clause-tells : goal.returns-in-Ok-print_all-clause-tells
returns-in-Ok-print_all-clause-tells g c = inl (record {
  status_is = c.in-Ok.ensures.status;
  text = λ tells. c.in-Ok-print_all.ensures.whole tells ∙ ap (λ (t : List ℕ). g.K.Sink.taken c.args.out.now ++ t) (c.as_bytes.ensures.value ∙ c.in-Ok.ensures.text);
})

pub returns-clause-tells : goal.returns-clause-tells
returns-clause-tells g c = inr (record {
  untold = tt;
  text = λ tells. inr (subst (λ (t : List ℕ). TakesFront (g.K.Sink.taken c.args.out.now) (g.K.Sink.taken c.print_all.new.out) t)
      (c.as_bytes.ensures.value ∙ c.in-Ok.ensures.text) (c.in-Err-print_all.ensures.front tells));
})

pub returns-in-Err-clause-tells : goal.returns-in-Err-clause-tells
returns-in-Err-clause-tells g c = inr (record { untold = tt; text = λ tells. inl refl })
