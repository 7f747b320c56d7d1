use Rattle.std.proofs.Common.{◌≡◌, ◌-◌, length, map, string_bytes, take, drop, Ok}
use Rattle.std.proofs.lemmas.Result.{IfOk-weaker}
use Rattle.command_grammar.specs.Words.{command_behind_j}
use Rattle.onbar_words.specs.declared.words.Order.{Order}
use Rattle.onbar_words.specs.Order.{command_in, FitsASite}
use Rattle.onbar_words.proofs.InitLemmas.{FitsASite-form_of_words, FitsASite-command_behind_j}
use Rattle.onbar_words.proofs.words.read_words.Goals as goal

pub returns-in-len1-up-clause-fits : goal.returns-in-len1-up-clause-fits
returns-in-len1-up-clause-fits c =
    let rest = map string_bytes (take (length c.args.words.now - 1) (drop 1 c.args.words.now)) in
    IfOk-weaker c.read_behind_j.result (λ (order : Order). command_behind_j rest ≡ Ok (command_in order)) (λ (order : Order). FitsASite order.form)
    (λ order is. FitsASite-command_behind_j rest order is) c.read_behind_j.ensures.order

pub returns-in_ok-form-in_default-clause-fits : goal.returns-in_ok-form-in_default-clause-fits
returns-in_ok-form-in_default-clause-fits c =
    FitsASite-form_of_words 1 (map string_bytes c.args.words.now) c.in_ok-form-in_default.form c.in_ok-form-in_default.ensures.form
