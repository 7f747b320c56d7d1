use Rattle.std.proofs.Common.{refl}
use Rattle.onbar_grammar.specs.Script.{tokens_of}
use Rattle.script_lines.proofs.LineLemmas.{HasTwo-tokens_of}
use Rattle.script_lines.proofs.tokens.last_token.Goals as goal

pub returns-in-Ok : goal.returns-in-Ok
returns-in-Ok c = (refl, HasTwo-tokens_of (tokens_of c.args.bytes.now) c.in-Ok.field-0.0.now c.in-Ok.field-0.1.now c.in-Ok.ensures)
