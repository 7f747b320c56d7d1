use Rattle.std.proofs.Common.{sym}
use Rattle.script_lines.proofs.TokenLemmas.{hex_bytes-long}
use Rattle.script_lines.proofs.tokens.bytes_in.Goals as goal

pub returns-then-len-gt64 : goal.returns-then-len-gt64
returns-then-len-gt64 c = sym (hex_bytes-long c.args.word.now c.if-len-gt64.true)
