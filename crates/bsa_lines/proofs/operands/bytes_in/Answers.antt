use Rattle.std.proofs.Common.{sym}
use Rattle.bsa_lines.proofs.LineLemmas.{sent_bytes-long}
use Rattle.bsa_lines.proofs.operands.bytes_in.Goals as goal

pub returns-then-len-gt-PIECE_LIMIT : goal.returns-then-len-gt-PIECE_LIMIT
returns-then-len-gt-PIECE_LIMIT c = sym (sent_bytes-long c.args.word.now c.if-len-gt-PIECE_LIMIT.true)
