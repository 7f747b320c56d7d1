use Rattle.std.proofs.Common.{◌+◌, arith}
use Rattle.std.proofs.lemmas.Slice.{drop-put_mid}
use Rattle.byte_fields.proofs.writing.write_zeros.Goals as goal

pub returns-clause-behind : goal.returns-clause-behind
returns-clause-behind c = drop-put_mid c.args.offset _ _ _ (c.args.offset + c.args.count) (omega arith) (omega arith) (omega arith)
