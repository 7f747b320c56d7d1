use Rattle.std.proofs.Common.{arith}
use Rattle.log_files.proofs.HeldLemmas.{told-next}
use Rattle.log_files.proofs.held.HeldFiles.open_next.Goals as goal

pub returns : goal.returns
returns c files tells = told-next files c.args.self.now tells c.place_of.result (omega (arith, tells.first, tells.next, c.requires.some)) c.place_of.ensures
