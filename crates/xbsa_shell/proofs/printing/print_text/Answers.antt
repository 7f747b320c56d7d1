use Rattle.xbsa_shell.proofs.ListLemmas.{prints_part}
use Rattle.xbsa_shell.proofs.printing.print_text.Goals as goal

pub returns-in-Err-clause-front : goal.returns-in-Err-clause-front
returns-in-Err-clause-front g c tells =
    prints_part c.args.text.now (g.K.Sink.taken c.args.out.now) (g.K.Sink.taken c.print_all.new.out) (c.in-Err.ensures.front tells)
