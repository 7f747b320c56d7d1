use Rattle.std.proofs.lemmas.List.{take_rest}
use Rattle.script_lines.proofs.CuttingLemmas.{IsFrontLine-found, IsFrontLine-whole}
use Rattle.script_lines.proofs.cutting.line_in.Goals as goal

pub returns-in-Some : goal.returns-in-Some
returns-in-Some c =
    IsFrontLine-found c.args.bytes.now c.args.searched c.in-Some.at c.requires.within c.requires.searched
    (rw take_rest at c.in-Some.ensures)

pub returns-in-None : goal.returns-in-None
returns-in-None c =
    IsFrontLine-whole c.args.bytes.now c.args.searched c.requires.within c.requires.searched (rw take_rest at c.in-None.ensures)
