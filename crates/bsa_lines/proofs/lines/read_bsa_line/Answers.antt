use Rattle.std.proofs.Common.{◌<◌, length, None, Some, sym, arith}
use Rattle.std.proofs.lemmas.Bool.{eqb-true, eqb-false}
use Rattle.bsa_lines.specs.BsaLine.{line_of_bsa}
use Rattle.bsa_lines.proofs.LineLemmas.{bsa_line_of-empty, bsa_line_of-read, IsLine-keyword_line}
use Rattle.bsa_lines.proofs.lines.read_bsa_line.Goals as goal

pub returns-then-is_empty-clause-exact : goal.returns-then-is_empty-clause-exact
returns-then-is_empty-clause-exact c = sym (bsa_line_of-empty c.args.bytes.now (eqb-true (length c.args.bytes.now) 0 (sym c.if-is_empty.ensures)))

pub returns-in-Some-clause-exact : goal.returns-in-Some-clause-exact
returns-in-Some-clause-exact c =
    let ne = eqb-false (length c.args.bytes.now) 0 (sym c.if-is_empty.ensures) in
    let some : 0 < length c.args.bytes.now = omega (arith, ne) in
    bsa_line_of-read c.args.bytes.now (Some (line_of_bsa c.in-Some.line)) some c.in-Some.ensures

pub returns-in-Some-clause-fits : goal.returns-in-Some-clause-fits
returns-in-Some-clause-fits c = IsLine-keyword_line c.args.bytes.now (line_of_bsa c.in-Some.line) (sym c.in-Some.ensures)

pub returns-in-None-clause-exact : goal.returns-in-None-clause-exact
returns-in-None-clause-exact c =
    let ne = eqb-false (length c.args.bytes.now) 0 (sym c.if-is_empty.ensures) in
    let some : 0 < length c.args.bytes.now = omega (arith, ne) in
    bsa_line_of-read c.args.bytes.now None some c.in-None.ensures
