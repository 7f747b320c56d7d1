use Rattle.std.proofs.Common.{◌≡◌, ◌<◌, ◌∷◌, [], length, Some, Ok, Err, refl, sym, arith}
use Rattle.std.proofs.lemmas.Bool.{eqb-true, eqb-false}
use Rattle.std.proofs.lemmas.Result.{err_from_is_err_and}
use Rattle.onbar_grammar.specs.Script.{line_of}
use Rattle.site_headers.specs.Views.{spaces_of}
use Rattle.script_lines.specs.TxnLine.{line_of_txn}
use Rattle.script_lines.proofs.LineLemmas.{line_of-empty, line_of-read}
use Rattle.script_lines.proofs.FitLemmas.{IsLineIn-line_of}
use Rattle.script_lines.proofs.txn_lines.read_txn_line.Goals as goal

pub returns-then-is_empty-clause-exact : goal.returns-then-is_empty-clause-exact
returns-then-is_empty-clause-exact c =
    sym (line_of-empty (spaces_of c.args.spaces.now) c.args.bytes.now (eqb-true (length c.args.bytes.now) 0 (sym c.if-is_empty.ensures)))

pub returns-in_err-keyword-clause-exact : goal.returns-in_err-keyword-clause-exact
returns-in_err-keyword-clause-exact c =
    let fault = err_from_is_err_and c.from_residual.result c.from_residual.ensures.1 in
    let ne = eqb-false (length c.args.bytes.now) 0 (sym c.if-is_empty.ensures) in
    let some : 0 < length c.args.bytes.now = omega (arith, ne) in
    rw (fault.1, fault.2, c.in_err-keyword.ensures.0)
    (line_of-read (spaces_of c.args.spaces.now) c.args.bytes.now (c.args.bytes.now ∷ []) (Err _) some c.in_err-keyword.ensures.1 refl)

pub returns-in_err-line-clause-exact : goal.returns-in_err-line-clause-exact
returns-in_err-line-clause-exact c =
    let fault = err_from_is_err_and c.from_residual-in_err-line.result c.from_residual-in_err-line.ensures.1 in
    let ne = eqb-false (length c.args.bytes.now) 0 (sym c.if-is_empty.ensures) in
    let some : 0 < length c.args.bytes.now = omega (arith, ne) in
    rw (fault.1, fault.2)
    (line_of-read (spaces_of c.args.spaces.now) c.args.bytes.now _ (Err _) some c.in_ok-keyword.ensures c.in_err-line.ensures)

read_line : (c : goal.In_ok-line)
    → Ok (Some (line_of_txn c.in_ok-line.line)) ≡ line_of (spaces_of c.args.spaces.now) c.args.bytes.now
read_line c =
    let ne = eqb-false (length c.args.bytes.now) 0 (sym c.if-is_empty.ensures) in
    let some : 0 < length c.args.bytes.now = omega (arith, ne) in
    line_of-read (spaces_of c.args.spaces.now) c.args.bytes.now _ (Ok (line_of_txn c.in_ok-line.line)) some c.in_ok-keyword.ensures
    c.in_ok-line.ensures

pub returns-clause-exact : goal.returns-clause-exact
returns-clause-exact c = read_line c

pub returns-clause-fits : goal.returns-clause-fits
returns-clause-fits c =
    IsLineIn-line_of (spaces_of c.args.spaces.now) c.args.bytes.now (line_of_txn c.in_ok-line.line) (sym (read_line c))
