use Rattle.std.proofs.Common.{◌≡◌, ℕ, ◌+◌, ◌*◌, ◌%◌, ◌<◌, length, arith, ap}
use Rattle.std.proofs.lemmas.Result.{err_from_is_err_and}
use Rattle.log_record.specs.Entry.{history_of}
use Rattle.held_log.proofs.ReaderLemmas.{all_taken, next_partway, none_yet, stops_here}
use Rattle.held_log.proofs.reader.Reader.take_file.Goals as goal

pub loop-i-init : goal.loop-i-init
loop-i-init c = none_yet c.args.first (256 * (c.args.file % 8)) (history_of c.args.records.now) c.args.self.now

pub loop-i-preserved : goal.loop-i-preserved
loop-i-preserved c =
    let lt : c.loop-i.i < length c.args.records.now = omega arith in
    next_partway c.args.first (256 * (c.args.file % 8)) c.args.records.now c.loop-i.i c.index-records-i.result c.args.self.now c.loop-i.self lt c.index-records-i.is
    c.loop-i.invariant c.take.new.self c.in_ok-take.ensures.taken

pub returns-in_err-take-clause-taken : goal.returns-in_err-take-clause-taken
returns-in_err-take-clause-taken c before past has at =
    let lt : c.loop-i.i < length c.args.records.now = omega arith in
    let p = err_from_is_err_and c.from_residual.result c.from_residual.ensures.1 in
    let number : 256 * c.place_of.result + c.loop-i.i ≡ 256 * (c.args.file % 8) + c.loop-i.i = ap (λ (n : ℕ). 256 * n + c.loop-i.i) c.place_of.ensures in
    rw (p.1, p.2) (stops_here c.args.first (256 * (c.args.file % 8)) c.args.records.now c.loop-i.i c.index-records-i.result c.args.self.now c.loop-i.self lt c.index-records-i.is
    c.loop-i.invariant before past c.take.new.self (256 * c.place_of.result + c.loop-i.i) c.in_err-take.field-0.0 has at number c.in_err-take.ensures.refused)

pub returns-clause-taken : goal.returns-clause-taken
returns-clause-taken c =
    let end : length c.args.records.now ≡ c.loop-i.i = omega arith in
    all_taken c.args.first (256 * (c.args.file % 8)) c.args.records.now c.loop-i.i c.args.self.now c.loop-i.self c.loop-i.invariant end
