use Rattle.std.proofs.Common.{◌≡◌, ◌+◌, ◌*◌, ◌/◌, ◌≤◌, ℕ, List, length, ap, subst, sym, ◌∙◌, arith}
use Rattle.std.proofs.lemmas.Bool.{both_ways}
use Rattle.site_disk.specs.Bytes.{extent}
use Rattle.gated_slots.specs.Slots.{Area, place_of}
use Rattle.boot_lines.specs.LineLayout.{lines_of}
use Rattle.boot_file.specs.Reading.{Counts}
use Rattle.boot_file.proofs.ReadingLemmas.{run_each, run_count, run_comes}
use Rattle.boot_file.proofs.reading.take_next_run.Goals as goal

pub returns-clause-each : goal.returns-clause-each
returns-clause-each g c =
    run_each (lines_of c.args.lines.now.items) (lines_of c.take_run.new.lines.items) c.read_run.new.into c.args.slot c.requires.next c.requires.each c.in_ok-take_run.field-0 c.in_ok-take_run.ensures.taken

pub returns-clause-count : goal.returns-clause-count
returns-clause-count g c =
    let n : length c.read_run.new.into ≡ length c.args.run.now = omega arith in
    subst (λ (k : ℕ). Counts (c.args.slot + k / 128) (lines_of c.take_run.new.lines.items) c.in_ok-take_run.field-0) n
    (run_count (lines_of c.args.lines.now.items) (lines_of c.take_run.new.lines.items) c.read_run.new.into c.args.slot c.requires.next c.in_ok-take_run.field-0 c.in_ok-take_run.ensures.taken)

pub returns-clause-taken : goal.returns-clause-taken
returns-clause-taken g c tells within begins =
    let file = g.D.Disk.bytes c.args.disk.now in
    let n : ℕ = length c.args.run.now in
    let at : ℕ = c.args.slot in
    let place : place_of c.args.slots.now.area at ≡ 73728 + 128 * length (lines_of c.args.lines.now.items) =
    ap (λ (a : Area). place_of a at) c.requires.area ∙ ap (λ (k : ℕ). 73728 + 128 * k) c.requires.next in
    let run : c.read_run.new.into ≡ extent (73728 + 128 * length (lines_of c.args.lines.now.items)) n file =
    c.in_ok-read_run.ensures.found tells c.if-not-branch.false ∙ ap (λ (k : ℕ). extent k n file) place in
    run_comes (lines_of c.args.lines.now.items) (lines_of c.take_run.new.lines.items) c.read_run.new.into file n begins run (at + n / 128) c.in_ok-take_run.field-0 c.in_ok-take_run.ensures.taken

pub returns-then-not-branch-clause-taken : goal.returns-then-not-branch-clause-taken
returns-then-not-branch-clause-taken g c tells within begins =
    let file : List ℕ = g.D.Disk.bytes c.args.disk.now in
    let n : ℕ = length c.args.run.now in
    absurd (both_ways c.in_ok-read_run.field-0 c.if-not-branch.true
    ((c.in_ok-read_run.ensures.whole tells).1 (subst (λ (a : Area). place_of a c.args.slot + n ≤ length file) (sym c.requires.area) within)))
