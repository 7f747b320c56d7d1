use Rattle.std.proofs.Common.{◌≡◌, ℕ, ap, refl, inl, inr, arith, sym, ◌∙◌, length}
use Rattle.std.proofs.lemmas.Result.{err_from_is_err_and}
use Rattle.gated_slots.specs.Slots.{Area}
use Rattle.boot_lines.specs.LineLayout.{lines_of}
use Rattle.boot_file.proofs.StandsLemmas.{count_lines}
use Rattle.boot_file.proofs.ReadingLemmas.{came_to, bad_none, bad_slot, holds_read}
use Rattle.boot_file.proofs.reading.read_lines.Goals as goal

pub returns-then-len-lt-SLOTS_AT-clause-bad : goal.returns-then-len-lt-SLOTS_AT-clause-bad
returns-then-len-lt-SLOTS_AT-clause-bad g c tells same = inl (refl, omega (arith, c.in_ok-len.ensures.found tells, c.if-len-lt-SLOTS_AT.true))

pub returns-in_err-lines-clause-bad : goal.returns-in_err-lines-clause-bad
returns-in_err-lines-clause-bad g c tells same =
    let p = err_from_is_err_and c.from_residual-in_err-lines.result c.from_residual-in_err-lines.ensures.1 in
    rw (p.1, p.2) (bad_none (g.D.Disk.bytes c.args.disk.now) c.in_err-lines.field-0.0 c.in_err-lines.ensures.only)

pub returns-then-slot-used-clause-bad : goal.returns-then-slot-used-clause-bad
returns-then-slot-used-clause-bad g c tells same =
    let lines = lines_of c.in_ok-lines.lines.items in
    bad_slot (g.D.Disk.bytes c.args.disk.now) c.args.slots.now.used c.min-held.result c.len-slot.result lines same
    (omega (arith, c.len-slot.ensures, count_lines c.in_ok-lines.lines.items, c.in_ok-lines.lines.ok.0)) (omega (arith, c.if-slot-used.true, c.used-used.ensures.used))
    (came_to (g.D.Disk.bytes c.args.disk.now) (g.D.Disk.bytes c.len.new.self) c.in_ok-len.len c.args.slots.now.used c.min-held.result lines
    c.len.ensures.bytes (c.in_ok-len.ensures.found tells) c.if-len-lt-SLOTS_AT.false (omega (arith, c.min-held.ensures, c.used-used.ensures.used)) (c.in_ok-lines.ensures.taken tells))

pub returns-clause-held : goal.returns-clause-held
returns-clause-held g c tells same =
    let lines = lines_of c.in_ok-lines.lines.items in
    holds_read (g.D.Disk.bytes c.args.disk.now) c.args.slots.now.used c.min-held.result lines same
    (omega (arith, c.len-slot.ensures, count_lines c.in_ok-lines.lines.items, c.in_ok-lines.lines.ok.0, c.if-slot-used.false, c.used-used.ensures.used))
    (came_to (g.D.Disk.bytes c.args.disk.now) (g.D.Disk.bytes c.len.new.self) c.in_ok-len.len c.args.slots.now.used c.min-held.result lines
    c.len.ensures.bytes (c.in_ok-len.ensures.found tells) c.if-len-lt-SLOTS_AT.false (omega (arith, c.min-held.ensures, c.used-used.ensures.used)) (c.in_ok-lines.ensures.taken tells))

pub returns-clause-all : goal.returns-clause-all
returns-clause-all g c =
    omega (arith, c.len-slot.ensures, count_lines c.in_ok-lines.lines.items, c.in_ok-lines.lines.ok.0, c.if-slot-used.false, c.used-used.ensures.used, c.in_ok-lines.ensures.few, c.min-held.ensures)

pub overflow_cast-slot : goal.overflow_cast-slot
overflow_cast-slot g c =
    omega (
      arith,
      c.len-slot.ensures,
      count_lines c.in_ok-lines.lines.items,
      c.in_ok-lines.lines.ok.0,
      c.in_ok-lines.ensures.few,
      c.min-held.ensures,
      c.used-used.ensures.used,
      c.used-used.ensures.within.used,
      ap (λ (a : Area). a.capacity) c.requires.area,
    )
