use Rattle.std.proofs.Common.{ℕ, Err, refl, ap, arith}
use Rattle.boot_lines.specs.LineLayout.{lines_of}
use Rattle.site_courses.specs.Faults.{cut_short}
use Rattle.boot_calls.specs.AddingLaws.{lines_done, lines_fail}
use Rattle.boot_calls.proofs.adding.add_lines.Goals as goal

pub returns-in-Ok-clause-adds : goal.returns-in-Ok-clause-adds
returns-in-Ok-clause-adds g c tells =
    let e : ℕ = c.args.era.now.number in
    lines_done g.D.Disk c.args.site.now c.append.new.self e c.next.new.self.number (omega (arith, c.next.ensures.number)) (lines_of c.args.lines.now)
    (λ site number lines active stands. c.append.ensures.crash tells site number lines active stands)
    e (omega (arith, c.next.ensures.number)) c.append.ensures.ledger.no_later (c.in-Ok.ensures.durable tells)
    (λ site number lines active stands. c.in-Ok.ensures.stands tells site number lines active stands)

pub returns-in-Err-OutOfMemory-clause-adds : goal.returns-in-Err-OutOfMemory-clause-adds
returns-in-Err-OutOfMemory-clause-adds g c tells =
    let e : ℕ = c.args.era.now.number in
    lines_fail g.D.Disk c.args.site.now c.append.new.self e e (omega arith) (lines_of c.args.lines.now)
    (λ site number lines active stands. c.append.ensures.crash tells site number lines active stands) cut_short refl

pub returns-in-Err-Failed-clause-adds : goal.returns-in-Err-Failed-clause-adds
returns-in-Err-Failed-clause-adds g c tells =
    let e : ℕ = c.args.era.now.number in
    lines_fail g.D.Disk c.args.site.now c.append.new.self e e (omega arith) (lines_of c.args.lines.now)
    (λ site number lines active stands. c.append.ensures.crash tells site number lines active stands) cut_short refl

pub returns-in-Ok-clause-told : goal.returns-in-Ok-clause-told
returns-in-Ok-clause-told g c told number active tells = c.in-Ok.ensures.told told number active tells

pub unreachable-requires-in-Err-BootFull : goal.unreachable-requires-in-Err-BootFull
unreachable-requires-in-Err-BootFull g c =
    let lacks = (c.in-Err-BootFull.ensures.full c.in-Err-BootFull.field-0-0 c.in-Err-BootFull.field-0-1 c.in-Err-BootFull.field-0-2).0 (ap Err c.in-Err-BootFull.field-0-is) in
    omega (arith, c.requires.room, lacks.full)
