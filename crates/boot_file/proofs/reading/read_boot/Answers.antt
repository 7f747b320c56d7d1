use Rattle.std.proofs.Common.{◌≡◌, ◌+◌, ◌*◌, ℕ, List, length, ap, subst, sym, ◌∙◌, arith, refl}
use Rattle.std.proofs.lemmas.Result.{err_from_is_err_and}
use Rattle.site_disk.specs.CallsLaws.{unchanged_again, uses_again, uses_more}
use Rattle.site_disk.specs.Ledger.{Uses}
use Rattle.site_disk.specs.Seen.{seen}
use Rattle.site_disk.specs.SeenLaws.{synced_after}
use Rattle.gated_slots.specs.Slots.{Area, used}
use Rattle.site_headers.specs.Headers.{HasHeader}
use Rattle.twin_mark.specs.Marks.{Knows}
use Rattle.boot_lines.specs.LineLayout.{lines_of}
use Rattle.boot_lines.specs.MarkLayout.{active_in}
use Rattle.boot_file.specs.Places.{boot_tail, lines_area, HoldsMark, HoldsLines}
use Rattle.boot_file.specs.Answers.{IsBadBoot}
use Rattle.boot_file.specs.Reading.{IsBadRead}
use Rattle.boot_file.proofs.ReadingLemmas.{bad_lines}
use Rattle.boot_file.proofs.reading.read_boot.Goals as goal

pub returns-clause-held : goal.returns-clause-held
returns-clause-held g c tells =
    let old = g.D.Disk.bytes c.args.disk.now in
    let first = c.in_ok-open.ensures.bytes in
    let same = c.in_ok-state.ensures.bytes ∙ first in
    let counts = c.in_ok-open.ensures.used tells ∙ ap (λ (a : Area). used a old) c.line_slots-slots.ensures.area ∙ ap (used lines_area) (sym same) in
    record {
      header = subst (HasHeader (boot_tail c.args.site)) first (c.in_ok-state.ensures.header tells);
      mark = subst (HoldsMark c.in_ok-state.state.last_number (active_in c.in_ok-state.state.restore)) first (c.in_ok-state.ensures.held tells);
      slots = subst (HoldsLines (lines_of c.in_ok-lines.lines.items)) same (c.in_ok-lines.ensures.held tells counts);
    }

pub returns-clause-synced : goal.returns-clause-synced
returns-clause-synced g c tells =
    let e = c.args.era.now.number in
    let new = c.read_lines.new.disk in
    let first = c.in_ok-open.ensures.durable tells in
    let still = unchanged_again c.in_ok-state.ensures.images c.in_ok-lines.ensures.images in
    synced_after (seen g.D.Disk new) e (g.met.D.Disk.now_counts new) c.in_ok-lines.ensures.ledger.no_later
    (λ f d lt image. first f d lt (still.back f d image) ∙ sym (c.in_ok-lines.ensures.bytes ∙ c.in_ok-state.ensures.bytes))

pub returns-clause-knows : goal.returns-clause-knows
returns-clause-knows g c tells =
    let e = c.args.era.now.number in
    let mid = c.open.new.disk in
    let synced = synced_after (seen g.D.Disk mid) e (g.met.D.Disk.now_counts mid) c.open.ensures.ledger.no_later (c.in_ok-open.ensures.durable tells) in
    subst (λ (l : List ℕ). Knows c.read_front.new.mark l) (sym c.in_ok-lines.ensures.bytes) (c.in_ok-state.ensures.knows tells synced)

pub returns-in_err-state-clause-bad : goal.returns-in_err-state-clause-bad
returns-in_err-state-clause-bad g c tells =
    let fault = c.in_err-state.field-0.0 in
    let p = err_from_is_err_and c.from_residual-in_err-state.result c.from_residual-in_err-state.ensures.1 in
    rw (p.1, p.2) (subst (λ (l : List ℕ). IsBadBoot c.args.site l fault) c.in_ok-open.ensures.bytes (c.in_err-state.ensures.bad tells))

pub returns-in_err-lines-clause-bad : goal.returns-in_err-lines-clause-bad
returns-in_err-lines-clause-bad g c tells =
    let old = g.D.Disk.bytes c.args.disk.now in
    let first = c.in_ok-open.ensures.bytes in
    let same = c.in_ok-state.ensures.bytes ∙ first in
    let counts = c.in_ok-open.ensures.used tells ∙ ap (λ (a : Area). used a old) c.line_slots-slots.ensures.area ∙ ap (used lines_area) (sym same) in
    let state = c.in_ok-state.state in
    let fault = c.in_err-lines.field-0.0 in
    let p = err_from_is_err_and c.from_residual-in_err-lines.result c.from_residual-in_err-lines.ensures.1 in
    rw (p.1, p.2)
    (bad_lines c.args.site state.last_number (active_in state.restore) old fault
    (subst (HasHeader (boot_tail c.args.site)) first (c.in_ok-state.ensures.header tells))
    (subst (HoldsMark state.last_number (active_in state.restore)) first (c.in_ok-state.ensures.held tells))
    (subst (λ (l : List ℕ). IsBadRead l fault) same (c.in_err-lines.ensures.bad tells counts)))

pub returns-in_err-lines-clause-ledger : goal.returns-in_err-lines-clause-ledger
returns-in_err-lines-clause-ledger g c =
    let so_far : Uses c.args.era.now 70400 0 (g.D.Disk.ledger c.args.disk.now) (g.D.Disk.ledger c.read_front.new.disk) =
    uses_again c.open.ensures.ledger c.in_ok-state.ensures.ledger (omega (arith, ap (λ (a : Area). a.capacity) c.line_slots-slots.ensures.area)) in
    uses_again so_far c.in_err-lines.ensures.ledger (omega (arith, c.in_err-lines.ensures.within, ap (λ (a : Area). a.capacity) c.open.ensures.area, ap (λ (a : Area). a.capacity) c.line_slots-slots.ensures.area))

pub returns-clause-ledger : goal.returns-clause-ledger
returns-clause-ledger g c =
    let so_far : Uses c.args.era.now 70400 0 (g.D.Disk.ledger c.args.disk.now) (g.D.Disk.ledger c.read_front.new.disk) =
    uses_again c.open.ensures.ledger c.in_ok-state.ensures.ledger (omega (arith, ap (λ (a : Area). a.capacity) c.line_slots-slots.ensures.area)) in
    uses_again so_far c.in_ok-lines.ensures.ledger (omega (arith, c.in_ok-lines.ensures.within, ap (λ (a : Area). a.capacity) c.open.ensures.area, ap (λ (a : Area). a.capacity) c.line_slots-slots.ensures.area))

pub returns-in_err-lines-clause-bound : goal.returns-in_err-lines-clause-bound
returns-in_err-lines-clause-bound g c tells =
    let old = g.D.Disk.bytes c.args.disk.now in
    let counts = c.in_ok-open.ensures.used tells ∙ ap (λ (a : Area). used a old) c.line_slots-slots.ensures.area in
    omega (arith, c.open.ensures.ledger.read, c.in_ok-state.ensures.ledger.read, c.in_err-lines.ensures.ledger.read, counts, ap (λ (a : Area). a.capacity) c.line_slots-slots.ensures.area)

pub returns-clause-bound : goal.returns-clause-bound
returns-clause-bound g c tells =
    let old = g.D.Disk.bytes c.args.disk.now in
    let counts = c.in_ok-open.ensures.used tells ∙ ap (λ (a : Area). used a old) c.line_slots-slots.ensures.area in
    omega (arith, c.open.ensures.ledger.read, c.in_ok-state.ensures.ledger.read, c.in_ok-lines.ensures.ledger.read, counts, ap (λ (a : Area). a.capacity) c.line_slots-slots.ensures.area)

pub returns-clause-used : goal.returns-clause-used
returns-clause-used g c = sym c.in_ok-lines.ensures.all

pub returns-clause-area : goal.returns-clause-area
returns-clause-area g c = c.open.ensures.area ∙ c.line_slots-slots.ensures.area

pub returns-in_err-open-clause-ledger : goal.returns-in_err-open-clause-ledger
returns-in_err-open-clause-ledger g c = uses_more c.open.ensures.ledger (omega (arith, ap (λ (a : Area). a.capacity) c.line_slots-slots.ensures.area)) (omega arith)

pub returns-in_err-state-clause-ledger : goal.returns-in_err-state-clause-ledger
returns-in_err-state-clause-ledger g c = uses_again c.open.ensures.ledger c.in_err-state.ensures.ledger (omega (arith, ap (λ (a : Area). a.capacity) c.line_slots-slots.ensures.area))

pub returns-in_err-open-clause-bound : goal.returns-in_err-open-clause-bound
returns-in_err-open-clause-bound g c tells = omega (arith, c.open.ensures.ledger.read, ap (λ (a : Area). a.capacity) c.line_slots-slots.ensures.area)

pub returns-in_err-state-clause-bound : goal.returns-in_err-state-clause-bound
returns-in_err-state-clause-bound g c tells =
    omega (arith, c.open.ensures.ledger.read, c.in_err-state.ensures.ledger.read, ap (λ (a : Area). a.capacity) c.line_slots-slots.ensures.area)
