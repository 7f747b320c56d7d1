use Rattle.std.proofs.Common.{◌≡◌, ◌*◌, ◌∷◌, [], ℕ, List, length, arith, ap, sym, subst, ◌∙◌}
use mathlib.Core.Logic.{inl}
use Rattle.site_disk.specs.Bytes.{extent}
use Rattle.site_disk.specs.BytesLaws.{length-written}
use Rattle.site_disk.specs.CallsLaws.{on_ok}
use Rattle.site_disk.specs.GatesLaws.{is_shut}
use Rattle.gated_slots.specs.Header.{IsClosed}
use Rattle.before_images.specs.RegionLaws.{saved_closed}
use Rattle.lane_ways.specs.Pictures.{images_at, pages_at}
use Rattle.space_lane.proofs.ClosingLemmas.{closed_filled, closed_shut_elsewhere, closed_torn, fill_stays, stays_again, torn_stays}
use Rattle.space_lane.proofs.StateLemmas.{cause_after}
use Rattle.space_lane.proofs.emptying.empty_chunk.Goals as goal

pub close_gate-requires-clause-within : goal.close_gate-requires-clause-within
close_gate-requires-clause-within g c tells = omega (arith, c.in_ok-extend_to.ensures.reaches tells)

pub write_pages-requires-clause-within : goal.write_pages-requires-clause-within
write_pages-requires-clause-within g c tells =
    let filled = g.D.Disk.bytes c.extend_to.new.disk in
    omega (
      arith,
      c.in_ok-extend_to.ensures.reaches tells,
      ap (λ (l : List ℕ). length l) (c.in_ok-close_gate.ensures.written tells),
      length-written images_at (0 ∷ []) filled (omega (arith, c.in_ok-extend_to.ensures.reaches tells)),
    )

pub returns-clause-none : goal.returns-clause-none
returns-clause-none g c tells =
    let filled = g.D.Disk.bytes c.extend_to.new.disk in
    let gate : extent images_at 1 (g.D.Disk.bytes c.close_gate.new.disk) ≡ 0 ∷ [] =
    ap (λ (l : List ℕ). extent images_at 1 l) (c.in_ok-close_gate.ensures.written tells) ∙ is_shut images_at filled (omega (arith, c.in_ok-extend_to.ensures.reaches tells)) in
    on_ok c.write_pages.result (λ torn. record { none = saved_closed images_at (g.D.Disk.bytes c.write_pages.new.disk) (torn.elsewhere images_at 1 (inl (omega arith)) ∙ gate) })
    (c.write_pages.ensures.torn tells)

pub returns-clause-closed : goal.returns-clause-closed
returns-clause-closed g c tells =
    let old = g.D.Disk.bytes c.args.disk.now in
    let fills = g.D.Disk.bytes c.extend_to.new.disk in
    let gate = g.D.Disk.bytes c.close_gate.new.disk in
    on_ok c.write_pages.result
    (λ torn closed.
    let first : IsClosed fills = subst IsClosed (sym (c.in_ok-extend_to.ensures.filled tells)) (closed_filled pages_at old closed) in
    let second : IsClosed gate = subst IsClosed (sym (c.in_ok-close_gate.ensures.written tells))
    (closed_shut_elsewhere images_at fills (omega arith) (omega (arith, c.in_ok-extend_to.ensures.reaches tells)) first) in
    closed_torn pages_at (4096 * c.args.pages) gate (g.D.Disk.bytes c.write_pages.new.disk) (omega arith) second torn)
    (c.write_pages.ensures.torn tells)

pub returns-in_err-extend_to-clause-crash : goal.returns-in_err-extend_to-clause-crash
returns-in_err-extend_to-clause-crash g c tells closed =
    fill_stays pages_at c.args.era.now.number (g.D.Disk.bytes c.args.disk.now) (g.D.Disk.image c.args.disk.now) (g.D.Disk.image c.extend_to.new.disk)
    (omega arith) closed (c.extend_to.ensures.crash tells)

pub returns-in_err-close_gate-clause-crash : goal.returns-in_err-close_gate-clause-crash
returns-in_err-close_gate-clause-crash g c tells closed =
    let e = c.args.era.now.number in
    let old = g.D.Disk.image c.args.disk.now in
    let first = g.D.Disk.image c.extend_to.new.disk in
    let second = g.D.Disk.image c.close_gate.new.disk in
    stays_again e old first second (fill_stays pages_at e (g.D.Disk.bytes c.args.disk.now) old first (omega arith) closed (c.extend_to.ensures.crash tells))
    (torn_stays images_at 1 e first second (omega arith) c.close_gate.ensures.torn)

pub returns-clause-crash : goal.returns-clause-crash
returns-clause-crash g c tells closed =
    let e = c.args.era.now.number in
    let old = g.D.Disk.image c.args.disk.now in
    let first = g.D.Disk.image c.extend_to.new.disk in
    let second = g.D.Disk.image c.close_gate.new.disk in
    let third = g.D.Disk.image c.write_pages.new.disk in
    stays_again e old second third
    (stays_again e old first second (fill_stays pages_at e (g.D.Disk.bytes c.args.disk.now) old first (omega arith) closed (c.extend_to.ensures.crash tells))
    (torn_stays images_at 1 e first second (omega arith) c.close_gate.ensures.torn))
    (torn_stays pages_at (4096 * c.args.pages) e second third (omega arith) c.write_pages.ensures.crash)

pub returns-clause-cause : goal.returns-clause-cause
returns-clause-cause g c =
    cause_after (g.D.Disk.ledger c.args.disk.now).faults (g.D.Disk.ledger c.close_gate.new.disk).faults (g.D.Disk.ledger c.write_pages.new.disk).faults c.write_pages.result
    (omega (arith, c.extend_to.ensures.cause.later, c.close_gate.ensures.cause.later)) c.write_pages.ensures.cause
