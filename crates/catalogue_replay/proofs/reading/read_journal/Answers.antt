use Rattle.std.proofs.Common.{ap, refl, inl, inr, arith}
use Rattle.std.proofs.lemmas.Result.{err_from_is_err_and}
use Rattle.gated_slots.specs.Slots.{Area, place_of}
use Rattle.catalogue_replay.proofs.ReadingLemmas.{ok_value, came_to, bad_none, bad_slot, read_all}
use Rattle.catalogue_replay.proofs.reading.read_journal.Goals as goal

pub returns-then-len-lt-SLOTS_AT-clause-bad : goal.returns-then-len-lt-SLOTS_AT-clause-bad
returns-then-len-lt-SLOTS_AT-clause-bad g c tells same =
    let len = ok_value _ _ _ c.len.result c.in_ok-len.len c.in_ok-len.ensures.cases c.in_ok-len.ensures.variant (c.len.ensures.found tells) in
    (refl, inl (refl, omega (arith, len, c.if-len-lt-SLOTS_AT.true)))

pub returns-in_err-replay-clause-bad : goal.returns-in_err-replay-clause-bad
returns-in_err-replay-clause-bad g c tells same =
    let p = err_from_is_err_and c.from_residual-in_err-replay.result c.from_residual-in_err-replay.ensures.1 in
    rw (p.1, p.2) (bad_none c.args.slots.now.area (g.D.Disk.bytes c.args.disk.now) c.in_err-replay.field-0.0 c.in_err-replay.ensures.only)

pub returns-then-replay-used-clause-bad : goal.returns-then-replay-used-clause-bad
returns-then-replay-used-clause-bad g c tells same =
    let len = ok_value _ _ _ c.len.result c.in_ok-len.len c.in_ok-len.ensures.cases c.in_ok-len.ensures.variant (c.len.ensures.found tells) in (
      refl,
      inr (bad_slot c.args.slots.now.area (g.D.Disk.bytes c.args.disk.now) c.args.slots.now.used c.min-held.result c.in_ok-replay.replay same
          (omega (arith, c.if-replay-used.true, c.used-used.ensures.used))
          (came_to (g.D.Disk.bytes c.args.disk.now) (g.D.Disk.bytes c.len.new.self) c.in_ok-len.len c.args.slots.now.used c.min-held.result c.in_ok-replay.replay
          c.len.ensures.bytes len c.if-len-lt-SLOTS_AT.false (omega (arith, c.min-held.ensures, c.used-used.ensures.used)) (c.in_ok-replay.ensures.followed tells))),
    )

pub returns-clause-read : goal.returns-clause-read
returns-clause-read g c tells =
    let len = ok_value _ _ _ c.len.result c.in_ok-len.len c.in_ok-len.ensures.cases c.in_ok-len.ensures.variant (c.len.ensures.found tells) in
    (read_all (g.D.Disk.bytes c.args.disk.now) c.args.slots.now.used c.min-held.result c.in_ok-replay.replay (omega (arith, c.if-replay-used.false, c.used-used.ensures.used))
    (came_to (g.D.Disk.bytes c.args.disk.now) (g.D.Disk.bytes c.len.new.self) c.in_ok-len.len c.args.slots.now.used c.min-held.result c.in_ok-replay.replay
    c.len.ensures.bytes len c.if-len-lt-SLOTS_AT.false (omega (arith, c.min-held.ensures, c.used-used.ensures.used)) (c.in_ok-replay.ensures.followed tells))).0

pub returns-clause-reaches : goal.returns-clause-reaches
returns-clause-reaches g c tells =
    let len = ok_value _ _ _ c.len.result c.in_ok-len.len c.in_ok-len.ensures.cases c.in_ok-len.ensures.variant (c.len.ensures.found tells) in
    let read = read_all (g.D.Disk.bytes c.args.disk.now) c.args.slots.now.used c.min-held.result c.in_ok-replay.replay (omega (arith, c.if-replay-used.false, c.used-used.ensures.used))
    (came_to (g.D.Disk.bytes c.args.disk.now) (g.D.Disk.bytes c.len.new.self) c.in_ok-len.len c.args.slots.now.used c.min-held.result c.in_ok-replay.replay
    c.len.ensures.bytes len c.if-len-lt-SLOTS_AT.false (omega (arith, c.min-held.ensures, c.used-used.ensures.used)) (c.in_ok-replay.ensures.followed tells)) in
    omega (arith, ap (λ (a : Area). place_of a c.args.slots.now.used) c.requires.area, read.1)

pub returns-clause-sound : goal.returns-clause-sound
returns-clause-sound g c =
    c.in_ok-replay.ensures.sound (omega (arith, c.in_ok-replay.ensures.few, c.if-replay-used.false, c.min-held.ensures, c.used-used.ensures.used))
