use Rattle.std.proofs.Common.{arith, ⊎_elim}
use Rattle.site_disk.specs.Bytes.{Torn}
use Rattle.site_disk.specs.CallsLaws.{both_on_ok}
use Rattle.site_disk.specs.ImagesLaws.{weaker}
use Rattle.site_disk.specs.Images.{Seen}
use Rattle.site_disk.specs.Seen.{seen}
use Rattle.site_disk.specs.SeenLaws.{synced_after}
use Rattle.gated_slots.specs.Header.{MayClose}
use Rattle.gated_slots.specs.HeaderLaws.{closed_shut, shut_closed, closed_or_not, closed_written, stands_closed, may_close}
use Rattle.gated_slots.proofs.header.header_close.Goals as goal

pub returns-clause-crash : goal.returns-clause-crash
returns-clause-crash g c =
    let old = g.D.Disk.image c.args.disk.now in
    weaker MayClose (Torn 0 1) c.args.era.now.number old old (g.D.Disk.image c.close_gate.new.disk) c.close_gate.ensures.torn
    (λ f d b lt image torn. may_close d b torn)

pub returns-clause-still : goal.returns-clause-still
returns-clause-still g c tells closed = c.close_gate.ensures.still tells (closed_shut (g.D.Disk.bytes c.args.disk.now) closed)

pub returns-clause-kept : goal.returns-clause-kept
returns-clause-kept g c tells closed = c.close_gate.ensures.kept tells (closed_shut (g.D.Disk.bytes c.args.disk.now) closed)

pub returns-clause-bound : goal.returns-clause-bound
returns-clause-bound g c tells closed = c.close_gate.ensures.bound tells (closed_shut (g.D.Disk.bytes c.args.disk.now) closed)

pub returns-clause-durable : goal.returns-clause-durable
returns-clause-durable g c tells synced = c.close_gate.ensures.durable tells (λ shut. synced (shut_closed (g.D.Disk.bytes c.args.disk.now) shut))

pub returns-clause-closed : goal.returns-clause-closed
returns-clause-closed g c tells later =
    let old = g.D.Disk.bytes c.args.disk.now in
    let new : Seen = seen g.D.Disk c.close_gate.new.disk in
    let written = c.close_gate.ensures.written tells in
    ⊎_elim
    (λ closed. both_on_ok c.close_gate.result
    (λ is same. record {
      now = closed_written old new.bytes is;
      later = λ f b lt image. later closed f b (omega arith) (same.back f b image);
    })
    written (c.close_gate.ensures.kept tells (closed_shut old closed)))
    (λ isnt. both_on_ok c.close_gate.result
    (λ is only. stands_closed new (synced_after new c.args.era.now.number (g.met.D.Disk.now_counts c.close_gate.new.disk) (omega arith) only) (closed_written old new.bytes is))
    written (c.close_gate.ensures.durable tells (λ shut. absurd (isnt (shut_closed old shut)))))
    (closed_or_not old)
