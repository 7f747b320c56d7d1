use Rattle.std.proofs.Common.{ℕ, length, ◌+◌, ap, ◌∙◌, subst, arith}
use Rattle.site_disk.specs.Ledger.{Uses}
use Rattle.site_disk.specs.CallsLaws.{on_ok}
use Rattle.site_disk.specs.ImagesLaws.{weaker}
use Rattle.object_volume.specs.Objects.{Outside, Spares}
use Rattle.object_volume.specs.Sending.{part_block}
use Rattle.object_volume.proofs.SendingLemmas.{some_bytes, part_outside, part_finished, part_end_some}
use Rattle.object_volume.proofs.sending.write_part.Goals as goal

pub returns-clause-finished : goal.returns-clause-finished
returns-clause-finished g c tells =
    let piece = c.args.piece.now in
    on_ok c.write_run.result
    (λ wrote. part_finished c.args.last c.place_of.result piece (g.D.Disk.bytes c.args.disk.now) (g.D.Disk.bytes c.write_run.new.disk) c.place_of.ensures
    (some_bytes (length piece) c.is_empty.result c.is_empty.ensures c.if-is_empty.false) c.requires.few wrote)
    (c.write_run.ensures.bytes tells)

pub returns-clause-crash : goal.returns-clause-crash
returns-clause-crash g c tells =
    let piece = c.args.piece.now in
    let limit : ℕ = length (g.D.Disk.bytes c.args.disk.now) in
    weaker (Spares (part_block piece c.args.last) limit) (Outside c.place_of.result (length piece) limit) c.args.era.now.number
    (g.D.Disk.image c.args.disk.now) (g.D.Disk.image c.args.disk.now) (g.D.Disk.image c.write_run.new.disk) (c.write_run.ensures.crash tells)
    (λ f d b lt image outside. part_outside c.args.last c.place_of.result limit piece d b c.place_of.ensures
    (some_bytes (length piece) c.is_empty.result c.is_empty.ensures c.if-is_empty.false) c.requires.few outside)

pub returns-clause-ledger : goal.returns-clause-ledger
returns-clause-ledger g c =
    let piece = c.args.piece.now in
    subst (λ (k : ℕ). Uses c.args.era.now 0 k (g.D.Disk.ledger c.args.disk.now) (g.D.Disk.ledger c.write_run.new.disk))
    (ap (λ (k : ℕ). k + length piece) c.place_of.ensures ∙ part_end_some piece c.args.last (some_bytes (length piece) c.is_empty.result c.is_empty.ensures c.if-is_empty.false))
    c.write_run.ensures.ledger

pub returns-clause-bound : goal.returns-clause-bound
returns-clause-bound g c tells =
    let piece = c.args.piece.now in
    let end = part_end_some piece c.args.last (some_bytes (length piece) c.is_empty.result c.is_empty.ensures c.if-is_empty.false) in
    omega (arith, c.write_run.ensures.spent tells, c.place_of.ensures, end)
