use Rattle.std.proofs.Common.{◌≡◌, ◌+◌, ◌≤◌, ◌^◌, ◌++◌, max, List, length, take, drop, refl, arith, ap, length-append, length-take, length-drop}
use Rattle.site_disk.specs.Bytes.{Torn, written, filled}
use Rattle.site_disk.specs.BytesLaws.{length-filled}
use Rattle.site_disk.specs.CallsLaws.{on_ok}
use Rattle.site_disk.specs.ImagesLaws.{weaker, goes_on}
use Rattle.object_volume.specs.Objects.{Outside}
use Rattle.object_volume.proofs.OutsideLemmas.{outside_again, torn_outside, filling_outside}
use Rattle.object_volume.proofs.writing.write_run.Goals as goal
use Rattle.std.proofs.Common.{◌-◌, min, ℕ}

-- a write reaches its end, and what was there before
reaches_more : (more end reached place : ℕ) (piece old mid new : List ℕ) → more ≡ max reached end → end ≡ min (place + length piece) (2 ^ 64 - 1)
    → reached ≤ length old → mid ≡ filled place old → new ≡ written place piece mid → more ≤ length new
reaches_more more end reached place piece old mid new is most before fills wrote =
    omega (
      arith,
      is,
      most,
      before,
      ap length wrote,
      ap length fills,
      length-filled place old,
      length-append (take place mid ++ piece) (drop (place + length piece) mid),
      length-append (take place mid) piece,
      length-take place mid,
      length-drop (place + length piece) mid,
    )

pub returns-in_err-reach_from-clause-crash : goal.returns-in_err-reach_from-clause-crash
returns-in_err-reach_from-clause-crash g c tells =
    let place = c.args.place in
    let limit : ℕ = length (g.D.Disk.bytes c.args.disk.now) in
    let first : ℕ = min place limit in
    weaker (Outside place (length c.args.piece.now) limit) (Torn first (place - first)) c.args.era.now.number
    (g.D.Disk.image c.args.disk.now) (g.D.Disk.image c.args.disk.now) (g.D.Disk.image c.reach_from.new.disk) (c.reach_from.ensures.crash tells)
    (λ f d b lt image torn. filling_outside place (length c.args.piece.now) limit first d b refl torn)

pub returns-clause-crash : goal.returns-clause-crash
returns-clause-crash g c tells =
    let place = c.args.place in
    let n : ℕ = length c.args.piece.now in
    let e = c.args.era.now.number in
    let limit : ℕ = length (g.D.Disk.bytes c.args.disk.now) in
    let first : ℕ = min place limit in
    let old = g.D.Disk.image c.args.disk.now in
    let mid = g.D.Disk.image c.reach_from.new.disk in
    let begun = weaker (Outside place n limit) (Torn first (place - first)) e old old mid (c.reach_from.ensures.crash tells)
    (λ f d b lt image torn. filling_outside place n limit first d b refl torn) in
    goes_on (Outside place n limit) (Torn place n) e old mid (g.D.Disk.image c.write_at.new.self) begun c.write_at.ensures.crash
    (λ f d b lt image torn. let was = begun.later f d lt image in
    (was.0, was.1, outside_again place n limit was.0 d b was.2 (torn_outside place n limit d b torn)))

pub returns-clause-reached : goal.returns-clause-reached
returns-clause-reached g c tells =
    on_ok c.write_at.result
    (λ wrote. reaches_more c.max.result c.saturating_add.result c.args.reached.now c.args.place c.args.piece.now (g.D.Disk.bytes c.args.disk.now) (g.D.Disk.bytes c.reach_from.new.disk)
    (g.D.Disk.bytes c.write_at.new.self) c.max.ensures c.saturating_add.ensures (c.requires.reached tells) (c.in_ok-reach_from.ensures.filled tells) wrote)
    (c.write_at.ensures.bytes tells)
