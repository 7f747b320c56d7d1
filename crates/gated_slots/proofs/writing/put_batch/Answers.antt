use Rattle.std.proofs.Common.{inl, inr, ℕ, List, length, arith, subst, ◌∙◌}
use Rattle.site_disk.specs.Bytes.{Torn}
use Rattle.site_disk.specs.ImagesLaws.{weaker, goes_on}
use Rattle.gated_slots.specs.Writes.{MayAdd}
use Rattle.gated_slots.proofs.writing.put_batch.Goals as goal

pub returns-clause-crash : goal.returns-clause-crash
returns-clause-crash g c tells =
    let at = c.args.at in
    let batch = c.args.batch.now in
    let gate = c.args.gate in
    let era = c.args.era.now.number in
    let before = g.D.Disk.image c.args.disk.now in
    let between = g.D.Disk.image c.write_and_sync.new.disk in
    let after = g.D.Disk.image c.write_and_sync-2.new.disk in
    let first = weaker (MayAdd at batch gate) (Torn at (length batch)) era before before between c.write_and_sync.ensures.crash
    (λ f d b lt image torn. inl torn) in
    goes_on (MayAdd at batch gate) (Torn gate 1) era before between after first c.write_and_sync-2.ensures.crash
    (λ f d b lt image torn. (
      g.D.Disk.bytes c.args.disk.now,
      g.met.D.Disk.reads_as c.args.disk.now f tells (omega arith),
      inr (c.requires.within tells, subst (λ (x : List ℕ). Torn gate 1 x b) (c.in_ok-write_and_sync.ensures.durable tells f d lt image ∙ c.in_ok-write_and_sync.ensures.bytes tells) torn),
    ))
