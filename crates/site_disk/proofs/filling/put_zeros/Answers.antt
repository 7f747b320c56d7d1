use Rattle.std.proofs.Common.{◌≡◌, ◌+◌, ◌-◌, ◌≤◌, ℕ, List, length, take, arith, ap, ◌∙◌}
use Rattle.std.proofs.lemmas.List.{length-take-le}
use Rattle.site_disk.specs.Bytes.{written}
use Rattle.site_disk.specs.CallsLaws.{torn_within, uses_write}
use Rattle.site_disk.proofs.Zeroing.{zeros_more, take-zeros}
use Rattle.site_disk.proofs.filling.put_zeros.Goals as goal

pub loop-at-preserved : goal.loop-at-preserved
loop-at-preserved g c =
    let n = c.min-n.result in
    let zeros = c.args.zeros.now in
    let so_far = c.loop-at.invariant in
    let few : n ≤ length zeros = omega arith in
    let long : length (take n zeros) ≡ n = length-take-le n zeros few in
    let begun : c.args.from ≤ c.loop-at.at = omega arith in
    let within : c.loop-at.at + n ≤ c.args.to = omega arith in
    record {
      begun = omega arith;
      within = within;
      content = λ tells. zeros_more c.args.from c.loop-at.at n (g.D.Disk.bytes c.args.disk.now) (g.D.Disk.bytes c.loop-at.disk) (g.D.Disk.bytes c.write_at.new.self)
          begun (c.requires.within tells) (so_far.content tells)
          (c.in_ok-write_at.ensures.bytes tells ∙ ap (λ (l : List ℕ). written c.loop-at.at l (g.D.Disk.bytes c.loop-at.disk)) (take-zeros n (length zeros) zeros few c.requires.zeros));
      crash = torn_within c.args.from (c.args.to - c.args.from) c.loop-at.at (length (take n zeros)) c.args.era.now.number
          (g.D.Disk.image c.args.disk.now) (g.D.Disk.image c.loop-at.disk) (g.D.Disk.image c.write_at.new.self)
          begun (omega (arith, long)) so_far.crash c.write_at.ensures.crash;
      uses = uses_write so_far.uses c.write_at.ensures.ledger c.write_at.ensures.cause.later (omega (arith, long));
    }
