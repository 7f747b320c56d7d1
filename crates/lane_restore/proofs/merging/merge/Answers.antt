use Rattle.std.proofs.Common.{◌≡◌, ℕ, ◌*◌, ◌≤◌, arith}
use Rattle.std.proofs.Math.Nat.{mul-le-mul_left}
use Rattle.site_disk.specs.CallsLaws.{uses_more}
use Rattle.site_disk.specs.Ledger.{EraView, Ledger, Uses}
use Rattle.before_images.specs.Saved.{place_of}
use Rattle.lane_ways.specs.Pictures.{pages_at}
use Rattle.lane_restore.specs.Images.{step_len}
use Rattle.lane_restore.proofs.merging.merge.Goals as goal

-- a step's writes, coarsely
few_writes : {era : EraView} {old new : Ledger} (pages own count size entries : ℕ) → own ≡ pages → count ≡ step_len size entries → Uses era 0 (place_of pages_at own * count) old new
    → Uses era 0 (256 * place_of pages_at pages) old new
few_writes {era} {old} {new} pages own count size entries same is uses =
    let few : count ≤ 256 = omega (arith, is) in
    let le : place_of pages_at own * count ≤ place_of pages_at own * 256 = mul-le-mul_left (place_of pages_at own) few in
    uses_more uses (omega arith) (omega (arith, le, same))

pub returns-in_err-merge_entries-clause-chunk : goal.returns-in_err-merge_entries-clause-chunk
returns-in_err-merge_entries-clause-chunk g c = few_writes c.args.pages _ _ c.args.image.now.size c.args.entries c.requires.count c.step_len-count.ensures c.merge_entries.ensures.chunk

pub returns-clause-chunk : goal.returns-clause-chunk
returns-clause-chunk g c = few_writes c.args.pages _ _ c.args.image.now.size c.args.entries c.requires.count c.step_len-count.ensures c.merge_entries.ensures.chunk

pub returns-clause-agrees : goal.returns-clause-agrees
returns-clause-agrees g c tells site state agrees = c.in_ok-merge_entries.ensures.agrees tells site c.args.pages state agrees
