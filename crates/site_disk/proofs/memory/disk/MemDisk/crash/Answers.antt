use Rattle.std.proofs.Common.{ℕ, List, subst, sym}
use Rattle.site_disk.specs.MemDisk.{disk_image, disk_left_at, disk_left_in_era}
use Rattle.site_disk.proofs.memory.disk.MemDisk.crash.Goals as goal

pub returns-clause-image : goal.returns-clause-image
returns-clause-image c =
    let bytes = c.in_ok-bytes.bytes.items in
    let left : disk_left_at c.args.self c.args.era.now.number c.args.choice.now.calls bytes
    = subst (λ (f : ℕ). disk_left_at c.args.self f c.args.choice.now.calls bytes) c.number.ensures c.in_ok-bytes.ensures in
    subst (λ (b : List ℕ). disk_image c.args.self c.args.era.now.number b) (sym c.of_bytes.ensures.bytes)
    (disk_left_in_era c.args.self c.args.era.now.number c.args.choice.now.calls bytes left)
