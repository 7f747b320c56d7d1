use Rattle.std.specs.Prelude.{Result, Ok, Err, IfOk}
use Rattle.std.proofs.Common.{◌≡◌, ℕ, zero, suc, ◌<◌, List, length, Bool, IsTrue, arith, ap, sym, subst, ◌∙◌}
use Rattle.site_disk.specs.declared.faults.Failed.{Failed}
use Rattle.level_archive.specs.Image.{head_bytes}
use Rattle.level_archive.specs.BlockLaws.{length-head_bytes}
use Rattle.object_volume.specs.Volumes.{disk_of}
use Rattle.lane_restore.specs.declared.job.ImageJob.{ImageJob}
use Rattle.lane_restore.specs.Images.{HasHead, block_from}
use Rattle.lane_restore.proofs.reading.read_head.Goals as goal

-- behind the first entry the head isn't read
not_read : (image : ImageJob) (entries : ℕ) (bytes : List ℕ) → 0 < entries → HasHead image entries bytes
not_read image zero bytes some = absurd (omega (arith, some))
not_read image (suc entries) bytes some = tt

head_read : (r : Result Bool Failed) (image : ImageJob) (entries at : ℕ) (block bytes : List ℕ) → entries ≡ 0 → at ≡ 0
    → IfOk r (λ whole. (IsTrue whole → length (block_from image at bytes) ≡ 4096) × (length (block_from image at bytes) ≡ 4096 → IsTrue whole))
    → IfOk r (λ whole. IsTrue whole → block ≡ block_from image at bytes)
    → IfOk r (λ whole. (IsTrue whole → block ≡ head_bytes image.head → HasHead image entries bytes) × (HasHead image entries bytes → IsTrue whole × (block ≡ head_bytes image.head)))
head_read (Err e) image entries at block bytes none first whole found = tt
head_read (Ok w) image entries at block bytes none first whole found =
    let here : block_from image at bytes ≡ block_from image 0 bytes = ap (λ (n : ℕ). block_from image n bytes) first in (
      λ test is. subst (λ (n : ℕ). HasHead image n bytes) (sym none) (sym here ∙ sym (found test) ∙ is),
      λ has.
          let is : block_from image 0 bytes ≡ head_bytes image.head = subst (λ (n : ℕ). HasHead image n bytes) none has in
          let test : IsTrue w = whole.1 (ap length (here ∙ is) ∙ length-head_bytes image.head) in
          (test, found test ∙ here ∙ is),
    )

pub returns-clause-head : goal.returns-clause-head
returns-clause-head g c tells =
    head_read c.read_block.result c.args.image.now c.args.entries _ c.read_block.new.block (g.D.Disk.bytes (disk_of c.args.volume.now))
    (omega arith) c.at-cursor.ensures.offset (c.read_block.ensures.whole tells) (c.read_block.ensures.found tells)
