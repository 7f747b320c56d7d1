use Rattle.std.proofs.Common.{◌≡◌, ℕ, List, length, take, arith, ap, sym, ◌∙◌}
use Rattle.std.proofs.lemmas.Bool.Decides.{nat_tests}
use Rattle.std.proofs.lemmas.List.{take_all}
use Rattle.block_chain.specs.declared.runs.Run.{Run}
use Rattle.object_volume.specs.Objects.{object_part}
use Rattle.object_volume.specs.Cursors.{offset_of}
use Rattle.object_volume.specs.Volumes.{disk_of}
use Rattle.lane_restore.specs.declared.job.ImageJob.{ImageJob}
use Rattle.lane_restore.specs.Images.{block_from}
use Rattle.lane_restore.proofs.reading.read_block.Goals as goal

part_is : (image : ImageJob) (at len : ℕ) (runs : List Run) (bytes : List ℕ) → runs ≡ image.runs.items → len ≡ 4096
    → object_part runs image.size at len bytes ≡ block_from image at bytes
part_is image at len runs bytes same long =
    ap (λ (l : List Run). object_part l image.size at len bytes) same ∙ ap (λ (n : ℕ). object_part image.runs.items image.size at n bytes) long

whole_read : (n : ℕ) (into block : List ℕ) → n ≡ 4096 → length into ≡ 4096 → take n into ≡ block → into ≡ block
whole_read n into block all long is =
    sym (take_all 4096 into (let e : length into ≡ 4096 = long in omega arith)) ∙ ap (λ (k : ℕ). take k into) (sym all) ∙ is

pub returns-clause-whole : goal.returns-clause-whole
returns-clause-whole g c tells =
    let image = c.args.image.now in
    let bytes = g.D.Disk.bytes (disk_of c.args.volume.now) in
    let is = part_is image (offset_of c.args.cursor.now) (length c.args.block.now) c.deref.result.now bytes c.deref.ensures.value c.requires.block in
    let count : c.in_ok-found.found ≡ length (block_from image (offset_of c.args.cursor.now) bytes) = c.in_ok-found.ensures.count tells ∙ ap length is in
    (λ test. grind (arith, nat_tests, test, count), λ all. grind (arith, nat_tests, all, count))

pub returns-clause-found : goal.returns-clause-found
returns-clause-found g c tells test =
    let image = c.args.image.now in
    let bytes = g.D.Disk.bytes (disk_of c.args.volume.now) in
    let is = part_is image (offset_of c.args.cursor.now) (length c.args.block.now) c.deref.result.now bytes c.deref.ensures.value c.requires.block in
    let all : c.in_ok-found.found ≡ 4096 = grind (arith, nat_tests, test) in
    whole_read c.in_ok-found.found c.get_next.new.into (block_from image (offset_of c.args.cursor.now) bytes) all (c.get_next.auto.into ∙ c.requires.block) (c.in_ok-found.ensures.found tells ∙ is)
