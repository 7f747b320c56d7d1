use Rattle.std.proofs.Common.{◌≡◌, ◌+◌, ◌*◌, ◌-◌, ◌≤◌, ◌<◌, ℕ, List, length, take, drop, true, arith, ap, sym, refl, subst, ◌∙◌, length-take, length-drop}
use Rattle.site_disk.specs.Bytes.{written, Torn}
use Rattle.site_disk.specs.BytesLaws.{length-written}
use Rattle.site_disk.specs.CallsLaws.{uses_write}
use Rattle.site_disk.specs.Images.{Leaves}
use Rattle.site_disk.specs.ImagesLaws.{goes_on}
use Rattle.before_images.specs.Saved.{place_of, u32_at, numbers, are_below, laid, Within}
use Rattle.before_images.specs.ListLaws.{numbers-end}
use Rattle.before_images.proofs.Copying.{put_more, within_more, within_written, laid-none}
use Rattle.before_images.proofs.pages.put_pages.Goals as goal

-- one write more in the pages
crash_more : (pages_at limit i count page n e : ℕ) (head : List ℕ) (old mid new : ℕ → List ℕ → Type 0) → i < count → are_below limit (numbers 0 count head) ≡ true
    → page ≡ u32_at (32 + 4 * i) head → n ≡ 4096 → Leaves e (Within pages_at limit (numbers 0 count head)) old mid → Leaves e (Torn (place_of pages_at page) n) mid new
    → Leaves e (Within pages_at limit (numbers 0 count head)) old new
crash_more pages_at limit i count page n e head old mid new lt below is size first second =
    goes_on (Within pages_at limit (numbers 0 count head)) (Torn (place_of pages_at page) n) e old mid new first second
    (λ f d c later image torn. let was = first.later f d later image in (
      was.0,
      was.1,
      within_more pages_at limit i count head was.0 d c lt below was.2
          (subst (λ (p : ℕ). Torn (place_of pages_at p) 4096 d c) is (subst (λ (k : ℕ). Torn (place_of pages_at page) k d c) size torn)),
    ))

-- an image is a part of the images
image_size : (i count : ℕ) (images : List ℕ) → i < count → length images ≡ 4096 * count → length (take (4096 * i + 4096 - 4096 * i) (drop (4096 * i) images)) ≡ 4096
image_size i count images lt long = omega (arith, lt, long, length-take (4096 * i + 4096 - 4096 * i) (drop (4096 * i) images), length-drop (4096 * i) images)

pub returns-in_err-write_at-clause-crash : goal.returns-in_err-write_at-clause-crash
returns-in_err-write_at-clause-crash g c limit below =
    let lt : c.loop-i.i < c.args.count = omega arith in
    crash_more c.args.pages_at limit c.loop-i.i c.args.count c.page_at.result _ c.args.era.now.number c.args.head.now (g.D.Disk.image c.args.disk.now) (g.D.Disk.image c.loop-i.disk) (g.D.Disk.image c.write_at.new.self)
    lt below c.page_at.ensures (image_size c.loop-i.i c.args.count c.args.images.now lt c.requires.images) (c.loop-i.invariant.crash limit below) c.write_at.ensures.crash

pub loop-i-preserved : goal.loop-i-preserved
loop-i-preserved g c =
    let i = c.loop-i.i in
    let head = c.args.head.now in
    let images = c.args.images.now in
    let so_far = c.loop-i.invariant in
    let lt : i < c.args.count = omega arith in
    let old = g.D.Disk.bytes c.args.disk.now in
    let mid = g.D.Disk.bytes c.loop-i.disk in
    let new = g.D.Disk.bytes c.write_at.new.self in
    let piece = take (4096 * i + 4096 - 4096 * i) (drop (4096 * i) images) in
    let size : length piece ≡ 4096 = image_size i c.args.count images lt c.requires.images in
    record {
      content = λ tells. put_more c.args.pages_at i c.args.count (4096 * i + 4096 - 4096 * i) head images mid new (laid c.args.pages_at (numbers 0 c.args.count head) images old)
          lt (omega arith) (so_far.content tells) (c.in_ok-write_at.ensures.bytes tells ∙ ap (λ (p : ℕ). written (place_of c.args.pages_at p) piece mid) c.page_at.ensures);
      kept = λ tells limit below.
          let there : place_of c.args.pages_at (u32_at (32 + 4 * i) head) ≤ length mid = omega (arith, c.requires.reaches tells i lt, so_far.longer tells) in
          within_written c.args.pages_at limit i c.args.count head piece old mid new lt below there size
          (c.in_ok-write_at.ensures.bytes tells ∙ ap (λ (p : ℕ). written (place_of c.args.pages_at p) piece mid) c.page_at.ensures)
          (so_far.kept tells limit below);
      longer = λ tells.
          let there : place_of c.args.pages_at (u32_at (32 + 4 * i) head) ≤ length mid = omega (arith, c.requires.reaches tells i lt, so_far.longer tells) in
          let is : new ≡ written (place_of c.args.pages_at (u32_at (32 + 4 * i) head)) piece mid =
          c.in_ok-write_at.ensures.bytes tells ∙ ap (λ (p : ℕ). written (place_of c.args.pages_at p) piece mid) c.page_at.ensures in
          omega (arith, ap (λ (l : List ℕ). length l) is, length-written (place_of c.args.pages_at (u32_at (32 + 4 * i) head)) piece mid there, so_far.longer tells);
      crash = λ limit below. crash_more c.args.pages_at limit i c.args.count c.page_at.result (length piece) c.args.era.now.number head (g.D.Disk.image c.args.disk.now) (g.D.Disk.image c.loop-i.disk)
          (g.D.Disk.image c.write_at.new.self) lt below c.page_at.ensures size (so_far.crash limit below) c.write_at.ensures.crash;
      uses = uses_write so_far.uses c.write_at.ensures.ledger c.write_at.ensures.cause.later (omega (arith, size));
    }

pub returns-clause-bytes : goal.returns-clause-bytes
returns-clause-bytes g c tells =
    let i = c.loop-i.i in
    let now = g.D.Disk.bytes c.loop-i.disk in
    let left = drop (4096 * i) c.args.images.now in
    sym (laid-none c.args.pages_at left now)
    ∙ ap (λ (l : List ℕ). laid c.args.pages_at l left now) (sym (numbers-end i c.args.count (c.args.count - i) c.args.head.now (omega arith) refl))
    ∙ c.loop-i.invariant.content tells
