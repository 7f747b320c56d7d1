use Rattle.std.proofs.Common.{◌≡◌, ◌+◌, ◌-◌, ◌*◌, ◌<◌, ℕ, List, ◌++◌, length, take, drop, arith, ap, sym, refl, ◌∙◌, get_or, length-take, length-drop}
use Rattle.std.proofs.lemmas.List.{append-nil}
use borrow.Rule.Slice.PartMut.{same_len_mid}
use Rattle.site_disk.specs.Bytes.{extent, filled, Same}
use Rattle.site_disk.specs.CallsLaws.{from_unchanged, unchanged_again, uses_nothing, uses_again}
use Rattle.before_images.specs.Saved.{place_of}
use Rattle.before_images.proofs.Copying.{present-none, read_more}
use Rattle.before_images.proofs.pages.read_pages.Goals as goal

pub loop-i-init : goal.loop-i-init
loop-i-init g c =
    let before = take 4096 c.args.region.now in
    record {
      room = c.requires.room;
      found = λ tells. sym (ap (λ (l : List ℕ). before ++ l) (present-none c.args.pages_at (g.D.Disk.bytes c.args.disk.now)) ∙ append-nil before);
      content = refl;
      images = record { forth = λ f b is. is; back = λ f b is. is };
      uses = uses_nothing c.requires.era;
    }

pub returns-in_err-read_filled-clause-crash : goal.returns-in_err-read_filled-clause-crash
returns-in_err-read_filled-clause-crash g c =
    from_unchanged Same c.args.era.now.number (g.D.Disk.image c.args.disk.now) (g.D.Disk.image c.loop-i.disk) (g.D.Disk.image c.read_filled.new.disk) c.loop-i.invariant.images c.read_filled.ensures.crash

pub loop-i-preserved : goal.loop-i-preserved
loop-i-preserved g c =
    let i = c.loop-i.i in
    let pages = c.args.pages.now in
    let region = c.loop-i.region in
    let page = c.read_filled.new.into in
    let at = 4096 * (i + 1) in
    let n = at + 4096 - at in
    let so_far = c.loop-i.invariant in
    let lt : i < length pages = omega arith in
    let place = place_of c.args.pages_at (get_or pages i 0) in
    let part : length (take n (drop at region)) ≡ 4096 = omega (arith, so_far.room, lt, length-take n (drop at region), length-drop at region) in
    let long : length page ≡ length (take n (drop at region)) = omega arith in
    record {
      room = same_len_mid {X = ℕ} at n region page long ∙ so_far.room;
      found = λ tells. read_more c.args.pages_at i at n pages (g.D.Disk.bytes c.args.disk.now) c.args.region.now region page lt refl (omega (arith, so_far.room, lt)) (so_far.found tells)
          (c.in_ok-read_filled.ensures.found tells
          ∙ ap (λ (k : ℕ). filled k (extent place k (g.D.Disk.bytes c.loop-i.disk))) part
          ∙ ap (λ (l : List ℕ). filled 4096 (extent place 4096 l)) so_far.content);
      content = c.in_ok-read_filled.ensures.bytes ∙ so_far.content;
      images = unchanged_again so_far.images c.in_ok-read_filled.ensures.images;
      uses = uses_again so_far.uses c.read_filled.ensures.ledger (omega (arith, part));
    }
