use Rattle.std.proofs.Common.{◌≡◌, ◌≤◌, ◌+◌, ◌*◌, ℕ, List, length, take, true, arith, ap, sym, subst, ◌∙◌}
use Rattle.std.specs.Prelude.{Some, Result, Ok, Err}
use Rattle.site_disk.specs.Causes.{HasCause, Rose}
use Rattle.site_disk.specs.Bytes.{extent, Same}
use Rattle.site_disk.specs.BytesLaws.{read_range, length-extent}
use Rattle.site_disk.specs.CallsLaws.{from_unchanged}
use Rattle.site_disk.specs.Images.{Leaves, Unchanged}
use Rattle.site_disk.specs.ImagesLaws.{weaker}
use Rattle.before_images.specs.Saved.{numbers, are_below, applies, saved_at, saved_in, listed, place_of, laid, Within, MayPutBack, Stands}
use Rattle.before_images.specs.ListLaws.{length-numbers}
use Rattle.before_images.specs.RegionLaws.{restored_not, restored_is, applies_own, may_put_back, put_back_same, limit_some}
use Rattle.before_images.proofs.putting.put_back_from.Goals as goal

-- a failure behind a call that didn't lower the count
cause_after : {T E : Type 0} (before mid now : ℕ) (result : Result T E) → before ≤ mid → mid ≤ now → Rose mid now → HasCause before now result
cause_after before mid now (Ok x) first second rose = record { later = omega (arith, first, second); failed = tt }
cause_after before mid now (Err e) first second rose = record { later = omega (arith, first, second); failed = omega (arith, first, rose) }

-- nothing written
only_read : (base pages_at limit upto part e : ℕ) (old new : ℕ → List ℕ → Type 0) → Leaves e Same old new → Leaves e (MayPutBack base pages_at limit upto part) old new
only_read base pages_at limit upto part e old new l =
    weaker (MayPutBack base pages_at limit upto part) Same e old old new l (λ f d b lt image same. subst (MayPutBack base pages_at limit upto part d) (sym same) (put_back_same base pages_at limit upto part d))

-- what is read is the region
is_region : (base n found : ℕ) (bytes read : List ℕ) → n ≡ 69632 → found ≡ length (extent base n bytes) → read ≡ extent base found bytes → read ≡ extent base 69632 bytes
is_region base n found bytes read size count is = read_range base n found bytes read count is ∙ ap (λ (k : ℕ). extent base k bytes) size

-- What is put back is kept on the disk, with all of its images.
record Found (base pages_at limit upto part count : ℕ) (region bytes : List ℕ) : Type 0 where
  keeps : saved_at base bytes ≡ Some (listed upto part count region)
  is : applies limit upto part (Some (listed upto part count region)) ≡ true
  below : are_below limit (numbers 0 count (take 4096 region)) ≡ true
  long : 4096 * length (numbers 0 count (take 4096 region)) ≤ length (extent 4096 (4096 * count) region)
  limited : 1 ≤ limit

gather : (base pages_at limit upto part count : ℕ) (read region bytes : List ℕ) → read ≡ extent base 69632 bytes → saved_in read ≡ Some (listed upto part count region)
    → are_below limit (numbers 0 count (take 4096 region)) ≡ true → 1 ≤ count → 4096 * (count + 1) ≤ length region → Found base pages_at limit upto part count region bytes
gather base pages_at limit upto part count read region bytes is saved below some whole = record {
  keeps = ap saved_in (sym is) ∙ saved;
  is = applies_own limit upto part (numbers 0 count (take 4096 region)) (extent 4096 (4096 * count) region) below;
  below = below;
  long = omega (arith, length-numbers 0 count (take 4096 region), length-extent 4096 (4096 * count) region (omega (arith, whole)));
  limited = omega (arith, limit_some limit count (take 4096 region) some below);
}

-- the pages written, as the images stand
pages_put : (base pages_at limit upto part last e count : ℕ) (region bytes : List ℕ) (old mid new : ℕ → List ℕ → Type 0) → base + 69632 ≤ pages_at → last ≤ e
    → Found base pages_at limit upto part count region bytes → Stands base pages_at limit last bytes old → Unchanged old mid
    → Leaves e (Within pages_at limit (numbers 0 count (take 4096 region))) mid new → Leaves e (MayPutBack base pages_at limit upto part) old new
pages_put base pages_at limit upto part last e count region bytes old mid new apart le f stands same l =
    let pages = numbers 0 count (take 4096 region) in
    weaker (MayPutBack base pages_at limit upto part) (Within pages_at limit pages) e old old new (from_unchanged (Within pages_at limit pages) e old mid new same l)
    (λ h d b lt image within.
    may_put_back base pages_at limit upto part (listed upto part count region) apart f.below f.long f.is d (stands.long h d (omega (arith, le, lt)) image)
    (ap saved_in (stands.region h d (omega (arith, le, lt)) image) ∙ f.keeps) b within)

pub returns-in-None-clause-applies : goal.returns-in-None-clause-applies
returns-in-None-clause-applies g c tells =
    let read = is_region c.args.base (length c.args.region.now) c.in_ok-found.found (g.D.Disk.bytes c.args.disk.now) (take c.in_ok-found.found c.read_at.new.into) c.requires.room
    (c.in_ok-found.ensures.count tells) (c.in_ok-found.ensures.found tells) in
    c.in-None.ensures.applies ∙ ap (λ (r : List ℕ). applies c.args.limit c.args.from.0 c.args.from.1 (saved_in r)) read

pub returns-in-None-clause-bytes : goal.returns-in-None-clause-bytes
returns-in-None-clause-bytes g c tells reaches =
    c.in_ok-found.ensures.bytes
    ∙ sym (restored_not c.args.base c.args.pages_at c.args.limit c.args.from.0 c.args.from.1 (g.D.Disk.bytes c.args.disk.now) (sym (returns-in-None-clause-applies g c tells)))

pub returns-in-None-clause-crash : goal.returns-in-None-clause-crash
returns-in-None-clause-crash g c tells stands =
    only_read c.args.base c.args.pages_at c.args.limit c.args.from.0 c.args.from.1 c.args.era.now.number (g.D.Disk.image c.args.disk.now) (g.D.Disk.image c.read_at.new.self) c.read_at.ensures.crash

pub returns-in-None-clause-kept : goal.returns-in-None-clause-kept
returns-in-None-clause-kept g c tells within =
    subst (MayPutBack c.args.base c.args.pages_at c.args.limit c.args.from.0 c.args.from.1 (g.D.Disk.bytes c.args.disk.now)) (sym c.in_ok-found.ensures.bytes)
    (put_back_same c.args.base c.args.pages_at c.args.limit c.args.from.0 c.args.from.1 (g.D.Disk.bytes c.args.disk.now))

pub returns-in_err-put_and_sync-in-Some-clause-crash : goal.returns-in_err-put_and_sync-in-Some-clause-crash
returns-in_err-put_and_sync-in-Some-clause-crash g c tells stands =
    let bytes = g.D.Disk.bytes c.args.disk.now in
    let region = c.take_saved.new.region in
    let count = c.in-Some.count in
    let r = c.in_ok-found.ensures in
    let read = is_region c.args.base (length c.args.region.now) c.in_ok-found.found bytes (take c.in_ok-found.found c.read_at.new.into) c.requires.room (r.count tells) (r.found tells) in
    let t = c.in-Some.ensures in
    let f = gather c.args.base c.args.pages_at c.args.limit c.args.from.0 c.args.from.1 count (take c.in_ok-found.found c.read_at.new.into) region bytes read t.saved t.below t.some t.fits in
    let reaches : place_of c.args.pages_at c.args.limit ≤ length (g.D.Disk.bytes c.read_at.new.self) = omega (arith, stands.now, ap (λ (l : List ℕ). length l) r.bytes) in
    pages_put c.args.base c.args.pages_at c.args.limit c.args.from.0 c.args.from.1 (g.D.Disk.ledger c.args.disk.now).last c.args.era.now.number count region bytes
    (g.D.Disk.image c.args.disk.now) (g.D.Disk.image c.read_at.new.self) (g.D.Disk.image c.put_and_sync.new.disk) c.requires.pages_at c.requires.era.not_past f stands r.images
    (c.put_and_sync.ensures.crash tells c.args.limit f.limited f.below reaches)

pub returns-in_err-put_and_sync-in-Some-clause-bound : goal.returns-in_err-put_and_sync-in-Some-clause-bound
returns-in_err-put_and_sync-in-Some-clause-bound g c tells within =
    let r = c.in_ok-found.ensures in
    let t = c.in-Some.ensures in
    let limited : 1 ≤ c.args.limit = omega (arith, limit_some c.args.limit c.in-Some.count (take 4096 c.take_saved.new.region) t.some t.below) in
    let reaches : place_of c.args.pages_at c.args.limit ≤ length (g.D.Disk.bytes c.read_at.new.self) = omega (arith, within, ap (λ (l : List ℕ). length l) r.bytes) in
    omega (arith, c.put_and_sync.ensures.bound tells c.args.limit limited t.below reaches, r.ledger.written)

pub returns-in_ok-put_and_sync-in-Some-clause-crash : goal.returns-in_ok-put_and_sync-in-Some-clause-crash
returns-in_ok-put_and_sync-in-Some-clause-crash g c tells stands =
    let bytes = g.D.Disk.bytes c.args.disk.now in
    let region = c.take_saved.new.region in
    let count = c.in-Some.count in
    let r = c.in_ok-found.ensures in
    let read = is_region c.args.base (length c.args.region.now) c.in_ok-found.found bytes (take c.in_ok-found.found c.read_at.new.into) c.requires.room (r.count tells) (r.found tells) in
    let t = c.in-Some.ensures in
    let f = gather c.args.base c.args.pages_at c.args.limit c.args.from.0 c.args.from.1 count (take c.in_ok-found.found c.read_at.new.into) region bytes read t.saved t.below t.some t.fits in
    let reaches : place_of c.args.pages_at c.args.limit ≤ length (g.D.Disk.bytes c.read_at.new.self) = omega (arith, stands.now, ap (λ (l : List ℕ). length l) r.bytes) in
    pages_put c.args.base c.args.pages_at c.args.limit c.args.from.0 c.args.from.1 (g.D.Disk.ledger c.args.disk.now).last c.args.era.now.number count region bytes
    (g.D.Disk.image c.args.disk.now) (g.D.Disk.image c.read_at.new.self) (g.D.Disk.image c.put_and_sync.new.disk) c.requires.pages_at c.requires.era.not_past f stands r.images
    (c.put_and_sync.ensures.crash tells c.args.limit f.limited f.below reaches)

pub returns-in_ok-put_and_sync-in-Some-clause-bound : goal.returns-in_ok-put_and_sync-in-Some-clause-bound
returns-in_ok-put_and_sync-in-Some-clause-bound g c tells within =
    let r = c.in_ok-found.ensures in
    let t = c.in-Some.ensures in
    let limited : 1 ≤ c.args.limit = omega (arith, limit_some c.args.limit c.in-Some.count (take 4096 c.take_saved.new.region) t.some t.below) in
    let reaches : place_of c.args.pages_at c.args.limit ≤ length (g.D.Disk.bytes c.read_at.new.self) = omega (arith, within, ap (λ (l : List ℕ). length l) r.bytes) in
    omega (arith, c.put_and_sync.ensures.bound tells c.args.limit limited t.below reaches, r.ledger.written)

pub returns-in_ok-put_and_sync-in-Some-clause-applies : goal.returns-in_ok-put_and_sync-in-Some-clause-applies
returns-in_ok-put_and_sync-in-Some-clause-applies g c tells =
    let r = c.in_ok-found.ensures in
    let read = is_region c.args.base (length c.args.region.now) c.in_ok-found.found (g.D.Disk.bytes c.args.disk.now) (take c.in_ok-found.found c.read_at.new.into) c.requires.room (r.count tells) (r.found tells) in
    c.in-Some.ensures.applies ∙ ap (λ (l : List ℕ). applies c.args.limit c.args.from.0 c.args.from.1 (saved_in l)) read

pub returns-in_ok-put_and_sync-in-Some-clause-durable : goal.returns-in_ok-put_and_sync-in-Some-clause-durable
returns-in_ok-put_and_sync-in-Some-clause-durable g c tells done = c.in_ok-put_and_sync-in-Some.ensures.durable tells

pub returns-in_ok-put_and_sync-in-Some-clause-bytes : goal.returns-in_ok-put_and_sync-in-Some-clause-bytes
returns-in_ok-put_and_sync-in-Some-clause-bytes g c tells within =
    let bytes = g.D.Disk.bytes c.args.disk.now in
    let region = c.take_saved.new.region in
    let count = c.in-Some.count in
    let r = c.in_ok-found.ensures in
    let read = is_region c.args.base (length c.args.region.now) c.in_ok-found.found bytes (take c.in_ok-found.found c.read_at.new.into) c.requires.room (r.count tells) (r.found tells) in
    let t = c.in-Some.ensures in
    let f = gather c.args.base c.args.pages_at c.args.limit c.args.from.0 c.args.from.1 count (take c.in_ok-found.found c.read_at.new.into) region bytes read t.saved t.below t.some t.fits in
    let reaches : place_of c.args.pages_at c.args.limit ≤ length (g.D.Disk.bytes c.read_at.new.self) = omega (arith, within, ap (λ (l : List ℕ). length l) r.bytes) in
    c.in_ok-put_and_sync-in-Some.ensures.bytes tells c.args.limit f.limited f.below reaches
    ∙ ap (λ (l : List ℕ). laid c.args.pages_at (numbers 0 count (take 4096 region)) (extent 4096 (4096 * count) region) l) r.bytes
    ∙ sym (restored_is c.args.base c.args.pages_at c.args.limit c.args.from.0 c.args.from.1 bytes (listed c.args.from.0 c.args.from.1 count region) f.keeps f.is)

pub returns-in_ok-put_and_sync-in-Some-clause-kept : goal.returns-in_ok-put_and_sync-in-Some-clause-kept
returns-in_ok-put_and_sync-in-Some-clause-kept g c tells within =
    let bytes = g.D.Disk.bytes c.args.disk.now in
    let new = g.D.Disk.bytes c.put_and_sync.new.disk in
    let region = c.take_saved.new.region in
    let count = c.in-Some.count in
    let r = c.in_ok-found.ensures in
    let read = is_region c.args.base (length c.args.region.now) c.in_ok-found.found bytes (take c.in_ok-found.found c.read_at.new.into) c.requires.room (r.count tells) (r.found tells) in
    let t = c.in-Some.ensures in
    let f = gather c.args.base c.args.pages_at c.args.limit c.args.from.0 c.args.from.1 count (take c.in_ok-found.found c.read_at.new.into) region bytes read t.saved t.below t.some t.fits in
    let reaches : place_of c.args.pages_at c.args.limit ≤ length (g.D.Disk.bytes c.read_at.new.self) = omega (arith, within, ap (λ (l : List ℕ). length l) r.bytes) in
    may_put_back c.args.base c.args.pages_at c.args.limit c.args.from.0 c.args.from.1 (listed c.args.from.0 c.args.from.1 count region) c.requires.pages_at f.below f.long f.is bytes within f.keeps new
    (subst (λ (l : List ℕ). Within c.args.pages_at c.args.limit (numbers 0 count (take 4096 region)) l new) r.bytes
    (c.in_ok-put_and_sync-in-Some.ensures.kept tells c.args.limit f.limited f.below reaches))

pub returns-in_err-put_and_sync-in-Some-clause-cause : goal.returns-in_err-put_and_sync-in-Some-clause-cause
returns-in_err-put_and_sync-in-Some-clause-cause g c =
    cause_after (g.D.Disk.ledger c.args.disk.now).faults (g.D.Disk.ledger c.read_at.new.self).faults (g.D.Disk.ledger c.put_and_sync.new.disk).faults _
    c.in_ok-found.ensures.cause.later c.put_and_sync.ensures.cause.later c.in_err-put_and_sync-in-Some.ensures.cause.failed
