use Rattle.std.proofs.Common.{◌≡◌, ◌<◌, ℕ, List, length, take, arith, ap, sym, subst, ◌∙◌}
use Rattle.std.proofs.lemmas.Bool.{both_ways}
use Rattle.std.proofs.lemmas.List.{take_all}
use Rattle.site_disk.specs.Bytes.{extent}
use Rattle.lane_ways.specs.Pictures.{pages_at}
use Rattle.before_images.specs.Saved.{place_of}
use Rattle.space_lane.specs.Chunks.{IsPage, page_at}
use Rattle.space_lane.proofs.pages.read_page.Goals as goal

-- a whole page is read
whole : (at page found : ℕ) (bytes read : List ℕ) → at ≡ place_of pages_at page → found ≡ 4096 → length read ≡ 4096 → take found read ≡ extent at found bytes
    → read ≡ page_at page bytes
whole at page found bytes read place all size is =
    sym (take_all found read (omega (arith, all, size))) ∙ is ∙ ap (λ (n : ℕ). extent at n bytes) all ∙ ap (λ (k : ℕ). extent k 4096 bytes) place

-- the disk ends within it
cut : (at page n found : ℕ) (bytes : List ℕ) → at ≡ place_of pages_at page → n ≡ 4096 → found ≡ length (extent at n bytes) → found < 4096 → length (page_at page bytes) ≡ 4096 → ⊥
cut at page n found bytes place size count short long =
    let is : length (page_at page bytes) ≡ found = ap (λ (k : ℕ). length (extent k 4096 bytes)) (sym place) ∙ ap (λ (m : ℕ). length (extent at m bytes)) (sym size) ∙ sym count in
    omega (arith, is, short, long)

pub returns-then-found-into-clause-bad : goal.returns-then-found-into-clause-bad
returns-then-found-into-clause-bad g c tells is has =
    cut c.place_of.result c.args.page (length c.args.into.now) c.in_ok-found.found (g.D.Disk.bytes c.args.disk.now) c.place_of.ensures c.requires.into
    (c.in_ok-found.ensures.count tells) (omega arith) has.long

pub returns-clause-found : goal.returns-clause-found
returns-clause-found g c tells =
    let all : c.in_ok-found.found ≡ 4096 = omega (arith, c.in_ok-found.ensures.bound) in
    whole c.place_of.result c.args.page c.in_ok-found.found (g.D.Disk.bytes c.args.disk.now) c.read_at.new.into c.place_of.ensures all (omega arith)
    (c.in_ok-found.ensures.found tells)

pub returns-then-not-is_page-clause-bad : goal.returns-then-not-is_page-clause-bad
returns-then-not-is_page-clause-bad g c tells is has =
    let all : c.in_ok-found.found ≡ 4096 = omega (arith, c.in_ok-found.ensures.bound) in
    let read = whole c.place_of.result c.args.page c.in_ok-found.found (g.D.Disk.bytes c.args.disk.now) c.read_at.new.into c.place_of.ensures all (omega arith)
    (c.in_ok-found.ensures.found tells) in
    both_ways c.is_page.result c.if-not-is_page.true (c.is_page.ensures.1 (subst (IsPage c.args.space c.args.page) (sym read) has))
