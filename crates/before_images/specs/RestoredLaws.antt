-- Laws of pages that are put back.
use Rattle.std.specs.Prelude.{◌≡◌, ℕ, ◌+◌, ◌-◌, ◌*◌, ◌<◌, ◌≤◌, List, [], ◌∷◌, length, take, drop, Bool, true, false, ◌&&◌, nat_eq, if◌then◌else◌, Option, Some, None, get_or, refl}
use mathlib.Core.Bool.{true≢false}
use Rattle.std.proofs.Common.{arith, ap, sym, ◌∙◌, ⊎_elim}
use Rattle.std.proofs.lemmas.List.{get_or-take, get_or-drop, ext_get_or, length-take}
use Rattle.std.proofs.lemmas.Bool.{cases_lt, eqb-true}
use Rattle.site_disk.specs.Bytes.{extent, written, Torn}
use Rattle.site_disk.specs.BytesLaws.{length-written, length-extent, torn_whole, torn_wider, get_or-written_before, get_or-written_within, get_or-written_behind}
use Rattle.before_images.specs.Saved.{Saved, are_below, saved_at, listed, place_of, laid, applies, put_back, restored, StaysWithin, SameRestored, OnlyPages, StaysAtOther}
use Rattle.before_images.specs.ListLaws.{are_below-both, are_below-get}
use Rattle.before_images.specs.RegionLaws.{restored_not}

-- one page's write more within the pages
pub stays_within : (pages_at limit k : ℕ) (pages old mid new : List ℕ) → StaysWithin pages_at limit k pages old mid new
stays_within pages_at limit k pages old mid new lt below first torn =
    let less : get_or pages k 0 < limit = are_below-get limit k pages below lt in record {
      elsewhere = λ from len apart. torn.elsewhere from len (apart k lt) ∙ first.elsewhere from len apart;
      no_shorter = omega (arith, first.no_shorter, torn.no_shorter);
      no_longer = omega (arith, first.no_longer, torn.no_longer, less);
    }

get_or-extent : (from n x : ℕ) (bytes : List ℕ) → x < n → get_or (extent from n bytes) x 0 ≡ get_or bytes (from + x) 0
get_or-extent from n x bytes lt = get_or-take n (drop from bytes) x 0 lt ∙ get_or-drop from bytes x 0

-- a write within a range, as the range sees it
module _ (from n at : ℕ) (piece bytes : List ℕ) (le : from ≤ at) (fits : at + length piece ≤ from + n) (within : from + n ≤ length bytes) where
  abbrev part : List ℕ
  part = extent from n bytes

  size : length part ≡ n
  size = length-extent from n bytes within

  reaches : at ≤ length bytes
  reaches = omega (arith, fits, within)

  there : at - from ≤ length part
  there = omega (arith, size, le, fits)

  whole : length (extent from n (written at piece bytes)) ≡ n
  whole = length-extent from n (written at piece bytes) (omega (arith, within, length-written at piece bytes reaches))

  same_byte : (x : ℕ) → x < n → get_or (written at piece bytes) (from + x) 0 ≡ get_or (written (at - from) piece part) x 0
  same_byte x lt = ⊎_elim
      (λ before. get_or-written_before at piece bytes reaches (from + x) before ∙ sym (get_or-extent from n x bytes lt) ∙ sym (get_or-written_before (at - from) piece part there x (omega (arith, before, le))))
      (λ not_before. ⊎_elim
      (λ here. get_or-written_within at piece bytes reaches (from + x) not_before here
      ∙ ap (λ (k : ℕ). get_or piece k 0) (omega (arith, not_before, le))
      ∙ sym (get_or-written_within (at - from) piece part there x (omega (arith, not_before)) (omega (arith, here, le))))
      (λ behind. get_or-written_behind at piece bytes reaches (from + x) behind ∙ sym (get_or-extent from n x bytes lt) ∙ sym (get_or-written_behind (at - from) piece part there x (omega (arith, behind, le))))
      (cases_lt (from + x) (at + length piece)))
      (cases_lt (from + x) at)

  pub extent-written_within : extent from n (written at piece bytes) ≡ written (at - from) piece (extent from n bytes)
  extent-written_within = ext_get_or 0 (extent from n (written at piece bytes)) (written (at - from) piece part)
      (omega (arith, whole, size, length-written (at - from) piece part there, le, fits))
      (λ x lt. get_or-extent from n x (written at piece bytes) (omega (arith, lt, whole)) ∙ same_byte x (omega (arith, lt, whole)))

-- laid images, as the pages see them
laid-extent : (pages_at limit : ℕ) (pages images bytes : List ℕ) → are_below limit pages ≡ true → place_of pages_at limit ≤ length bytes
    → extent pages_at (4096 * limit) (laid pages_at pages images bytes) ≡ laid 0 pages images (extent pages_at (4096 * limit) bytes)
unfolding laid
laid-extent pages_at limit [] images bytes below long = refl
laid-extent pages_at limit (page ∷ pages) images bytes below long =
    let both = are_below-both limit page pages below in
    let piece = take 4096 images in
    let place = place_of pages_at page in
    let fits : place + length piece ≤ pages_at + 4096 * limit = omega (arith, both.0, length-take 4096 images) in
    laid-extent pages_at limit pages (drop 4096 images) (written place piece bytes) both.1 (omega (arith, long, fits, length-written place piece bytes (omega (arith, fits, long))))
    ∙ ap (laid 0 pages (drop 4096 images))
    (extent-written_within pages_at (4096 * limit) place piece bytes (omega arith) fits long
    ∙ ap (λ (k : ℕ). written k piece (extent pages_at (4096 * limit) bytes)) (omega arith))

-- and all else
laid-only : (pages_at limit : ℕ) (pages images bytes : List ℕ) → are_below limit pages ≡ true → place_of pages_at limit ≤ length bytes → OnlyPages pages_at limit bytes (laid pages_at pages images bytes)
unfolding laid
laid-only pages_at limit [] images bytes below long = record { elsewhere = λ from len apart. refl; long = refl }
laid-only pages_at limit (page ∷ pages) images bytes below long =
    let both = are_below-both limit page pages below in
    let piece = take 4096 images in
    let place = place_of pages_at page in
    let few : length piece ≤ 4096 = omega (arith, length-take 4096 images) in
    let reaches : place + length piece ≤ length bytes = omega (arith, both.0, few, long) in
    let same : length (written place piece bytes) ≡ length bytes = omega (arith, reaches, length-written place piece bytes (omega (arith, reaches))) in
    let one : Torn pages_at (4096 * limit) bytes (written place piece bytes) =
    torn_wider place (length piece) pages_at (4096 * limit) bytes (written place piece bytes) (omega arith) (omega (arith, both.0, few)) (torn_whole place piece bytes (omega (arith, reaches))) in
    let rest = laid-only pages_at limit pages (drop 4096 images) (written place piece bytes) both.1 (omega (arith, long, same)) in record {
      elsewhere = λ from len apart. rest.elsewhere from len apart ∙ one.elsewhere from len apart;
      long = rest.long ∙ same;
    }

-- what applies is of the place, and its pages are below the limit
pub record Applies (limit upto part : ℕ) (it : Saved) : Type 0 where
  pub upto_is : it.upto ≡ upto
  pub part_is : it.part ≡ part
  pub below : are_below limit it.pages ≡ true

all_three : (a b c : Bool) → (a && b && c) ≡ true → (a ≡ true) × (b ≡ true) × (c ≡ true)
all_three true true true is = (refl, refl, refl)
all_three true true false is = absurd (true≢false (sym is))
all_three true false c is = absurd (true≢false (sym is))
all_three false b c is = absurd (true≢false (sym is))

pub of_place : (limit upto part : ℕ) (it : Saved) → applies limit upto part (Some it) ≡ true → Applies limit upto part it
of_place limit upto part it is =
    let three = all_three (nat_eq it.upto upto) (nat_eq it.part part) (are_below limit it.pages) is in
    record { upto_is = eqb-true it.upto upto three.0; part_is = eqb-true it.part part three.1; below = three.2 }

-- what a region lists for a place that applies is of this place
pub listed_here : (limit upto part u p count : ℕ) (region : List ℕ) → applies limit upto part (Some (listed u p count region)) ≡ true → Some (listed u p count region) ≡ Some (listed upto part count region)
listed_here limit upto part u p count region is =
    let it = of_place limit upto part (listed u p count region) is in
    ap (λ (x : ℕ). Some (listed x p count region)) it.upto_is ∙ ap (λ (x : ℕ). Some (listed upto x count region)) it.part_is

module _ (pages_at limit upto part : ℕ) where
  same_back : (it : Option Saved) (c d : List ℕ) → place_of pages_at limit ≤ length c → place_of pages_at limit ≤ length d → extent pages_at (4096 * limit) c ≡ extent pages_at (4096 * limit) d
      → extent pages_at (4096 * limit) (put_back pages_at limit upto part it c) ≡ extent pages_at (4096 * limit) (put_back pages_at limit upto part it d)
  same_back None c d long_c long_d same = same
  same_back (Some it) c d long_c long_d same = by (applies limit upto part (Some it)) refl
    where
      by : (b : Bool) → applies limit upto part (Some it) ≡ b
          → extent pages_at (4096 * limit) (if b then laid pages_at it.pages it.images c else c) ≡ extent pages_at (4096 * limit) (if b then laid pages_at it.pages it.images d else d)
      by true is =
          let below = (of_place limit upto part it is).below in
          laid-extent pages_at limit it.pages it.images c below long_c ∙ ap (laid 0 it.pages it.images) same ∙ sym (laid-extent pages_at limit it.pages it.images d below long_d)
      by false is = same

  only_back : (it : Option Saved) (bytes : List ℕ) → place_of pages_at limit ≤ length bytes → OnlyPages pages_at limit bytes (put_back pages_at limit upto part it bytes)
  only_back None bytes long = record { elsewhere = λ from len apart. refl; long = refl }
  only_back (Some it) bytes long = by (applies limit upto part (Some it)) refl
    where
      by : (b : Bool) → applies limit upto part (Some it) ≡ b → OnlyPages pages_at limit bytes (if b then laid pages_at it.pages it.images bytes else bytes)
      by true is = laid-only pages_at limit it.pages it.images bytes (of_place limit upto part it is).below long
      by false is = record { elsewhere = λ from len apart. refl; long = refl }

pub same_restored : (base pages_at limit upto part : ℕ) (c d : List ℕ) → SameRestored base pages_at limit upto part c d
unfolding restored
same_restored base pages_at limit upto part c d keeps long_c long_d same =
    same_back pages_at limit upto part (saved_at base c) c d long_c long_d same ∙ ap (λ (it : Option Saved). extent pages_at (4096 * limit) (put_back pages_at limit upto part it d)) keeps

pub only_pages : (base pages_at limit upto part : ℕ) (bytes : List ℕ) → place_of pages_at limit ≤ length bytes → OnlyPages pages_at limit bytes (restored base pages_at limit upto part bytes)
unfolding restored
only_pages base pages_at limit upto part bytes long = only_back pages_at limit upto part (saved_at base bytes) bytes long

pub stays_at_other : (base pages_at limit upto part : ℕ) (saved : Saved) (bytes : List ℕ) → StaysAtOther base pages_at limit upto part saved bytes
stays_at_other base pages_at limit upto part saved bytes keeps other =
    restored_not base pages_at limit upto part bytes (ap (applies limit upto part) keeps ∙ by (applies limit upto part (Some saved)) refl)
  where
    by : (b : Bool) → applies limit upto part (Some saved) ≡ b → applies limit upto part (Some saved) ≡ false
    by true is = absurd (other (of_place limit upto part saved is).upto_is (of_place limit upto part saved is).part_is)
    by false is = is
