-- The pages of a chunk.
use Rattle.std.proofs.Common.{◌≡◌, ℕ, zero, suc, ◌+◌, ◌-◌, ◌*◌, ◌<◌, ◌≤◌, List, ◌++◌, length, take, replicate, Bool, IsTrue, arith, ap, sym, subst, ◌∙◌}
use mathlib.Core.Logic.{inl}
use Rattle.std.proofs.lemmas.List.{length-replicate, take-replicate}
use Rattle.log_history.specs.Effects.{Page, empty_page}
use Rattle.site_disk.specs.Bytes.{extent, written, Torn}
use Rattle.site_disk.specs.BytesLaws.{extent-written, length-written, torn_again, torn_whole, torn_wider}
use Rattle.site_disk.specs.Images.{Leaves}
use Rattle.site_disk.specs.Ledger.{Ledger, EraView, Uses}
use Rattle.before_images.specs.Saved.{place_of}
use Rattle.space_pages.specs.Layout.{page_bytes}
use Rattle.space_pages.specs.Pages.{empty_pages}
use Rattle.lane_ways.specs.Pictures.{Stand, pages_at}
use Rattle.lane_ways.specs.PictureLaws.{stand_same}
use Rattle.space_lane.specs.Chunks.{page_name}

-- the bytes of an empty page, written part by part
pub empty_bytes : (space number : ℕ) (zeros named new name : List ℕ) → zeros ≡ replicate 4096 0 → name ≡ page_name space number → length name ≡ 8 → length named ≡ 4096
    → take (8 + length name) named ≡ take 8 zeros ++ name → new ≡ take 16 named ++ replicate (length named - 16) 0 → new ≡ page_bytes space number empty_page
unfolding page_bytes empty_page
empty_bytes space number zeros named new name clear is size long front rest =
    let at : 8 + length name ≡ 16 = omega (arith, size) in
    let n : length named - 16 ≡ 4080 = omega (arith, long) in
    let eight : take 8 zeros ≡ replicate 8 0 = ap (λ (l : List ℕ). take 8 l) clear ∙ take-replicate 8 4096 0 (omega arith) in
    rest
    ∙ ap (λ (k : ℕ). take 16 named ++ replicate {A = ℕ} k 0) n
    ∙ ap (λ (l : List ℕ). l ++ replicate {A = ℕ} 4080 0) (ap (λ (k : ℕ). take k named) (sym at) ∙ front)
    ∙ ap (λ (l : List ℕ). l ++ name ++ replicate {A = ℕ} 4080 0) eight
    ∙ ap (λ (l : List ℕ). replicate 8 0 ++ l ++ replicate {A = ℕ} 4080 0) is

-- one empty page more
stand_more : (space number n : ℕ) (bytes : List ℕ) → Stand space number (replicate n empty_page) bytes
    → extent (place_of pages_at (number + n)) 4096 bytes ≡ page_bytes space (number + n) empty_page → Stand space number (replicate (suc n) empty_page) bytes
stand_more space number zero bytes stand is = (
  subst (λ (k : ℕ). extent (place_of pages_at k) 4096 bytes ≡ page_bytes space k empty_page) (let e : number + 0 ≡ number = omega arith in e) is,
  tt,
)
stand_more space number (suc n) bytes stand is = (
  stand.0,
  stand_more space (number + 1) n bytes stand.1
      (subst (λ (k : ℕ). extent (place_of pages_at k) 4096 bytes ≡ page_bytes space k empty_page) (let e : number + suc n ≡ number + 1 + n = omega arith in e) is),
)

module _ (space page at : ℕ) (piece old : List ℕ) (place : at ≡ place_of pages_at page) (size : length piece ≡ 4096) (is : piece ≡ page_bytes space page empty_page)
    (within : place_of pages_at page ≤ length old) where
  abbrev here : List ℕ
  here = written at piece old

  one_torn : Torn (place_of pages_at page) 4096 old here
  one_torn = subst (λ (k : ℕ). Torn k 4096 old here) place (subst (λ (k : ℕ). Torn at k old here) size (torn_whole at piece old (omega (arith, place, within))))

  pub empty_more : Stand space 0 (empty_pages page) old → Stand space 0 (empty_pages (page + 1)) here
  empty_more stand =
      let kept : Stand space 0 (empty_pages page) here =
      stand_same space 0 page (empty_pages page) old here (omega (arith, length-replicate {A = Page} page empty_page)) (sym (one_torn.elsewhere pages_at (4096 * page) (inl (omega arith)))) stand in
      let new : extent (place_of pages_at page) 4096 here ≡ page_bytes space page empty_page =
      ap (λ (k : ℕ). extent k 4096 here) (sym place) ∙ ap (λ (k : ℕ). extent at k here) (sym size) ∙ extent-written at piece old (omega (arith, place, within)) ∙ is in
      subst (λ (k : ℕ). Stand space 0 (empty_pages k) here) (let e : suc page ≡ page + 1 = omega arith in e)
      (stand_more space 0 page here kept (subst (λ (k : ℕ). extent (place_of pages_at k) 4096 here ≡ page_bytes space k empty_page) (let e : page ≡ 0 + page = omega arith in e) new))

  pub long_more : place_of pages_at (page + 1) ≤ length here
  long_more = omega (arith, length-written at piece old (omega (arith, place, within)), size, place)

  pub torn_more : (count : ℕ) (first : List ℕ) → page < count → Torn pages_at (4096 * count) first old → Torn pages_at (4096 * count) first here
  torn_more count first lt so_far =
      torn_again pages_at (4096 * count) first old here so_far (torn_wider (place_of pages_at page) 4096 pages_at (4096 * count) old here (omega arith) (omega (arith, lt)) one_torn)

-- so many pages are written
pub record Emptied {D : Type 0} (is_modelled : Bool) (bytes : D → List ℕ) (image : D → ℕ → List ℕ → Type 0) (ledger : D → Ledger) (era : EraView) (space count page : ℕ) (old new : D) : Type 0 where
  pub stand : IsTrue is_modelled → Stand space 0 (empty_pages page) (bytes new)
  pub long : IsTrue is_modelled → place_of pages_at page ≤ length (bytes new)
  pub torn : IsTrue is_modelled → Torn pages_at (4096 * count) (bytes old) (bytes new)
  pub crash : Leaves era.number (Torn pages_at (4096 * count)) (image old) (image new)
  pub uses : Uses era 0 (4096 * page) (ledger old) (ledger new)
