-- The bytes of a page, and pages that stand on a chunk.
use Rattle.std.proofs.Common.{◌≡◌, ℕ, zero, suc, ◌+◌, ◌-◌, ◌<◌, ◌^◌, List, [], ◌∷◌, length, take, drop, get_or, Some, refl, sym, ap, ◌∙◌, subst, arith, length-drop}
use Rattle.std.specs.Int.{w64}
use Rattle.std.specs.List.{AllByRecursion, slice_get}
use Rattle.std.proofs.lemmas.List.{take-append-drop, take_all}
use Rattle.std.proofs.lemmas.Nat.{from_be_bytes-to_be_bytes_8}
use Rattle.std.proofs.lemmas.Option.{get_or_from_slice_get}
use Rattle.std.proofs.Math.Seq.{take-add}
use Rattle.byte_fields.specs.Fields.{HasNumber, number_at}
use Rattle.log_history.specs.Effects.{Page, empty_page}
use Rattle.site_disk.specs.Bytes.{extent}
use Rattle.site_disk.specs.BytesLaws.{length-extent}
use Rattle.before_images.specs.Saved.{place_of}
use Rattle.space_pages.specs.Layout.{page_bytes}
use Rattle.lane_ways.specs.Pictures.{Stand, pages_at}
use Rattle.space_lane.specs.Chunks.{IsPage, page_at}
use Rattle.lane_texts.specs.Listings.{HoldsPages}

-- a page by its parts
abbrev pub page_with : ℕ → List ℕ → Page
page_with stamp payload = record { stamp = stamp; payload = payload }

-- all bytes behind the sixteen before the payload
pub all_behind : (payload bytes : List ℕ) → payload ≡ take (length bytes - 16) (drop 16 bytes) → payload ≡ drop 16 bytes
all_behind payload bytes is = is ∙ take_all (length bytes - 16) (drop 16 bytes) (omega (arith, length-drop 16 bytes))

-- the bytes of a page, by what stands in them
pub bytes_of_parts : (space number stamp : ℕ) (payload bytes : List ℕ) → IsPage space number bytes → HasNumber w64 0 bytes stamp → payload ≡ drop 16 bytes
    → bytes ≡ page_bytes space number (page_with stamp payload)
unfolding page_bytes
bytes_of_parts space number stamp payload bytes is stamped rest =
    sym (take-append-drop 16 bytes) ∙ rw (take-add 8 8 bytes, stamped.stands, is.named, rest) refl

-- the stamp in the bytes of a page
pub stamp_of_bytes : (space number stamp : ℕ) (bytes : List ℕ) (page : Page) → stamp ≡ number_at w64 0 bytes → page.stamp < 2 ^ 64 → bytes ≡ page_bytes space number page
    → stamp ≡ page.stamp
unfolding page_bytes
stamp_of_bytes space number stamp bytes page stamped fits is = stamped ∙ ap (number_at w64 0) is ∙ from_be_bytes-to_be_bytes_8 page.stamp fits

-- and all that stands there
pub parts_of_bytes : (space number stamp : ℕ) (payload bytes : List ℕ) (page : Page) → stamp ≡ number_at w64 0 bytes → payload ≡ drop 16 bytes → page.stamp < 2 ^ 64
    → bytes ≡ page_bytes space number page → page_with stamp payload ≡ page
unfolding page_bytes
parts_of_bytes space number stamp payload bytes page stamped rest fits is =
    ap (λ (s : ℕ). page_with s payload) (stamp_of_bytes space number stamp bytes page stamped fits is)
    ∙ ap (page_with page.stamp) (rest ∙ ap (drop 16) is)

-- they have the space and the number of the page
pub is_page : (space number : ℕ) (page : Page) (bytes : List ℕ) → length bytes ≡ 4096 → bytes ≡ page_bytes space number page → IsPage space number bytes
unfolding page_bytes
is_page space number page bytes long is = record { long = long; named = ap (extent 8 8) is }

-- one of the pages that stand from a number on
stand_from : (space first : ℕ) (pages : List Page) (bytes : List ℕ) → Stand space first pages bytes → (k : ℕ) → k < length pages
    → page_at (first + k) bytes ≡ page_bytes space (first + k) (get_or pages k empty_page)
stand_from space first [] bytes stand k lt = absurd (omega (arith, lt))
stand_from space first (page ∷ pages) bytes stand zero lt =
    let here : first ≡ first + 0 = omega arith in subst (λ (n : ℕ). page_at n bytes ≡ page_bytes space n page) here stand.0
stand_from space first (page ∷ pages) bytes stand (suc k) lt =
    let next : first + 1 + k ≡ first + suc k = omega arith in
    subst (λ (n : ℕ). page_at n bytes ≡ page_bytes space n (get_or pages k empty_page)) next (stand_from space (first + 1) pages bytes stand.1 k (omega (arith, lt)))

stamp_from : (pages : List Page) → AllByRecursion (λ (page : Page). page.stamp < 2 ^ 64) pages → (k : ℕ) → k < length pages → (get_or pages k empty_page).stamp < 2 ^ 64
stamp_from [] all k lt = absurd (omega (arith, lt))
stamp_from (page ∷ pages) all zero lt = all.0
stamp_from (page ∷ pages) all (suc k) lt = stamp_from pages all.1 k (omega (arith, lt))

module _ (space count : ℕ) (pages : List Page) (bytes : List ℕ) (holds : HoldsPages space count pages bytes) (number : ℕ) (lt : number < count) where
  abbrev pub here : Page
  here = get_or pages number empty_page

  pub within : number < length pages
  within = omega (arith, lt, holds.count_is)

  -- a page that is held
  pub held_bytes : page_at number bytes ≡ page_bytes space number here
  held_bytes =
      let zeros : 0 + number ≡ number = omega arith in
      subst (λ (n : ℕ). page_at n bytes ≡ page_bytes space n here) zeros (stand_from space 0 pages bytes holds.stand number within)

  pub held_stamp : here.stamp < 2 ^ 64
  held_stamp = stamp_from pages holds.stamps number within

  pub held_page : IsPage space number (page_at number bytes)
  held_page = is_page space number here (page_at number bytes) (length-extent (place_of pages_at number) 4096 bytes (omega (arith, lt, holds.long))) held_bytes

  -- and the one that the list has there
  module _ (page : Page) (found : slice_get pages number ≡ Some page) where
    same : here ≡ page
    same = get_or_from_slice_get pages number page empty_page found

    pub found_bytes : page_at number bytes ≡ page_bytes space number page
    found_bytes = held_bytes ∙ ap (page_bytes space number) same

    pub found_stamp : page.stamp < 2 ^ 64
    found_stamp = subst (λ (p : Page). p.stamp < 2 ^ 64) same held_stamp
