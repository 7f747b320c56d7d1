-- The pages of a history, one by one.
use Rattle.std.proofs.Common.{◌≡◌, ℕ, zero, suc, ◌+◌, ◌<◌, ◌≤◌, ◌^◌, List, length, Some, refl, ap, ◌∙◌, arith}
use Rattle.std.specs.List.{AllByRecursion, slice_get}
use Rattle.log_history.specs.Effects.{Page, page_at}
use Rattle.log_history.specs.History.{History}
use Rattle.history_laws.specs.PagesLaws.{stamp_within}
use Rattle.before_images.specs.Saved.{place_of}
use Rattle.space_pages.specs.Pages.{pages_of}
use Rattle.lane_ways.specs.Pictures.{Stand, pages_at}
use Rattle.lane_texts.specs.Listings.{HoldsPages}

module _ (space n : ℕ) (history : History) where
  length-pages_of : (first count : ℕ) → length (pages_of history n space first count) ≡ count
  length-pages_of first zero = refl
  length-pages_of first (suc count) = ap suc (length-pages_of (first + 1) count)

  stamps-pages_of : n < 2 ^ 64 → (first count : ℕ) → AllByRecursion (λ (page : Page). page.stamp < 2 ^ 64) (pages_of history n space first count)
  stamps-pages_of fits first zero = tt
  stamps-pages_of fits first (suc count) = (omega (arith, fits, stamp_within history n space first), stamps-pages_of fits (first + 1) count)

  slice_get-pages_of : (first count number : ℕ) → number < count → slice_get (pages_of history n space first count) number ≡ Some (page_at history n space (first + number))
  slice_get-pages_of first zero number lt = absurd (omega (arith, lt))
  slice_get-pages_of first (suc count) zero lt = let here : first ≡ first + 0 = omega arith in ap (λ (k : ℕ). Some (page_at history n space k)) here
  slice_get-pages_of first (suc count) (suc number) lt =
      let next : first + 1 + number ≡ first + suc number = omega arith in
      slice_get-pages_of (first + 1) count number (omega (arith, lt)) ∙ ap (λ (k : ℕ). Some (page_at history n space k)) next

pub history_held : (space count n : ℕ) (history : History) (bytes : List ℕ) → n < 2 ^ 64 → place_of pages_at count ≤ length bytes
    → Stand space 0 (pages_of history n space 0 count) bytes → HoldsPages space count (pages_of history n space 0 count) bytes
history_held space count n history bytes fits long stand = record {
  count_is = length-pages_of space n history 0 count;
  stand = stand;
  stamps = stamps-pages_of space n history fits 0 count;
  long = long;
}

pub history_page : (space count n number : ℕ) (history : History) → number < count → slice_get (pages_of history n space 0 count) number ≡ Some (page_at history n space number)
history_page space count n number history lt =
    let here : 0 + number ≡ number = omega arith in
    slice_get-pages_of space n history 0 count number lt ∙ ap (λ (k : ℕ). Some (page_at history n space k)) here
