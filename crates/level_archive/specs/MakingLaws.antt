-- What is left of an image as its maker goes on.
use Rattle.std.specs.Prelude.{◌≡◌, ℕ, ◌+◌, ◌<◌, ◌≤◌, List, [], ◌∷◌, length, map, drop, Bool, true, false, if◌then◌else◌, Some, slice_get}
use Rattle.std.proofs.Common.{refl, sym, ap, ◌∙◌}
use Rattle.std.proofs.lemmas.List.{drop_all, drop_more}
use Rattle.std.proofs.lemmas.Option.{get_or_from_slice_get, slice_get_within}
use Rattle.std.proofs.lemmas.Bool.{lt-ltb, le-ltb}
use Rattle.log_history.specs.Effects.{Page}
use Rattle.level_archive.specs.Image.{Entry, entries_from, entry, entry_bytes, head_bytes, image_blocks}
use Rattle.level_archive.specs.Making.{Making, Reaches, blocks_left, entries_left, with_entry, with_head}

-- the page at a place, and those behind it
drop_at_page : (pages : List Page) (number : ℕ) (page : Page) → slice_get pages number ≡ Some page → drop number pages ≡ page ∷ drop (number + 1) pages
drop_at_page pages number page is =
    drop_more pages number page (slice_get_within pages number page is)
    ∙ ap (λ (p : Page). p ∷ drop (number + 1) pages) (get_or_from_slice_get pages number page page is)

-- a page whose stamp isn't above the base is no entry
pub entries_from-passed : (base number : ℕ) (pages : List Page) (page : Page) → slice_get pages number ≡ Some page → page.stamp ≤ base
    → entries_from base number (drop number pages) ≡ entries_from base (number + 1) (drop (number + 1) pages)
entries_from-passed base number pages page is low =
    ap (entries_from base number) (drop_at_page pages number page is)
    ∙ ap (λ (b : Bool). if b then entry number page ∷ entries_from base (number + 1) (drop (number + 1) pages) else entries_from base (number + 1) (drop (number + 1) pages))
    (le-ltb base page.stamp low)

-- one whose stamp is above it is the next
pub entries_from-given : (base number : ℕ) (pages : List Page) (page : Page) → slice_get pages number ≡ Some page → base < page.stamp
    → entries_from base number (drop number pages) ≡ entry number page ∷ entries_from base (number + 1) (drop (number + 1) pages)
entries_from-given base number pages page is above =
    ap (entries_from base number) (drop_at_page pages number page is)
    ∙ ap (λ (b : Bool). if b then entry number page ∷ entries_from base (number + 1) (drop (number + 1) pages) else entries_from base (number + 1) (drop (number + 1) pages))
    (lt-ltb base page.stamp above)

-- the head is given first
pub head_is_given : (pages : List Page) (making : Making) → making.is_begun ≡ false
    → blocks_left pages making ≡ head_bytes making.head ∷ blocks_left pages (with_head making)
head_is_given pages making first =
    ap (λ (b : Bool). if b then map (entry_bytes making.head.space) (entries_left pages making) else image_blocks making.head (entries_left pages making)) first

entries_are_left : (pages : List Page) (making : Making) (entries : List Entry) → making.is_begun ≡ true → entries_left pages making ≡ entries
    → blocks_left pages making ≡ map (entry_bytes making.head.space) entries
entries_are_left pages making entries begun is =
    ap (λ (b : Bool). if b then map (entry_bytes making.head.space) (entries_left pages making) else image_blocks making.head (entries_left pages making)) begun
    ∙ ap (map (entry_bytes making.head.space)) is

module _ (pages : List Page) (making : Making) (number : ℕ) (reached : Reaches pages making number) where
  -- a page with a stamp above the base is the next block
  pub page_is_given : (page : Page) → slice_get pages number ≡ Some page → making.is_begun ≡ true → making.head.base < page.stamp
      → blocks_left pages making ≡ entry_bytes making.head.space (entry number page) ∷ blocks_left pages (with_entry number making)
  page_is_given page is begun above =
      let left : List Entry = entries_from making.head.base (number + 1) (drop (number + 1) pages) in
      entries_are_left pages making (entry number page ∷ left) begun (reached ∙ entries_from-given making.head.base number pages page is above)
      ∙ ap (λ (blocks : List (List ℕ)). entry_bytes making.head.space (entry number page) ∷ blocks)
      (sym (entries_are_left pages (with_entry number making) left begun refl))

  -- any other is passed over
  pub page_is_passed : (page : Page) → slice_get pages number ≡ Some page → page.stamp ≤ making.head.base → Reaches pages making (number + 1)
  page_is_passed page is low = reached ∙ entries_from-passed making.head.base number pages page is low

  -- behind the last page no block is left
  pub none_is_left : length pages ≤ number → making.is_begun ≡ true → blocks_left pages making ≡ []
  none_is_left behind begun =
      entries_are_left pages making [] begun (reached ∙ ap (entries_from making.head.base number) (drop_all number pages behind))
