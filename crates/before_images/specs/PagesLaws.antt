-- Laws of pages and their images.
use Rattle.std.specs.Prelude.{◌≡◌, ◌⊎◌, ℕ, zero, suc, ◌+◌, ◌*◌, ◌<◌, ◌≤◌, List, [], ◌∷◌, ◌++◌, length, take, drop, get_or, refl}
use mathlib.Core.Logic.{inl, inr}
use Rattle.std.proofs.Common.{arith, ap, sym, ◌∙◌, ⊎_elim, length-append, length-take, length-drop}
use Rattle.std.proofs.lemmas.List.{ext_get_or, take_at, drop_at, length-take-le}
use Rattle.std.proofs.lemmas.Bool.{cases_lt}
use Rattle.site_disk.specs.Bytes.{extent, written}
use Rattle.site_disk.specs.BytesLaws.{written-same, length-written, length-extent, extent-one, filled_there, length-filled, get_or-written_before, get_or-written_within, get_or-written_behind}
use Rattle.before_images.specs.Saved.{place_of, page_of, present, laid, Lie, Within}

-- the place is outside of each of these pages
abbrev pub Outside : ℕ → List ℕ → ℕ → Type 0
Outside pages_at pages x = (k : ℕ) → k < length pages → (x < place_of pages_at (get_or pages k 0)) ⊎ (place_of pages_at (get_or pages k 0) + 4096 ≤ x)

-- the same bytes but for those of the pages
abbrev pub SameOutside : ℕ → List ℕ → List ℕ → List ℕ → Type 0
SameOutside pages_at pages c d = (x : ℕ) → x < length d → Outside pages_at pages x → get_or c x 0 ≡ get_or d x 0

-- laid images make the pages the same, whatever they held
pub laid-same : (pages_at : ℕ) (pages images c d : List ℕ) → length c ≡ length d → Lie pages_at pages d → 4096 * length pages ≤ length images
    → SameOutside pages_at pages c d → laid pages_at pages images c ≡ laid pages_at pages images d
unfolding laid
laid-same pages_at [] images c d long lie fits same = ext_get_or 0 c d long (λ x lt. same x (omega (arith, long, lt)) (λ k none. absurd (omega (arith, none))))
laid-same pages_at (page ∷ pages) images c d long lie fits same =
    laid-same pages_at pages (drop 4096 images) (written place piece c) (written place piece d)
    (omega (arith, length-written place piece c within_c, length-written place piece d within_d, long))
    (λ k lt. omega (arith, lie (suc k) (omega (arith, lt)), length-written place piece d within_d))
    (omega (arith, length-drop 4096 images, fits))
    outside
  where
    place : ℕ
    place = place_of pages_at page

    piece : List ℕ
    piece = take 4096 images

    within_d : place ≤ length d
    within_d = omega (arith, lie 0 (omega arith))

    within_c : place ≤ length c
    within_c = omega (arith, within_d, long)

    size : length piece ≡ 4096
    size = length-take-le 4096 images (omega (arith, fits))

    rest : (x : ℕ) → (x < place) ⊎ (place + 4096 ≤ x) → x < length d → Outside pages_at pages x → get_or c x 0 ≡ get_or d x 0
    rest x here lt out = same x lt (λ k. at k)
      where
        at : (k : ℕ) → k < length (page ∷ pages) → (x < place_of pages_at (get_or (page ∷ pages) k 0)) ⊎ (place_of pages_at (get_or (page ∷ pages) k 0) + 4096 ≤ x)
        at zero few = here
        at (suc k) few = out k (omega (arith, few))

    outside : SameOutside pages_at pages (written place piece c) (written place piece d)
    outside x lt out = ⊎_elim
        (λ before. get_or-written_before place piece c within_c x before
        ∙ rest x (inl before) (omega (arith, within_d, before)) out
        ∙ sym (get_or-written_before place piece d within_d x before))
        (λ not_before. ⊎_elim
        (λ within. get_or-written_within place piece c within_c x not_before (omega (arith, size, within)) ∙ sym (get_or-written_within place piece d within_d x not_before (omega (arith, size, within))))
        (λ behind. get_or-written_behind place piece c within_c x (omega (arith, size, behind))
        ∙ rest x (inr behind) (omega (arith, lt, length-written place piece d within_d, size, behind)) out
        ∙ sym (get_or-written_behind place piece d within_d x (omega (arith, size, behind))))
        (cases_lt x (place + 4096)))
        (cases_lt x place)

-- pages as they stand

pub page-there : (pages_at page : ℕ) (bytes : List ℕ) → place_of pages_at page + 4096 ≤ length bytes → page_of pages_at page bytes ≡ extent (place_of pages_at page) 4096 bytes
page-there pages_at page bytes there =
    filled_there 4096 (extent (place_of pages_at page) 4096 bytes) (omega (arith, length-extent (place_of pages_at page) 4096 bytes there))

pub length-page : (pages_at page : ℕ) (bytes : List ℕ) → length (page_of pages_at page bytes) ≡ 4096
length-page pages_at page bytes =
    omega (arith, length-filled 4096 (extent (place_of pages_at page) 4096 bytes), length-take 4096 (drop (place_of pages_at page) bytes))

pub length-present : (pages_at : ℕ) (pages bytes : List ℕ) → length (present pages_at pages bytes) ≡ 4096 * length pages
unfolding present
length-present pages_at [] bytes = refl
length-present pages_at (page ∷ pages) bytes =
    omega (arith, length-append (page_of pages_at page bytes) (present pages_at pages bytes), length-page pages_at page bytes, length-present pages_at pages bytes)

-- the images of pages as they stand, laid over them
pub laid-present : (pages_at : ℕ) (pages bytes : List ℕ) → Lie pages_at pages bytes → laid pages_at pages (present pages_at pages bytes) bytes ≡ bytes
unfolding laid present
laid-present pages_at [] bytes lie = refl
laid-present pages_at (page ∷ pages) bytes lie =
    let here = page_of pages_at page bytes in
    let size : length here ≡ 4096 = length-page pages_at page bytes in
    let stands : here ≡ extent (place_of pages_at page) 4096 bytes = page-there pages_at page bytes (lie 0 (omega arith)) in
    let images = here ++ present pages_at pages bytes in
    ap (λ (l : List ℕ). laid pages_at pages l (written (place_of pages_at page) (take 4096 images) bytes)) (drop_at here (present pages_at pages bytes) 4096 size)
    ∙ ap (λ (l : List ℕ). laid pages_at pages (present pages_at pages bytes) (written (place_of pages_at page) l bytes)) (take_at here (present pages_at pages bytes) 4096 size)
    ∙ ap (λ (l : List ℕ). laid pages_at pages (present pages_at pages bytes) l)
    (written-same (place_of pages_at page) here bytes (ap (λ (n : ℕ). extent (place_of pages_at page) n bytes) size ∙ sym stands))
    ∙ laid-present pages_at pages bytes (λ k lt. lie (suc k) (omega (arith, lt)))

-- bytes that differ only within the pages
pub same_outside : (pages_at limit : ℕ) (pages old new : List ℕ) → Within pages_at limit pages old new → SameOutside pages_at pages new old
same_outside pages_at limit pages old new within x lt out =
    let same : extent x 1 new ≡ extent x 1 old = within.elsewhere x 1 (λ k few. ⊎_elim (λ before. inl (omega (arith, before))) (λ behind. inr (omega (arith, behind))) (out k few)) in
    ap (λ (l : List ℕ). get_or l 0 0) (sym (extent-one x new (omega (arith, lt, within.no_shorter))) ∙ same ∙ extent-one x old lt)
