-- Pages copied one behind another.
use Rattle.std.proofs.Common.{◌≡◌, ℕ, ◌+◌, ◌-◌, ◌*◌, ◌<◌, ◌≤◌, List, [], ◌∷◌, ◌++◌, length, take, drop, get_or, Bool, true, IsTrue, arith, ap, sym, subst, ◌∙◌, refl, append_assoc, length-append}
use Rattle.std.proofs.lemmas.List.{take_more, take_at, length-take-le, append-nil, drop-drop}
use borrow.Rule.Slice.PartMut.{put_mid, post_of}
use Rattle.site_disk.specs.Bytes.{written, Torn}
use Rattle.site_disk.specs.BytesLaws.{torn_whole}
use Rattle.site_disk.specs.Images.{Leaves, Unchanged}
use Rattle.site_disk.specs.Ledger.{Ledger, EraView, Uses}
use Rattle.before_images.specs.Saved.{place_of, page_of, u32_at, numbers, are_below, present, laid, Within}
use Rattle.before_images.specs.ListLaws.{numbers-more, length-numbers, numbers-get}
use Rattle.before_images.specs.PagesLaws.{length-page}
use Rattle.before_images.specs.RestoredLaws.{stays_within}

-- the first i pages are read
pub record ReadSoFar {D : Type 0} (tells : Bool) (bytes : D → List ℕ) (image : D → ℕ → List ℕ → Type 0) (ledger : D → Ledger) (era : EraView) (pages_at : ℕ) (pages : List ℕ) (i : ℕ) (before region : List ℕ) (old new : D) : Type 0 where
  pub room : length region ≡ 4096 * (length pages + 1)
  pub found : IsTrue tells → take (4096 * (i + 1)) region ≡ take 4096 before ++ present pages_at (take i pages) (bytes old)
  pub content : bytes new ≡ bytes old
  pub images : Unchanged (image old) (image new)
  pub uses : Uses era (4096 * i) 0 (ledger old) (ledger new)

pub present-none : (pages_at : ℕ) (bytes : List ℕ) → present pages_at [] bytes ≡ []
unfolding present
present-none pages_at bytes = refl

present-append : (pages_at : ℕ) (xs ys bytes : List ℕ) → present pages_at (xs ++ ys) bytes ≡ present pages_at xs bytes ++ present pages_at ys bytes
unfolding present
present-append pages_at [] ys bytes = refl
present-append pages_at (x ∷ xs) ys bytes =
    ap (λ (l : List ℕ). page_of pages_at x bytes ++ l) (present-append pages_at xs ys bytes)
    ∙ sym (append_assoc (page_of pages_at x bytes) (present pages_at xs bytes) (present pages_at ys bytes))

present-one : (pages_at page : ℕ) (bytes : List ℕ) → present pages_at (page ∷ []) bytes ≡ page_of pages_at page bytes
unfolding present
present-one pages_at page bytes = append-nil (page_of pages_at page bytes)

present-more : (pages_at i : ℕ) (pages bytes : List ℕ) → i < length pages
    → present pages_at (take (i + 1) pages) bytes ≡ present pages_at (take i pages) bytes ++ page_of pages_at (get_or pages i 0) bytes
present-more pages_at i pages bytes lt =
    ap (λ (l : List ℕ). present pages_at l bytes) (take_more pages i 0 lt)
    ∙ present-append pages_at (take i pages) (get_or pages i 0 ∷ []) bytes
    ∙ ap (λ (l : List ℕ). present pages_at (take i pages) bytes ++ l) (present-one pages_at (get_or pages i 0) bytes)

-- one page more in the region
pub read_more : (pages_at i at k : ℕ) (pages bytes before region page : List ℕ) → i < length pages → at ≡ 4096 * (i + 1) → at ≤ length region
    → take at region ≡ take 4096 before ++ present pages_at (take i pages) bytes → page ≡ page_of pages_at (get_or pages i 0) bytes
    → take (4096 * (i + 1 + 1)) (put_mid at k region page) ≡ take 4096 before ++ present pages_at (take (i + 1) pages) bytes
read_more pages_at i at k pages bytes before region page lt place room so_far is =
    let front = take at region in
    let rest = post_of at k region in
    let size : length (front ++ page) ≡ 4096 * (i + 1 + 1) =
    omega (arith, length-append front page, length-take-le at region room, ap (λ (l : List ℕ). length l) is, length-page pages_at (get_or pages i 0) bytes, place) in
    ap (take (4096 * (i + 1 + 1))) (sym (append_assoc front page rest))
    ∙ take_at (front ++ page) rest (4096 * (i + 1 + 1)) size
    ∙ ap (λ (l : List ℕ). l ++ page) so_far
    ∙ append_assoc (take 4096 before) (present pages_at (take i pages) bytes) page
    ∙ ap (λ (l : List ℕ). take 4096 before ++ (present pages_at (take i pages) bytes ++ l)) is
    ∙ ap (λ (l : List ℕ). take 4096 before ++ l) (sym (present-more pages_at i pages bytes lt))

-- the first i images are written over their pages
pub record Put {D : Type 0} (tells : Bool) (bytes : D → List ℕ) (image : D → ℕ → List ℕ → Type 0) (ledger : D → Ledger) (era : EraView) (pages_at : ℕ) (head images : List ℕ) (count i : ℕ) (old new : D) : Type 0 where
  pub content : IsTrue tells → laid pages_at (numbers i (count - i) head) (drop (4096 * i) images) (bytes new) ≡ laid pages_at (numbers 0 count head) images (bytes old)
  pub kept : IsTrue tells → (limit : ℕ) → are_below limit (numbers 0 count head) ≡ true → Within pages_at limit (numbers 0 count head) (bytes old) (bytes new)
  pub longer : IsTrue tells → length (bytes old) ≤ length (bytes new)
  pub crash : (limit : ℕ) → are_below limit (numbers 0 count head) ≡ true → Leaves era.number (Within pages_at limit (numbers 0 count head)) (image old) (image new)
  pub uses : Uses era 0 (4096 * i) (ledger old) (ledger new)

laid-cons : (pages_at page : ℕ) (pages images bytes : List ℕ)
    → laid pages_at (page ∷ pages) images bytes ≡ laid pages_at pages (drop 4096 images) (written (place_of pages_at page) (take 4096 images) bytes)
unfolding laid
laid-cons pages_at page pages images bytes = refl

pub laid-none : (pages_at : ℕ) (images bytes : List ℕ) → laid pages_at [] images bytes ≡ bytes
unfolding laid
laid-none pages_at images bytes = refl

-- one image more
pub put_more : (pages_at i count n : ℕ) (head images mid new result : List ℕ) → i < count → n ≡ 4096
    → laid pages_at (numbers i (count - i) head) (drop (4096 * i) images) mid ≡ result
    → new ≡ written (place_of pages_at (u32_at (32 + 4 * i) head)) (take n (drop (4096 * i) images)) mid
    → laid pages_at (numbers (i + 1) (count - (i + 1)) head) (drop (4096 * (i + 1)) images) new ≡ result
put_more pages_at i count n head images mid new result lt size was is =
    let page = u32_at (32 + 4 * i) head in
    let rest = numbers (i + 1) (count - (i + 1)) head in
    let left = drop (4096 * i) images in
    let more : drop (4096 * (i + 1)) images ≡ drop 4096 left = ap (λ (k : ℕ). drop k images) (omega arith) ∙ sym (drop-drop 4096 (4096 * i) images) in
    ap (λ (l : List ℕ). laid pages_at rest l new) more
    ∙ ap (λ (l : List ℕ). laid pages_at rest (drop 4096 left) l) (is ∙ ap (λ (k : ℕ). written (place_of pages_at page) (take k left) mid) size)
    ∙ sym (laid-cons pages_at page rest left mid)
    ∙ ap (λ (l : List ℕ). laid pages_at l left mid) (sym (numbers-more i count head lt))
    ∙ was

-- one page's write more within the pages
pub within_more : (pages_at limit i count : ℕ) (head old mid new : List ℕ) → i < count → are_below limit (numbers 0 count head) ≡ true
    → Within pages_at limit (numbers 0 count head) old mid → Torn (place_of pages_at (u32_at (32 + 4 * i) head)) 4096 mid new → Within pages_at limit (numbers 0 count head) old new
within_more pages_at limit i count head old mid new lt below first torn =
    let pages = numbers 0 count head in
    stays_within pages_at limit i pages old mid new (omega (arith, length-numbers 0 count head, lt)) below first
    (subst (λ (p : ℕ). Torn (place_of pages_at p) 4096 mid new) (sym (numbers-get count i head lt)) torn)

pub within_none : (pages_at limit : ℕ) (pages bytes : List ℕ) → Within pages_at limit pages bytes bytes
within_none pages_at limit pages bytes = record { elsewhere = λ from len apart. refl; no_shorter = omega arith; no_longer = omega arith }

-- and one on the bytes
pub within_written : (pages_at limit i count : ℕ) (head piece old mid new : List ℕ) → i < count → are_below limit (numbers 0 count head) ≡ true → place_of pages_at (u32_at (32 + 4 * i) head) ≤ length mid
    → length piece ≡ 4096 → new ≡ written (place_of pages_at (u32_at (32 + 4 * i) head)) piece mid → Within pages_at limit (numbers 0 count head) old mid → Within pages_at limit (numbers 0 count head) old new
within_written pages_at limit i count head piece old mid new lt below reaches size is first =
    let place = place_of pages_at (u32_at (32 + 4 * i) head) in
    let torn : Torn place 4096 mid (written place piece mid) = subst (λ (n : ℕ). Torn place n mid (written place piece mid)) size (torn_whole place piece mid reaches) in
    within_more pages_at limit i count head old mid new lt below first (subst (λ (l : List ℕ). Torn place 4096 mid l) (sym is) torn)
