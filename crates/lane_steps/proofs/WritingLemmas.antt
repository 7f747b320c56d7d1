-- Pages written one after another.
use Rattle.std.proofs.Common.{◌≡◌, ℕ, ◌+◌, ◌*◌, ◌<◌, ◌≤◌, List, length, take, drop, get_or, fold, Bool, true, IsTrue, arith, ap, sym, subst, ◌∙◌, refl}
use Rattle.std.proofs.lemmas.List.{drop_more, take_all}
use Rattle.site_disk.specs.Bytes.{Torn, extent, written}
use Rattle.site_disk.specs.BytesLaws.{extent-written, length-extent, torn_whole}
use Rattle.site_disk.specs.Images.{Leaves}
use Rattle.site_disk.specs.ImagesLaws.{goes_on}
use Rattle.site_disk.specs.Ledger.{Ledger, EraView, Uses}
use Rattle.log_history.specs.Effects.{Change, Page, with_change}
use Rattle.before_images.specs.Saved.{Within, are_below, are_distinct, place_of}
use Rattle.space_pages.specs.Layout.{page_bytes}
use Rattle.before_images.specs.RestoredLaws.{stays_within}
use Rattle.lane_ways.specs.Pictures.{Stand, pages_at}
use Rattle.lane_steps.specs.Moves.{Lays}
use Rattle.lane_steps.proofs.StandLemmas.{StandInTurn, in_turn_more, once_among}

-- the first i pages are brought further
pub record WritesSoFar {D : Type 0} (tells : Bool) (bytes : D → List ℕ) (image : D → ℕ → List ℕ → Type 0) (ledger : D → Ledger) (era : EraView) (space : ℕ) (pages : List ℕ) (changes : List Change) (i : ℕ) (old new : D) : Type 0 where
  pub stand : IsTrue tells → (all : List Page) → Lays space (length all) pages changes → Stand space 0 all (bytes old) → StandInTurn space (drop i pages) changes all (bytes new)
  pub within : IsTrue tells → (limit : ℕ) → are_below limit pages ≡ true → Within pages_at limit pages (bytes old) (bytes new)
  pub longer : IsTrue tells → length (bytes old) ≤ length (bytes new)
  pub crash : (limit : ℕ) → are_below limit pages ≡ true → Leaves era.number (Within pages_at limit pages) (image old) (image new)
  pub uses : Uses era (4096 * i) (4096 * i) (ledger old) (ledger new)

pub within_none : (limit : ℕ) (pages bytes : List ℕ) → Within pages_at limit pages bytes bytes
within_none limit pages bytes = record { elsewhere = λ from len apart. refl; no_shorter = omega arith; no_longer = omega arith }

-- one page's write more within the pages
pub within_more : (limit i : ℕ) (pages old mid new : List ℕ) → i < length pages → are_below limit pages ≡ true → Within pages_at limit pages old mid
    → Torn (place_of pages_at (get_or pages i 0)) 4096 mid new → Within pages_at limit pages old new
within_more limit i pages old mid new lt below first torn = stays_within pages_at limit i pages old mid new lt below first torn

pub crash_more : (limit i page e : ℕ) (pages : List ℕ) (old mid new : ℕ → List ℕ → Type 0) → i < length pages → page ≡ get_or pages i 0 → are_below limit pages ≡ true
    → Leaves e (Within pages_at limit pages) old mid → Leaves e (Torn (place_of pages_at page) 4096) mid new → Leaves e (Within pages_at limit pages) old new
crash_more limit i page e pages old mid new lt is below first second =
    goes_on (Within pages_at limit pages) (Torn (place_of pages_at page) 4096) e old mid new first second
    (λ f d c later image torn. let was = first.later f d later image in (
      was.0,
      was.1,
      within_more limit i pages was.0 d c lt below was.2 (subst (λ (p : ℕ). Torn (place_of pages_at p) 4096 d c) is torn),
    ))

pub stand_more : (space i : ℕ) (pages : List ℕ) (changes : List Change) (all : List Page) (old new : List ℕ) → i < length pages → are_distinct pages ≡ true
    → Torn (place_of pages_at (get_or pages i 0)) 4096 old new
    → ((was : Page) → extent (place_of pages_at (get_or pages i 0)) 4096 old ≡ page_bytes space (get_or pages i 0) was
    → extent (place_of pages_at (get_or pages i 0)) 4096 new ≡ page_bytes space (get_or pages i 0) (fold (with_change space (get_or pages i 0)) was changes))
    → StandInTurn space (drop i pages) changes all old → StandInTurn space (drop (i + 1) pages) changes all new
stand_more space i pages changes all old new lt distinct torn brings stand =
    in_turn_more space (get_or pages i 0) (drop (i + 1) pages) changes all old new (once_among pages i lt distinct) torn brings
    (subst (λ (l : List ℕ). StandInTurn space l changes all old) (drop_more pages i 0 lt) stand)

-- one page, read and written

-- a page that lies within the disk is read whole
pub read_whole : (place at found : ℕ) (into bytes : List ℕ) → at ≡ place → place + 4096 ≤ length bytes → length into ≡ 4096 → found ≡ length (extent at 4096 bytes) → take found into ≡ extent at found bytes
    → into ≡ extent place 4096 bytes
read_whole place at found into bytes same reaches long count is =
    let all : length (extent at 4096 bytes) ≡ 4096 = length-extent at 4096 bytes (omega (arith, same, reaches)) in
    let whole : found ≡ 4096 = omega (arith, count, all) in
    sym (take_all 4096 into (omega (arith, long)))
    ∙ subst (λ (n : ℕ). take n into ≡ extent at n bytes) whole is
    ∙ ap (λ (n : ℕ). extent n 4096 bytes) same

module _ (place at : ℕ) (piece old mid new : List ℕ) (same : at ≡ place) (reaches : place + 4096 ≤ length old) (long : length piece ≡ 4096) (read : mid ≡ old) (is : new ≡ written at piece mid) where
  here : new ≡ written place piece old
  here = is ∙ ap (λ (n : ℕ). written n piece mid) same ∙ ap (written place piece) read

  pub written_there : extent place 4096 new ≡ piece
  written_there =
      ap (extent place 4096) here ∙ ap (λ (n : ℕ). extent place n (written place piece old)) (sym long) ∙ extent-written place piece old (omega (arith, reaches))

  pub written_torn : Torn place 4096 old new
  written_torn =
      subst (Torn place 4096 old) (sym here) (subst (λ (n : ℕ). Torn place n old (written place piece old)) long (torn_whole place piece old (omega (arith, reaches))))
