-- What the words of the contracts come to.
use Rattle.std.specs.Prelude.{◌⊎◌, if◌then◌else◌, replicate, nat_lt}
use Rattle.std.proofs.Common.{◌≡◌, ℕ, zero, suc, ◌+◌, ◌-◌, ◌*◌, ◌/◌, ◌%◌, ◌<◌, ◌≤◌, min, List, [], ◌∷◌, length, take, drop, get_or, fold, Bool, true, false, refl, arith, ap, sym, subst, ◌∙◌, ⊎_elim}
use Rattle.std.proofs.Math.Nat.{mul-mod_right}
use Rattle.std.proofs.lemmas.Bool.{cases_lt}
use Rattle.std.proofs.lemmas.List.{length-replicate}
use Rattle.site_disk.specs.Bytes.{extent}
use Rattle.before_images.specs.Saved.{place_of}
use Rattle.log_history.specs.Effects.{Page, empty_page}
use Rattle.space_pages.specs.Layout.{page_bytes}
use Rattle.space_pages.specs.Pages.{empty_pages}
use Rattle.backup_lines.specs.declared.lanes.Chain.{Chain}
use Rattle.backup_lines.specs.declared.lanes.LaneState.TheVariants.{Blank, Replay}
use Rattle.lane_ways.specs.Pictures.{Stand, pages_at}
use Rattle.space_lane.specs.Chunks.{HoldsState, page_at}
use Rattle.level_archive.specs.Image.{Entry, IsImageSize, entries_from, entry}
use Rattle.lane_restore.specs.declared.job.ImageJob.{ImageJob}
use Rattle.lane_restore.specs.Images.{HasHead, HasImage, IsTaken, TakesBlocks, entries_in, step_len}
use Rattle.lane_restore.specs.Merging.{HoldsMerged, page_amid, with_entries, with_entry}
use Rattle.lane_restore.proofs.ImageLemmas.{few_follow, head_stands, takes_behind}
use Rattle.lane_restore.proofs.PageLemmas.{with_one-other, with_one-same}

-- an image on a volume is taken

module _ (pages : ℕ) (image : ImageJob) (es : List Entry) (bytes : List ℕ) (has : HasImage pages image es bytes) where
  size_taken : IsImageSize pages image.size
  size_taken =
      subst (IsImageSize pages) (sym has.size)
      (record {
        whole = mul-mod_right 4096 (length es + 1);
        some = omega arith;
        few = omega (arith, few_follow image.head pages 0 es (omega arith) has.follow);
      })

  head_taken : (n : ℕ) → HasHead image n bytes
  head_taken zero = head_stands pages image bytes es has
  head_taken (suc n) = tt

  blocks_taken : (n : ℕ) → TakesBlocks image pages 0 n (step_len image.size n) bytes
  blocks_taken n =
      let own : image.size / 4096 ≡ length es + 1 = omega (arith, has.size) in
      let count : entries_in image.size ≡ length es = omega (arith, own) in
      ⊎_elim
      (λ (le : n < length es). takes_behind pages image bytes es has n (step_len image.size n) (omega (arith, le)) (omega (arith, count)))
      (λ (past : length es ≤ n).
      let none : 0 ≡ step_len image.size n = omega (arith, past, count) in
      subst (λ (k : ℕ). TakesBlocks image pages 0 n k bytes) none tt)
      (cases_lt n (length es))

  pub is_taken : (n : ℕ) → IsTaken image pages n bytes
  is_taken n = record { size = size_taken; head = head_taken n; blocks = blocks_taken n }

-- pages one by one

pub stand_of : (space first : ℕ) (d : Page) (all : List Page) (bytes : List ℕ)
    → ((i : ℕ) → i < length all → extent (place_of pages_at (first + i)) 4096 bytes ≡ page_bytes space (first + i) (get_or all i d)) → Stand space first all bytes
stand_of space first d [] bytes each = tt
stand_of space first d (page ∷ all) bytes each = (
  subst (λ (n : ℕ). extent (place_of pages_at n) 4096 bytes ≡ page_bytes space n page) (let e : first + 0 ≡ first = omega arith in e) (each 0 (omega arith)),
  stand_of space (first + 1) d all bytes
      (λ i lt. subst (λ (n : ℕ). extent (place_of pages_at n) 4096 bytes ≡ page_bytes space n (get_or all i d)) (let e : first + suc i ≡ first + 1 + i = omega arith in e)
      (each (suc i) (omega (arith, lt)))),
)

empty_at : (space first n number : ℕ) (bytes : List ℕ) → Stand space first (replicate n empty_page) bytes → first ≤ number → number < first + n
    → extent (place_of pages_at number) 4096 bytes ≡ page_bytes space number empty_page
empty_at space first zero number bytes stand le lt = absurd (omega (arith, le, lt))
empty_at space first (suc n) number bytes stand le lt = ⊎_elim
    (λ (later : first < number). empty_at space (first + 1) n number bytes stand.1 (omega (arith, later)) (omega (arith, lt)))
    (λ (here : number ≤ first).
    subst (λ (k : ℕ). extent (place_of pages_at k) 4096 bytes ≡ page_bytes space k empty_page) (let e : first ≡ number = omega (arith, here, le) in e) stand.0)
    (cases_lt first number)

pub emptied_shows : (site space count restore : ℕ) (images : List (List Entry)) (bytes : List ℕ) → HoldsState site space count (Blank restore) bytes
    → Stand space 0 (empty_pages count) bytes → HoldsMerged site space count images (Blank restore) bytes
emptied_shows site space count restore images bytes holds stand =
    record { holds = holds; pages = λ number lt apart. empty_at space 0 count number bytes stand (omega arith) (omega (arith, lt)) }

get_replicate : (n i : ℕ) (d : Page) → i < n → get_or (replicate n empty_page) i d ≡ empty_page
get_replicate zero i d lt = absurd (omega (arith, lt))
get_replicate (suc n) zero d lt = refl
get_replicate (suc n) (suc i) d lt = get_replicate n i d (omega (arith, lt))

pub shows_emptied : (site space count restore : ℕ) (images : List (List Entry)) (bytes : List ℕ) → HoldsMerged site space count images (Blank restore) bytes
    → Stand space 0 (empty_pages count) bytes
shows_emptied site space count restore images bytes merged =
    stand_of space 0 empty_page (empty_pages count) bytes
    (λ i lt.
    let below : i < count = omega (arith, lt, length-replicate {A = Page} count empty_page) in
    subst (λ (k : ℕ). extent (place_of pages_at k) 4096 bytes ≡ page_bytes space k (get_or (replicate count empty_page) i empty_page)) (let e : i ≡ 0 + i = omega arith in e)
    (merged.pages i below tt ∙ ap (page_bytes space i) (sym (get_replicate count i empty_page below))))

pub replayed_shows : (site space count restore upto part : ℕ) (chain : Chain) (images : List (List Entry)) (d : Page) (all : List Page) (bytes : List ℕ) → length all ≡ count
    → ((number : ℕ) → number < count → get_or all number d ≡ page_amid images chain.len 0 number) → HoldsMerged site space count images (Replay restore chain upto part) bytes
    → Stand space 0 all bytes
replayed_shows site space count restore upto part chain images d all bytes long each merged =
    stand_of space 0 d all bytes
    (λ i lt.
    let below : i < count = omega (arith, lt, long) in
    subst (λ (k : ℕ). extent (place_of pages_at k) 4096 bytes ≡ page_bytes space k (get_or all i d)) (let e : i ≡ 0 + i = omega arith in e)
    (merged.pages i below tt ∙ ap (page_bytes space i) (sym (each i below))))

-- the entries of pages

none_before : (base first number : ℕ) (pages : List Page) (page : Page) → number < first → with_entries number (entries_from base first pages) page ≡ page
none_before base first number [] page lt = refl
none_before base first number (one ∷ pages) page lt = by (λ p. none_before base (first + 1) number pages p (omega (arith, lt))) (nat_lt base one.stamp)
  where
    by : ((p : Page) → with_entries number (entries_from base (first + 1) pages) p ≡ p) → (b : Bool)
        → with_entries number (if b then entry first one ∷ entries_from base (first + 1) pages else entries_from base (first + 1) pages) page ≡ page
    by rest true = rest (with_entry number page (entry first one)) ∙ with_one-other number page (entry first one) (λ same. omega (arith, lt, same))
    by rest false = rest page

pub entries_merged : (base first i : ℕ) (pages : List Page) (page d : Page) → i < length pages
    → with_entries (first + i) (entries_from base first pages) page ≡ (if nat_lt base (get_or pages i d).stamp then get_or pages i d else page)
entries_merged base first i [] page d lt = absurd (omega (arith, lt))
entries_merged base first zero (one ∷ pages) page d lt = by (nat_lt base one.stamp)
  where
    same : first ≡ first + 0
    same = omega arith

    rest : (p : Page) → with_entries (first + 0) (entries_from base (first + 1) pages) p ≡ p
    rest p = none_before base (first + 1) (first + 0) pages p (omega arith)

    by : (b : Bool) → with_entries (first + 0) (if b then entry first one ∷ entries_from base (first + 1) pages else entries_from base (first + 1) pages) page ≡ (if b then one else page)
    by true = rest (with_entry (first + 0) page (entry first one)) ∙ with_one-same (first + 0) page (entry first one) same
    by false = rest page
entries_merged base first (suc i) (one ∷ pages) page d lt =
    by
    (λ p. subst (λ (n : ℕ). with_entries n (entries_from base (first + 1) pages) p ≡ (if nat_lt base (get_or pages i d).stamp then get_or pages i d else p)) at
    (entries_merged base (first + 1) i pages p d (omega (arith, lt))))
    (nat_lt base one.stamp)
  where
    at : first + 1 + i ≡ first + suc i
    at = omega arith

    by : ((p : Page) → with_entries (first + suc i) (entries_from base (first + 1) pages) p ≡ (if nat_lt base (get_or pages i d).stamp then get_or pages i d else p)) → (b : Bool)
        → with_entries (first + suc i) (if b then entry first one ∷ entries_from base (first + 1) pages else entries_from base (first + 1) pages) page
        ≡ (if nat_lt base (get_or pages i d).stamp then get_or pages i d else page)
    by rest true =
        rest (with_entry (first + suc i) page (entry first one))
        ∙ ap (λ (p : Page). if nat_lt base (get_or pages i d).stamp then get_or pages i d else p) (with_one-other (first + suc i) page (entry first one) (λ same. omega (arith, same)))
    by rest false = rest page
