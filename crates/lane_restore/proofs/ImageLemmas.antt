-- The blocks of an image, as they stand on a volume.
use Rattle.std.proofs.Common.{◌≡◌, ℕ, zero, suc, ◌+◌, ◌-◌, ◌*◌, ◌<◌, ◌≤◌, List, [], ◌∷◌, ◌++◌, length, take, drop, map, refl, arith, ap, sym, subst, ◌∙◌, ⊎_elim, append_assoc, length-append, length-take, length-drop}
use Rattle.std.specs.List.{AllByRecursion, flat_map}
use Rattle.std.proofs.lemmas.Bool.{cases_lt}
use Rattle.std.proofs.lemmas.List.{length-map, take-append-drop, take_at, drop_at, map-append}
use Rattle.object_volume.specs.Objects.{bytes_at, object, object_places, places}
use Rattle.object_volume.specs.ObjectsLaws.{bytes_at-append, bytes_at-cut, length-bytes_at}
use Rattle.block_chain.specs.Blocks.{blocks_of_runs}
use Rattle.level_archive.specs.declared.head.ImageHead.{ImageHead}
use Rattle.level_archive.specs.BlockLaws.{IsBlock, block_stands, length-blocks, length-entry_bytes, length-head_bytes}
use Rattle.level_archive.specs.Image.{Entry, entry_bytes, head_bytes, image_blocks}
use Rattle.level_archive.specs.Reading.{MayFollow, MayStand, number_behind}
use Rattle.level_archive.specs.ReadingLaws.{MayFollow-behind, number_behind-more}
use Rattle.lane_restore.specs.declared.job.ImageJob.{ImageJob}
use Rattle.lane_restore.specs.Images.{AreEntries, HasImage, IsEntry, TakesBlock, TakesBlocks, block_from, entry_place}

-- a part of what places read as

-- where all of some places are there, so are those at their front
front_there : (file xs ys : List ℕ) → length (bytes_at file (xs ++ ys)) ≡ length (xs ++ ys) → length (bytes_at file xs) ≡ length xs
front_there file xs ys whole = ⊎_elim
    (λ (short : length (bytes_at file xs) < length xs). absurd (omega (arith, short, whole, ap length (bytes_at-cut file xs ys short), length-append xs ys)))
    (λ (all : length xs ≤ length (bytes_at file xs)). omega (arith, all, length-bytes_at file xs))
    (cases_lt (length (bytes_at file xs)) (length xs))

back_reads : (file xs ys : List ℕ) → length (bytes_at file (xs ++ ys)) ≡ length (xs ++ ys) → bytes_at file ys ≡ drop (length xs) (bytes_at file (xs ++ ys))
back_reads file xs ys whole =
    let there : length (bytes_at file xs) ≡ length xs = front_there file xs ys whole in
    sym (ap (drop (length xs)) (bytes_at-append file xs ys there) ∙ drop_at (bytes_at file xs) (bytes_at file ys) (length xs) there)

front_reads : (file xs ys : List ℕ) → length (bytes_at file (xs ++ ys)) ≡ length (xs ++ ys) → bytes_at file xs ≡ take (length xs) (bytes_at file (xs ++ ys))
front_reads file xs ys whole =
    let there : length (bytes_at file xs) ≡ length xs = front_there file xs ys whole in
    sym (ap (take (length xs)) (bytes_at-append file xs ys there) ∙ take_at (bytes_at file xs) (bytes_at file ys) (length xs) there)

drop_reads : (file : List ℕ) (at : ℕ) (ps : List ℕ) → at ≤ length ps → length (bytes_at file ps) ≡ length ps → bytes_at file (drop at ps) ≡ drop at (bytes_at file ps)
drop_reads file at ps le whole =
    let is : take at ps ++ drop at ps ≡ ps = take-append-drop at ps in
    let n : length (take at ps) ≡ at = omega (arith, length-take at ps, le) in
    back_reads file (take at ps) (drop at ps) (subst (λ (l : List ℕ). length (bytes_at file l) ≡ length l) (sym is) whole)
    ∙ ap (λ (k : ℕ). drop k (bytes_at file (take at ps ++ drop at ps))) n ∙ ap (λ (l : List ℕ). drop at (bytes_at file l)) is

take_reads : (file : List ℕ) (n : ℕ) (ps : List ℕ) → n ≤ length ps → length (bytes_at file ps) ≡ length ps → bytes_at file (take n ps) ≡ take n (bytes_at file ps)
take_reads file n ps le whole =
    let is : take n ps ++ drop n ps ≡ ps = take-append-drop n ps in
    let long : length (take n ps) ≡ n = omega (arith, length-take n ps, le) in
    front_reads file (take n ps) (drop n ps) (subst (λ (l : List ℕ). length (bytes_at file l) ≡ length l) (sym is) whole)
    ∙ ap (λ (k : ℕ). take k (bytes_at file (take n ps ++ drop n ps))) long ∙ ap (λ (l : List ℕ). take n (bytes_at file l)) is

part_reads : (file : List ℕ) (at n : ℕ) (ps : List ℕ) → at + n ≤ length ps → length (bytes_at file ps) ≡ length ps
    → bytes_at file (take n (drop at ps)) ≡ take n (drop at (bytes_at file ps))
part_reads file at n ps le whole =
    let behind : bytes_at file (drop at ps) ≡ drop at (bytes_at file ps) = drop_reads file at ps (omega (arith, le)) whole in
    let long : length (bytes_at file (drop at ps)) ≡ length (drop at ps) = omega (arith, ap length behind, length-drop at (bytes_at file ps), length-drop at ps, whole) in
    take_reads file n (drop at ps) (omega (arith, length-drop at ps, le)) long ∙ ap (take n) behind

-- a block of an object that reads as a whole number of bytes
pub block_reads : (image : ImageJob) (at : ℕ) (bytes : List ℕ) → length (object image.runs.items image.size bytes) ≡ image.size → at + 4096 ≤ image.size
    → block_from image at bytes ≡ take 4096 (drop at (object image.runs.items image.size bytes))
block_reads image at bytes long le =
    let ps : List ℕ = object_places image.runs.items image.size in
    let few : length ps ≤ image.size = omega (arith, length-take image.size (places (blocks_of_runs image.runs.items))) in
    let some : length (bytes_at bytes ps) ≤ length ps = length-bytes_at bytes ps in
    part_reads bytes at 4096 ps (omega (arith, le, some, long)) (omega (arith, few, some, long))

-- the blocks of entries

entry_blocks : (space : ℕ) (es : List Entry) → AllByRecursion (λ e. length e.page.payload ≡ 4080) es → AllByRecursion IsBlock (map (entry_bytes space) es)
entry_blocks space [] whole = tt
entry_blocks space (e ∷ es) whole = (length-entry_bytes space e whole.0, entry_blocks space es whole.1)

blocks_whole : (head : ImageHead) (es : List Entry) → AllByRecursion (λ e. length e.page.payload ≡ 4080) es → AllByRecursion IsBlock (image_blocks head es)
blocks_whole head es whole = (length-head_bytes head, entry_blocks head.space es whole)

all_front : (P : Entry → Type 0) (xs ys : List Entry) → AllByRecursion P (xs ++ ys) → AllByRecursion P xs
all_front P [] ys all = tt
all_front P (x ∷ xs) ys all = (all.0, all_front P xs ys all.1)

all_back : (P : Entry → Type 0) (xs ys : List Entry) → AllByRecursion P (xs ++ ys) → AllByRecursion P ys
all_back P [] ys all = all
all_back P (x ∷ xs) ys all = all_back P xs ys all.1

module _ (pages : ℕ) (image : ImageJob) (bytes : List ℕ) where
  image_long : (es : List Entry) → HasImage pages image es bytes → length (object image.runs.items image.size bytes) ≡ image.size
  image_long es has =
      omega (
        arith,
        ap length has.reads,
        length-blocks (image_blocks image.head es) (blocks_whole image.head es has.whole),
        length-map es (entry_bytes image.head.space),
        has.size,
      )

  pub head_stands : (es : List Entry) → HasImage pages image es bytes → block_from image 0 bytes ≡ head_bytes image.head
  head_stands es has =
      block_reads image 0 bytes (image_long es has) (omega (arith, has.size)) ∙ ap (λ (l : List ℕ). take 4096 (drop 0 l)) has.reads
      ∙ block_stands [] (head_bytes image.head) (map (entry_bytes image.head.space) es) tt (length-head_bytes image.head)

  module _ (front : List Entry) (e : Entry) (behind : List Entry) (has : HasImage pages image (front ++ e ∷ behind) bytes) where
    own_payload : length e.page.payload ≡ 4080
    own_payload = (all_back (λ e. length e.page.payload ≡ 4080) front (e ∷ behind) has.whole).0

    parted : image_blocks image.head (front ++ e ∷ behind)
        ≡ (head_bytes image.head ∷ map (entry_bytes image.head.space) front) ++ entry_bytes image.head.space e ∷ map (entry_bytes image.head.space) behind
    parted = ap (λ (l : List (List ℕ)). head_bytes image.head ∷ l) (map-append (entry_bytes image.head.space) front (e ∷ behind))

    entry_stands : block_from image (entry_place (length front)) bytes ≡ entry_bytes image.head.space e
    entry_stands =
        let before : List (List ℕ) = head_bytes image.head ∷ map (entry_bytes image.head.space) front in
        let whole : AllByRecursion IsBlock before = blocks_whole image.head front (all_front (λ e. length e.page.payload ≡ 4080) front (e ∷ behind) has.whole) in
        let place : entry_place (length front) ≡ 4096 * length before = omega (arith, length-map front (entry_bytes image.head.space)) in
        block_reads image (entry_place (length front)) bytes (image_long (front ++ e ∷ behind) has) (omega (arith, has.size, length-append front (e ∷ behind)))
        ∙ ap (λ (l : List ℕ). take 4096 (drop (entry_place (length front)) l)) (has.reads ∙ ap (flat_map (λ (block : List ℕ). block)) parted)
        ∙ ap (λ (k : ℕ). take 4096 (drop k (flat_map (λ (block : List ℕ). block) (before ++ entry_bytes image.head.space e ∷ map (entry_bytes image.head.space) behind)))) place
        ∙ block_stands before (entry_bytes image.head.space e) (map (entry_bytes image.head.space) behind) whole (length-entry_bytes image.head.space e own_payload)

    own_place : MayStand image.head pages (number_behind 0 front) e.number e.page.stamp
    own_place = (MayFollow-behind image.head pages 0 front (e ∷ behind) has.follow).0

    is_entry : IsEntry image.head pages e (block_from image (entry_place (length front)) bytes)
    is_entry =
        let stands : MayStand image.head pages (number_behind 0 front) e.number e.page.stamp = own_place in record {
          whole = ap length entry_stands ∙ length-entry_bytes image.head.space e own_payload;
          fits = omega (arith, stands.up_to, has.position);
          block_is = entry_stands;
          stands = record { ascending = omega arith; within = stands.within; above = stands.above; up_to = stands.up_to };
        }

    takes_entry : (from : ℕ) → from ≤ number_behind 0 front → TakesBlock image.head pages from (block_from image (entry_place (length front)) bytes) e.number
    takes_entry from le =
        let stands : MayStand image.head pages (number_behind 0 front) e.number e.page.stamp = own_place in record {
          whole = is_entry.whole;
          has = record {
            e = e;
            fits = is_entry.fits;
            number_is = refl;
            block_is = entry_stands;
            stands = record { ascending = omega (arith, le, stands.ascending); within = stands.within; above = stands.above; up_to = stands.up_to };
          };
        }

    shifted : HasImage pages image ((front ++ e ∷ []) ++ behind) bytes
    shifted = subst (λ (l : List Entry). HasImage pages image l bytes) (sym (append_assoc front (e ∷ []) behind)) has

    one_more : length (front ++ e ∷ []) ≡ length front + 1
    one_more = length-append front (e ∷ [])

  -- the entries behind some of an image
  pub entries_stand : (front rest : List Entry) → HasImage pages image (front ++ rest) bytes → AreEntries image pages (length front) rest bytes
  entries_stand front [] has = tt
  entries_stand front (e ∷ rest) has = (
    is_entry front e rest has,
    subst (λ (n : ℕ). AreEntries image pages n rest bytes) (one_more front e rest has) (entries_stand (front ++ e ∷ []) rest (shifted front e rest has)),
  )

  takes_rest : (n from : ℕ) (front rest : List Entry) → n ≤ length rest → from ≤ number_behind 0 front → HasImage pages image (front ++ rest) bytes
      → TakesBlocks image pages from (length front) n bytes
  takes_rest zero from front rest le low has = tt
  takes_rest (suc n) from front [] le low has = absurd (omega (arith, le))
  takes_rest (suc n) from front (e ∷ rest) le low has = (
    e.number,
    takes_entry front e rest has from low,
    subst (λ (k : ℕ). TakesBlocks image pages (e.number + 1) k n bytes) (one_more front e rest has)
        (takes_rest n (e.number + 1) (front ++ e ∷ []) rest (omega (arith, le)) (omega (arith, number_behind-more 0 front e)) (shifted front e rest has)),
  )

  -- behind so many entries
  module _ (es : List Entry) (has : HasImage pages image es bytes) (n : ℕ) where
    split : HasImage pages image (take n es ++ drop n es) bytes
    split = subst (λ (l : List Entry). HasImage pages image l bytes) (sym (take-append-drop n es)) has

    pub entries_behind : n ≤ length es → AreEntries image pages n (drop n es) bytes
    entries_behind le =
        subst (λ (k : ℕ). AreEntries image pages k (drop n es) bytes) (let e : length (take n es) ≡ n = omega (arith, length-take n es, le) in e)
        (entries_stand (take n es) (drop n es) split)

    pub takes_behind : (m : ℕ) → n ≤ length es → m ≤ length es - n → TakesBlocks image pages 0 n m bytes
    takes_behind m le few =
        subst (λ (k : ℕ). TakesBlocks image pages 0 k m bytes) (let e : length (take n es) ≡ n = omega (arith, length-take n es, le) in e)
        (takes_rest m 0 (take n es) (drop n es) (omega (arith, few, length-drop n es)) (omega arith) split)

pub entries_in_front : (image : ImageJob) (pages entry n : ℕ) (es : List Entry) (bytes : List ℕ) → AreEntries image pages entry es bytes
    → AreEntries image pages entry (take n es) bytes
entries_in_front image pages entry zero es bytes are = tt
entries_in_front image pages entry (suc n) [] bytes are = tt
entries_in_front image pages entry (suc n) (e ∷ es) bytes are = (are.0, entries_in_front image pages (entry + 1) n es bytes are.1)

-- entries are at most as many as the pages
pub few_follow : (head : ImageHead) (pages from : ℕ) (es : List Entry) → from ≤ pages → MayFollow head pages from es → from + length es ≤ pages
few_follow head pages from [] le follow = omega (arith, le)
few_follow head pages from (e ∷ es) le follow =
    omega (arith, follow.0.ascending, few_follow head pages (e.number + 1) es (omega (arith, follow.0.within)) follow.1)
