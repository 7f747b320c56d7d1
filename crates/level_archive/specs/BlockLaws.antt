-- The blocks of images: each has 4,096 bytes, and where it stands.
use Rattle.std.specs.Prelude.{◌≡◌, ℕ, suc, ◌+◌, ◌*◌, List, [], ◌∷◌, ◌++◌, length, map, take, drop, replicate, Bool, true, false, nat_lt, if◌then◌else◌}
use Rattle.std.specs.List.{AllByRecursion, flat_map}
use Rattle.std.proofs.Common.{refl, sym, ap, ◌∙◌, arith}
use Rattle.std.proofs.lemmas.List.{length-append, length-replicate, take_at, drop_at, drop-drop}
use Rattle.log_history.specs.Effects.{Page}
use Rattle.space_pages.specs.Layout.{page_bytes}
use Rattle.level_archive.specs.declared.head.ImageHead.{ImageHead}
use Rattle.level_archive.specs.Image.{Entry, entries_from, entry, entry_bytes, front, head_bytes, image_blocks}

abbrev pub IsBlock : List ℕ → Type 0
IsBlock block = length block ≡ 4096

pub length-front : (head : ImageHead) → length (front head) ≡ 32
unfolding front
length-front head = refl

pub length-head_bytes : (head : ImageHead) → length (head_bytes head) ≡ 4096
unfolding head_bytes
length-head_bytes head = omega (arith, length-append (front head) (replicate {A = ℕ} 4064 0), length-replicate {A = ℕ} 4064 0, length-front head)

pub length-entry_bytes : (space : ℕ) (e : Entry) → length e.page.payload ≡ 4080 → length (entry_bytes space e) ≡ 4096
unfolding page_bytes
length-entry_bytes space e long = omega (arith, long)

-- the blocks of entries of pages with whole payloads
entry_blocks : (space base number : ℕ) (pages : List Page) → AllByRecursion (λ page. length page.payload ≡ 4080) pages
    → AllByRecursion IsBlock (map (entry_bytes space) (entries_from base number pages))
entry_blocks space base number [] whole = tt
entry_blocks space base number (page ∷ pages) whole = by (nat_lt base page.stamp) (entry_blocks space base (number + 1) pages whole.1)
  where
    by : (b : Bool) → AllByRecursion IsBlock (map (entry_bytes space) (entries_from base (number + 1) pages))
        → AllByRecursion IsBlock (map (entry_bytes space) (if b then entry number page ∷ entries_from base (number + 1) pages else entries_from base (number + 1) pages))
    by true ih = (length-entry_bytes space (entry number page) whole.0, ih)
    by false ih = ih

pub blocks_are_whole : (head : ImageHead) (pages : List Page) → AllByRecursion (λ page. length page.payload ≡ 4080) pages
    → AllByRecursion IsBlock (image_blocks head (entries_from head.base 0 pages))
blocks_are_whole head pages whole = (length-head_bytes head, entry_blocks head.space head.base 0 pages whole)

-- blocks one behind another have so many bytes
pub length-blocks : (blocks : List (List ℕ)) → AllByRecursion IsBlock blocks → length (flat_map (λ block. block) blocks) ≡ 4096 * length blocks
length-blocks [] whole = refl
length-blocks (block ∷ blocks) whole =
    omega (arith, length-append block (flat_map (λ (b : List ℕ). b) blocks), whole.0, length-blocks blocks whole.1)

-- and a block stands behind those before it
pub block_stands : (before : List (List ℕ)) (block : List ℕ) (behind : List (List ℕ)) → AllByRecursion IsBlock before → IsBlock block
    → take 4096 (drop (4096 * length before) (flat_map (λ b. b) (before ++ block ∷ behind))) ≡ block
block_stands [] block behind whole long = take_at block (flat_map (λ (b : List ℕ). b) behind) 4096 long
block_stands (first ∷ before) block behind whole long =
    let rest : List ℕ = flat_map (λ (b : List ℕ). b) (before ++ block ∷ behind) in
    let place : 4096 * suc (length before) ≡ 4096 + 4096 * length before = omega arith in
    ap (λ (n : ℕ). take 4096 (drop n (first ++ rest))) place
    ∙ ap (take 4096) (sym (drop-drop (4096 * length before) 4096 (first ++ rest)))
    ∙ ap (λ (l : List ℕ). take 4096 (drop (4096 * length before) l)) (drop_at first rest 4096 whole.0)
    ∙ block_stands before block behind whole.1 long
