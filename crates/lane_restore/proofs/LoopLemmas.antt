-- Entries merged one after another.
use Rattle.std.specs.Prelude.{Result, Err}
use Rattle.std.proofs.Common.{◌≡◌, ℕ, zero, suc, ◌+◌, ◌-◌, ◌*◌, ◌<◌, ◌≤◌, List, [], ◌∷◌, ◌++◌, length, take, drop, true, IsTrue, arith, ap, sym, subst, ◌∙◌}
use Rattle.site_disk.specs.Images.{Leaves, Unchanged}
use Rattle.site_disk.specs.ImagesLaws.{goes_on}
use Rattle.site_disk.specs.Bytes.{Torn, written}
use Rattle.site_disk.specs.Ledger.{EraView, Uses}
use Rattle.site_disk.specs.declared.disk.Disk.{Ghosts}
use Rattle.log_history.specs.Effects.{Page}
use Rattle.before_images.specs.Saved.{place_of}
use Rattle.backup_lines.specs.declared.lanes.LaneState.{LaneState}
use Rattle.lane_ways.specs.Pictures.{pages_at}
use Rattle.level_archive.specs.Image.{Entry, entry_bytes}
use Rattle.level_archive.specs.Reading.{HasEntry, Reading}
use Rattle.space_lane.specs.declared.lane.Lane.{Lane}
use Rattle.space_lane.specs.Lanes.{Agrees, count_of, disk_of as chunk_of, space_of, with_disk as with_chunk}
use Rattle.object_volume.specs.declared.reading.Cursor.{Cursor}
use Rattle.object_volume.specs.declared.volume.Volume.{Volume}
use Rattle.object_volume.specs.Cursors.{StandsIn, offset_of}
use Rattle.object_volume.specs.Volumes.{disk_of, with_disk}
use Rattle.lane_restore.specs.declared.job.ImageJob.{ImageJob}
use Rattle.level_archive.proofs.PageLemmas.{one_number}
use Rattle.lane_restore.specs.Images.{AreEntries, IsEntry, ReadsOn, TakesBlock, TakesBlocks, TakesOne, block_from, entry_place}
use Rattle.lane_restore.specs.Merging.{ArePages, WritesOnly, with_entries}
use Rattle.lane_restore.proofs.PageLemmas.{entry_found, next_is, page_torn, pages_behind, pages_more, writes_more}

-- the first i entries are merged
pub record Merging {D : Type 0} (disk : Ghosts D) (era : EraView) (image : ImageJob) (entries count i : ℕ) (was is : Lane D) (volume_was volume_is : Volume D)
    (reader : Reading) (cursor : Cursor) : Type 0 where
  pub lane : is ≡ with_chunk was (chunk_of is)
  pub volume : volume_is ≡ with_disk volume_was (disk_of volume_is)
  pub begun : reader.is_begun ≡ true
  pub head : reader.head ≡ image.head
  pub pages_are : reader.pages ≡ count_of was
  pub at : offset_of cursor ≡ entry_place (entries + i)
  pub stands : StandsIn image.runs.items cursor
  pub within : i ≤ count
  pub content : disk.bytes (disk_of volume_is) ≡ disk.bytes (disk_of volume_was)
  pub images : Unchanged (disk.image (disk_of volume_was)) (disk.image (disk_of volume_is))
  -- what is taken of all blocks, is taken of those that are left, and the other way round
  pub left : IsTrue disk.is_modelled → TakesBlocks image (count_of was) 0 entries count (disk.bytes (disk_of volume_was))
      → TakesBlocks image (count_of was) reader.from (entries + i) (count - i) (disk.bytes (disk_of volume_was))
  pub all : IsTrue disk.is_modelled → TakesBlocks image (count_of was) reader.from (entries + i) (count - i) (disk.bytes (disk_of volume_was))
      → TakesBlocks image (count_of was) 0 entries count (disk.bytes (disk_of volume_was))
  pub agrees : IsTrue disk.is_modelled → (site pages : ℕ) (state : LaneState) → Agrees site pages state (disk.bytes (chunk_of was)) was
      → Agrees site pages state (disk.bytes (chunk_of is)) is
  pub longer : IsTrue disk.is_modelled → place_of pages_at (count_of was) ≤ length (disk.bytes (chunk_of was)) → place_of pages_at (count_of was) ≤ length (disk.bytes (chunk_of is))
  pub pages : IsTrue disk.is_modelled → (pages : ℕ → Page) (window : List Entry) → place_of pages_at (count_of was) ≤ length (disk.bytes (chunk_of was)) → length window ≡ count
      → AreEntries image (count_of was) entries window (disk.bytes (disk_of volume_was))
      → ArePages (space_of was) (count_of was) pages window (disk.bytes (chunk_of was))
      → ArePages (space_of was) (count_of was) (λ number. with_entries number (take i window) (pages number)) (drop i window) (disk.bytes (chunk_of is))
  pub crash : IsTrue disk.is_modelled → (window : List Entry) → place_of pages_at (count_of was) ≤ length (disk.bytes (chunk_of was)) → length window ≡ count
      → AreEntries image (count_of was) entries window (disk.bytes (disk_of volume_was))
      → Leaves era.number (WritesOnly window) (disk.image (chunk_of was)) (disk.image (chunk_of is))
  pub chunk : Uses era 0 (place_of pages_at (count_of was) * i) (disk.ledger (chunk_of was)) (disk.ledger (chunk_of is))
  pub bound : IsTrue disk.is_modelled → place_of pages_at (count_of was) ≤ length (disk.bytes (chunk_of was))
      → (disk.ledger (chunk_of is)).written ≤ (disk.ledger (chunk_of was)).written + 4096 * i
  pub uses : Uses era (4096 * i) 0 (disk.ledger (disk_of volume_was)) (disk.ledger (disk_of volume_is))

-- one block more is taken

module _ (image : ImageJob) (pages : ℕ) (bytes : List ℕ) where
  -- the number that stands in a block is one
  one_taken : (from a b : ℕ) (block : List ℕ) → ((x y : ℕ) → HasEntry image.head pages from block x → HasEntry image.head pages from block y → x ≡ y)
      → TakesBlock image.head pages from block a → TakesBlock image.head pages from block b → b ≡ a
  one_taken from a b block one first second = one b a second.has first.has

  pub less_taken : (from number entry count : ℕ) → ((x y : ℕ) → HasEntry image.head pages from (block_from image (entry_place entry) bytes) x
      → HasEntry image.head pages from (block_from image (entry_place entry) bytes) y → x ≡ y)
      → TakesBlock image.head pages from (block_from image (entry_place entry) bytes) number → TakesBlocks image pages from entry (suc count) bytes
      → TakesBlocks image pages (number + 1) (entry + 1) count bytes
  less_taken from number entry count one here takes =
      subst (λ (n : ℕ). TakesBlocks image pages (n + 1) (entry + 1) count bytes) (one_taken from number takes.0 (block_from image (entry_place entry) bytes) one here takes.1) takes.2

  pub more_taken : (from number entry count : ℕ) → TakesBlock image.head pages from (block_from image (entry_place entry) bytes) number
      → TakesBlocks image pages (number + 1) (entry + 1) count bytes → TakesBlocks image pages from entry (suc count) bytes
  more_taken from number entry count here rest = (number, here, rest)

-- the blocks behind the first ones
pub entries_left : (image : ImageJob) (pages entry i : ℕ) (es : List Entry) (bytes : List ℕ) → AreEntries image pages entry es bytes → AreEntries image pages (entry + i) (drop i es) bytes
entries_left image pages entry zero es bytes are = subst (λ (n : ℕ). AreEntries image pages n es bytes) (let e : entry ≡ entry + 0 = omega arith in e) are
entries_left image pages entry (suc i) [] bytes are = tt
entries_left image pages entry (suc i) (e ∷ es) bytes are =
    subst (λ (n : ℕ). AreEntries image pages n (drop i es) bytes) (let same : entry + 1 + i ≡ entry + suc i = omega arith in same) (entries_left image pages (entry + 1) i es bytes are.1)

-- one page's write more
pub crash_more : (n e : ℕ) (es rest : List Entry) (own : Entry) (old mid new : ℕ → List ℕ → Type 0) → drop n es ≡ own ∷ rest → Leaves e (WritesOnly es) old mid
    → Leaves e (Torn (place_of pages_at own.number) 4096) mid new → Leaves e (WritesOnly es) old new
crash_more n e es rest own old mid new is first second =
    goes_on (WritesOnly es) (Torn (place_of pages_at own.number) 4096) e old mid new first second
    (λ f d c later image torn. let was = first.later f d later image in (was.0, was.1, writes_more n es rest own was.0 d c is was.2 torn))

-- a fault that is handed on
pub handed_on : {T U E : Type 0} (outer : Result U E) (inner y fault : E) → outer ≡ Err y → y ≡ inner → outer ≡ Err fault → ◌≡◌ {A = Result T E} (Err inner) (Err fault)
handed_on {T} {U} {E} outer inner y fault o same is = ap (λ (e : E). Err e) (sym same ∙ one y fault (sym o ∙ is))
  where
    one : (a b : E) → ◌≡◌ {A = Result U E} (Err a) (Err b) → a ≡ b
    one a b e = cc e

-- the next block of those that are left
part_taken : (image : ImageJob) (pages from entry count i : ℕ) (bytes : List ℕ) → i < count → TakesBlocks image pages from entry (count - i) bytes
    → TakesBlocks image pages from entry (suc (count - (i + 1))) bytes
part_taken image pages from entry count i bytes lt takes =
    subst (λ (n : ℕ). TakesBlocks image pages from entry n bytes) (let e : count - i ≡ suc (count - (i + 1)) = omega (arith, lt) in e) takes

module _ {D : Type 0} (disk : Ghosts D) (era : EraView) (image : ImageJob) (entries count i : ℕ) (was is : Lane D) (volume_was volume_is : Volume D) (reader : Reading) (cursor : Cursor)
    (so_far : Merging disk era image entries count i was is volume_was volume_is reader cursor) (lt : i < count) where
  abbrev first : List ℕ
  first = disk.bytes (disk_of volume_was)

  abbrev read_now : List ℕ
  read_now = block_from image (offset_of cursor) (disk.bytes (disk_of volume_is))

  count_is : count_of is ≡ count_of was
  count_is = ap (λ (l : Lane D). count_of l) so_far.lane

  block_is : read_now ≡ block_from image (entry_place (entries + i)) first
  block_is =
      ap (λ (n : ℕ). block_from image n (disk.bytes (disk_of volume_is))) so_far.at ∙ ap (λ (l : List ℕ). block_from image (entry_place (entries + i)) l) so_far.content

  takes_now : (number : ℕ) → TakesBlock image.head (count_of was) reader.from (block_from image (entry_place (entries + i)) first) number
      → TakesBlock image.head reader.pages reader.from read_now number
  takes_now number takes =
      subst (λ (n : ℕ). TakesBlock image.head n reader.from read_now number) (sym so_far.pages_are)
      (subst (λ (l : List ℕ). TakesBlock image.head (count_of was) reader.from l number) (sym block_is) takes)

  takes_then : (number : ℕ) → TakesBlock image.head reader.pages reader.from read_now number
      → TakesBlock image.head (count_of was) reader.from (block_from image (entry_place (entries + i)) first) number
  takes_then number takes =
      subst (λ (l : List ℕ). TakesBlock image.head (count_of was) reader.from l number) block_is
      (subst (λ (n : ℕ). TakesBlock image.head n reader.from read_now number) so_far.pages_are takes)

  -- where all blocks are taken, the next one is
  pub next_takes : IsTrue disk.is_modelled → TakesBlocks image (count_of was) 0 entries count first → (number : ℕ) × TakesBlock image.head reader.pages reader.from read_now number
  next_takes tells takes =
      let here : TakesBlocks image (count_of was) reader.from (entries + i) (suc (count - (i + 1))) first =
      part_taken image (count_of was) reader.from (entries + i) count i first lt (so_far.left tells takes) in
      (here.0, takes_now here.0 here.1)

  pub long_is : IsTrue disk.is_modelled → place_of pages_at (count_of was) ≤ length (disk.bytes (chunk_of was)) → place_of pages_at (count_of is) ≤ length (disk.bytes (chunk_of is))
  long_is tells long = omega (arith, so_far.longer tells long, count_is)

  -- the entry that stands there, if entries do
  module _ (window : List Entry) (all : length window ≡ count) (are : AreEntries image (count_of was) entries window first) where
    abbrev pub own : Entry
    own = (next_is i window (omega (arith, lt, all))).0

    drop_is : drop i window ≡ own ∷ drop (i + 1) window
    drop_is = (next_is i window (omega (arith, lt, all))).1

    take_is : take (i + 1) window ≡ take i window ++ own ∷ []
    take_is = (next_is i window (omega (arith, lt, all))).2

    is_own : IsEntry image.head (count_of was) own read_now
    is_own =
        let there : AreEntries image (count_of was) (entries + i) (own ∷ drop (i + 1) window) first =
        subst (λ (l : List Entry). AreEntries image (count_of was) (entries + i) l first) drop_is (entries_left image (count_of was) entries i window first are) in
        subst (λ (l : List ℕ). IsEntry image.head (count_of was) own l) (sym block_is) there.0

    own_found : HasEntry image.head (count_of is) 0 read_now own.number
    own_found = subst (λ (n : ℕ). HasEntry image.head n 0 read_now own.number) (sym count_is) (entry_found image.head (count_of was) own read_now is_own)

    pub crash_next : IsTrue disk.is_modelled → place_of pages_at (count_of was) ≤ length (disk.bytes (chunk_of was)) → (new : ℕ → List ℕ → Type 0)
        → ((number : ℕ) → place_of pages_at (count_of is) ≤ length (disk.bytes (chunk_of is)) → HasEntry image.head (count_of is) 0 read_now number
        → Leaves era.number (Torn (place_of pages_at number) 4096) (disk.image (chunk_of is)) new)
        → Leaves era.number (WritesOnly window) (disk.image (chunk_of was)) new
    crash_next tells long new call =
        crash_more i era.number window (drop (i + 1) window) own (disk.image (chunk_of was)) (disk.image (chunk_of is)) new drop_is (so_far.crash tells window long all are)
        (call own.number (long_is tells long) own_found)

  -- the turn

  module _ (few : count_of was ≤ 65536) (now : Lane D) (volume_now : Volume D) (reader_now : Reading) (cursor_now : Cursor)
      (reads : ReadsOn reader reader_now)
      (takes_one : IsTrue disk.is_modelled → TakesOne image (offset_of cursor) (disk.bytes (disk_of volume_is)) reader reader_now (disk.bytes (chunk_of is)) (disk.bytes (chunk_of now))) where
    module _ (tells : IsTrue disk.is_modelled) where
      one : TakesOne image (offset_of cursor) (disk.bytes (disk_of volume_is)) reader reader_now (disk.bytes (chunk_of is)) (disk.bytes (chunk_of now))
      one = takes_one tells

      one_then : TakesBlock image.head (count_of was) reader.from (block_from image (entry_place (entries + i)) first) one.number
      one_then = takes_then one.number one.takes

      from_is : reader_now.from ≡ one.number + 1
      from_is = ap (λ (r : Reading). r.from) one.given

      same_number : (x y : ℕ) → HasEntry image.head (count_of was) reader.from (block_from image (entry_place (entries + i)) first) x
          → HasEntry image.head (count_of was) reader.from (block_from image (entry_place (entries + i)) first) y → x ≡ y
      same_number x y = one_number image.head (count_of was) reader.from (block_from image (entry_place (entries + i)) first) x y (omega (arith, few))

      pub left_on : TakesBlocks image (count_of was) 0 entries count first → TakesBlocks image (count_of was) reader_now.from (entries + (i + 1)) (count - (i + 1)) first
      left_on takes =
          subst (λ (n : ℕ). TakesBlocks image (count_of was) n (entries + (i + 1)) (count - (i + 1)) first) (sym from_is)
          (subst (λ (n : ℕ). TakesBlocks image (count_of was) (one.number + 1) n (count - (i + 1)) first) (let e : entries + i + 1 ≡ entries + (i + 1) = omega arith in e)
          (less_taken image (count_of was) first reader.from one.number (entries + i) (count - (i + 1)) same_number one_then
          (part_taken image (count_of was) reader.from (entries + i) count i first lt (so_far.left tells takes))))

      pub all_on : TakesBlocks image (count_of was) reader_now.from (entries + (i + 1)) (count - (i + 1)) first → TakesBlocks image (count_of was) 0 entries count first
      all_on rest =
          so_far.all tells
          (subst (λ (n : ℕ). TakesBlocks image (count_of was) reader.from (entries + i) n first) (let e : suc (count - (i + 1)) ≡ count - i = omega (arith, lt) in e)
          (more_taken image (count_of was) first reader.from one.number (entries + i) (count - (i + 1)) one_then
          (subst (λ (n : ℕ). TakesBlocks image (count_of was) (one.number + 1) n (count - (i + 1)) first) (let e : entries + (i + 1) ≡ entries + i + 1 = omega arith in e)
          (subst (λ (n : ℕ). TakesBlocks image (count_of was) n (entries + (i + 1)) (count - (i + 1)) first) from_is rest))))

      below : one.number < count_of was
      below = omega (arith, one_then.has.stands.within, one_then.has.number_is)

      module _ (long : place_of pages_at (count_of was) ≤ length (disk.bytes (chunk_of was))) where
        place_there : place_of pages_at one.number ≤ length (disk.bytes (chunk_of is))
        place_there = omega (arith, so_far.longer tells long, below)

        pub longer_on : place_of pages_at (count_of was) ≤ length (disk.bytes (chunk_of now))
        longer_on =
            let torn : Torn (place_of pages_at one.number) 4096 (disk.bytes (chunk_of is)) (disk.bytes (chunk_of now)) =
            page_torn (space_of was) (count_of was) (record { number = one.number; page = one_then.has.e.page }) read_now (disk.bytes (chunk_of is)) (disk.bytes (chunk_of now)) one.takes.whole place_there
            (one.stands place_there) in
            omega (arith, so_far.longer tells long, torn.no_shorter)

        module _ (same_space : image.head.space ≡ space_of was) (pages : ℕ → Page) (window : List Entry) (all : length window ≡ count)
            (are : AreEntries image (count_of was) entries window first) where
          own_is : one.number ≡ (own window all are).number
          own_is =
              one_number image.head (count_of was) 0 read_now one.number (own window all are).number (omega (arith, few))
              (record {
                e = one.takes.has.e;
                fits = one.takes.has.fits;
                number_is = one.takes.has.number_is;
                block_is = one.takes.has.block_is;
                stands = record {
                  ascending = omega arith;
                  within = omega (arith, one.takes.has.stands.within, so_far.pages_are);
                  above = one.takes.has.stands.above;
                  up_to = one.takes.has.stands.up_to;
                };
              })
              (entry_found image.head (count_of was) (own window all are) read_now (is_own window all are))

          pub pages_on : ArePages (space_of was) (count_of was) pages window (disk.bytes (chunk_of was))
              → ArePages (space_of was) (count_of was) (λ number. with_entries number (take (i + 1) window) (pages number)) (drop (i + 1) window) (disk.bytes (chunk_of now))
          pages_on pages_are =
              let e : Entry = own window all are in
              let before : ArePages (space_of was) (count_of was) (λ number. with_entries number (take i window) (pages number)) (e ∷ drop (i + 1) window) (disk.bytes (chunk_of is)) =
              subst (λ (l : List Entry). ArePages (space_of was) (count_of was) (λ number. with_entries number (take i window) (pages number)) l (disk.bytes (chunk_of is)))
              (drop_is window all are) (so_far.pages tells pages window long all are pages_are) in
              let there : place_of pages_at e.number ≤ length (disk.bytes (chunk_of is)) = omega (arith, place_there, own_is) in
              let put : disk.bytes (chunk_of now) ≡ written (place_of pages_at e.number) read_now (disk.bytes (chunk_of is)) =
              subst (λ (n : ℕ). disk.bytes (chunk_of now) ≡ written (place_of pages_at n) read_now (disk.bytes (chunk_of is))) own_is (one.stands place_there) in
              pages_behind (space_of was) (count_of was) i pages window e (disk.bytes (chunk_of now)) (take_is window all are)
              (pages_more (space_of was) (count_of was) e read_now (disk.bytes (chunk_of is)) (disk.bytes (chunk_of now)) one.takes.whole there put
              (λ number. with_entries number (take i window) (pages number)) (drop (i + 1) window)
              ((is_own window all are).block_is ∙ ap (λ (s : ℕ). entry_bytes s e) same_space) before)
