-- What a chunk shows while a step goes on.
use Rattle.std.specs.Prelude.{◌⊎◌, if◌then◌else◌, Option, Some}
use Rattle.std.proofs.Common.{◌≡◌, ℕ, zero, suc, ◌+◌, ◌*◌, ◌/◌, ◌^◌, ◌<◌, ◌≤◌, lit<, min, nat_lt, nat_le, List, [], ◌∷◌, ◌++◌, length, take, drop, get_or, fold, Bool, true, false, refl, arith, ap, sym, subst, ◌∙◌, ⊎_elim, length-take, length-drop}
use mathlib.Core.Logic.{inl, inr}
use Rattle.std.proofs.lemmas.Bool.{cases_lt}
use Rattle.std.proofs.lemmas.Bool.Decides.{nat_tests}
use Rattle.std.proofs.lemmas.List.{take_more, take_all}
use Rattle.std.proofs.lemmas.List.Sums.{fold-append}
use Rattle.std.proofs.lemmas.Option.{same_Some}
use Rattle.std.proofs.Math.ListN.{drop_of_length-le}
use Rattle.std.proofs.Math.Seq.{take-add}
use Rattle.site_disk.specs.Bytes.{Apart}
use Rattle.site_disk.specs.Images.{Leaves, OnlyAfter}
use Rattle.site_disk.specs.ImagesLaws.{goes_on, weaker}
use Rattle.site_disk.specs.CallsLaws.{from_known}
use Rattle.site_headers.specs.HeaderLaws.{HasHeader-same}
use Rattle.twin_mark.specs.Marks.{record_at, record_of}
use Rattle.before_images.specs.Saved.{place_of}
use Rattle.log_history.specs.Effects.{Page, empty_page}
use Rattle.space_pages.specs.Layout.{page_bytes}
use Rattle.backup_lines.specs.declared.lanes.Chain.{Chain}
use Rattle.backup_lines.specs.declared.lanes.LaneState.{LaneState}
use Rattle.backup_lines.specs.declared.lanes.LaneState.TheVariants.{At, Blank, Image, Replay}
use Rattle.lane_ways.specs.Pictures.{mark_at, pages_at}
use Rattle.lane_mark.specs.Layout.{FitsChain, FitsRestore, FitsState, spelling}
use Rattle.space_lane.specs.Chunks.{HoldsState, SamePages, chunk_tail}
use Rattle.space_lane.specs.Stops.{MaySet, Sets}
use Rattle.level_archive.specs.Image.{Entry}
use Rattle.lane_restore.specs.declared.job.ImageJob.{ImageJob}
use Rattle.lane_restore.specs.Images.{AreEntries, HasImage, entries_in, step_len}
use Rattle.lane_restore.specs.Jobs.{Amid, amid, amid_of}
use Rattle.lane_restore.specs.Merging.{ArePages, HoldsMerged, IsApartFrom, LieApart, WritesOnly, entries_of, next_entries, page_amid, with_entries, with_entry, with_images}
use Rattle.lane_restore.specs.Steps.{MayMerge, begun, behind_image, behind_step}
use Rattle.lane_restore.proofs.ImageLemmas.{entries_behind, entries_in_front}
use Rattle.lane_restore.proofs.PageLemmas.{with_one-other}

-- entries

-- a page that isn't among those of entries stays
pub apart_same : (es : List Entry) (number : ℕ) (page : Page) → IsApartFrom es number → with_entries number es page ≡ page
apart_same [] number page apart = refl
apart_same (e ∷ es) number page apart =
    ap (λ (p : Page). fold (with_entry number) p es) (with_one-other number page e apart.0) ∙ apart_same es number page apart.1

-- a step merges as many entries as there are, up to 256
take_step : (es : List Entry) → take (min 256 (length es)) es ≡ take 256 es
take_step es = ⊎_elim
    (λ (few : length es < 256).
    let n : min 256 (length es) ≡ length es = omega (arith, few) in
    ap (λ (k : ℕ). take k es) n ∙ take_all (length es) es (omega arith) ∙ sym (take_all 256 es (omega (arith, few))))
    (λ (many : 256 ≤ length es). let n : min 256 (length es) ≡ 256 = omega (arith, many) in ap (λ (k : ℕ). take k es) n)
    (cases_lt (length es) 256)

module _ (images : List (List Entry)) (level entries size : ℕ) (is_size : size ≡ 4096 * (length (entries_of images level) + 1)) where
  abbrev own : List Entry
  own = entries_of images level

  pub in_size : entries_in size ≡ length own
  in_size =
      let whole : size / 4096 ≡ length own + 1 = omega (arith, is_size) in
      omega (arith, whole)

  pub step_is : step_len size entries ≡ min 256 (length (drop entries own))
  step_is = omega (arith, in_size, length-drop entries own)

  pub length-next : length (next_entries images level entries) ≡ step_len size entries
  length-next = omega (arith, step_is, length-take 256 (drop entries own))

  -- the next entries behind the first ones
  front_and_next : take entries own ++ next_entries images level entries ≡ take (entries + step_len size entries) own
  front_and_next =
      ap (λ (l : List Entry). take entries own ++ l) (sym (take_step (drop entries own)) ∙ ap (λ (k : ℕ). take k (drop entries own)) (sym step_is))
      ∙ sym (take-add entries (step_len size entries) own)

  pub merged_next : (number : ℕ) → with_entries number (next_entries images level entries) (page_amid images level entries number)
      ≡ page_amid images level (entries + step_len size entries) number
  merged_next number =
      sym (fold-append (with_entry number) (with_images number level images) (take entries own) (next_entries images level entries))
      ∙ ap (λ (l : List Entry). with_entries number l (with_images number level images)) front_and_next

-- an image that isn't there has no entries
no_image : (images : List (List Entry)) (level : ℕ) → length images ≤ level → get_or images level [] ≡ []
no_image [] level le = refl
no_image (es ∷ images) zero le = absurd (omega (arith, le))
no_image (es ∷ images) (suc level) le = no_image images level (omega (arith, le))

-- behind the last entry of an image it is merged
pub merged_image : (images : List (List Entry)) (level n number : ℕ) → length (entries_of images level) ≤ n
    → page_amid images level n number ≡ page_amid images (level + 1) 0 number
merged_image images level n number all =
    ap (λ (l : List Entry). with_entries number l (with_images number level images)) (take_all n (entries_of images level) all) ∙ by (cases_lt level (length images))
  where
    by : (level < length images) ⊎ (length images ≤ level)
        → with_entries number (entries_of images level) (with_images number level images) ≡ page_amid images (level + 1) 0 number
    by (inl lt) =
        sym (ap (fold (λ (page : Page) (es : List Entry). with_entries number es page) empty_page) (take_more images level [] lt)
        ∙ fold-append (λ (page : Page) (es : List Entry). with_entries number es page) empty_page (take level images) (get_or images level [] ∷ []))
    by (inr le) =
        ap (λ (l : List Entry). with_entries number l (with_images number level images)) (no_image images level le)
        ∙ ap (fold (λ (page : Page) (es : List Entry). with_entries number es page) empty_page) (take_all level images le ∙ sym (take_all (level + 1) images (omega (arith, le))))

-- the entries of a step stand on the volume
pub next_stand : (images : List (List Entry)) (pages entries : ℕ) (image : ImageJob) (bytes : List ℕ) → HasImage pages image (entries_of images image.head.level) bytes
    → AreEntries image pages entries (next_entries images image.head.level entries) bytes
next_stand images pages entries image bytes has =
    let es : List Entry = entries_of images image.head.level in
    ⊎_elim
    (λ (less : entries < length es). entries_in_front image pages entries 256 (drop entries es) bytes (entries_behind pages image bytes es has entries (omega (arith, less))))
    (λ (past : length es ≤ entries). subst (λ (l : List Entry). AreEntries image pages entries (take 256 l) bytes) (sym (drop_of_length-le es past)) tt)
    (cases_lt entries (length es))

-- one place is one image and so many of its entries
pub same_amid : (a b c d : ℕ) → ◌≡◌ {A = Option Amid} (Some (amid a b)) (Some (amid c d)) → (a ≡ c) × (b ≡ d)
same_amid a b c d is =
    let same : amid a b ≡ amid c d = same_Some (amid a b) (amid c d) is in
    (ap (λ (p : Amid). p.image) same, ap (λ (p : Amid). p.entries) same)

-- chunks

module _ (site space count : ℕ) where
  pub same_pages : (pages : ℕ → Page) (loose : List Entry) (old new : List ℕ) → SamePages old new → ArePages space count pages loose old → ArePages space count pages loose new
  same_pages pages loose old new same are number lt apart = same (place_of pages_at number) 4096 (omega arith) ∙ are number lt apart

  -- the pages of a lane that isn't behind its images
  pub pages_of_state : (images : List (List Entry)) (state : LaneState) (level entries : ℕ) (bytes : List ℕ) → amid_of state ≡ Some (amid level entries)
      → HoldsMerged site space count images state bytes → ArePages space count (page_amid images level entries) (next_entries images level entries) bytes
  pages_of_state images (At upto part) level entries bytes is merged = absurd merged
  pages_of_state images (Blank restore) level entries bytes is merged =
      let first : 0 ≡ level = (same_amid 0 0 level entries is).0 in
      let none : 0 ≡ entries = (same_amid 0 0 level entries is).1 in
      subst (λ (n : ℕ). ArePages space count (page_amid images level n) (next_entries images level n) bytes) none
      (subst (λ (l : ℕ). ArePages space count (page_amid images l 0) (next_entries images l 0) bytes) first (λ number lt apart. merged.pages number lt tt))
  pages_of_state images (Image restore chain image n) level entries bytes is merged =
      let first : image ≡ level = (same_amid image n level entries is).0 in
      let none : n ≡ entries = (same_amid image n level entries is).1 in
      subst (λ (k : ℕ). ArePages space count (page_amid images level k) (next_entries images level k) bytes) none
      (subst (λ (l : ℕ). ArePages space count (page_amid images l n) (next_entries images l n) bytes) first merged.pages)
  pages_of_state images (Replay restore chain upto part) level entries bytes is merged = absurd (let no : ⊥ = cc in no)

  pub holds_of_state : (images : List (List Entry)) (state : LaneState) (bytes : List ℕ) → HoldsMerged site space count images state bytes → HoldsState site space count state bytes
  holds_of_state images (At upto part) bytes merged = absurd merged
  holds_of_state images (Blank restore) bytes merged = merged.holds
  holds_of_state images (Image restore chain image n) bytes merged = merged.holds
  holds_of_state images (Replay restore chain upto part) bytes merged = merged.holds

  -- the same pages under the same state
  pub state_again : (images : List (List Entry)) (state : LaneState) (old new : List ℕ) → HoldsMerged site space count images state old → HoldsState site space count state new
      → SamePages old new → HoldsMerged site space count images state new
  state_again images (At upto part) old new merged holds same = merged
  state_again images (Blank restore) old new merged holds same =
      record { holds = holds; pages = same_pages (page_amid images 0 0) [] old new same merged.pages }
  state_again images (Image restore chain image n) old new merged holds same =
      record { holds = holds; pages = same_pages (page_amid images image n) (next_entries images image n) old new same merged.pages }
  state_again images (Replay restore chain upto part) old new merged holds same =
      record { holds = holds; pages = same_pages (page_amid images chain.len 0) [] old new same merged.pages }

  -- where a step begins
  pub begun_shows : (images : List (List Entry)) (state : LaneState) (chain : Chain) (level entries : ℕ) (bytes : List ℕ) → amid_of state ≡ Some (amid level entries)
      → HoldsState site space count (begun state chain) bytes → ArePages space count (page_amid images level entries) (next_entries images level entries) bytes
      → HoldsMerged site space count images (begun state chain) bytes
  begun_shows images (At upto part) chain level entries bytes is holds pages = absurd (let no : ⊥ = cc in no)
  begun_shows images (Blank restore) chain level entries bytes is holds pages =
      let first : level ≡ 0 = sym (same_amid 0 0 level entries is).0 in
      let none : entries ≡ 0 = sym (same_amid 0 0 level entries is).1 in record {
        holds = holds;
        pages = subst (λ (n : ℕ). ArePages space count (page_amid images 0 n) (next_entries images 0 n) bytes) none
            (subst (λ (l : ℕ). ArePages space count (page_amid images l entries) (next_entries images l entries) bytes) first pages);
      }
  begun_shows images (Image restore other image n) chain level entries bytes is holds pages =
      let first : level ≡ image = sym (same_amid image n level entries is).0 in
      let none : entries ≡ n = sym (same_amid image n level entries is).1 in record {
        holds = holds;
        pages = subst (λ (k : ℕ). ArePages space count (page_amid images image k) (next_entries images image k) bytes) none
            (subst (λ (l : ℕ). ArePages space count (page_amid images l entries) (next_entries images l entries) bytes) first pages);
      }
  begun_shows images (Replay restore other upto part) chain level entries bytes is holds pages = absurd (let no : ⊥ = cc in no)

  -- a state is set over pages

  sets_holds : (state : LaneState) (record_there old new : List ℕ) → HoldsState site space count state old → Sets record_there old new → record_at mark_at new ≡ record_at mark_at old
      → HoldsState site space count state new
  sets_holds state record_there old new holds sets same = record {
    header = HasHeader-same (chunk_tail site space count) old new sets.header holds.header;
    mark = record { fits = holds.mark.fits; stands = same ∙ holds.mark.stands };
    long = omega (arith, holds.long, sets.no_shorter);
  }

  sets_new : (state after : LaneState) (old new : List ℕ) → FitsState after → HoldsState site space count state old → Sets (spelling after) old new
      → record_at mark_at new ≡ Some (spelling after) → HoldsState site space count after new
  sets_new state after old new fits holds sets is = record {
    header = HasHeader-same (chunk_tail site space count) old new sets.header holds.header;
    mark = record { fits = fits; stands = is };
    long = omega (arith, holds.long, sets.no_shorter);
  }

  pub sets_shows : (images : List (List Entry)) (state after : LaneState) (old new : List ℕ) → FitsState after → HoldsState site space count state old
      → ((c : List ℕ) → HoldsState site space count state c → SamePages old c → HoldsMerged site space count images state c)
      → ((c : List ℕ) → HoldsState site space count after c → SamePages old c → HoldsMerged site space count images after c)
      → Sets (spelling after) old new → HoldsMerged site space count images state new ⊎ HoldsMerged site space count images after new
  sets_shows images state after old new fits holds before behind sets = ⊎_elim
      (λ same. inl (before new (sets_holds state (spelling after) old new holds sets same) sets.pages))
      (λ is. inr (behind new (sets_new state after old new fits holds sets is.0) sets.pages))
      sets.mark

  -- pages of entries are written

  lie_below : (es : List Entry) (from len : ℕ) → from + len ≤ pages_at → LieApart es from len
  lie_below [] from len le = tt
  lie_below (e ∷ es) from len le = (inl (omega (arith, le)), lie_below es from len le)

  two_places : (a b : ℕ) → (a ≡ b → ⊥) → Apart (place_of pages_at a) 4096 (place_of pages_at b) 4096
  two_places a b isnt = ⊎_elim
      (λ (before : a < b). inr (omega (arith, before)))
      (λ (not_before : b ≤ a). ⊎_elim
      (λ (after : b < a). inl (omega (arith, after)))
      (λ (not_after : a ≤ b). absurd (isnt (omega (arith, not_before, not_after))))
      (cases_lt b a))
      (cases_lt a b)

  lie_apart : (es : List Entry) (number : ℕ) → IsApartFrom es number → LieApart es (place_of pages_at number) 4096
  lie_apart [] number apart = tt
  lie_apart (e ∷ es) number apart = (two_places e.number number apart.0, lie_apart es number apart.1)

  writes_holds : (state : LaneState) (es : List Entry) (old new : List ℕ) → HoldsState site space count state old → WritesOnly es old new → HoldsState site space count state new
  writes_holds state es old new holds writes = record {
    header = HasHeader-same (chunk_tail site space count) old new (writes.elsewhere 0 4096 (lie_below es 0 4096 (omega arith))) holds.header;
    mark = record { fits = holds.mark.fits; stands = ap record_of (writes.elsewhere mark_at 1024 (lie_below es mark_at 1024 (omega arith))) ∙ holds.mark.stands };
    long = omega (arith, holds.long, writes.no_shorter);
  }

  writes_pages : (pages : ℕ → Page) (es : List Entry) (old new : List ℕ) → ArePages space count pages es old → WritesOnly es old new → ArePages space count pages es new
  writes_pages pages es old new are writes number lt apart =
      writes.elsewhere (place_of pages_at number) 4096 (lie_apart es number apart) ∙ are number lt apart

  pub writes_shows : (images : List (List Entry)) (state : LaneState) (chain : Chain) (level entries : ℕ) (old new : List ℕ) → amid_of state ≡ Some (amid level entries)
      → HoldsState site space count (begun state chain) old → ArePages space count (page_amid images level entries) (next_entries images level entries) old
      → WritesOnly (next_entries images level entries) old new → HoldsMerged site space count images (begun state chain) new
  writes_shows images state chain level entries old new is holds pages writes =
      begun_shows images state chain level entries new is (writes_holds (begun state chain) (next_entries images level entries) old new holds writes)
      (writes_pages (page_amid images level entries) (next_entries images level entries) old new pages writes)

  -- behind a step

  -- the pages behind it are those before it, but for its entries'
  pub pages_before : (images : List (List Entry)) (level entries size : ℕ) (bytes : List ℕ) → size ≡ 4096 * (length (entries_of images level) + 1)
      → ArePages space count (page_amid images level (entries + step_len size entries)) [] bytes
      → ArePages space count (page_amid images level entries) (next_entries images level entries) bytes
  pages_before images level entries size bytes is_size are number lt apart =
      are number lt tt
      ∙ ap (page_bytes space number) (sym (merged_next images level entries size is_size number) ∙ apart_same (next_entries images level entries) number (page_amid images level entries number) apart)

  pub pages_behind_step : (images : List (List Entry)) (level entries size : ℕ) (bytes : List ℕ) → size ≡ 4096 * (length (entries_of images level) + 1)
      → ArePages space count (λ number. with_entries number (next_entries images level entries) (page_amid images level entries number)) [] bytes
      → ArePages space count (page_amid images level (entries + step_len size entries)) [] bytes
  pages_behind_step images level entries size bytes is_size are number lt apart =
      are number lt apart ∙ ap (page_bytes space number) (merged_next images level entries size is_size number)

  next_image : (images : List (List Entry)) (level n : ℕ) (bytes : List ℕ) → length (entries_of images level) ≤ n → ArePages space count (page_amid images level n) [] bytes
      → ArePages space count (page_amid images (level + 1) 0) [] bytes
  next_image images level n bytes all are number lt apart = are number lt apart ∙ ap (page_bytes space number) (merged_image images level n number all)

  module _ (images : List (List Entry)) (restore : ℕ) (chain : Chain) (image : ImageJob) (within : image.head.level < chain.len) (bytes : List ℕ) where
    abbrev level_now : ℕ
    level_now = image.head.level

    image_shows : (n : ℕ) → length (entries_of images level_now) ≤ n → ArePages space count (page_amid images level_now n) [] bytes
        → (b : Bool) → nat_lt (level_now + 1) chain.len ≡ b
        → HoldsState site space count (if b then Image restore chain (level_now + 1) 0 else Replay restore chain image.head.at 0) bytes
        → HoldsMerged site space count images (if b then Image restore chain (level_now + 1) 0 else Replay restore chain image.head.at 0) bytes
    image_shows n all are true is holds =
        record { holds = holds; pages = λ number lt apart. next_image images level_now n bytes all are number lt tt }
    image_shows n all are false is holds =
        let last : level_now + 1 ≡ chain.len = grind (arith, nat_tests, is, within) in
        record {
          holds = holds;
          pages = subst (λ (k : ℕ). ArePages space count (page_amid images k 0) [] bytes) last (next_image images level_now n bytes all are);
        }

    step_shows : (entries : ℕ) → image.size ≡ 4096 * (length (entries_of images level_now) + 1)
        → ArePages space count (page_amid images level_now (entries + step_len image.size entries)) [] bytes
        → (b : Bool) → nat_le (entries_in image.size) (entries + step_len image.size entries) ≡ b
        → HoldsState site space count (if b then behind_image restore chain level_now image.head.at else Image restore chain level_now (entries + step_len image.size entries)) bytes
        → HoldsMerged site space count images (if b then behind_image restore chain level_now image.head.at else Image restore chain level_now (entries + step_len image.size entries)) bytes
    step_shows entries is_size are true is holds =
        let n : ℕ = entries + step_len image.size entries in
        let le : entries_in image.size ≤ n = grind (arith, nat_tests, is) in
        image_shows n (omega (arith, le, in_size images level_now entries image.size is_size)) are (nat_lt (level_now + 1) chain.len) refl holds
    step_shows entries is_size are false is holds = record { holds = holds; pages = λ number lt apart. are number lt tt }

    pub behind_shows : (entries : ℕ) → image.size ≡ 4096 * (length (entries_of images level_now) + 1)
        → ArePages space count (page_amid images level_now (entries + step_len image.size entries)) [] bytes
        → HoldsState site space count (behind_step restore chain image entries) bytes → HoldsMerged site space count images (behind_step restore chain image entries) bytes
    behind_shows entries is_size are holds =
        step_shows entries is_size are (nat_le (entries_in image.size) (entries + step_len image.size entries)) refl holds

-- the states that a step sets may stand in a mark

pub fits_begun : (state : LaneState) (chain : Chain) → FitsChain chain → FitsState state → FitsState (begun state chain)
fits_begun (At upto part) chain is fits = fits
fits_begun (Blank restore) chain is fits = (fits, is, record { within = omega (arith, is.some); entries_fit = lit< tt })
fits_begun (Image restore other image n) chain is fits = fits
fits_begun (Replay restore other upto part) chain is fits = fits

module _ (restore : ℕ) (chain : Chain) (image : ImageJob) (of : FitsRestore restore) (is : FitsChain chain) (within : image.head.level < chain.len) (position : image.head.at ≤ 2 ^ 48) where
  fits_image : (b : Bool) → nat_lt (image.head.level + 1) chain.len ≡ b
      → FitsState (if b then Image restore chain (image.head.level + 1) 0 else Replay restore chain image.head.at 0)
  fits_image true test = (of, is, record { within = grind (arith, nat_tests, test); entries_fit = lit< tt })
  fits_image false test = (of, is, record { upto_fits = position; part_fits = lit< tt })

  pub fits_behind : (entries : ℕ) → entries + step_len image.size entries < 2 ^ 32 → FitsState (behind_step restore chain image entries)
  fits_behind entries few = by (nat_le (entries_in image.size) (entries + step_len image.size entries))
    where
      by : (b : Bool) → FitsState (if b then behind_image restore chain image.head.level image.head.at else Image restore chain image.head.level (entries + step_len image.size entries))
      by true = fits_image (nat_lt (image.head.level + 1) chain.len) refl
      by false = (of, is, record { within = within; entries_fit = few })

-- a step's images

module _ (site space count : ℕ) (images : List (List Entry)) (state : LaneState) (restore : ℕ) (chain : Chain) (image : ImageJob) (entries : ℕ)
    (is : amid_of state ≡ Some (amid image.head.level entries)) (e : ℕ) (old : ℕ → List ℕ → Type 0) (bytes : List ℕ) (merged : HoldsMerged site space count images state bytes)
    (reads : (f : ℕ) → e < f → old f bytes) (only : OnlyAfter e bytes old) (fits : FitsState (begun state chain)) where
  abbrev pub May : List ℕ → List ℕ → Type 0
  May = MayMerge site space count images state (behind_step restore chain image entries) chain

  abbrev pub next_now : List Entry
  next_now = next_entries images image.head.level entries

  abbrev pub pages_now : ℕ → Page
  pages_now = page_amid images image.head.level entries

  first_pages : ArePages space count pages_now next_now bytes
  first_pages = pages_of_state site space count images state image.head.level entries bytes is merged

  begin_shows : (d c : List ℕ) → d ≡ bytes → MaySet (begun state chain) bytes d c → May d c
  begin_shows d c same may = ⊎_elim
      (λ (stays : c ≡ d). inl (subst (λ (l : List ℕ). HoldsMerged site space count images state l) (sym (stays ∙ same)) merged))
      (λ sets. ⊎_elim (λ before. inl before) (λ behind. inr (inl behind))
      (sets_shows site space count images state (begun state chain) bytes c fits (holds_of_state site space count images state bytes merged)
      (λ b holds pages. state_again site space count images state bytes b merged holds pages)
      (λ b holds pages. begun_shows site space count images state chain image.head.level entries b is holds (same_pages site space count pages_now next_now bytes b pages first_pages)) sets))
      may

  pub begin_crash : (new : ℕ → List ℕ → Type 0) → Leaves e (MaySet (begun state chain) bytes) old new → Leaves e May old new
  begin_crash new call = weaker May (MaySet (begun state chain) bytes) e old old new call (λ f d c lt image may. begin_shows d c (only f d lt image) may)

  module _ (first : List ℕ) (same : SamePages bytes first) (holds : HoldsState site space count (begun state chain) first) where
    pub pages_begun : ArePages space count pages_now next_now first
    pages_begun = same_pages site space count pages_now next_now bytes first same first_pages

    pub merge_crash : (mid new : ℕ → List ℕ → Type 0) → Leaves e May old mid → OnlyAfter e first mid → Leaves e (WritesOnly next_now) mid new → Leaves e May old new
    merge_crash mid new before known call =
        from_known May (WritesOnly next_now) e bytes first old mid new before known reads call
        (λ c writes. inr (inl (writes_shows site space count images state chain image.head.level entries first c is holds pages_begun writes)))

  module _ (is_size : image.size ≡ 4096 * (length (entries_of images image.head.level) + 1)) (within : image.head.level < chain.len)
      (fits_next : FitsState (behind_step restore chain image entries)) (second : List ℕ) (holds : HoldsState site space count (begun state chain) second)
      (pages : ArePages space count (λ number. with_entries number next_now (pages_now number)) [] second) where
    merged_now : ArePages space count (page_amid images image.head.level (entries + step_len image.size entries)) [] second
    merged_now = pages_behind_step site space count images image.head.level entries image.size second is_size pages

    pub mark_shows : (new : List ℕ) → HoldsState site space count (behind_step restore chain image entries) new → SamePages second new
        → HoldsMerged site space count images (behind_step restore chain image entries) new
    mark_shows new there same =
        behind_shows site space count images restore chain image within new entries is_size
        (same_pages site space count (page_amid images image.head.level (entries + step_len image.size entries)) [] second new same merged_now) there

    stays_shows : (new : List ℕ) → HoldsState site space count (begun state chain) new → SamePages second new → HoldsMerged site space count images (begun state chain) new
    stays_shows new there same =
        begun_shows site space count images state chain image.head.level entries new is there
        (pages_before site space count images image.head.level entries image.size new is_size
        (same_pages site space count (page_amid images image.head.level (entries + step_len image.size entries)) [] second new same merged_now))

    pub mark_crash : (mid new : ℕ → List ℕ → Type 0) → Leaves e May old mid → Leaves e (MaySet (behind_step restore chain image entries) second) mid new → Leaves e May old new
    mark_crash mid new before call =
        goes_on May (MaySet (behind_step restore chain image entries) second) e old mid new before call
        (λ f d c lt left may. ⊎_elim
        (λ (same : c ≡ d). let was = before.later f d lt left in (was.0, was.1, subst (λ (l : List ℕ). May was.0 l) (sym same) was.2))
        (λ sets. (bytes, reads f lt, inr (sets_shows site space count images (begun state chain) (behind_step restore chain image entries) second c fits_next holds stays_shows mark_shows sets)))
        may)
