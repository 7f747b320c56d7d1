-- What a stop within a step leaves, call by call.
use Rattle.std.proofs.Common.{◌≡◌, ◌⊎◌, inl, inr, ℕ, ◌*◌, ◌≤◌, List, [], length, Some, None, true, arith, refl, sym, ap, subst, ◌∙◌}
use Rattle.site_disk.specs.Bytes.{extent}
use Rattle.std.specs.Prelude.{Result, Ok, Err, OnOk}
use Rattle.site_disk.specs.Ledger.{CountsSync, EraView, Ledger, Uses}
use Rattle.site_disk.specs.Gates.{GateStands}
use Rattle.site_disk.specs.Images.{Leaves, OnlyAfter, Unchanged}
use Rattle.site_disk.specs.ImagesLaws.{goes_on, weaker}
use Rattle.site_disk.specs.SeenLaws.{CountsOn, synced_after}
use Rattle.log_history.specs.Effects.{Change}
use Rattle.twin_mark.specs.Marks.{Knows, MarkView, MayStore, Stores, current, record_at}
use Rattle.before_images.specs.Saved.{Drops, Lie, MayDrop, MaySave, Saves, Within, applies, are_below, kept, place_of, restored, saved_at, saved_in}
use Rattle.before_images.specs.ListLaws.{are_below-get, are_below-none}
use Rattle.before_images.specs.RegionLaws.{restored_not}
use Rattle.before_images.specs.RestoredLaws.{same_restored, stays_at_other}
use Rattle.space_pages.specs.Pages.{brought}
use Rattle.lane_ways.specs.Pictures.{MayMove, Picture, Shows, Stand, images_at, mark_at, pages_at}
use Rattle.lane_ways.specs.PictureLaws.{saving_shows, stand_same, writing_shows}
use Rattle.lane_steps.specs.Moves.{Moves, Rests, moved, placed}
use Rattle.lane_steps.specs.OwnLaws.{length-brought}

-- calls one after another

module _ (first second : Picture) (e : ℕ) (old mid new : ℕ → List ℕ → Type 0) where
  pub moves_again : Leaves e (Moves first second) old mid → Leaves e (Moves first second) mid new → Leaves e (Moves first second) old new
  moves_again before after =
      goes_on (Moves first second) (Moves first second) e old mid new before after
      (λ f d c lt image may. let was = before.later f d lt image in (was.0, was.1, may))

  -- from bytes that are known
  pub moves_known : (T : List ℕ → List ℕ → Type 0) (bytes : List ℕ) → OnlyAfter e bytes old → Leaves e T old new → ((c : List ℕ) → T bytes c → MayMove first second c) → Leaves e (Moves first second) old new
  moves_known T bytes only call means =
      weaker (Moves first second) T e old old new call (λ f d c lt image step. means c (subst (λ (b : List ℕ). T b c) (only f d lt image) step))

  pub moves_unchanged : (bytes : List ℕ) → OnlyAfter e bytes old → Unchanged old new → Shows first bytes → Leaves e (Moves first second) old new
  moves_unchanged bytes only same shows = record {
    earlier = λ f c lt image. same.back f c image;
    during = λ c image. inl (same.back e c image);
    later = λ f c lt image. let was = same.back f c image in (c, was, inl (subst (Shows first) (sym (only f c lt was)) shows));
  }

pub only_unchanged : (e : ℕ) (bytes : List ℕ) (old new : ℕ → List ℕ → Type 0) → Unchanged old new → OnlyAfter e bytes old → OnlyAfter e bytes new
only_unchanged e bytes old new same only = λ f c lt image. only f c lt (same.back f c image)

-- the mark

-- The place before the step is shown, the pages behind it stand, and what is kept isn't put back at the place behind it.
pub record Ready (first second : Picture) (bytes : List ℕ) : Type 0 where
  pub header : second.header ≡ first.header
  pub size : length second.pages ≡ length first.pages
  pub shows : Shows first bytes
  pub plain : Stand second.space 0 second.pages bytes
  pub stays : (c : List ℕ) → saved_at images_at c ≡ saved_at images_at bytes → restored images_at pages_at (length second.pages) second.upto second.part c ≡ c

-- the same region kept, the same pages and the same record: the same is shown
kept_shows : (picture : Picture) (old new : List ℕ) → saved_at images_at new ≡ saved_at images_at old → ((n : ℕ) → extent pages_at n new ≡ extent pages_at n old)
    → extent 0 4096 new ≡ extent 0 4096 old → record_at mark_at new ≡ record_at mark_at old → length old ≤ length new → Shows picture old → Shows picture new
kept_shows picture old new keeps same header mark le shows =
    let limit : ℕ = length picture.pages in
    record {
      header = header ∙ shows.header;
      mark = mark ∙ shows.mark;
      long = omega (arith, shows.long, le);
      pages = stand_same picture.space 0 limit picture.pages
          (restored images_at pages_at limit picture.upto picture.part old) (restored images_at pages_at limit picture.upto picture.part new) (omega arith)
          (same_restored images_at pages_at limit picture.upto picture.part old new (sym keeps) shows.long (omega (arith, shows.long, le)) (sym (same (4096 * limit)))) shows.pages;
    }

-- the mark of the next place, in new bytes that differ in the mark's region alone
module _ (first second : Picture) (old new : List ℕ) (ready : Ready first second old) where
  behind : (extent 0 4096 new ≡ extent 0 4096 old) → saved_at images_at new ≡ saved_at images_at old → ((n : ℕ) → extent pages_at n new ≡ extent pages_at n old) → length old ≤ length new
      → record_at mark_at new ≡ Some second.record_there → Shows second new
  behind header region pages le is = record {
    header = header ∙ ready.shows.header ∙ sym ready.header;
    mark = is;
    long = omega (arith, ready.shows.long, le, ready.size);
    pages = subst (Stand second.space 0 second.pages) (sym (ready.stays new region))
        (stand_same second.space 0 (length second.pages) second.pages old new (omega arith) (sym (pages (4096 * length second.pages))) ready.plain);
  }

  pub stored_moves : MayStore mark_at second.record_there old new → MayMove first second new
  stored_moves may = by may.mark
    where
      header : extent 0 4096 new ≡ extent 0 4096 old
      header = may.elsewhere 0 4096 (inl (omega arith))

      region : saved_at images_at new ≡ saved_at images_at old
      region = ap saved_in (may.elsewhere images_at 69632 (inr (omega arith)))

      pages : (n : ℕ) → extent pages_at n new ≡ extent pages_at n old
      pages n = may.elsewhere pages_at n (inr (omega arith))

      by : (record_at mark_at new ≡ record_at mark_at old) ⊎ (record_at mark_at new ≡ Some second.record_there) → MayMove first second new
      by (inl same) = inl (kept_shows first old new region pages header same may.no_shorter ready.shows)
      by (inr is) = inr (behind header region pages may.no_shorter is)

  pub rests_behind : (mark : MarkView) (last e : ℕ) (images : ℕ → List ℕ → Type 0) → Stores mark_at second.record_there old new → Knows mark new → last ≤ e
      → CountsOn (record { last = last; bytes = new; images = images }) → OnlyAfter e new images → Rests second mark (record { last = last; bytes = new; images = images })
  rests_behind mark last e images stores knows le counts only =
      let region : saved_at images_at new ≡ saved_at images_at old = ap saved_in (stores.elsewhere images_at 69632 (inr (omega arith))) in
      record {
        shows = behind (stores.elsewhere 0 4096 (inl (omega arith))) region (λ n. stores.elsewhere pages_at n (inr (omega arith))) stores.no_shorter stores.stored;
        settled = ready.stays new region;
        plain = stand_same second.space 0 (length second.pages) second.pages old new (omega arith) (sym (stores.elsewhere pages_at (4096 * length second.pages) (inr (omega arith)))) ready.plain;
        knows = knows;
        synced = synced_after (record { last = last; bytes = new; images = images }) e counts le only;
      }

-- A step from a place at which the chunk rests: the era, what a read gives and the images when it begins, the value of the mark, how many pages
-- the space has, and where the step leads.
pub record Start (e : ℕ) (bytes : List ℕ) (image : ℕ → List ℕ → Type 0) (mark : MarkView) (count : ℕ) (first : Picture) (upto part : ℕ) : Type 0 where
  pub only : OnlyAfter e bytes image
  pub shows : Shows first bytes
  pub plain : Stand first.space 0 first.pages bytes
  pub knows : Knows mark bytes
  pub base : mark.base ≡ mark_at
  pub size : length first.pages ≡ count
  pub other : upto ≡ first.upto → part ≡ first.part → ⊥

pub starts : (e last : ℕ) (bytes : List ℕ) (image : ℕ → List ℕ → Type 0) (mark : MarkView) (count : ℕ) (first : Picture) (upto part : ℕ) → last ≤ e → mark.base ≡ mark_at → length first.pages ≡ count
    → (upto ≡ first.upto → part ≡ first.part → ⊥) → Rests first mark (record { last = last; bytes = bytes; images = image }) → Start e bytes image mark count first upto part
starts e last bytes image mark count first upto part le base size other rests = record {
  only = λ f c lt is. rests.synced f c (omega (arith, le, lt)) is;
  shows = rests.shows;
  plain = rests.plain;
  knows = rests.knows;
  base = base;
  size = size;
  other = other;
}

module _ (e : ℕ) (bytes : List ℕ) (image : ℕ → List ℕ → Type 0) (mark : MarkView) (count : ℕ) (first : Picture) (upto part : ℕ) (start : Start e bytes image mark count first upto part)
    (content : List ℕ) (changes : List Change) where
  abbrev second : Picture
  second = moved first content upto part changes

  reaches : place_of pages_at count ≤ length bytes
  reaches = omega (arith, start.shows.long, start.size)

  -- nothing is done yet
  begun : (mid : ℕ → List ℕ → Type 0) → Unchanged image mid → Leaves e (Moves first second) image mid
  begun mid same = moves_unchanged first second e image image mid bytes start.only same start.shows

  -- pages are saved and written
  module _ (pages : List ℕ) (below : are_below count pages ≡ true) where
    within_space : are_below (length first.pages) pages ≡ true
    within_space = ap (λ (n : ℕ). are_below n pages) start.size ∙ below

    pub saves_moves : (mid new : ℕ → List ℕ → Type 0) → Unchanged image mid → Leaves e (MaySave images_at pages_at first.upto first.part pages) mid new → Leaves e (Moves first second) image new
    saves_moves mid new same call =
        moves_again first second e image mid new (begun mid same)
        (moves_known first second e mid mid new (MaySave images_at pages_at first.upto first.part pages) bytes (only_unchanged e bytes image mid same start.only) call
        (λ c may. inl (saving_shows first pages bytes c within_space start.shows start.plain may)))

    module _ (saved : List ℕ) (saves : Saves images_at pages_at first.upto first.part pages bytes saved) where
      pub writes_moves : (mid new : ℕ → List ℕ → Type 0) → Leaves e (Moves first second) image mid → OnlyAfter e saved mid → Leaves e (Within pages_at count pages) mid new
          → Leaves e (Moves first second) image new
      writes_moves mid new before known call =
          moves_again first second e image mid new before
          (moves_known first second e mid mid new (Within pages_at count pages) saved known call
          (λ c within. inl (writing_shows first pages bytes saved c within_space start.shows start.plain saves (subst (λ (n : ℕ). Within pages_at n pages saved c) (sym start.size) within))))

      pub stands_then : Stand first.space 0 first.pages saved
      stands_then =
          stand_same first.space 0 (length first.pages) first.pages bytes saved (omega arith) (sym (saves.elsewhere pages_at (4096 * length first.pages) (inr (omega arith)))) start.plain

      module _ (since : List ℕ) (within : Within pages_at count pages saved since) where
        keeps : saved_at images_at since ≡ Some (kept pages_at first.upto first.part pages bytes)
        keeps = ap saved_in (within.elsewhere images_at 69632 (λ k lt. inl (omega arith))) ∙ saves.saved

        pub ready : Stand first.space 0 (brought first.space 0 changes first.pages) since → Ready first second since
        ready stand = record {
          header = refl;
          size = length-brought first.space 0 changes first.pages;
          shows = writing_shows first pages bytes saved since within_space start.shows start.plain saves (subst (λ (n : ℕ). Within pages_at n pages saved since) (sym start.size) within);
          plain = stand;
          stays = λ c same. stays_at_other images_at pages_at (length (brought first.space 0 changes first.pages)) upto part (kept pages_at first.upto first.part pages bytes) c (same ∙ keeps)
              (λ one two. start.other (sym one) (sym two));
        }

-- Another place alone: what is kept is dropped, and no page is changed.
module _ (first : Picture) (content : List ℕ) (upto part : ℕ) (bytes : List ℕ) (shows : Shows first bytes) (plain : Stand first.space 0 first.pages bytes) where
  pub may_drop_shows : (c : List ℕ) → MayDrop images_at bytes c → Shows first c
  may_drop_shows c may =
      saving_shows first [] bytes c (are_below-none (length first.pages)) shows plain (record { saved = by may.saved; elsewhere = may.elsewhere; no_shorter = may.no_shorter })
    where
      by : (saved_at images_at c ≡ saved_at images_at bytes) ⊎ (saved_at images_at c ≡ None)
          → (saved_at images_at c ≡ saved_at images_at bytes) ⊎ (saved_at images_at c ≡ None) ⊎ (saved_at images_at c ≡ Some (kept pages_at first.upto first.part [] bytes))
      by (inl same) = inl same
      by (inr none) = inr (inl none)

  pub ready_dropped : (c : List ℕ) → Drops images_at bytes c → Ready first (placed first content upto part) c
  ready_dropped c drops = record {
    header = refl;
    size = refl;
    shows = may_drop_shows c (record { saved = inr drops.saved; elsewhere = drops.elsewhere; no_shorter = drops.no_shorter });
    plain = stand_same first.space 0 (length first.pages) first.pages bytes c (omega arith) (sym (drops.elsewhere pages_at (4096 * length first.pages) (inr (omega arith)))) plain;
    stays = λ d same. restored_not images_at pages_at (length first.pages) upto part d (ap (applies (length first.pages) upto part) (same ∙ drops.saved));
  }

pub knows_dropped : (mark : MarkView) (bytes c : List ℕ) → mark.base ≡ mark_at → Drops images_at bytes c → Knows mark bytes → Knows mark c
knows_dropped mark bytes c base drops knows = ap current (drops.elsewhere mark.base 1024 (inl (omega (arith, base)))) ∙ knows

-- the mark's slots are as before
pub knows_still : (mark : MarkView) (count upto part : ℕ) (pages bytes saved since : List ℕ) → mark.base ≡ mark_at → Saves images_at pages_at upto part pages bytes saved
    → Within pages_at count pages saved since → Knows mark bytes → Knows mark since
knows_still mark count upto part pages bytes saved since base saves within knows =
    ap current (within.elsewhere mark.base 1024 (λ k lt. inl (omega (arith, base))) ∙ saves.elsewhere mark.base 1024 (inl (omega (arith, base)))) ∙ knows

-- the gate of the region is known by a read
pub gate_still : (gate last now : ℕ) (bytes new : List ℕ) (old mid : ℕ → List ℕ → Type 0) → OnlyAfter last bytes old → Unchanged old mid → new ≡ bytes → last ≤ now → GateStands gate now new mid
gate_still gate last now bytes new old mid only still same le =
    λ f c lt image. ap (λ (l : List ℕ). extent gate 1 l) (only f c (omega (arith, le, lt)) (still.back f c image) ∙ sym same)

pub three_on_ok : {T E P Q R S : Type 0} (result : Result T E) → (P → Q → R → S) → OnOk result P → OnOk result Q → OnOk result R → OnOk result S
three_on_ok (Ok x) means p q r = means p q r
three_on_ok (Err e) means p q r = p

-- a sync behind other calls
pub uses_sync : {T E : Type 0} {era : EraView} {reads writes : ℕ} {old mid new : Ledger} {result : Result T E} → Uses era reads writes old mid → CountsSync era mid new result → new.synced ≡ era.number
    → mid.faults ≤ new.faults → Uses era reads writes old new
uses_sync uses sync synced later = record {
  key = sync.key ∙ uses.key;
  no_earlier = omega (arith, uses.no_earlier, uses.no_later, sync.last);
  no_later = omega (arith, sync.last);
  faults = omega (arith, uses.faults, later);
  read = omega (arith, uses.read, sync.read);
  written = omega (arith, uses.written, sync.written);
  synced = omega (arith, synced, sync.last);
  later = omega (arith, uses.later, uses.synced, uses.no_later, synced);
}

-- where pages below the end of the space stand
pub lie_below : (count : ℕ) (pages bytes : List ℕ) → are_below count pages ≡ true → place_of pages_at count ≤ length bytes → Lie pages_at pages bytes
lie_below count pages bytes below reaches k lt = omega (arith, are_below-get count k pages below lt, reaches)
