-- A state set, settled, and written anew.
use Rattle.std.specs.Prelude.{Result, Ok, Err, IsTrue}
use Rattle.std.proofs.Common.{◌≡◌, Bool, true, false, ℕ, ◌+◌, ◌*◌, ◌<◌, ◌≤◌, List, ◌∷◌, length, drop, None, refl, arith, ap, sym, subst, ◌∙◌, ⊎_elim}
use mathlib.Core.Logic.{inl, inr}
use Rattle.site_disk.specs.Bytes.{extent, written, Same, Torn}
use Rattle.site_disk.specs.BytesLaws.{torn_whole}
use Rattle.std.proofs.lemmas.List.{length-drop}
use Rattle.site_disk.specs.CallsLaws.{from_known}
use Rattle.site_disk.specs.Images.{Seen, Leaves, OnlyAfter, IsSynced, Unchanged}
use Rattle.site_disk.specs.Causes.{HasCause}
use Rattle.site_disk.specs.ImagesLaws.{goes_on, weaker}
use Rattle.gated_slots.specs.Header.{IsClosed, ClosedAfter, MayOpen}
use Rattle.gated_slots.specs.HeaderLaws.{closed_no_header}
use Rattle.twin_mark.specs.Marks.{MarkView, Knows, MayStore, Stores, current, record_of}
use Rattle.before_images.specs.Saved.{Drops, MayDrop, MayPutBack, Stands as ImagesStand, applies, place_of, saved_at, saved_in}
use Rattle.before_images.specs.RegionLaws.{put_back_same, restored_not}
use Rattle.site_headers.specs.Headers.{HasHeader}
use Rattle.site_headers.specs.HeaderLaws.{HasHeader-same}
use Rattle.space_pages.specs.Pages.{empty_pages}
use Rattle.log_history.specs.Effects.{Page, empty_page}
use Rattle.std.proofs.lemmas.List.{length-replicate}
use Rattle.backup_lines.specs.declared.lanes.LaneState.{LaneState}
use Rattle.backup_lines.specs.declared.lanes.LaneState.TheVariants.{At, Blank, Image, Replay}
use Rattle.lane_ways.specs.Pictures.{Stand, images_at, mark_at, pages_at}
use Rattle.lane_ways.specs.PictureLaws.{stand_same}
use Rattle.lane_mark.specs.Layout.{FitsState, spelling}
use Rattle.space_lane.specs.Chunks.{HoldsState, KeepsNone, chunk_tail, settled}
use Rattle.space_lane.specs.Stops.{IsFormatted, IsSet, MayFormat, MayLose, MayReopen, MaySet, MaySettle, Reopens, Sets, StaysClosed}
use Rattle.space_lane.proofs.HeaderLemmas.{header_with}

-- the mark's slot is known where its region hasn't changed
pub knows_still : (mark : MarkView) (old new : List ℕ) → mark.base ≡ mark_at → extent mark_at 1024 new ≡ extent mark_at 1024 old → Knows mark old → Knows mark new
knows_still mark old new base same knows =
    ap (λ (b : ℕ). current (extent b 1024 new)) base ∙ ap current same ∙ sym (ap (λ (b : ℕ). current (extent b 1024 old)) base) ∙ knows

-- with nothing kept nothing is to be put back
pub settled_none : (state : LaneState) (count : ℕ) (bytes : List ℕ) → KeepsNone bytes → settled state count bytes ≡ bytes
settled_none (At upto part) count bytes none = restored_not images_at pages_at count upto part bytes (ap (applies count upto part) none.none)
settled_none (Blank restore) count bytes none = refl
settled_none (Image restore chain image entries) count bytes none = refl
settled_none (Replay restore chain upto part) count bytes none = restored_not images_at pages_at count upto part bytes (ap (applies count upto part) none.none)

-- settling

pub settle_same : (state : LaneState) (count : ℕ) (bytes : List ℕ) → MaySettle state count bytes bytes
settle_same (At upto part) count bytes = put_back_same images_at pages_at count upto part bytes
settle_same (Blank restore) count bytes = refl
settle_same (Image restore chain image entries) count bytes = refl
settle_same (Replay restore chain upto part) count bytes = put_back_same images_at pages_at count upto part bytes

-- what is settled is settled again
pub settled_again : (state : LaneState) (count : ℕ) (old new : List ℕ) → MaySettle state count old new → new ≡ settled state count old → settled state count new ≡ new
settled_again (At upto part) count old new may is = may.back ∙ sym is
settled_again (Blank restore) count old new may is = refl
settled_again (Image restore chain image entries) count old new may is = refl
settled_again (Replay restore chain upto part) count old new may is = may.back ∙ sym is

-- nothing has changed but pages
pub record KeepsFront (old new : List ℕ) : Type 0 where
  pub front : (from len : ℕ) → from + len ≤ pages_at → extent from len new ≡ extent from len old
  pub no_shorter : length old ≤ length new

by_putting : (count upto part : ℕ) (old new : List ℕ) → MayPutBack images_at pages_at count upto part old new → KeepsFront old new
by_putting count upto part old new may = record { front = λ from len le. may.elsewhere from len (inl le); no_shorter = may.no_shorter }

by_nothing : (old new : List ℕ) → new ≡ old → KeepsFront old new
by_nothing old new same = subst (KeepsFront old) (sym same) (record { front = λ from len le. refl; no_shorter = omega arith })

pub settle_keeps : (state : LaneState) (count : ℕ) (old new : List ℕ) → MaySettle state count old new → KeepsFront old new
settle_keeps (At upto part) count old new may = by_putting count upto part old new may
settle_keeps (Blank restore) count old new may = by_nothing old new may
settle_keeps (Image restore chain image entries) count old new may = by_nothing old new may
settle_keeps (Replay restore chain upto part) count old new may = by_putting count upto part old new may

-- a synced region and pages that are there stand in each image
pub images_stand : (count : ℕ) (disk : Seen) → IsSynced disk → place_of pages_at count ≤ length disk.bytes → ImagesStand images_at pages_at count disk.last disk.bytes disk.images
images_stand count disk synced long = record {
  now = long;
  region = λ f c lt image. ap (λ (l : List ℕ). extent images_at 69632 l) (synced f c lt image);
  long = λ f c lt image. subst (λ (l : List ℕ). place_of pages_at count ≤ length l) (sym (synced f c lt image)) long;
}

-- setting

pub is_set : (record_there old mid new : List ℕ) → Drops images_at old mid → Stores mark_at record_there mid new → IsSet record_there old new
is_set record_there old mid new drops stores = record {
  stored = stores.stored;
  none = record { none = ap saved_in (stores.elsewhere images_at 69632 (inr (omega arith))) ∙ drops.saved };
  header = stores.elsewhere 0 4096 (inl (omega arith)) ∙ drops.elsewhere 0 4096 (inl (omega arith));
  pages = λ from len le. stores.elsewhere from len (inr (omega (arith, le))) ∙ drops.elsewhere from len (inr (omega (arith, le)));
  no_shorter = omega (arith, drops.no_shorter, stores.no_shorter);
}

pub drops_here : (base : ℕ) (old mid new : List ℕ) → base ≡ images_at → mid ≡ old → Drops base mid new → Drops images_at old new
drops_here base old mid new place same drops = subst (λ (b : ℕ). Drops b old new) place (subst (λ (l : List ℕ). Drops base l new) same drops)

pub stores_here : (base : ℕ) (body record_there old new : List ℕ) → base ≡ mark_at → body ≡ record_there → Stores base body old new → Stores mark_at record_there old new
stores_here base body record_there old new place is stores =
    subst (λ (b : ℕ). Stores b record_there old new) place (subst (λ (l : List ℕ). Stores base l old new) is stores)

pub stores_from : (base : ℕ) (body record_there old mid new : List ℕ) → base ≡ mark_at → body ≡ record_there → mid ≡ old → Stores base body mid new → Stores mark_at record_there old new
stores_from base body record_there old mid new place is same stores =
    subst (λ (l : List ℕ). Stores mark_at record_there l new) same (stores_here base body record_there mid new place is stores)

pub may_drop_here : (base e : ℕ) (old new : ℕ → List ℕ → Type 0) → base ≡ images_at → Leaves e (MayDrop base) old new → Leaves e (MayDrop images_at) old new
may_drop_here base e old new place call = subst (λ (b : ℕ). Leaves e (MayDrop b) old new) place call

pub may_store_here : (base : ℕ) (body record_there : List ℕ) (e : ℕ) (old new : ℕ → List ℕ → Type 0) → base ≡ mark_at → body ≡ record_there → Leaves e (MayStore base body) old new
    → Leaves e (MayStore mark_at record_there) old new
may_store_here base body record_there e old new place is call =
    subst (λ (b : ℕ). Leaves e (MayStore b record_there) old new) place (subst (λ (l : List ℕ). Leaves e (MayStore base l) old new) is call)

sets_dropping : (record_there old new : List ℕ) → MayDrop images_at old new → Sets record_there old new
sets_dropping record_there old new may = record {
  mark = inl (ap record_of (may.elsewhere mark_at 1024 (inl (omega arith))));
  kept = may.saved;
  header = may.elsewhere 0 4096 (inl (omega arith));
  pages = λ from len le. may.elsewhere from len (inr (omega (arith, le)));
  no_shorter = may.no_shorter;
}

sets_storing : (record_there old mid new : List ℕ) → Drops images_at old mid → MayStore mark_at record_there mid new → Sets record_there old new
sets_storing record_there old mid new drops may =
    let none : saved_at images_at new ≡ None = ap saved_in (may.elsewhere images_at 69632 (inr (omega arith))) ∙ drops.saved in record {
      mark = ⊎_elim (λ same. inl (same ∙ ap record_of (drops.elsewhere mark_at 1024 (inl (omega arith))))) (λ is. inr (is, none)) may.mark;
      kept = inr none;
      header = may.elsewhere 0 4096 (inl (omega arith)) ∙ drops.elsewhere 0 4096 (inl (omega arith));
      pages = λ from len le. may.elsewhere from len (inr (omega (arith, le))) ∙ drops.elsewhere from len (inr (omega (arith, le)));
      no_shorter = omega (arith, drops.no_shorter, may.no_shorter);
    }

module _ (state : LaneState) (bytes : List ℕ) (e : ℕ) (old : ℕ → List ℕ → Type 0) where
  pub sync_sets : (new : ℕ → List ℕ → Type 0) → Leaves e Same old new → Leaves e (MaySet state bytes) old new
  sync_sets new call = weaker (MaySet state bytes) Same e old old new call (λ f d c lt image same. inl same)

  -- the dropping after the sync, and the storing after that
  pub drop_sets : (mid new : ℕ → List ℕ → Type 0) → Leaves e (MaySet state bytes) old mid → OnlyAfter e bytes mid → ((f : ℕ) → e < f → old f bytes)
      → Leaves e (MayDrop images_at) mid new → Leaves e (MaySet state bytes) old new
  drop_sets mid new before only was call =
      from_known (MaySet state bytes) (MayDrop images_at) e bytes bytes old mid new before only was call (λ c may. inr (sets_dropping (spelling state) bytes c may))

  pub store_sets : (dropped : List ℕ) (mid new : ℕ → List ℕ → Type 0) → Drops images_at bytes dropped → Leaves e (MaySet state bytes) old mid → OnlyAfter e dropped mid
      → ((f : ℕ) → e < f → old f bytes) → Leaves e (MayStore mark_at (spelling state)) mid new → Leaves e (MaySet state bytes) old new
  store_sets dropped mid new drops before only was call =
      from_known (MaySet state bytes) (MayStore mark_at (spelling state)) e bytes dropped old mid new before only was call
      (λ c may. inr (sets_storing (spelling state) bytes dropped c drops may))

-- the state stands behind that
pub holds_set : (site space count : ℕ) (before state : LaneState) (old new : List ℕ) → FitsState state → HoldsState site space count before old
    → IsSet (spelling state) old new → HoldsState site space count state new
holds_set site space count before state old new fits holds set = record {
  header = HasHeader-same (chunk_tail site space count) old new set.header holds.header;
  mark = record { fits = fits; stands = set.stored };
  long = omega (arith, holds.long, set.no_shorter);
}

-- reopening

-- a whole header page written
pub page_torn : (page old new : List ℕ) → length page ≡ 4096 → new ≡ written 0 (1 ∷ drop 1 page) old → Torn 0 4096 old new
page_torn page old new long is =
    subst (λ (l : List ℕ). Torn 0 4096 old l) (sym is)
    (subst (λ (n : ℕ). Torn 0 n old (written 0 (1 ∷ drop 1 page) old)) (omega (arith, long, length-drop 1 page)) (torn_whole 0 (1 ∷ drop 1 page) old (omega arith)))

module _ (site space count : ℕ) (state : LaneState) (fits : FitsState state) (bytes mid : List ℕ) (long : place_of pages_at count ≤ length bytes) (none : KeepsNone bytes)
    (stores : Stores mark_at (spelling state) bytes mid) where
  pub reopened : (new : List ℕ) → ((from len : ℕ) → 4096 ≤ from → extent from len new ≡ extent from len mid) → length mid ≤ length new → HasHeader (chunk_tail site space count) new
      → Reopens site space count state bytes new
  reopened new same no_shorter header = record {
    holds = record {
      header = header;
      mark = record { fits = fits; stands = ap record_of (same mark_at 1024 (omega arith)) ∙ stores.stored };
      long = omega (arith, long, stores.no_shorter, no_shorter);
    };
    none = record { none = ap saved_in (same images_at 69632 (omega arith) ∙ stores.elsewhere images_at 69632 (inr (omega arith))) ∙ none.none };
    pages = λ from len le. same from len (omega (arith, le)) ∙ stores.elsewhere from len (inr (omega (arith, le)));
  }

  pub open_reopens : (page : List ℕ) (e : ℕ) (old between new : ℕ → List ℕ → Type 0) → drop 1 page ≡ chunk_tail site space count
      → Leaves e (MayReopen site space count state bytes) old between → OnlyAfter e mid between → ((f : ℕ) → e < f → old f bytes) → Leaves e (MayOpen page) between new
      → Leaves e (MayReopen site space count state bytes) old new
  open_reopens page e old between new tail before only was call =
      from_known (MayReopen site space count state bytes) (MayOpen page) e bytes mid old between new before only was call
      (λ c may. record { header = λ header. reopened c may.elsewhere may.no_shorter (header_with (chunk_tail site space count) c header (may.header header ∙ tail)) })

module _ (site space count : ℕ) (state : LaneState) (bytes : List ℕ) where
  pub never_reopens : (old new : List ℕ) → IsClosed new → MayReopen site space count state bytes old new
  never_reopens old new closed = record { header = λ header. absurd (closed_no_header new closed header) }

  pub sync_reopens : (disk : Seen) (e : ℕ) (new : ℕ → List ℕ → Type 0) → disk.last ≤ e → ClosedAfter disk → Leaves e Same disk.images new
      → Leaves e (MayReopen site space count state bytes) disk.images new
  sync_reopens disk e new le closed call =
      weaker (MayReopen site space count state bytes) Same e disk.images disk.images new call
      (λ f d c lt image same. never_reopens d c (subst IsClosed (sym same) (closed f d (omega (arith, le, lt)) image)))

-- formatting

module _ (site space count : ℕ) (state : LaneState) (e : ℕ) (old : ℕ → List ℕ → Type 0) where
  pub lose_formats : (new : ℕ → List ℕ → Type 0) → Leaves e MayLose old new → Leaves e (MayFormat site space count state) old new
  lose_formats new call =
      weaker (MayFormat site space count state) MayLose e old old new call (λ f d c lt image may. record { header = λ header. inr (may.header header) })

  pub empty_formats : (bytes lost : List ℕ) (mid new : ℕ → List ℕ → Type 0) → Leaves e (MayFormat site space count state) old mid → OnlyAfter e lost mid → ((f : ℕ) → e < f → old f bytes)
      → IsClosed lost → Leaves e StaysClosed mid new → Leaves e (MayFormat site space count state) old new
  empty_formats bytes lost mid new before only was closed call =
      from_known (MayFormat site space count state) StaysClosed e bytes lost old mid new before only was call
      (λ c stays. record { header = λ header. absurd (closed_no_header c (stays closed) header) })

pub formatted : (site space count : ℕ) (state : LaneState) (bytes new : List ℕ) → Stand space 0 (empty_pages count) bytes → Reopens site space count state bytes new
    → IsFormatted site space count state new
formatted site space count state bytes new stand reopens = record {
  holds = reopens.holds;
  none = reopens.none;
  pages = stand_same space 0 count (empty_pages count) bytes new (omega (arith, length-replicate {A = Page} count empty_page)) (sym (reopens.pages pages_at (4096 * count) (omega arith))) stand;
}

pub reopen_formats : (site space count : ℕ) (state : LaneState) (bytes : List ℕ) (e : ℕ) (old mid new : ℕ → List ℕ → Type 0) → Stand space 0 (empty_pages count) bytes
    → Leaves e (MayFormat site space count state) old mid → Leaves e (MayReopen site space count state bytes) mid new → Leaves e (MayFormat site space count state) old new
reopen_formats site space count state bytes e old mid new stand before call =
    goes_on (MayFormat site space count state) (MayReopen site space count state bytes) e old mid new before call
    (λ f d c lt image may. let was = before.later f d lt image in
    (was.0, was.1, record { header = λ header. inl (formatted site space count state bytes c stand (may.header header)) }))

-- calls

-- a last call's failure after others
pub cause_after : {T E : Type 0} (before mid now : ℕ) (result : Result T E) → before ≤ mid → HasCause mid now result → HasCause before now result
cause_after before mid now (Ok x) le cause = record { later = omega (arith, le, cause.later); failed = tt }
cause_after before mid now (Err e) le cause = record { later = omega (arith, le, cause.later); failed = omega (arith, le, cause.failed) }

-- calls that change no image leave the same alone
pub only_still : (e : ℕ) (bytes same : List ℕ) (old new : ℕ → List ℕ → Type 0) → OnlyAfter e bytes old → Unchanged old new → same ≡ bytes → OnlyAfter e same new
only_still e bytes same old new only images is f c lt image = only f c lt (images.back f c image) ∙ sym is

pub by_done : {A : Type 0} (done : Bool) → (IsTrue done → A) → (done ≡ false → A) → A
by_done true puts rests = puts refl
by_done false puts rests = rests refl
