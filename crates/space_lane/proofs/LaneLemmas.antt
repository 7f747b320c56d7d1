-- What a lane that stands on its disk gives its calls.
use Rattle.std.specs.Prelude.{Result, Ok, Err, OnOk}
use Rattle.std.proofs.Common.{◌≡◌, ℕ, ◌*◌, ◌<◌, ◌≤◌, List, length, refl, arith, ap, sym, subst, ◌∙◌}
use mathlib.Core.Logic.{inl}
use Rattle.std.proofs.lemmas.Option.{same_Some}
use Rattle.log_history.specs.Effects.{Page, empty_page}
use Rattle.site_disk.specs.Bytes.{written, Same, Torn}
use Rattle.site_disk.specs.BytesLaws.{torn_whole}
use Rattle.site_disk.specs.CallsLaws.{from_unchanged}
use Rattle.site_disk.specs.Images.{Seen, Leaves, OnlyAfter, IsSynced, Unchanged}
use Rattle.site_disk.specs.ImagesLaws.{goes_on, weaker}
use Rattle.site_disk.specs.SeenLaws.{CountsOn, synced_after}
use Rattle.gated_slots.specs.Header.{StandsClosed}
use Rattle.twin_mark.specs.Marks.{Knows, MarkView, record_of}
use Rattle.before_images.specs.Saved.{place_of, saved_in}
use Rattle.site_headers.specs.Headers.{HasHeader}
use Rattle.site_headers.specs.HeaderLaws.{HasHeader-same}
use Rattle.space_pages.specs.Pages.{empty_pages}
use Rattle.std.proofs.lemmas.List.{length-replicate}
use Rattle.backup_lines.specs.declared.lanes.LaneState.{LaneState}
use Rattle.lane_ways.specs.Pictures.{Stand, images_at, mark_at, pages_at}
use Rattle.lane_ways.specs.PictureLaws.{stand_same}
use Rattle.lane_mark.specs.Layout.{fields_at, spelling, state_with}
use Rattle.lane_mark.proofs.LayoutLemmas.{state_at-spelling}
use Rattle.space_lane.specs.Chunks.{HasMark, HoldsState, IsSettled, KeepsNone, SamePages, chunk_tail}
use Rattle.space_lane.specs.Lanes.{Agrees, IsEmptied, IsMade, Stands, TellsOf, with_disk}
use Rattle.space_lane.specs.Stops.{MayRestore, MaySettle, StaysClosed}
use Rattle.space_lane.specs.declared.lane.Lane.{Lane}
use Rattle.space_lane.proofs.ClosingLemmas.{closed_after, closed_torn, torn_stays}
use Rattle.space_lane.proofs.StateLemmas.{KeepsFront, knows_still, settle_keeps, settle_same}

-- values

module _ {D : Type 0} where
  -- a value behind a call that ended in a sync
  pub stands_of : (site count : ℕ) (state : LaneState) (e : ℕ) (disk : Seen) (lane : Lane D) → IsMade lane → TellsOf count state lane → Knows lane.mark disk.bytes
      → HoldsState site lane.space count state disk.bytes → CountsOn disk → disk.last ≤ e → OnlyAfter e disk.bytes disk.images → IsSettled state count disk.bytes
      → Stands site count state disk lane
  stands_of site count state e disk lane made tells knows holds counts le only is = record {
    agrees = record { made = made; tells = tells; knows = knows; holds = holds };
    synced = synced_after disk e counts le only;
    settled = is;
  }

  -- the same bytes
  pub agrees_on : (site count : ℕ) (state : LaneState) (old new : List ℕ) (lane : Lane D) (disk : D) → new ≡ old → Agrees site count state old lane
      → Agrees site count state new (with_disk lane disk)
  agrees_on site count state old new lane disk same agrees = record {
    made = record { mark = agrees.made.mark; images = agrees.made.images };
    tells = record { fits = agrees.tells.fits; pages_are = agrees.tells.pages_are; state_is = agrees.tells.state_is };
    knows = subst (λ (l : List ℕ). Knows lane.mark l) (sym same) agrees.knows;
    holds = subst (λ (l : List ℕ). HoldsState site lane.space count state l) (sym same) agrees.holds;
  }

  pub stands_on : (site count : ℕ) (state : LaneState) (old new : Seen) (lane : Lane D) (disk : D) → old.last ≤ new.last → new.bytes ≡ old.bytes → Unchanged old.images new.images
      → Stands site count state old lane → Stands site count state new (with_disk lane disk)
  stands_on site count state old new lane disk le same images stands = record {
    agrees = agrees_on site count state old.bytes new.bytes lane disk same stands.agrees;
    synced = λ f c lt image. stands.synced f c (omega (arith, le, lt)) (images.back f c image) ∙ sym same;
    settled = subst (λ (l : List ℕ). IsSettled state count l) (sym same) stands.settled;
  }

  -- a page written
  pub agrees_put : (site count page : ℕ) (state : LaneState) (piece old new : List ℕ) (lane : Lane D) (disk : D) → page < lane.pages → new ≡ written (place_of pages_at page) piece old
      → Agrees site count state old lane → Agrees site count state new (with_disk lane disk)
  agrees_put site count page state piece old new lane disk lt is agrees =
      let long : place_of pages_at count ≤ length old = agrees.holds.long in
      let within : place_of pages_at page ≤ length old = omega (arith, long, lt, agrees.tells.pages_are) in
      let torn : Torn (place_of pages_at page) (length piece) old new = subst (λ (l : List ℕ). Torn (place_of pages_at page) (length piece) old l) (sym is) (torn_whole (place_of pages_at page) piece old within) in record {
        made = record { mark = agrees.made.mark; images = agrees.made.images };
        tells = record { fits = agrees.tells.fits; pages_are = agrees.tells.pages_are; state_is = agrees.tells.state_is };
        knows = knows_still lane.mark old new agrees.made.mark (torn.elsewhere mark_at 1024 (inl (omega arith))) agrees.knows;
        holds = record {
          header = HasHeader-same (chunk_tail site lane.space count) old new (torn.elsewhere 0 4096 (inl (omega arith))) agrees.holds.header;
          mark = record { fits = agrees.holds.mark.fits; stands = ap record_of (torn.elsewhere mark_at 1024 (inl (omega arith))) ∙ agrees.holds.mark.stands };
          long = omega (arith, long, torn.no_shorter);
        };
      }

-- emptied chunks

pub emptied_by : (count : ℕ) (old new : Seen) (e : ℕ) → StandsClosed old → old.last ≤ new.last → StaysClosed old.bytes new.bytes → KeepsNone new.bytes → place_of pages_at count ≤ length new.bytes
    → Leaves e StaysClosed old.images new.images → IsEmptied count new
emptied_by count old new e closed le stays none long call = record {
  closed = record { now = stays closed.now; later = closed_after old new e call le closed.later };
  none = none;
  long = long;
}

pub emptied_put : (count page : ℕ) (piece : List ℕ) (old new : Seen) (e : ℕ) → page < count → old.last ≤ new.last → new.bytes ≡ written (place_of pages_at page) piece old.bytes
    → Leaves e (Torn (place_of pages_at page) 4096) old.images new.images → IsEmptied count old → IsEmptied count new
emptied_put count page piece old new e lt le is call emptied =
    let place : ℕ = place_of pages_at page in
    let within : place ≤ length old.bytes = omega (arith, emptied.long, lt) in
    let torn : Torn place (length piece) old.bytes new.bytes = subst (λ (l : List ℕ). Torn place (length piece) old.bytes l) (sym is) (torn_whole place piece old.bytes within) in
    emptied_by count old new e emptied.closed le (λ closed. closed_torn place (length piece) old.bytes new.bytes (omega arith) closed torn)
    (record { none = ap saved_in (torn.elsewhere images_at 69632 (inl (omega arith))) ∙ emptied.none.none }) (omega (arith, emptied.long, torn.no_shorter))
    (torn_stays place 4096 e old.images new.images (omega arith) call)

-- the pages of a chunk that was emptied
pub empty_stand : (space count : ℕ) (old new : List ℕ) → SamePages old new → Stand space 0 (empty_pages count) old → Stand space 0 (empty_pages count) new
empty_stand space count old new same stand =
    stand_same space 0 count (empty_pages count) old new (omega (arith, length-replicate {A = Page} count empty_page)) (sym (same pages_at (4096 * count) (omega arith))) stand

-- opening

-- a mark has one state
one_state : (a b : LaneState) (bytes : List ℕ) → HasMark a bytes → HasMark b bytes → b ≡ a
one_state a b bytes has other =
    let same : spelling b ≡ spelling a = same_Some (spelling b) (spelling a) (sym other.stands ∙ has.stands) in
    same_Some b a (sym (state_at-spelling b (spelling b) other.fits refl) ∙ ap (λ (l : List ℕ). state_with (fields_at l)) same ∙ state_at-spelling a (spelling a) has.fits refl)

pub same_restores : (count e : ℕ) (old new : ℕ → List ℕ → Type 0) → Leaves e Same old new → Leaves e (MayRestore count) old new
same_restores count e old new call =
    weaker (MayRestore count) Same e old old new call
    (λ f d c lt image same. record { settles = λ state has. subst (λ (l : List ℕ). MaySettle state count d l) (sym same) (settle_same state count d) })

pub restores_after : (count e : ℕ) (old mid new : ℕ → List ℕ → Type 0) → Leaves e Same old mid → Leaves e (MayRestore count) mid new → Leaves e (MayRestore count) old new
restores_after count e old mid new first second =
    goes_on (MayRestore count) (MayRestore count) e old mid new (same_restores count e old mid first) second
    (λ f d c lt image may. let was = first.later f d lt image in (was.0, was.1, subst (λ (l : List ℕ). MayRestore count l c) was.2 may))

-- what holds whatever the answer is
pub always : {T E P : Type 0} (result : Result T E) → P → OnOk result P
always (Ok x) is = is
always (Err e) is = tt

pub settling_restores : (count : ℕ) (state : LaneState) (disk : Seen) (e : ℕ) (mid new : ℕ → List ℕ → Type 0) → disk.last ≤ e → IsSynced disk → HasMark state disk.bytes → Unchanged disk.images mid
    → Leaves e (MaySettle state count) mid new → Leaves e (MayRestore count) disk.images new
settling_restores count state disk e mid new le synced has images call =
    weaker (MayRestore count) (MaySettle state count) e disk.images disk.images new (from_unchanged (MaySettle state count) e disk.images mid new images call)
    (λ f d c lt image may. record {
      settles = λ other stands. subst (λ (s : LaneState). MaySettle s count d c)
          (sym (one_state state other disk.bytes has (subst (λ (l : List ℕ). HasMark other l) (synced f d (omega (arith, le, lt)) image) stands))) may;
    })

-- the state stands once it is settled
pub holds_settled : (site space count : ℕ) (state : LaneState) (old new : List ℕ) → HasHeader (chunk_tail site space count) old → HasMark state old → place_of pages_at count ≤ length old
    → MaySettle state count old new → HoldsState site space count state new
holds_settled site space count state old new header has long may =
    let keeps : KeepsFront old new = settle_keeps state count old new may in record {
      header = HasHeader-same (chunk_tail site space count) old new (keeps.front 0 4096 (omega arith)) header;
      mark = record { fits = has.fits; stands = ap record_of (keeps.front mark_at 1024 (omega arith)) ∙ has.stands };
      long = omega (arith, long, keeps.no_shorter);
    }

pub knows_settled : (mark : MarkView) (state : LaneState) (count : ℕ) (old new : List ℕ) → mark.base ≡ mark_at → MaySettle state count old new → Knows mark old → Knows mark new
knows_settled mark state count old new base may knows = knows_still mark old new base ((settle_keeps state count old new may).front mark_at 1024 (omega arith)) knows
