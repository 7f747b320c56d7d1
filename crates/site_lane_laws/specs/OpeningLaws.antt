-- What an opening finds of a site's lanes, and what a stop within it leaves.
use Rattle.std.specs.Prelude.{◌≡◌, ◌⊎◌, ℕ, zero, suc, ◌+◌, ◌<◌, ◌≤◌, List, [], ◌∷◌, length, map, slice_get, Option, Some, None, IsTrue, Result, Ok, Err}
use mathlib.Core.Logic.{inl, inr}
use Rattle.std.proofs.Common.{arith, refl, sym, ap, subst, ◌∙◌, ⊎_elim}
use Rattle.std.specs.Option.{option_map}
use Rattle.std.proofs.lemmas.Bool.{cases_order}
use Rattle.std.proofs.lemmas.Option.{slice_get-map, slice_get_within, slice_get-get_or, slice_get_past, same_Some}
use Rattle.log_history.specs.History.{History}
use Rattle.site_disk.specs.Bytes.{Same}
use Rattle.site_disk.specs.Images.{Leaves}
use Rattle.site_disk.specs.Ledger.{EraView}
use Rattle.site_disk.specs.declared.disk.Disk.{Ghosts}
use Rattle.onbar_grammar.specs.Script.{Space}
use Rattle.site_headers.specs.Heads.{Head}
use Rattle.site_headers.specs.Headers.{HasHeader}
use Rattle.site_headers.specs.Views.{space_of as space_in}
use Rattle.site_headers.specs.declared.heads.SpaceHead.{SpaceHead}
use Rattle.backup_lines.specs.Lines.{Line}
use Rattle.backup_lines.specs.Spans.{Active}
use Rattle.backup_lines.specs.declared.lanes.LaneState.{LaneState as State}
use Rattle.backup_lines.specs.declared.lanes.LaneState.TheVariants.{At as Stays, Blank, Image, Replay}
use Rattle.space_lane.specs.Chunks.{HasMark, chunk_tail}
use Rattle.space_lane.specs.Lanes.{disk_of, space_of, state_of}
use Rattle.space_lane.specs.Stops.{MayRestore, MaySettle}
use Rattle.space_lane.specs.declared.lane.Lane.{Lane}
use Rattle.site_lanes.specs.declared.refusals.Opening.TheVariants.{Opened, Lost, Bad}
use Rattle.site_lanes.specs.Lanes.{OfSpaces, Works, HasCome, IsHeaded}
use Rattle.site_worlds.specs.Worlds.{LaneState, stands, blank, merges, replays, stale, lost}
use Rattle.site_worlds.specs.Lanes.{pages_of_option, pages_of_space}
use Rattle.site_layouts.specs.Chunks.{HoldsLane}
use Rattle.site_layouts.specs.LaneWords.{IsThere, LaneAgrees}
use Rattle.site_layouts.specs.LaneLaws.{lane_is_there, opening_shows}
use Rattle.site_layouts.specs.AgreeLaws.{opened_agrees}
use Rattle.site_lane_laws.specs.Agreements.{LanesAgree, LanesShow, is_lost}

-- a stop in an era that begins with known images

pub from_known_images : (R : List ℕ → List ℕ → Type 0) (e : ℕ) (bytes : List ℕ) (old new : ℕ → List ℕ → Type 0) → ((c : List ℕ) → R c c)
    → ((f : ℕ) (c : List ℕ) → e ≤ f → old f c → c ≡ bytes) → Leaves e R old new → (f : ℕ) (c : List ℕ) → e ≤ f → new f c → R bytes c
from_known_images R e bytes old new reflexive known leaves f c le image = elim (cases_order f e) [
  | inl same ↦ ⊎_elim
      (λ was. subst (R bytes) (sym (known e c (omega arith) was)) (reflexive bytes))
      (λ step. subst (λ (b : List ℕ). R b c) (known (e + 1) step.0 (omega arith) step.1) step.2)
      (leaves.during c (subst (λ (g : ℕ). new g c) same image))
  | inr (inl before) ↦ absurd (omega (arith, le, before))
  | inr (inr after) ↦ let from = leaves.later f c after image in subst (λ (b : List ℕ). R b c) (known f from.0 le from.1) from.2
]

settles_same : (state : State) (count : ℕ) (bytes : List ℕ) → MaySettle state count bytes bytes
settles_same (Stays upto part) count bytes = record { back = refl; elsewhere = λ from len apart. refl; no_shorter = omega arith }
settles_same (Blank restore) count bytes = refl
settles_same (Image restore chain image entries) count bytes = refl
settles_same (Replay restore chain upto part) count bytes = record { back = refl; elsewhere = λ from len apart. refl; no_shorter = omega arith }

restores_same : (count : ℕ) (bytes : List ℕ) → MayRestore count bytes bytes
restores_same count bytes = record { settles = λ state has. settles_same state count bytes }

-- one lane

module _ {D : Type 0} (disk : Ghosts D) (tells : IsTrue disk.is_modelled) (era : EraView) (site count : ℕ) (history : History) (lines : List Line) (number : ℕ)
    (active : Option Active) (space : ℕ) (lane : LaneState) (was is : Lane D) where
  -- The value is that of the lane's space; what a read of the chunk gives shows the lane, and is all that a crash from this era on leaves.
  pub record IsSyncedLane : Type 0 where
    pub space_is : space_of was ≡ space
    pub shows : HoldsLane site count history lines number active space lane (disk.bytes (disk_of was))
    pub synced : (f : ℕ) (c : List ℕ) → era.number ≤ f → disk.image (disk_of was) f c → c ≡ disk.bytes (disk_of was)

  module _ (before : IsSyncedLane) where
    headed : (header : HasHeader (chunk_tail site space count) (disk.bytes (disk_of was))) → IsHeaded disk site count was
    headed header = subst (λ (s : ℕ). HasHeader (chunk_tail site s count) (disk.bytes (disk_of was))) (sym before.space_is) header

    unheaded : IsHeaded disk site count was → HasHeader (chunk_tail site space count) (disk.bytes (disk_of was))
    unheaded header = subst (λ (s : ℕ). HasHeader (chunk_tail site s count) (disk.bytes (disk_of was))) before.space_is header

    there : (lane ≡ lost → ⊥) → IsThere site space count number active lane (disk.bytes (disk_of was))
    there isnt = lane_is_there site count history lines number active space lane (disk.bytes (disk_of was)) isnt before.shows

    pub has_header : (lane ≡ lost → ⊥) → IsHeaded disk site count was
    has_header isnt = let found = there isnt in headed found.header

    pub has_none : lane ≡ lost → IsHeaded disk site count was → ⊥
    has_none same header =
        let holds = subst (λ (l : LaneState). HoldsLane site count history lines number active space l (disk.bytes (disk_of was))) same before.shows in
        holds (unheaded header)

    pub not_bad : ((state : State) → HasMark state (disk.bytes (disk_of was)) → ⊥) → IsHeaded disk site count was → ⊥
    not_bad none header = ⊎_elim
        (λ same. has_none same header)
        (λ isnt. let found = there isnt in none found.state found.mark)
        (is_lost lane)

    -- a chunk that is as it was shows the lane
    kept_shows : Leaves era.number Same (disk.image (disk_of was)) (disk.image (disk_of is)) → (f : ℕ) (c : List ℕ) → era.number ≤ f → disk.image (disk_of is) f c
        → HoldsLane site count history lines number active space lane c
    kept_shows kept f c le image =
        subst (HoldsLane site count history lines number active space lane)
        (sym (from_known_images Same era.number (disk.bytes (disk_of was)) (disk.image (disk_of was)) (disk.image (disk_of is)) (λ b. refl) before.synced kept f c le image))
        before.shows

    module _ (works : Works disk era site count was is) where
      new_space : space_of is ≡ space
      new_space = works.space ∙ before.space_is

      -- A lane that isn't lost is opened, and its value agrees with it. That of a lost one is made as it was.
      not_lost_agrees : (lane ≡ lost → ⊥) → HasCome disk era site count was is → LaneAgrees disk (era.number + 1) site count number active space is lane
      not_lost_agrees isnt (Opened, opened) =
          let found = there isnt in
          opened_agrees disk site count number active (era.number + 1) space is lane (state_of is) (disk.bytes (disk_of was)) new_space (omega (arith, works.ledger.no_later)) isnt
          found (opened.found tells) (opened.stands tells found.long)
      not_lost_agrees isnt (Lost, came) = absurd (came.1 tells (has_header isnt))
      not_lost_agrees isnt (Bad, came) = let bad = came.1 tells in absurd (not_bad bad.none bad.header)

      lost_agrees : lane ≡ lost → LaneAgrees disk (era.number + 1) site count number active space is lane
      lost_agrees same =
          subst (LaneAgrees disk (era.number + 1) site count number active space is) (sym same)
          (record { space_is = new_space; earlier = omega (arith, works.ledger.no_later); agrees = works.made })

      pub one_agrees : HasCome disk era site count was is → LaneAgrees disk (era.number + 1) site count number active space is lane
      one_agrees came = ⊎_elim (λ same. lost_agrees same) (λ isnt. not_lost_agrees isnt came) (is_lost lane)

      -- Wherever the opening stops, the chunk of the lane shows it still.
      pub one_shows : (f : ℕ) (c : List ℕ) → era.number ≤ f → disk.image (disk_of is) f c → HoldsLane site count history lines number active space lane c
      one_shows f c le image = ⊎_elim
          (λ same. kept_shows (works.unheaded tells (has_none same)) f c le image)
          (λ isnt. let found = there isnt in
          opening_shows site space count (disk.bytes (disk_of was)) c
          (from_known_images (MayRestore count) era.number (disk.bytes (disk_of was)) (disk.image (disk_of was)) (disk.image (disk_of is)) (λ b. restores_same count b) before.synced
          (works.crash tells found.long) f c le image)
          history lines number active lane isnt before.shows)
          (is_lost lane)

-- all lanes

-- the pages of a space by its head
pub pages_here : (heads : List SpaceHead) (spaces : List Space) (n : ℕ) (head : SpaceHead) → spaces ≡ map space_in heads → slice_get heads n ≡ Some head
    → pages_of_space spaces n ≡ head.pages
pages_here heads spaces n head same there =
    ap (λ (l : List Space). pages_of_space l n) same ∙ ap pages_of_option (slice_get-map space_in heads n ∙ ap (option_map space_in) there)

pub there_is : {X : Type 0} (xs : List X) (n : ℕ) → n < length xs → (x : X) × (slice_get xs n ≡ Some x)
there_is [] n lt = absurd (omega (arith, lt))
there_is (x ∷ xs) zero lt = (x, refl)
there_is (x ∷ xs) (suc n) lt = there_is xs n (omega (arith, lt))

module _ {D : Type 0} (disk : Ghosts D) (tells : IsTrue disk.is_modelled) (era : EraView) (head : Head) (heads : List SpaceHead) (history : History) (lines : List Line) (number : ℕ)
    (active : Option Active) (lanes : List LaneState) (old new : List (Lane D)) where
  -- Each value is that of its space; what a read of each chunk gives shows its lane, and is all that a crash from this era on leaves.
  pub record AreSyncedLanes : Type 0 where
    pub spaces : head.spaces ≡ map space_in heads
    pub count : length lanes ≡ length heads
    pub enough : length heads ≤ length old
    pub as_many : length new ≡ length old
    pub each : (n : ℕ) (lane : LaneState) (value : Lane D) → slice_get lanes n ≡ Some lane → slice_get old n ≡ Some value
        → IsSyncedLane disk tells era head.site (pages_of_space head.spaces n) history lines number active n lane value value

  module _ (before : AreSyncedLanes) where
    -- what holds of each lane, by its space's head
    by_head : (P : ℕ → Lane D → Lane D → Type 0) → OfSpaces heads P old new → (n : ℕ) (lane : LaneState) (was is : Lane D) → slice_get lanes n ≡ Some lane
        → slice_get old n ≡ Some was → slice_get new n ≡ Some is → P (pages_of_space head.spaces n) was is
    by_head P each n lane was is of_lane there behind =
        let has = there_is heads n (omega (arith, slice_get_within lanes n lane of_lane, before.count)) in
        subst (λ (pages : ℕ). P pages was is) (sym (pages_here heads head.spaces n has.0 before.spaces has.1)) (each n has.0 was is has.1 there behind)

    -- Once all were tried, the values agree with the lanes.
    pub opened_agree : OfSpaces heads (HasCome disk era head.site) old new → OfSpaces heads (Works disk era head.site) old new
        → LanesAgree disk (era.number + 1) head number active lanes new
    opened_agree came works = record {
      enough = omega (arith, before.count, before.enough, before.as_many);
      each = λ n lane is of_lane behind.
          let has = there_is old n (omega (arith, slice_get_within lanes n lane of_lane, before.count, before.enough)) in
          let shown = before.each n lane has.0 of_lane has.1 in
          one_agrees disk tells era head.site (pages_of_space head.spaces n) history lines number active n lane has.0 is
          (record { space_is = shown.space_is; shows = shown.shows; synced = shown.synced })
          (by_head (Works disk era head.site) works n lane has.0 is of_lane has.1 behind)
          (by_head (HasCome disk era head.site) came n lane has.0 is of_lane has.1 behind);
    }
