-- An opening of lanes is refused as a course is: by the first lane that is lost.
use Rattle.std.specs.Prelude.{◌≡◌, ℕ, zero, suc, ◌+◌, ◌<◌, List, [], ◌∷◌, length, map, slice_get, Option, Some, None, IsTrue}
use Rattle.std.proofs.Common.{arith, refl, sym, ap, subst, ◌∙◌, ⊎_elim}
use Rattle.std.proofs.lemmas.Option.{slice_get_within}
use Rattle.log_history.specs.History.{History}
use Rattle.site_disk.specs.Ledger.{EraView}
use Rattle.site_disk.specs.declared.disk.Disk.{Ghosts}
use Rattle.site_headers.specs.Heads.{Head}
use Rattle.site_headers.specs.declared.heads.SpaceHead.{SpaceHead}
use Rattle.backup_lines.specs.Lines.{Line}
use Rattle.backup_lines.specs.Spans.{Active}
use Rattle.space_lane.specs.declared.lane.Lane.{Lane}
use Rattle.site_lanes.specs.declared.refusals.LanesFault.TheVariants.{ChunkLost, BadMark}
use Rattle.site_lanes.specs.Lanes.{OfSpaces, Explains, IsHeaded, IsOpened}
use Rattle.site_worlds.specs.Worlds.{LaneState, stands, blank, merges, replays, stale, lost}
use Rattle.site_worlds.specs.Lanes.{pages_of_space}
use Rattle.site_courses.specs.Faults.{Fault, chunk_lost}
use Rattle.site_courses.specs.Courses.{first_lost, if_lost}
use Rattle.site_lane_laws.specs.Agreements.{is_lost}
use Rattle.site_lane_laws.specs.OpeningLaws.{AreSyncedLanes, has_header, has_none, not_bad, pages_here, there_is}

-- the first lane of a list that is lost

if_not_lost : (space : ℕ) (lane : LaneState) (next : Option Fault) → (lane ≡ lost → ⊥) → if_lost space lane next ≡ next
if_not_lost space (stands upto part) next isnt = refl
if_not_lost space (blank restore) next isnt = refl
if_not_lost space (merges restore chain archive entries) next isnt = refl
if_not_lost space (replays restore chain upto part) next isnt = refl
if_not_lost space stale next isnt = refl
if_not_lost space lost next isnt = absurd (isnt refl)

pub first_lost_at : (space : ℕ) (lanes : List LaneState) (n : ℕ) → slice_get lanes n ≡ Some lost
    → ((k : ℕ) (lane : LaneState) → k < n → slice_get lanes k ≡ Some lane → lane ≡ lost → ⊥) → first_lost space lanes ≡ Some (chunk_lost (space + n))
first_lost_at space [] n there before = absurd cc
first_lost_at space (lane ∷ lanes) zero there before =
    let same : lane ≡ lost = cc in
    let here : space ≡ space + 0 = omega arith in
    ap (λ (l : LaneState). if_lost space l (first_lost (suc space) lanes)) same ∙ ap (λ (k : ℕ). Some (chunk_lost k)) here
first_lost_at space (lane ∷ lanes) (suc n) there before =
    let on : suc space + n ≡ space + suc n = omega arith in
    if_not_lost space lane (first_lost (suc space) lanes) (before 0 lane (omega arith) refl)
    ∙ first_lost_at (suc space) lanes n there (λ k l lt is. before (suc k) l (omega (arith, lt)) is) ∙ ap (λ (k : ℕ). Some (chunk_lost k)) on

pub none_lost : (space : ℕ) (lanes : List LaneState) → ((k : ℕ) (lane : LaneState) → slice_get lanes k ≡ Some lane → lane ≡ lost → ⊥) → first_lost space lanes ≡ None
none_lost space [] none = refl
none_lost space (lane ∷ lanes) none = if_not_lost space lane (first_lost (suc space) lanes) (none 0 lane refl) ∙ none_lost (suc space) lanes (λ k l is. none (suc k) l is)

module _ {D : Type 0} (disk : Ghosts D) (tells : IsTrue disk.is_modelled) (era : EraView) (head : Head) (heads : List SpaceHead) (history : History) (lines : List Line) (number : ℕ)
    (active : Option Active) (lanes : List LaneState) (old new : List (Lane D)) (before : AreSyncedLanes disk tells era head heads history lines number active lanes old new) where
  -- a lane whose chunk has its header isn't lost
  headed_isnt : (n : ℕ) (lane : LaneState) (space : SpaceHead) (value : Lane D) → slice_get lanes n ≡ Some lane → slice_get heads n ≡ Some space → slice_get old n ≡ Some value
      → IsHeaded disk head.site space.pages value → lane ≡ lost → ⊥
  headed_isnt n lane space value of_lane of_head there header same =
      let shown = before.each n lane value of_lane there in
      has_none disk tells era head.site (pages_of_space head.spaces n) history lines number active n lane value value shown same
      (subst (λ (pages : ℕ). IsHeaded disk head.site pages value) (sym (pages_here heads head.spaces n space before.spaces of_head)) header)

  -- The first lane that the answer names as lost is the first lost one of the site.
  pub lost_is_first : (n : ℕ) → Explains disk head.site heads old new (ChunkLost n) → first_lost 0 lanes ≡ Some (chunk_lost n)
  lost_is_first n explains =
      let is = explains tells in
      let lane = there_is lanes n (omega (arith, is.0, before.count)) in
      let space = there_is heads n is.0 in
      let value = there_is old n (omega (arith, is.0, before.enough)) in
      let shown = before.each n lane.0 value.0 lane.1 value.1 in
      let here : 0 + n ≡ n = omega arith in
      let lost_there : lane.0 ≡ lost = ⊎_elim
      (λ same. same)
      (λ isnt. absurd (is.1 space.0 value.0 space.1 value.1
      (subst (λ (pages : ℕ). IsHeaded disk head.site pages value.0) (pages_here heads head.spaces n space.0 before.spaces space.1)
      (has_header disk tells era head.site (pages_of_space head.spaces n) history lines number active n lane.0 value.0 value.0 shown isnt))))
      (is_lost lane.0) in
      first_lost_at 0 lanes n (lane.1 ∙ ap (λ (l : LaneState). Some l) lost_there)
      (λ k l lt of_lane.
      let h = there_is heads k (omega (arith, lt, is.0)) in
      let v = there_is old k (omega (arith, lt, is.0, before.enough)) in
      headed_isnt k l h.0 v.0 of_lane h.1 v.1 (is.2 k lt h.0 v.0 h.1 v.1))
      ∙ ap (λ (k : ℕ). Some (chunk_lost k)) here

  -- No mark of a site's lane is bad.
  pub none_is_bad : (n : ℕ) → Explains disk head.site heads old new (BadMark n) → ⊥
  none_is_bad n explains =
      let is = (explains tells).1 in
      let lane = there_is lanes n (omega (arith, is.0, before.count)) in
      let space = there_is heads n is.0 in
      let value = there_is old n (omega (arith, is.0, before.enough)) in
      let shown = before.each n lane.0 value.0 lane.1 value.1 in
      let bad = is.1 space.0 value.0 space.1 value.1 in
      not_bad disk tells era head.site (pages_of_space head.spaces n) history lines number active n lane.0 value.0 value.0 shown bad.none
      (subst (λ (pages : ℕ). IsHeaded disk head.site pages value.0) (sym (pages_here heads head.spaces n space.0 before.spaces space.1)) bad.header)

  -- Where all are opened, none is lost.
  pub none_is_lost : OfSpaces heads (IsOpened disk era head.site) old new → first_lost 0 lanes ≡ None
  none_is_lost opened = none_lost 0 lanes (λ k l of_lane.
      let lt : k < length heads = omega (arith, slice_get_within lanes k l of_lane, before.count) in
      let h = there_is heads k lt in
      let v = there_is old k (omega (arith, lt, before.enough)) in
      let w = there_is new k (omega (arith, lt, before.enough, before.as_many)) in
      let one = opened k h.0 v.0 w.0 h.1 v.1 w.1 in
      headed_isnt k l h.0 v.0 of_lane h.1 v.1 (one.header tells))
