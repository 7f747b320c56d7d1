-- What chunks show while lanes go on together, each at a place of its own.
use Rattle.std.specs.Prelude.{◌≡◌, ℕ, zero, suc, ◌+◌, ◌<◌, List, [], ◌∷◌, length, slice_get, Option, Some}
use Rattle.std.proofs.Common.{arith, sym, ap, subst, ◌∙◌}
use Rattle.site_model.specs.declared.disk_name.DiskName.{DiskName}
use Rattle.site_model.specs.declared.disk_name.DiskName.TheVariants.{Chunk}
use Rattle.site_worlds.specs.Worlds.{LaneState, Site}
use Rattle.site_worlds.specs.Lanes.{pages_of_space}
use Rattle.site_layouts.specs.Stores.{Held}
use Rattle.site_layouts.specs.Chunks.{HoldsLane, ShowsChunk}
use Rattle.site_layouts.specs.Layouts.{ShowsSite}

-- the lanes of so many chunks from one on, each in the state that is chosen for it
abbrev pub lanes_from : (DiskName → LaneState) → (space count : ℕ) → List LaneState
lanes_from places space zero = []
lanes_from places space (suc count) = places (Chunk space) ∷ lanes_from places (suc space) count

-- a site with each lane in the state that is chosen for its chunk
abbrev pub site_at : Site → (DiskName → LaneState) → Site
site_at site places = record site { lanes = lanes_from places 0 (length site.lanes) }

lane_from : (places : DiskName → LaneState) (space count k : ℕ) → k < count → slice_get (lanes_from places space count) k ≡ Some (places (Chunk (space + k)))
lane_from places space zero k lt = absurd (omega (arith, lt))
lane_from places space (suc count) zero lt = ap (λ (n : ℕ). Some (places (Chunk n))) (omega arith)
lane_from places space (suc count) (suc k) lt =
    lane_from places (suc space) count k (omega (arith, lt)) ∙ ap (λ (n : ℕ). Some (places (Chunk n))) (omega arith)

-- A chunk shows its own lane: it shows a site where it shows the state that is chosen for it, wherever the others are.
pub own_lane : (site : Site) (held : Held) (places : DiskName → LaneState) (n : ℕ) (bytes : List ℕ) → n < length site.lanes
    → HoldsLane site.head.site (pages_of_space site.head.spaces n) site.history site.lines site.number site.active n (places (Chunk n)) bytes
    → ShowsSite (Chunk n) (site_at site places) held bytes
own_lane site held places n bytes lt holds =
    let here : 0 + n ≡ n = omega arith in
    subst (λ (lane : Option LaneState). ShowsChunk site.head site.history site.lines site.number site.active n lane bytes)
    (sym (lane_from places 0 (length site.lanes) n lt ∙ ap (λ (k : ℕ). Some (places (Chunk k))) here)) holds

-- and the other way round
pub own_lane_back : (site : Site) (held : Held) (places : DiskName → LaneState) (n : ℕ) (bytes : List ℕ) → n < length site.lanes
    → ShowsSite (Chunk n) (site_at site places) held bytes
    → HoldsLane site.head.site (pages_of_space site.head.spaces n) site.history site.lines site.number site.active n (places (Chunk n)) bytes
own_lane_back site held places n bytes lt shows =
    let here : 0 + n ≡ n = omega arith in
    subst (λ (lane : Option LaneState). ShowsChunk site.head site.history site.lines site.number site.active n lane bytes)
    (lane_from places 0 (length site.lanes) n lt ∙ ap (λ (k : ℕ). Some (places (Chunk k))) here) shows

-- two sites that differ in other lanes show the same on a chunk
pub same_lane : (site : Site) (held : Held) (mids others : List LaneState) (n : ℕ) (bytes : List ℕ) → slice_get mids n ≡ slice_get others n
    → ShowsSite (Chunk n) (record site { lanes = mids }) held bytes → ShowsSite (Chunk n) (record site { lanes = others }) held bytes
same_lane site held mids others n bytes same shows =
    subst (λ (lane : Option LaneState). ShowsChunk site.head site.history site.lines site.number site.active n lane bytes) same shows
