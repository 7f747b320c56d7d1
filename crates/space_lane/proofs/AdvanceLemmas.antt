-- A lane that stands at a place, and one that was brought to another.
use Rattle.std.proofs.Common.{◌≡◌, ◌∙◌, ◌≤◌, ℕ, List, length, Some, refl, sym, ap, subst}
use Rattle.std.proofs.lemmas.Option.{same_Some}
use Rattle.site_disk.specs.Images.{Seen}
use Rattle.log_history.specs.Effects.{Page}
use Rattle.before_images.specs.Saved.{place_of, restored}
use Rattle.site_headers.specs.Headers.{HasHeader}
use Rattle.site_headers.specs.HeaderLaws.{HasHeader-same}
use Rattle.backup_lines.specs.declared.lanes.LaneState.{LaneState}
use Rattle.backup_lines.specs.declared.lanes.LaneState.TheVariants.{At, Blank, Image, Replay}
use Rattle.lane_ways.specs.Pictures.{Stand, images_at, pages_at}
use Rattle.lane_ways.specs.Ways.{Place}
use Rattle.lane_steps.specs.Moves.{Rests}
use Rattle.lane_advance.specs.Places.{picture_of, place_in, with_place}
use Rattle.space_lane.specs.Chunks.{HoldsState, IsSettled, chunk_tail}
use Rattle.space_lane.specs.Lanes.{IsMade, Stands, TellsOf}
use Rattle.space_lane.specs.declared.lane.Lane.{Lane}
use Rattle.space_lane.proofs.ShowLemmas.{shown}

abbrev pub IsAt : LaneState → ℕ → ℕ → Type 0
IsAt state upto part = place_in state ≡ Some (record { upto = upto; part = part })

-- the state at the place that it is at
pub with_place-same : (state : LaneState) (upto part : ℕ) → IsAt state upto part → with_place state upto part ≡ state
with_place-same (At a b) upto part is = sym (ap (λ (p : Place). At p.upto p.part) (same_Some (record { upto = a; part = b }) (record { upto = upto; part = part }) is))
with_place-same (Blank restore) upto part is = refl
with_place-same (Image restore chain image entries) upto part is = refl
with_place-same (Replay restore chain a b) upto part is =
    sym (ap (λ (p : Place). Replay restore chain p.upto p.part) (same_Some (record { upto = a; part = b }) (record { upto = upto; part = part }) is))

settled_at : (state : LaneState) (upto part count : ℕ) (bytes : List ℕ) → IsAt state upto part → IsSettled state count bytes → restored images_at pages_at count upto part bytes ≡ bytes
settled_at (At a b) upto part count bytes is settled =
    subst (λ (p : Place). restored images_at pages_at count p.upto p.part bytes ≡ bytes) (same_Some (record { upto = a; part = b }) (record { upto = upto; part = part }) is) settled
settled_at (Blank restore) upto part count bytes is settled = absurd cc
settled_at (Image restore chain image entries) upto part count bytes is settled = absurd cc
settled_at (Replay restore chain a b) upto part count bytes is settled =
    subst (λ (p : Place). restored images_at pages_at count p.upto p.part bytes ≡ bytes) (same_Some (record { upto = a; part = b }) (record { upto = upto; part = part }) is) settled

settled_then : (state : LaneState) (upto part count : ℕ) (bytes : List ℕ) → restored images_at pages_at count upto part bytes ≡ bytes → IsSettled (with_place state upto part) count bytes
settled_then (At a b) upto part count bytes is = is
settled_then (Blank restore) upto part count bytes is = refl
settled_then (Image restore chain image entries) upto part count bytes is = refl
settled_then (Replay restore chain a b) upto part count bytes is = is

module _ {D : Type 0} (lane : Lane D) (site count : ℕ) (state : LaneState) (pages : List Page) (size : length pages ≡ count) where
  -- what stands at a place with these pages rests there
  pub rests_at : (upto part : ℕ) (disk : Seen) → IsAt state upto part → Stands site count state disk lane → Stand lane.space 0 pages disk.bytes
      → Rests (picture_of lane.space (with_place state upto part) upto part pages disk.bytes) lane.mark disk
  rests_at upto part disk at stands stand =
      subst (λ (s : LaneState). Rests (picture_of lane.space s upto part pages disk.bytes) lane.mark disk) (sym (with_place-same state upto part at)) (record {
        shows = shown site lane.space upto part state pages disk.bytes
            (subst (λ (k : ℕ). HoldsState site lane.space k state disk.bytes) (sym size) stands.agrees.holds) settled stand;
        settled = settled;
        plain = stand;
        knows = stands.agrees.knows;
        synced = stands.synced;
      })
    where
      settled : restored images_at pages_at (length pages) upto part disk.bytes ≡ disk.bytes
      settled = subst (λ (k : ℕ). restored images_at pages_at k upto part disk.bytes ≡ disk.bytes) (sym size) (settled_at state upto part count disk.bytes at stands.settled)

-- and what rests at a place stands there
pub stands_at : {D : Type 0} (lane : Lane D) (site count : ℕ) (state : LaneState) (pages : List Page) (upto part : ℕ) (first : List ℕ) (disk : Seen) → length pages ≡ count → IsMade lane
    → TellsOf count (with_place state upto part) lane → HasHeader (chunk_tail site lane.space count) first
    → Rests (picture_of lane.space (with_place state upto part) upto part pages first) lane.mark disk → Stands site count (with_place state upto part) disk lane
stands_at lane site count state pages upto part first disk size made tells header rests = record {
  agrees = record {
    made = made;
    tells = tells;
    knows = rests.knows;
    holds = record {
      header = HasHeader-same (chunk_tail site lane.space count) first disk.bytes rests.shows.header header;
      mark = record { fits = tells.fits; stands = rests.shows.mark };
      long = subst (λ (k : ℕ). place_of pages_at k ≤ length disk.bytes) size rests.shows.long;
    };
  };
  synced = rests.synced;
  settled = settled_then state upto part count disk.bytes (subst (λ (k : ℕ). restored images_at pages_at k upto part disk.bytes ≡ disk.bytes) size rests.settled);
}

-- also where the state is told in another way
pub stands_as : {D : Type 0} (lane : Lane D) (site count : ℕ) (state then : LaneState) (pages : List Page) (upto part : ℕ) (first : List ℕ) (disk : Seen) → then ≡ with_place state upto part
    → length pages ≡ count → IsMade lane → TellsOf count (with_place state upto part) lane → HasHeader (chunk_tail site lane.space count) first
    → Rests (picture_of lane.space (with_place state upto part) upto part pages first) lane.mark disk → Stands site count then disk lane
stands_as lane site count state then pages upto part first disk is size made tells header rests =
    subst (λ (s : LaneState). Stands site count s disk lane) (sym is) (stands_at lane site count state pages upto part first disk size made tells header rests)

-- a state that is at a place is at another one once it is moved there
pub moved_at : (state : LaneState) (a b upto part : ℕ) → IsAt state a b → IsAt (with_place state upto part) upto part
moved_at (At was_upto was_part) a b upto part is = refl
moved_at (Blank restore) a b upto part is = absurd (cc is)
moved_at (Image restore chain image entries) a b upto part is = absurd (cc is)
moved_at (Replay restore chain was_upto was_part) a b upto part is = refl

-- a state is at one place

abbrev pub place : ℕ → ℕ → Place
place upto part = record { upto = upto; part = part }

pub one_place : (state : LaneState) (a b upto part : ℕ) → IsAt state a b → IsAt state upto part → place a b ≡ place upto part
one_place state a b upto part at is = same_Some (record { upto = a; part = b }) (record { upto = upto; part = part }) (sym at ∙ is)

-- the same at equal counts, states and places
pub through : (F : ℕ → LaneState → Place → Type 0) (j k : ℕ) (a b : LaneState) (p q : Place) → j ≡ k → a ≡ b → p ≡ q → F j a p → F k b q
through F j k a b p q counts states places is =
    subst (λ (at : Place). F k b at) places (subst (λ (s : LaneState). F k s p) states (subst (λ (i : ℕ). F i a p) counts is))
