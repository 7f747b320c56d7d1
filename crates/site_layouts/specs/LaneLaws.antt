-- What a lane's value says is what its chunk shows of a site.
use Rattle.std.specs.Prelude.{◌≡◌, ◌⊎◌, ℕ, suc, ◌+◌, ◌<◌, ◌≤◌, List, [], ◌∷◌, length, slice_get, Option, Some}
use mathlib.Core.Logic.{inl, inr}
use Rattle.std.proofs.Common.{arith, refl, sym, ap, subst, ◌∙◌, ⊎_elim}
use Rattle.std.proofs.lemmas.Bool.{cases_lt}
use Rattle.std.proofs.lemmas.List.{length-replicate}
use Rattle.log_history.specs.History.{History}
use Rattle.log_history.specs.Live.{reset_points}
use Rattle.log_history.specs.Effects.{Change, Page, empty_page}
use Rattle.history_laws.specs.LiveLaws.{live_within}
use Rattle.twin_mark.specs.Marks.{record_of}
use Rattle.before_images.specs.Saved.{place_of, restored}
use Rattle.site_headers.specs.Headers.{HasHeader}
use Rattle.site_headers.specs.HeaderLaws.{HasHeader-same}
use Rattle.space_pages.specs.Pages.{brought, empty_pages}
use Rattle.backup_lines.specs.declared.lanes.Chain.{Chain}
use Rattle.backup_lines.specs.declared.lanes.LaneState.{LaneState as State}
use Rattle.backup_lines.specs.declared.lanes.LaneState.TheVariants.{At, Blank, Image, Replay}
use Rattle.backup_lines.specs.Lines.{Line}
use Rattle.backup_lines.specs.Spans.{Active}
use Rattle.backup_lines.specs.Views.{copies_of}
use Rattle.lane_mark.specs.Layout.{FitsState}
use Rattle.lane_ways.specs.Ways.{IsPlace, IsNotBefore, changes_behind, count_of_first, lane_changes, lane_pages}
use Rattle.lane_ways.specs.ListLaws.{behind_none}
use Rattle.lane_ways.specs.ChangesLaws.{way_within}
use Rattle.lane_ways.specs.Pictures.{Shows as ShowsPicture, Stand, images_at, pages_at}
use Rattle.space_lane.specs.Chunks.{HasMark, HoldsState, IsSettled, chunk_tail, settled}
use Rattle.space_lane.specs.Shown.{picture_of}
use Rattle.space_lane.specs.Stops.{MayRestore, MaySettle}
use Rattle.space_lane.proofs.StateLemmas.{settle_keeps}
use Rattle.site_worlds.specs.Worlds.{LaneState, Site, stands, blank, merges, replays, stale, lost}
use Rattle.site_worlds.specs.Fitness.{IsFitSite}
use Rattle.site_worlds.specs.Moves.{IsOnLane}
use Rattle.world_laws.specs.ListLaws.{some_same}
use Rattle.site_layouts.specs.Chunks.{HoldsLane, HoldsMark, HoldsPages, NamesPast, goal_of, lane_of}
use Rattle.site_layouts.specs.TellsLaws.{one_mark}
use Rattle.site_layouts.specs.LanesLaws.{MayStand}
use Rattle.site_layouts.specs.PlaceLaws.{place_fits}
use Rattle.site_layouts.specs.LaneWords.{HaveSettled, IsStateOf, IsThere}

-- a lane at a place

length-brought : (space number : ℕ) (changes : List Change) (pages : List Page) → length (brought space number changes pages) ≡ length pages
length-brought space number changes [] = refl
length-brought space number changes (page ∷ pages) = ap suc (length-brought space (number + 1) changes pages)

length-pages : (history : History) (n space upto part count : ℕ) → length (lane_pages history n space upto part count) ≡ count
length-pages history n space upto part count = length-brought space 0 _ (empty_pages count) ∙ length-replicate count empty_page

module _ (site count : ℕ) (history : History) (lines : List Line) (number : ℕ) (active : Option Active) (space : ℕ) where
  abbrev Holds : LaneState → List ℕ → Type 0
  Holds lane bytes = HoldsLane site count history lines number active space lane bytes

  -- Each image that shows the pages of a place there, under a header of the chunk, shows the lane.
  shown_place : (state : State) (upto part : ℕ) (pages : List Page) (first bytes : List ℕ) → length pages ≡ count → FitsState state
      → HasHeader (chunk_tail site space count) first → ShowsPicture (picture_of space state upto part pages first) bytes
      → HoldsPages site space count (lane_of state) upto part pages bytes
  shown_place state upto part pages first bytes size fits header shows = record {
    holds = record {
      state = state;
      is = refl;
      holds = record {
        header = HasHeader-same (chunk_tail site space count) first bytes shows.header header;
        mark = record { fits = fits; stands = shows.mark };
        long = subst (λ (n : ℕ). place_of pages_at n ≤ length bytes) size shows.long;
      };
    };
    stand = subst (λ (n : ℕ). Stand space 0 pages (restored images_at pages_at n upto part bytes)) size shows.pages;
  }

  pub standing_shows : (upto part : ℕ) (first bytes : List ℕ) → FitsState (At upto part) → HasHeader (chunk_tail site space count) first
      → ShowsPicture (picture_of space (At upto part) upto part (lane_pages history (length history) space upto part count) first) bytes → Holds (stands upto part) bytes
  standing_shows upto part first bytes fits header shows =
      shown_place (At upto part) upto part (lane_pages history (length history) space upto part count) first bytes
      (length-pages history (length history) space upto part count) fits header shows

  pub replaying_shows : (restore upto part : ℕ) (chain : Chain) (first bytes : List ℕ) → FitsState (Replay restore chain upto part) → HasHeader (chunk_tail site space count) first
      → ShowsPicture (picture_of space (Replay restore chain upto part) upto part (lane_pages history (goal_of active) space upto part count) first) bytes
      → Holds (replays restore (copies_of chain) upto part) bytes
  replaying_shows restore upto part chain first bytes fits header shows =
      shown_place (Replay restore chain upto part) upto part (lane_pages history (goal_of active) space upto part count) first bytes
      (length-pages history (goal_of active) space upto part count) fits header shows

-- states of a lane

-- a state by its lane: what is put back for it is put back for its place, and nothing is for one that is at no place

settled_at : (state : State) (upto part count : ℕ) (bytes : List ℕ) → lane_of state ≡ stands upto part → settled state count bytes ≡ restored images_at pages_at count upto part bytes
settled_at (At further more) upto part count bytes is =
    let a : further ≡ upto = cc in let b : more ≡ part = cc in
    ap (λ (u : ℕ). restored images_at pages_at count u more bytes) a ∙ ap (λ (p : ℕ). restored images_at pages_at count upto p bytes) b
settled_at (Blank restore) upto part count bytes is = cc
settled_at (Image restore chain image entries) upto part count bytes is = cc
settled_at (Replay restore chain further more) upto part count bytes is = cc

settled_on : (state : State) (number : ℕ) (copies : List ℕ) (upto part count : ℕ) (bytes : List ℕ) → lane_of state ≡ replays number copies upto part
    → settled state count bytes ≡ restored images_at pages_at count upto part bytes
settled_on (Replay restore chain further more) number copies upto part count bytes is =
    let a : further ≡ upto = cc in let b : more ≡ part = cc in
    ap (λ (u : ℕ). restored images_at pages_at count u more bytes) a ∙ ap (λ (p : ℕ). restored images_at pages_at count upto p bytes) b
settled_on (At further more) number copies upto part count bytes is = cc
settled_on (Blank restore) number copies upto part count bytes is = cc
settled_on (Image restore chain image entries) number copies upto part count bytes is = cc

-- Where a state of such a lane stands, settled, with the pages that the lane has there, the chunk shows the lane.
pub place_shows : (site count : ℕ) (history : History) (lines : List Line) (number : ℕ) (active : Option Active) (space upto part : ℕ) (state : State) (bytes : List ℕ)
    → lane_of state ≡ stands upto part → HoldsState site space count state bytes → IsSettled state count bytes
    → Stand space 0 (lane_pages history (length history) space upto part count) bytes → HoldsLane site count history lines number active space (stands upto part) bytes
place_shows site count history lines number active space upto part state bytes is holds settled_there stand = record {
  holds = record { state = state; is = is; holds = holds };
  stand = subst (Stand space 0 (lane_pages history (length history) space upto part count)) (sym (sym (settled_at state upto part count bytes is) ∙ settled_there)) stand;
}

pub replay_shows : (site count : ℕ) (history : History) (lines : List Line) (number : ℕ) (active : Option Active) (space restore : ℕ) (chain : List ℕ) (upto part : ℕ) (state : State)
    (bytes : List ℕ) → lane_of state ≡ replays restore chain upto part → HoldsState site space count state bytes → IsSettled state count bytes
    → Stand space 0 (lane_pages history (goal_of active) space upto part count) bytes
    → HoldsLane site count history lines number active space (replays restore chain upto part) bytes
replay_shows site count history lines number active space restore chain upto part state bytes is holds settled_there stand = record {
  holds = record { state = state; is = is; holds = holds };
  stand = subst (Stand space 0 (lane_pages history (goal_of active) space upto part count))
      (sym (sym (settled_on state restore chain upto part count bytes is) ∙ settled_there)) stand;
}

-- put back again it is the same
settled_same : (state : State) (count : ℕ) (old new : List ℕ) → MaySettle state count old new → settled state count new ≡ settled state count old
settled_same (At upto part) count old new may = may.back
settled_same (Blank restore) count old new may = may
settled_same (Image restore chain image entries) count old new may = may
settled_same (Replay restore chain upto part) count old new may = may.back

blank_same : (state : State) (restore count : ℕ) (old new : List ℕ) → lane_of state ≡ blank restore → MaySettle state count old new → new ≡ old
blank_same (Blank r) restore count old new is may = may
blank_same (Image r chain image entries) restore count old new is may = may
blank_same (At upto part) restore count old new is may = cc
blank_same (Replay r chain upto part) restore count old new is may = cc

merges_same : (state : State) (restore : ℕ) (copies : List ℕ) (archive entries count : ℕ) (old new : List ℕ) → lane_of state ≡ merges restore copies archive entries
    → MaySettle state count old new → new ≡ old
merges_same (Image r chain image laid) restore copies archive entries count old new is may = may
merges_same (Blank r) restore copies archive entries count old new is may = may
merges_same (At upto part) restore copies archive entries count old new is may = cc
merges_same (Replay r chain upto part) restore copies archive entries count old new is may = cc

-- what an opening finds

-- the mark tells a state of the lane
tells_lane : (site space count : ℕ) (lane : LaneState) (bytes : List ℕ) (holds : HoldsMark site space count lane bytes) (state : State) → HasMark state bytes → lane_of state ≡ lane
tells_lane site space count lane bytes holds state mark = ap lane_of (one_mark state holds.state bytes mark holds.holds.mark) ∙ holds.is

there_by : (site space count number : ℕ) (active : Option Active) (lane other : LaneState) (bytes : List ℕ) (holds : HoldsMark site space count other bytes)
    → ((state : State) → lane_of state ≡ other → IsStateOf number active lane state) → IsThere site space count number active lane bytes
there_by site space count number active lane other bytes holds means = record {
  header = holds.holds.header;
  long = holds.holds.long;
  state = holds.state;
  mark = holds.holds.mark;
  is = λ state mark. means state (tells_lane site space count other bytes holds state mark);
}

module _ (site count : ℕ) (history : History) (lines : List Line) (number : ℕ) (active : Option Active) (space : ℕ) where
  abbrev Found : LaneState → List ℕ → Type 0
  Found lane bytes = HoldsLane site count history lines number active space lane bytes

  -- A chunk that shows a lane which isn't lost can be opened, and has the mark of a state of the lane.
  pub lane_is_there : (lane : LaneState) (bytes : List ℕ) → (lane ≡ lost → ⊥) → Found lane bytes → IsThere site space count number active lane bytes
  lane_is_there (stands upto part) bytes isnt shows = there_by site space count number active (stands upto part) (stands upto part) bytes shows.holds (λ state is. is)
  lane_is_there (blank r) bytes isnt shows = there_by site space count number active (blank r) (blank r) bytes shows.holds (λ state is. is)
  lane_is_there (merges r chain k n) bytes isnt shows = there_by site space count number active (merges r chain k n) (merges r chain k n) bytes shows.holds (λ state is. is)
  lane_is_there (replays r chain upto part) bytes isnt shows =
      there_by site space count number active (replays r chain upto part) (replays r chain upto part) bytes shows.holds (λ state is. is)
  lane_is_there stale bytes isnt shows =
      there_by site space count number active stale shows.lane bytes shows.holds (λ state is. subst (NamesPast number active) (sym is) shows.past)
  lane_is_there lost bytes isnt shows = absurd (isnt refl)

  -- At a place it has the pages of that place, once it is settled for the state that the mark has.
  pub standing_settles : (upto part : ℕ) (bytes : List ℕ) → Found (stands upto part) bytes
      → HaveSettled space count (lane_pages history (length history) space upto part count) bytes
  standing_settles upto part bytes shows state mark =
      subst (Stand space 0 (lane_pages history (length history) space upto part count))
      (sym (settled_at state upto part count bytes (tells_lane site space count (stands upto part) bytes shows.holds state mark))) shows.stand

  pub replaying_settles : (restore : ℕ) (chain : List ℕ) (upto part : ℕ) (bytes : List ℕ) → Found (replays restore chain upto part) bytes
      → HaveSettled space count (lane_pages history (goal_of active) space upto part count) bytes
  replaying_settles restore chain upto part bytes shows state mark =
      subst (Stand space 0 (lane_pages history (goal_of active) space upto part count))
      (sym (settled_on state restore chain upto part count bytes (tells_lane site space count (replays restore chain upto part) bytes shows.holds state mark))) shows.stand

-- within the opening

module _ (site space count : ℕ) (old new : List ℕ) (may : MayRestore count old new) where
  opened_state : (state : State) → HoldsState site space count state old → HoldsState site space count state new
  opened_state state holds =
      let keeps = settle_keeps state count old new (may.settles state holds.mark) in record {
        header = HasHeader-same (chunk_tail site space count) old new (keeps.front 0 4096 (omega arith)) holds.header;
        mark = record { fits = holds.mark.fits; stands = ap record_of (keeps.front 4096 1024 (omega arith)) ∙ holds.mark.stands };
        long = omega (arith, holds.long, keeps.no_shorter);
      }

  opened_mark : (lane : LaneState) → HoldsMark site space count lane old → HoldsMark site space count lane new
  opened_mark lane holds = record { state = holds.state; is = holds.is; holds = opened_state holds.state holds.holds }

  settles : (lane : LaneState) (holds : HoldsMark site space count lane old) → MaySettle holds.state count old new
  settles lane holds = may.settles holds.state holds.holds.mark

  opened_pages : (lane : LaneState) (upto part : ℕ) (pages : List Page)
      → ((state : State) (bytes : List ℕ) → lane_of state ≡ lane → settled state count bytes ≡ restored images_at pages_at count upto part bytes)
      → HoldsPages site space count lane upto part pages old → HoldsPages site space count lane upto part pages new
  opened_pages lane upto part pages settles_so shows =
      let state = shows.holds.state in record {
        holds = opened_mark lane shows.holds;
        stand = subst (Stand space 0 pages)
            (sym (settles_so state old shows.holds.is) ∙ sym (settled_same state count old new (settles lane shows.holds)) ∙ settles_so state new shows.holds.is)
            shows.stand;
      }

  -- A stop within the opening leaves what the chunk shows of any lane that isn't lost.
  pub opening_shows : (history : History) (lines : List Line) (number : ℕ) (active : Option Active) (lane : LaneState) → (lane ≡ lost → ⊥)
      → HoldsLane site count history lines number active space lane old → HoldsLane site count history lines number active space lane new
  opening_shows history lines number active (stands upto part) isnt shows =
      opened_pages (stands upto part) upto part (lane_pages history (length history) space upto part count)
      (λ state bytes is. settled_at state upto part count bytes is) shows
  opening_shows history lines number active (blank r) isnt shows =
      subst (λ (bytes : List ℕ). HoldsLane site count history lines number active space (blank r) bytes)
      (sym (blank_same shows.holds.state r count old new shows.holds.is (settles (blank r) shows.holds))) shows
  opening_shows history lines number active (merges r chain k n) isnt shows =
      subst (λ (bytes : List ℕ). HoldsLane site count history lines number active space (merges r chain k n) bytes)
      (sym (merges_same shows.holds.state r chain k n count old new shows.holds.is (settles (merges r chain k n) shows.holds))) shows
  opening_shows history lines number active (replays r chain upto part) isnt shows =
      opened_pages (replays r chain upto part) upto part (lane_pages history (goal_of active) space upto part count)
      (λ state bytes is. settled_on state r chain upto part count bytes is) shows
  opening_shows history lines number active stale isnt shows =
      record { lane = shows.lane; holds = opened_mark shows.lane shows.holds; past = shows.past }
  opening_shows history lines number active lost isnt shows = absurd (isnt refl)

-- on the way to the end

-- At the end of the way no Write is behind the place.
none_behind : (history : History) (space upto part : ℕ) → length history ≤ upto → IsPlace history (length history) space upto part → (upto ≡ length history) × (part ≡ 0)
none_behind history space upto part le place =
    let within : upto ≤ length history = live_within (reset_points history) (length history) upto place.is_live in
    let same : upto ≡ length history = omega (arith, le, within) in (
      same,
      omega (
        arith,
        subst (λ (u : ℕ). part ≤ count_of_first (changes_behind u (lane_changes history (length history) space))) same place.within,
        ap count_of_first (behind_none (length history) (lane_changes history (length history) space) (way_within history (length history) space)),
      ),
    )

-- a place that isn't before the one where a lane began is on its way to the end
pub place_on_lane : (site : Site) (space from begun upto part : ℕ) → IsPlace site.history (length site.history) space upto part → IsNotBefore from begun upto part
    → IsOnLane site space (stands from begun) (stands (length site.history) 0) (stands upto part)
place_on_lane site space from begun upto part place not_before = ⊎_elim
    (λ lt. inr (inr ((λ same. differs (length site.history) from begun lt same), (not_before, place))))
    (λ ge. let at_end = none_behind site.history space upto part (omega (arith, ge, not_before.0)) place in
    inr (inl (ap (λ (n : ℕ). stands n part) at_end.0 ∙ ap (λ (n : ℕ). stands (length site.history) n) at_end.1)))
    (cases_lt from (length site.history))
  where
    differs : (end before laid : ℕ) → before < end → stands end 0 ≡ stands before laid → ⊥
    differs end before laid lt same = let is : end ≡ before = cc in omega (arith, lt, is)

-- So a chunk that shows such a place with its pages shows the lane there, and the lane may be there.
pub advance_shows : (site : Site) (goals : List LaneState) (count space from begun upto part : ℕ) (first bytes : List ℕ)
    → slice_get site.lanes space ≡ Some (stands from begun) → slice_get goals space ≡ Some (stands (length site.history) 0)
    → IsPlace site.history (length site.history) space upto part → IsNotBefore from begun upto part → IsFitSite site
    → HasHeader (chunk_tail site.head.site space count) first
    → ShowsPicture (picture_of space (At upto part) upto part (lane_pages site.history (length site.history) space upto part count) first) bytes
    → MayStand site goals space (stands upto part) × HoldsLane site.head.site count site.history site.lines site.number site.active space (stands upto part) bytes
advance_shows site goals count space from begun upto part first bytes is goal_is place not_before fit header shows = (
  λ lane goal there goes.
      subst (λ (l : LaneState). IsOnLane site space l goal (stands upto part)) (some_same (sym is ∙ there))
      (subst (λ (g : LaneState). IsOnLane site space (stands from begun) g (stands upto part)) (some_same (sym goal_is ∙ goes))
      (place_on_lane site space from begun upto part place not_before)),
  standing_shows site.head.site count site.history site.lines site.number site.active space upto part first bytes (place_fits site (length site.history) space upto part fit (omega arith) place) header shows,
)
