-- What follows where a lane's value agrees with a lane.
use Rattle.std.specs.Prelude.{◌≡◌, ℕ, ◌<◌, ◌≤◌, List, length, Option}
use Rattle.std.proofs.Common.{arith, refl, sym, subst}
use Rattle.log_history.specs.History.{History}
use Rattle.site_disk.specs.declared.disk.Disk.{Ghosts}
use Rattle.site_disk.specs.Seen.{seen}
use Rattle.backup_lines.specs.declared.lanes.LaneState.{LaneState as State}
use Rattle.backup_lines.specs.Lines.{Line}
use Rattle.backup_lines.specs.Spans.{Active}
use Rattle.lane_ways.specs.Ways.{lane_pages}
use Rattle.lane_ways.specs.Pictures.{Stand}
use Rattle.space_lane.specs.declared.lane.Lane.{Lane}
use Rattle.space_lane.specs.Chunks.{HasMark, HoldsState}
use Rattle.space_lane.specs.Lanes.{Stands, disk_of, space_of}
use Rattle.site_worlds.specs.Worlds.{LaneState, stands, blank, merges, replays, stale, lost}
use Rattle.site_layouts.specs.Chunks.{HoldsLane, goal_of}
use Rattle.site_layouts.specs.LaneWords.{AgreesWith, IsThere, LaneAgrees, StandsIn}
use Rattle.site_layouts.specs.LaneLaws.{place_shows, replay_shows}

module _ {D : Type 0} (disk : Ghosts D) (site count number : ℕ) (active : Option Active) where
  -- a lane that isn't lost is agreed with by a state of it
  by_state : (lane : LaneState) (value : Lane D) → (lane ≡ lost → ⊥) → StandsIn disk site count number active lane value → AgreesWith disk site count number active lane value
  by_state (stands upto part) value isnt in_state = in_state
  by_state (blank restore) value isnt in_state = in_state
  by_state (merges restore chain archive entries) value isnt in_state = in_state
  by_state (replays restore chain upto part) value isnt in_state = in_state
  by_state stale value isnt in_state = in_state
  by_state lost value isnt in_state = absurd (isnt refl)

  state_by : (lane : LaneState) (value : Lane D) → (lane ≡ lost → ⊥) → AgreesWith disk site count number active lane value → StandsIn disk site count number active lane value
  state_by (stands upto part) value isnt agrees = agrees
  state_by (blank restore) value isnt agrees = agrees
  state_by (merges restore chain archive entries) value isnt agrees = agrees
  state_by (replays restore chain upto part) value isnt agrees = agrees
  state_by stale value isnt agrees = agrees
  state_by lost value isnt agrees = absurd (isnt refl)

  -- A value that agrees from an era on does so from each later one.
  pub agrees_later : (from to space : ℕ) (value : Lane D) (lane : LaneState) → from ≤ to → LaneAgrees disk from site count number active space value lane
      → LaneAgrees disk to site count number active space value lane
  agrees_later from to space value lane le is = record { space_is = is.space_is; earlier = omega (arith, le, is.earlier); agrees = is.agrees }

  -- A value that was opened over bytes that show a lane, and stands on its disk in the state that their mark has, agrees with the lane.
  pub opened_agrees : (from space : ℕ) (value : Lane D) (lane : LaneState) (state : State) (bytes : List ℕ) → space_of value ≡ space
      → (disk.ledger (disk_of value)).last < from → (lane ≡ lost → ⊥) → IsThere site space count number active lane bytes → HasMark state bytes
      → Stands site count state (seen disk (disk_of value)) value → LaneAgrees disk from site count number active space value lane
  opened_agrees from space value lane state bytes of_space earlier isnt there mark stands_there = record {
    space_is = of_space;
    earlier = earlier;
    agrees = by_state lane value isnt (record { state = state; is = there.is state mark; stands = stands_there });
  }

  -- Where what a read gives shows a lane with which the value agrees, so does each image of the eras from there on.
  pub images_show : (history : History) (lines : List Line) (from space : ℕ) (value : Lane D) (lane : LaneState) → (lane ≡ lost → ⊥)
      → LaneAgrees disk from site count number active space value lane → HoldsLane site count history lines number active space lane (disk.bytes (disk_of value))
      → (f : ℕ) (bytes : List ℕ) → from ≤ f → disk.image (disk_of value) f bytes → HoldsLane site count history lines number active space lane bytes
  images_show history lines from space value lane isnt is shows f bytes le image =
      let in_state = state_by lane value isnt is.agrees in
      subst (HoldsLane site count history lines number active space lane)
      (sym (in_state.stands.synced f bytes (omega (arith, le, is.earlier)) image)) shows

  -- what a read gives has the state that the value tells of, under the lane's own space
  held_state : (space : ℕ) (value : Lane D) (lane : LaneState) (in_state : StandsIn disk site count number active lane value) → space_of value ≡ space
      → HoldsState site space count in_state.state (disk.bytes (disk_of value))
  held_state space value lane in_state of_space =
      subst (λ (s : ℕ). HoldsState site s count in_state.state (disk.bytes (disk_of value))) of_space in_state.stands.agrees.holds

  -- With the pages that the site has at a place it shows the lane there.
  pub place_agrees : (history : History) (lines : List Line) (from space upto part : ℕ) (value : Lane D)
      → LaneAgrees disk from site count number active space value (stands upto part)
      → Stand space 0 (lane_pages history (length history) space upto part count) (disk.bytes (disk_of value))
      → HoldsLane site count history lines number active space (stands upto part) (disk.bytes (disk_of value))
  place_agrees history lines from space upto part value is stand =
      place_shows site count history lines number active space upto part is.agrees.state (disk.bytes (disk_of value)) is.agrees.is
      (held_state space value (stands upto part) is.agrees is.space_is) is.agrees.stands.settled stand

  pub replay_agrees : (history : History) (lines : List Line) (from space restore : ℕ) (chain : List ℕ) (upto part : ℕ) (value : Lane D)
      → LaneAgrees disk from site count number active space value (replays restore chain upto part)
      → Stand space 0 (lane_pages history (goal_of active) space upto part count) (disk.bytes (disk_of value))
      → HoldsLane site count history lines number active space (replays restore chain upto part) (disk.bytes (disk_of value))
  replay_agrees history lines from space restore chain upto part value is stand =
      replay_shows site count history lines number active space restore chain upto part is.agrees.state (disk.bytes (disk_of value)) is.agrees.is
      (held_state space value (replays restore chain upto part) is.agrees is.space_is) is.agrees.stands.settled stand
