-- A mark tells the state of its lane, so a chunk shows one state, unless it is stale.
use Rattle.std.specs.Prelude.{◌≡◌, ℕ, List, Option}
use Rattle.std.proofs.Common.{sym, ap, ◌∙◌}
use Rattle.log_history.specs.History.{History}
use Rattle.backup_lines.specs.declared.lanes.LaneState.{LaneState as State}
use Rattle.backup_lines.specs.Lines.{Line}
use Rattle.backup_lines.specs.Spans.{Active}
use Rattle.space_lane.specs.Chunks.{HasMark as MarkOf}
use Rattle.site_worlds.specs.Worlds.{LaneState, stands, blank, merges, replays, stale, lost}
use Rattle.world_laws.specs.ListLaws.{some_same}
use Rattle.site_layouts.specs.Chunks.{HoldsLane, HoldsMark, lane_of}
use Rattle.site_layouts.specs.MarkLaws.{one_state}

-- the lane has a mark of its own
abbrev pub HasMark : LaneState → Type 0
HasMark stale = ⊥
HasMark lost = ⊥
HasMark lane = Unit {0}

-- bytes have the mark of one state
pub one_mark : (state other : State) (bytes : List ℕ) → MarkOf state bytes → MarkOf other bytes → state ≡ other
one_mark state other bytes mark also = one_state state other mark.fits also.fits (some_same (sym mark.stands ∙ also.stands))

pub marked : (site count : ℕ) (history : History) (lines : List Line) (number : ℕ) (active : Option Active) (space : ℕ) (lane : LaneState) (bytes : List ℕ)
    → HasMark lane → HoldsLane site count history lines number active space lane bytes → HoldsMark site space count lane bytes
marked site count history lines number active space (stands upto part) bytes has shows = shows.holds
marked site count history lines number active space (blank r) bytes has shows = shows.holds
marked site count history lines number active space (merges r chain k n) bytes has shows = shows.holds
marked site count history lines number active space (replays r chain upto part) bytes has shows = shows.holds
marked site count history lines number active space stale bytes has shows = absurd has
marked site count history lines number active space lost bytes has shows = absurd has

-- A chunk shows one state that has a mark.
pub one_lane : (site count : ℕ) (history : History) (lines : List Line) (number : ℕ) (active : Option Active) (space : ℕ) (lane other : LaneState) (bytes : List ℕ)
    → HasMark lane → HasMark other → HoldsLane site count history lines number active space lane bytes
    → HoldsLane site count history lines number active space other bytes → lane ≡ other
one_lane site count history lines number active space lane other bytes has other_has shows also =
    let first = marked site count history lines number active space lane bytes has shows in
    let second = marked site count history lines number active space other bytes other_has also in
    sym first.is ∙ ap lane_of (one_mark first.state second.state bytes first.holds.mark second.holds.mark) ∙ second.is
