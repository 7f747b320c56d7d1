-- The place of a lane's state, and what a chunk shows there.
use Rattle.std.specs.Prelude.{ℕ, List, Option, None, Some}
use Rattle.site_disk.specs.Bytes.{extent}
use Rattle.log_history.specs.History.{History}
use Rattle.log_history.specs.Effects.{Page}
use Rattle.backup_lines.specs.declared.lanes.LaneState.{LaneState}
use Rattle.backup_lines.specs.declared.lanes.LaneState.TheVariants.{At, Blank, Image, Replay}
use Rattle.lane_ways.specs.Pictures.{Picture}
use Rattle.lane_ways.specs.Ways.{Place, lane_pages}
use Rattle.lane_mark.specs.Layout.{spelling}

-- the place of a state; a lane that was emptied or merges images is at none
abbrev pub place_in : LaneState → Option Place
place_in (At upto part) = Some (record { upto = upto; part = part })
place_in (Blank restore) = None
place_in (Image restore chain image entries) = None
place_in (Replay restore chain upto part) = Some (record { upto = upto; part = part })

-- the state at another place, where it is at one
abbrev pub with_place : LaneState → (upto part : ℕ) → LaneState
with_place (At was_upto was_part) upto part = At upto part
with_place (Blank restore) upto part = Blank restore
with_place (Image restore chain image entries) upto part = Image restore chain image entries
with_place (Replay restore chain was_upto was_part) upto part = Replay restore chain upto part

-- the first page of these bytes as the header, the record of the state, and pages at a place
abbrev pub picture_of : (space : ℕ) → LaneState → (upto part : ℕ) → List Page → List ℕ → Picture
picture_of space state upto part pages bytes =
    record { header = extent 0 4096 bytes; record_there = spelling state; space = space; upto = upto; part = part; pages = pages }

-- what a lane on its way to n shows at a place: the state there, and so many pages
abbrev pub picture_at : History → (n space count : ℕ) → LaneState → (upto part : ℕ) → List ℕ → Picture
picture_at history n space count state upto part bytes =
    picture_of space (with_place state upto part) upto part (lane_pages history n space upto part count) bytes
