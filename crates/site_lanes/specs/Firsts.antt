-- The first spaces whose lanes are refused.
use Rattle.std.specs.Prelude.{◌≡◌, ℕ, ◌<◌, Option, None, Some, Result, Ok, Err}
use Rattle.space_lane.specs.declared.faults.LaneFault.{LaneFault}
use Rattle.space_lane.specs.declared.faults.LaneFault.TheVariants.{ChunkLost as LostChunk, BadMark as NoMark, BadPage, Failed as DiskFailed}
use Rattle.site_lanes.specs.declared.refusals.LanesFault.{LanesFault}
use Rattle.site_lanes.specs.declared.refusals.LanesFault.TheVariants.{ChunkLost, BadMark, Failed}
use Rattle.site_lanes.specs.declared.refusals.Opening.{Opening}
use Rattle.site_lanes.specs.declared.refusals.Opening.TheVariants.{Opened, Lost, Bad}
use Rattle.site_lanes.specs.declared.refusals.Refusals.{Refusals}

-- what the opening of a lane came to, by its answer
abbrev pub CameBy : {T : Type 0} → ℕ → Result T LaneFault → Result Opening LanesFault → Type 0
CameBy space (Ok done) answer = answer ≡ Ok Opened
CameBy space (Err LostChunk) answer = answer ≡ Ok Lost
CameBy space (Err NoMark) answer = answer ≡ Ok Bad
CameBy space (Err (BadPage page)) answer = answer ≡ Err (Failed space)
CameBy space (Err DiskFailed) answer = answer ≡ Err (Failed space)

-- a number, unless one is there
abbrev pub first_of : ℕ → Option ℕ → Option ℕ
first_of space None = Some space
first_of space (Some first) = Some first

-- one opening more
abbrev pub Notes : ℕ → Opening → Refusals → Refusals → Type 0
Notes space Opened old new = new ≡ old
Notes space Lost old new = new ≡ record old { lost = first_of space old.lost }
Notes space Bad old new = new ≡ record old { bad = first_of space old.bad }

-- the answer that it gives
abbrev pub Tells : {T : Type 0} → Refusals → Result T LanesFault → Type 0
Tells found (Ok done) = (found.lost ≡ None) × (found.bad ≡ None)
Tells found (Err (ChunkLost space)) = found.lost ≡ Some space
Tells found (Err (BadMark space)) = (found.lost ≡ None) × (found.bad ≡ Some space)
Tells found (Err (Failed space)) = ⊥

-- the first number below an end of which this holds; of those before it, or of all where there is none, the other holds
abbrev pub IsFirst : (P Q : ℕ → Type 0) → ℕ → Option ℕ → Type 0
IsFirst P Q end None = (k : ℕ) → k < end → Q k
IsFirst P Q end (Some n) = (n < end) × P n × ((k : ℕ) → k < n → Q k)
