-- What may befall a site between commands: chunks are lost, the log's disk is lost, blocks of volumes are damaged.
use Rattle.std.specs.Prelude.{◌≡◌, ◌⊎◌, ℕ, ◌≤◌, List, [], ◌∷◌, map, take, nat_le, if◌then◌else◌, None}
use Rattle.std.specs.List.{AllByRecursion}
use Rattle.site_worlds.specs.Worlds.{LaneState, Site, stands, blank, merges, replays, stale, lost}
use Rattle.site_worlds.specs.Files.{last_logged}

-- each lane stays as it was, or is lost
abbrev pub StayOrAreLost : List LaneState → List LaneState → Type 0
StayOrAreLost [] [] = Unit {0}
StayOrAreLost (lane ∷ lanes) (next ∷ others) = ((next ≡ lane) ⊎ (next ≡ lost)) × StayOrAreLost lanes others
StayOrAreLost lanes others = ⊥

-- Some chunks are lost.
pub record LosesChunks (site other : Site) : Type 0 where
  pub lanes : List LaneState
  pub is : other ≡ record site { lanes = lanes }
  pub each : StayOrAreLost site.lanes lanes

-- Blocks of volumes are damaged: any objects are the damaged ones then. An object that isn't among them reads as its sent bytes.
pub record IsDamaged (site other : Site) : Type 0 where
  pub copies : List ℕ
  pub is : other ≡ record site { store = record site.store { damaged = copies } }
  pub given : AllByRecursion (λ copy. copy ≤ site.store.last) copies

-- the files that begin up to a position
abbrev pub starts_within : ℕ → List ℕ → List ℕ
starts_within end [] = []
starts_within end (start ∷ starts) = if nat_le start end then start ∷ starts_within end starts else []

-- A lane in a state of a restore keeps it, since that goes by the restore's position alone. How far any other one is was known by the log.
abbrev pub lane_without_log : LaneState → LaneState
lane_without_log (stands upto part) = stale
lane_without_log (blank restore) = blank restore
lane_without_log (merges restore chain archive entries) = merges restore chain archive entries
lane_without_log (replays restore chain upto part) = replays restore chain upto part
lane_without_log stale = stale
lane_without_log lost = lost

-- The log's disk is lost, and with it all records behind the last log file that has a line.
abbrev pub without_log : Site → Site
without_log site = record site {
  history = take (last_logged site.lines) site.history;
  starts = starts_within (last_logged site.lines) site.starts;
  ring = None;
  lanes = map lane_without_log site.lanes;
}

pub data Befalls (site other : Site) : Type 0 where
  chunks_lost : (loss : LosesChunks site other) → Befalls site other
  damaged : (damage : IsDamaged site other) → Befalls site other
  log_lost : (is : other ≡ without_log site) → Befalls site other
