-- The moves by which records come into a site's log, and when they may be made.
use Rattle.std.specs.Prelude.{◌≡◌, ℕ, List, [], ◌∷◌, ◌++◌, length, Option, None, Some}
use Rattle.log_history.specs.History.{LogEntry}
use Rattle.site_worlds.specs.Worlds.{Ring, Site}
use Rattle.site_worlds.specs.Moves.{Move, append_batch}
use Rattle.site_worlds.specs.Allowed.{HasRing}
use Rattle.world_laws.specs.KeptLaws.{CanAll}
use Rattle.site_courses.specs.Appending.{Room, is_ring_full, room}
use Rattle.course_laws.specs.AppendingLaws.{IsReadyFor}
use Rattle.ring_laws.specs.Rings.{opening}

-- the log is there, and moves may be made one after another
pub record MayMake (moves : Site → List Move) (site : Site) : Type 0 where
  pub has : HasRing site
  pub can : CanAll (moves site) site

-- the batch alone
abbrev pub batch_moves : List LogEntry → Site → List Move
batch_moves records site = append_batch records ∷ []

-- those that make the next file the current one
abbrev pub next_of_ring : List ℕ → Option Ring → List Move
next_of_ring starts None = []
next_of_ring starts (Some ring) = opening (is_ring_full starts ring)

abbrev pub next_moves : Site → List Move
next_moves site = next_of_ring site.starts site.ring

-- and the batch behind them
abbrev pub next_batch_moves : List LogEntry → Site → List Move
next_batch_moves records site = next_moves site ++ append_batch records ∷ []

-- A batch may come, with no restore under way, and the whole history gives this answer on room for it.
pub record TakesBatch (answer : Room) (records : List LogEntry) (site : Site) : Type 0 where
  pub ready : IsReadyFor (records ∷ []) site
  pub answer_is : room site.history site.starts ready.has.ring (length records) ≡ answer
