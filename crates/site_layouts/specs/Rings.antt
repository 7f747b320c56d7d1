-- What the log's disk shows: the files that the log of a site holds.
use Rattle.std.specs.Prelude.{ℕ, List, Option, Some, None}
use Rattle.log_history.specs.History.{History}
use Rattle.log_files.specs.Ring.{HoldsRing}
use Rattle.site_headers.specs.Headers.{HasHeader, log_tail}
use Rattle.site_worlds.specs.Worlds.{Ring}
use Rattle.ring_laws.specs.Rings.{files_of}

-- a lost log has no header of the site
abbrev pub ShowsRing : ℕ → List ℕ → History → Option Ring → List ℕ → Type 0
ShowsRing site starts history None bytes = HasHeader (log_tail site) bytes → ⊥
ShowsRing site starts history (Some ring) bytes = HoldsRing site (files_of starts history ring) bytes
