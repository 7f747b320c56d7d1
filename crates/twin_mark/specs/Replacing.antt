-- A piece behind a gate, replaced.
use Rattle.std.specs.Prelude.{◌⊎◌, ℕ, List, [], ◌∷◌, length}
use Rattle.site_disk.specs.Bytes.{written, Torn}
use Rattle.site_disk.specs.Gates.{shut, MayFill}

-- the gate is closed, the piece is written, and the gate is opened
abbrev pub replaced : ℕ → ℕ → List ℕ → List ℕ → List ℕ
replaced gate place piece bytes = written gate (1 ∷ []) (written place piece (shut gate bytes))

-- what a stop within that leaves, with a sync after each
abbrev pub MayReplace : ℕ → ℕ → List ℕ → List ℕ → List ℕ → Type 0
MayReplace gate place piece old new = MayFill gate place (length piece) old new ⊎ Torn gate 1 (written place piece (shut gate old)) new
