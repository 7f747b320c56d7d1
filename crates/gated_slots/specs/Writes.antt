-- What a stop within a write of two steps leaves.
use Rattle.std.specs.Prelude.{◌⊎◌, ℕ, ◌≤◌, List, [], ◌∷◌, length}
use Rattle.site_disk.specs.Bytes.{written, Torn}

-- a batch, and then its gate
abbrev pub with_batch : ℕ → List ℕ → ℕ → List ℕ → List ℕ
with_batch at batch gate bytes = written gate (1 ∷ []) (written at batch bytes)

-- a part of the batch, or the whole of it and any byte as its gate
abbrev pub MayAdd : ℕ → List ℕ → ℕ → List ℕ → List ℕ → Type 0
MayAdd at batch gate old new =
    Torn at (length batch) old new ⊎ ((at ≤ length old) × Torn gate 1 (written at batch old) new)
