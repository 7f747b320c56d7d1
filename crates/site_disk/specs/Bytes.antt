-- Bytes by their places.
use Rattle.std.specs.Prelude.{◌≡◌, ◌⊎◌, ℕ, ◌+◌, ◌-◌, ◌≤◌, max, List, ◌++◌, length, take, drop, replicate}

-- what stands in a range: n bytes from a place on, fewer where the bytes end
abbrev pub extent : ℕ → ℕ → List ℕ → List ℕ
extent at n bytes = take n (drop at bytes)

-- the bytes after a write at a place at most their length
abbrev pub written : ℕ → List ℕ → List ℕ → List ℕ
written at piece bytes = take at bytes ++ piece ++ drop (at + length piece) bytes

-- zero bytes up to a place, where the bytes end before it
abbrev pub filled : ℕ → List ℕ → List ℕ
filled place bytes = bytes ++ replicate (place - length bytes) 0

-- a write that failed: nothing was written, or a front of the piece
abbrev pub MayWrite : ℕ → List ℕ → List ℕ → List ℕ → Type 0
MayWrite at front old new = (new ≡ old) ⊎ (new ≡ written at front old)

-- two ranges have no place in common
abbrev pub Apart : ℕ → ℕ → ℕ → ℕ → Type 0
Apart at n from len = (from + len ≤ at) ⊎ (at + n ≤ from)

-- all ranges apart from one are as before
abbrev pub Elsewhere : ℕ → ℕ → List ℕ → List ℕ → Type 0
Elsewhere at n old new = (from len : ℕ) → Apart at n from len → extent from len new ≡ extent from len old

-- what a write of n bytes may leave that a crash cuts short: any bytes in its range, any length up to its end, the same elsewhere
pub record Torn (at n : ℕ) (old new : List ℕ) : Type 0 where
  pub elsewhere : Elsewhere at n old new
  pub no_shorter : length old ≤ length new
  pub no_longer : length new ≤ max (length old) (at + n)

-- nothing changes
abbrev pub Same : List ℕ → List ℕ → Type 0
Same old new = new ≡ old
