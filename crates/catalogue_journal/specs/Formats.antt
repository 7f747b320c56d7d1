-- What a stop within the formatting of the catalogue's disks leaves.
use Rattle.std.specs.Prelude.{◌≡◌, ◌⊎◌, ℕ, ◌≤◌, List, length, drop}
use Rattle.site_disk.specs.Bytes.{extent}
use Rattle.gated_slots.specs.Header.{IsHeader}
use Rattle.site_headers.specs.Headers.{HasHeader}

-- the header is the one from before, and nothing behind its gate has changed
pub record KeepsHeader (old new : List ℕ) : Type 0 where
  pub header : IsHeader old
  pub same : drop 1 new ≡ drop 1 old

-- no header, or the one from before with nothing changed behind its gate
pub record MayUnformat (old new : List ℕ) : Type 0 where
  pub header : IsHeader new → KeepsHeader old new

-- no header, the one from before with nothing changed behind its gate, or the new one whole
pub record MayFormat (tail old new : List ℕ) : Type 0 where
  pub header : IsHeader new → HasHeader tail new ⊎ KeepsHeader old new

-- no header, or the new one whole, and the same behind the page
pub record MayPublish (tail old new : List ℕ) : Type 0 where
  pub header : IsHeader new → HasHeader tail new
  pub elsewhere : (from len : ℕ) → 4096 ≤ from → extent from len new ≡ extent from len old
  pub no_shorter : length old ≤ length new
