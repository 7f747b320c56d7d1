-- What a stop within the formatting of the log's disk leaves.
use Rattle.std.specs.Prelude.{◌≡◌, ◌⊎◌, ℕ, List, drop}
use Rattle.gated_slots.specs.Header.{IsHeader}
use Rattle.log_files.specs.Files.{LogFiles}
use Rattle.log_files.specs.Ring.{HoldsRing}

-- the header is the one from before, and nothing behind its gate has changed
pub record KeepsHeader (old new : List ℕ) : Type 0 where
  pub header : IsHeader old
  pub same : drop 1 new ≡ drop 1 old

-- no header, or the one from before with nothing changed behind its gate
pub record MayUnformat (old new : List ℕ) : Type 0 where
  pub header : IsHeader new → KeepsHeader old new

-- no header, the one from before with nothing changed behind its gate, or the new log whole
pub record MayFormat (site : ℕ) (files : LogFiles) (old new : List ℕ) : Type 0 where
  pub header : IsHeader new → HoldsRing site files new ⊎ KeepsHeader old new
