-- What a stop within the formatting of the boot file's disk leaves.
use Rattle.std.specs.Prelude.{◌≡◌, ◌⊎◌, ℕ, List, [], drop, None}
use Rattle.gated_slots.specs.Header.{IsHeader}
use Rattle.boot_file.specs.Places.{HoldsBoot}

-- the header is the one from before, and nothing behind its gate has changed
pub record KeepsHeader (old new : List ℕ) : Type 0 where
  pub header : IsHeader old
  pub same : drop 1 new ≡ drop 1 old

-- no header, or the one from before with nothing changed behind its gate
pub record MayUnformat (old new : List ℕ) : Type 0 where
  pub header : IsHeader new → KeepsHeader old new

-- no header, the one from before with nothing changed behind its gate, or the new boot file whole
pub record MayFormat (site : ℕ) (old new : List ℕ) : Type 0 where
  pub header : IsHeader new → HoldsBoot site [] 0 None new ⊎ KeepsHeader old new
