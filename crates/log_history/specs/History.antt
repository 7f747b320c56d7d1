-- The history of a site: all records that its logical log has ever held, oldest first.
use Rattle.std.specs.Prelude.{ℕ, zero, suc, List, [], ◌∷◌, ◌++◌, Option, None, slice_get}

-- what a Write carries: bytes for a place in the payload of a page of a space
pub record Patch : Type 0 where
  pub space : ℕ
  pub page : ℕ
  pub offset : ℕ
  pub bytes : List ℕ

-- a record of the logical log
pub data LogEntry : Type 0 where
  begin : (txn : ℕ) → LogEntry
  write : (txn : ℕ) (patch : Patch) → LogEntry
  commit : (txn time : ℕ) → LogEntry
  abort : (txn : ℕ) → LogEntry
  reset : (restore target time : ℕ) → LogEntry

-- oldest first; the x-th, counted from 1, has position x
abbrev pub History : Type 0
History = List LogEntry

-- the record at a position; none stands at 0
abbrev pub entry_at : History → ℕ → Option LogEntry
entry_at history zero = None
entry_at history (suc x) = slice_get history x

-- 1 to n
abbrev pub positions : ℕ → List ℕ
positions zero = []
positions (suc n) = positions n ++ suc n ∷ []
