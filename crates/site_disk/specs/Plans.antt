-- The calls of a device in memory that fail, by their numbers.
use Rattle.std.specs.Prelude.{ℕ, ◌+◌, ◌^◌, nat_lt, List, Option, Some, None, Contains, if◌then◌else◌}

-- the numbers of the calls that fail, and the number of the next call, none once the numbers have run out
pub record Planned : Type 0 where
  pub calls : List ℕ
  pub next : Option ℕ

-- calls are counted from 1
abbrev pub planned_from_now : List ℕ → Planned
planned_from_now calls = record { calls = calls; next = Some 1 }

-- the next call is one that fails
abbrev pub IsNamedBy : List ℕ → Option ℕ → Type 0
IsNamedBy calls None = ⊥
IsNamedBy calls (Some n) = Contains calls n

abbrev pub FailsNext : Planned → Type 0
FailsNext plan = IsNamedBy plan.calls plan.next

-- the number behind a number
abbrev pub number_after : Option ℕ → Option ℕ
number_after None = None
number_after (Some n) = if nat_lt (n + 1) (2 ^ 64) then Some (n + 1) else None

-- the plan once the next call was made
abbrev pub counted_on : Planned → Planned
counted_on plan = record { calls = plan.calls; next = number_after plan.next }
