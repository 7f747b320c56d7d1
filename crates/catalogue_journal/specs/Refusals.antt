-- What refuses a transaction.
use Rattle.std.specs.Prelude.{◌≡◌, ℕ, ◌+◌, ◌-◌, ◌^◌, ◌<◌, ◌≤◌, min, List, length}
use Rattle.catalogue_replay.specs.Contents.{Contents}
use Rattle.catalogue_journal.specs.Transactions.{Addition, IsWithin, slots_wanted, live_after}
use Rattle.catalogue_replay.specs.declared.faults.CatFault.{CatFault}
use Rattle.catalogue_replay.specs.declared.faults.CatFault.TheVariants.{NotFormatted, BadRecord, CatalogueFull, TooManyObjects, Failed, OutOfMemory}

-- so many objects would be live, and this would be the last copy id: more than there may be. Each number stands still at the last one
-- of its 32 or 64 bits.
pub record AreTooMany (deletions : List ℕ) (additions : List Addition) (before : Contents) (live last : ℕ) : Type 0 where
  pub live_is : live ≡ min (live_after deletions additions before) (2 ^ 32 - 1)
  pub last_is : last ≡ min (before.last + length additions) (2 ^ 64 - 1)
  pub beyond : IsWithin deletions additions before → ⊥

-- so many slots are wanted, more than are left, for objects and ids that there may be
pub record LacksRoom (capacity taken : ℕ) (deletions : List ℕ) (additions : List Addition) (before : Contents) (used wanted : ℕ) : Type 0 where
  pub within : IsWithin deletions additions before
  pub lacking : capacity < taken + slots_wanted deletions additions
  pub used_is : used ≡ taken
  pub wanted_is : wanted ≡ min (slots_wanted deletions additions) (2 ^ 32 - 1)

-- a transaction that isn't refused
pub record HasRoom (capacity taken : ℕ) (deletions : List ℕ) (additions : List Addition) (before : Contents) : Type 0 where
  pub within : IsWithin deletions additions before
  pub room : taken + slots_wanted deletions additions ≤ capacity

-- a commit fails with this: it is a refusal, or the transaction isn't refused
abbrev pub Explains : ℕ → ℕ → List ℕ → List Addition → Contents → CatFault → Type 0
Explains capacity taken deletions additions before NotFormatted = ⊥
Explains capacity taken deletions additions before (BadRecord spare slot) = ⊥
Explains capacity taken deletions additions before (CatalogueFull used wanted) = LacksRoom capacity taken deletions additions before used wanted
Explains capacity taken deletions additions before (TooManyObjects live last) = AreTooMany deletions additions before live last
Explains capacity taken deletions additions before (Failed spare) = HasRoom capacity taken deletions additions before
Explains capacity taken deletions additions before OutOfMemory = HasRoom capacity taken deletions additions before
