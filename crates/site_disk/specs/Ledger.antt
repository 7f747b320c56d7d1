-- The numbers that a disk keeps: faults, bytes read and written, eras.
use Rattle.std.specs.Prelude.{◌≡◌, ℕ, ◌+◌, ◌-◌, ◌^◌, ◌≤◌, min, Result, MatchResult, OnOk, OnErr}
use Rattle.site_disk.specs.declared.faults.Failed.{Failed}

-- what contracts see of an era: its number, and the key that ties it to its disks
pub record EraView : Type 0 where
  pub number : ℕ
  pub key : ℕ

-- faults met, bytes read and written so far, the last era used, the last era in which a sync succeeded, the key
pub record Ledger : Type 0 where
  pub faults : ℕ
  pub read : ℕ
  pub written : ℕ
  pub last : ℕ
  pub synced : ℕ
  pub key : ℕ

-- of a disk that was made in an era, with nothing counted yet
abbrev pub new_ledger : ℕ → ℕ → Ledger
new_ledger era key = record { faults = 0; read = 0; written = 0; last = era; synced = era; key = key }

-- a count that stands still at the end of a u64
abbrev pub counted : ℕ → ℕ → ℕ
counted before n = min (before + n) (2 ^ 64 - 1)

-- the disk may be used in this era
pub record MayUse (era : EraView) (ledger : Ledger) : Type 0 where
  pub key : ledger.key ≡ era.key
  pub not_past : ledger.last ≤ era.number
  pub synced : ledger.synced ≤ ledger.last

-- what any call of a layer does to the numbers: at most so many bytes are read and written
pub record Uses (era : EraView) (reads writes : ℕ) (old new : Ledger) : Type 0 where
  pub key : new.key ≡ old.key
  pub no_earlier : old.last ≤ new.last
  pub no_later : new.last ≤ era.number
  pub faults : old.faults ≤ new.faults
  pub read : new.read ≤ old.read + reads
  pub written : new.written ≤ old.written + writes
  pub synced : new.synced ≤ new.last
  pub later : old.synced ≤ new.synced

-- what a call of several eras, the last of which is `to`, does to the numbers; the disk may be used in that era then
pub record Spends (from to : EraView) (reads writes : ℕ) (old new : Ledger) : Type 0 where
  pub eras : from.number ≤ to.number
  pub same_key : to.key ≡ from.key
  pub may : MayUse to new
  pub no_earlier : old.last ≤ new.last
  pub faults : old.faults ≤ new.faults
  pub read : new.read ≤ old.read + reads
  pub written : new.written ≤ old.written + writes
  pub later : old.synced ≤ new.synced

-- a read in this era: its answer is counted, nothing where it failed
pub record CountsRead (era : EraView) (old new : Ledger) (result : Result ℕ Failed) : Type 0 where
  pub key : new.key ≡ old.key
  pub last : new.last ≡ era.number
  pub synced : new.synced ≡ old.synced
  pub written : new.written ≡ old.written
  pub read : MatchResult result (λ n. new.read ≡ counted old.read n) (λ _. new.read ≡ old.read)

-- a write of n bytes in this era: they are counted, also where it failed
pub record CountsWrite (era : EraView) (n : ℕ) (old new : Ledger) : Type 0 where
  pub key : new.key ≡ old.key
  pub last : new.last ≡ era.number
  pub synced : new.synced ≡ old.synced
  pub read : new.read ≡ old.read
  pub written : new.written ≡ counted old.written n

-- a sync in this era
pub record CountsSync {T E : Type 0} (era : EraView) (old new : Ledger) (result : Result T E) : Type 0 where
  pub key : new.key ≡ old.key
  pub last : new.last ≡ era.number
  pub read : new.read ≡ old.read
  pub written : new.written ≡ old.written
  pub synced : OnOk result (new.synced ≡ era.number)
  pub not_synced : OnErr result (new.synced ≡ old.synced)
