-- The steps of the work one after another.
use Rattle.std.proofs.Common.{◌≡◌, ℕ, ◌+◌, ◌*◌, ◌<◌, ◌≤◌, List, length, IsTrue, arith}
use Rattle.std.proofs.Math.Nat.{mul-le-mul_left}
use Rattle.site_disk.specs.CallsLaws.{uses_both, uses_more, uses_nothing}
use Rattle.site_disk.specs.declared.disk.Disk.{Ghosts}
use Rattle.std.specs.Prelude.{Err, Ok, OnErr, Result}
use Rattle.site_disk.specs.Causes.{HasCause, Rose}
use Rattle.site_disk.specs.Images.{Leaves, OnlyAfter}
use Rattle.site_disk.specs.Ledger.{EraView, Ledger, MayUse, Uses}
use Rattle.site_disk.specs.Seen.{seen}
use Rattle.log_history.specs.History.{History}
use Rattle.log_history.specs.Effects.{Change}
use Rattle.backup_lines.specs.declared.lanes.LaneState.{LaneState}
use Rattle.twin_mark.specs.Marks.{Knows, MarkView}
use Rattle.before_images.specs.Saved.{place_of}
use Rattle.lane_ways.specs.Pictures.{pages_at}
use Rattle.lane_steps.specs.Moves.{Rests}
use Rattle.lane_advance.specs.Advances.{IsUnderWay, Leads, MayAdvance}
use Rattle.lane_advance.specs.Places.{picture_at}
use Rattle.lane_advance.specs.declared.progress.Progress.{Progress}

-- the disk reaches the end of the pages, the value of the mark knows its slot, and so many steps have written no more
pub record IsBounded {D : Type 0} (disks : Ghosts D) (count : ℕ) (old : D) (taken : ℕ) (mark : MarkView) (new : D) : Type 0 where
  pub long : place_of pages_at count ≤ length (disks.bytes new)
  pub knows : Knows mark (disks.bytes new)
  pub written : (disks.ledger new).written ≤ (disks.ledger old).written + 135427 * taken

-- So far the work is under way, the chunk rests at its place, and stops leave places on the way.
pub record AdvancesSoFar {D : Type 0} (disks : Ghosts D) (era : EraView) (space count : ℕ) (state : LaneState) (upto part to : ℕ) (list : List Change) (was : MarkView) (old : D)
    (progress : Progress) (mark : MarkView) (new : D) : Type 0 where
  pub within : progress.taken ≤ length list
  pub base : mark.base ≡ was.base
  pub under_way : (history : History) (n : ℕ) → Leads history n space count to upto part list → IsUnderWay history n space count upto part list progress
  pub rests : IsTrue disks.is_modelled → (history : History) (n : ℕ) (first : List ℕ) → Leads history n space count to upto part list
      → Rests (picture_at history n space count state upto part first) was (seen disks old)
      → Rests (picture_at history n space count state progress.upto progress.part first) mark (seen disks new)
  pub crash : IsTrue disks.is_modelled → (history : History) (n : ℕ) (first : List ℕ) → Leads history n space count to upto part list
      → Rests (picture_at history n space count state upto part first) was (seen disks old)
      → Leaves era.number (MayAdvance history n space count state upto part first) (disks.image old) (disks.image new)
  pub durable : IsTrue disks.is_modelled → OnlyAfter era.number (disks.bytes old) (disks.image old) → OnlyAfter era.number (disks.bytes new) (disks.image new)
  pub uses : Uses era (131074 * progress.taken) ((295683 + 4096 * count) * progress.taken) (disks.ledger old) (disks.ledger new)
  pub bound : IsTrue disks.is_modelled → place_of pages_at count ≤ length (disks.bytes old) → Knows was (disks.bytes old) → IsBounded disks count old progress.taken mark new

-- what the steps use of a disk

abbrev pub step_writes : ℕ → ℕ
step_writes count = 295683 + 4096 * count

pub uses_first : {era : EraView} {ledger : Ledger} (count taken : ℕ) → MayUse era ledger → Uses era (131074 * taken) (step_writes count * taken) ledger ledger
uses_first count taken may = uses_more (uses_nothing may) (omega arith) (omega arith)

-- so many more of them
one_more : (writes a b : ℕ) → a < b → writes * a + writes ≤ writes * b
one_more writes a b lt = let le : a + 1 ≤ b = omega (arith, lt) in omega (arith, mul-le-mul_left writes le)

pub uses_step : {era : EraView} {old mid new : Ledger} (count taken more : ℕ) → taken < more → Uses era (131074 * taken) (step_writes count * taken) old mid
    → Uses era 131074 (step_writes count) mid new → Uses era (131074 * more) (step_writes count * more) old new
uses_step count taken more lt first second = uses_both first second (omega (arith, lt)) (one_more (step_writes count) taken more lt)

pub uses_end : {era : EraView} {old mid then new : Ledger} (count taken len : ℕ) → taken ≤ len → Uses era (131074 * taken) (step_writes count * taken) old mid
    → Uses era 131074 (step_writes count) mid then → Uses era 2 13059 then new → Uses era (131074 * (len + 2)) (step_writes count * (len + 2)) old new
uses_end count taken len le first second third =
    uses_both (uses_step count taken (taken + 1) (omega arith) first second) third (omega (arith, le))
    (omega (arith, one_more (step_writes count) (taken + 1) (len + 2) (omega (arith, le))))

pub uses_cut : {era : EraView} {old mid new : Ledger} (count taken len : ℕ) → taken ≤ len → Uses era (131074 * taken) (step_writes count * taken) old mid
    → Uses era 131074 (step_writes count) mid new → Uses era (131074 * (len + 2)) (step_writes count * (len + 2)) old new
uses_cut count taken len le first second =
    uses_more (uses_step count taken (taken + 1) (omega arith) first second) (omega (arith, le)) (omega (arith, one_more (step_writes count) (taken + 1) (len + 2) (omega (arith, le))))

-- a failure behind calls that went well

pub cause_of : {T E : Type 0} (before mid now : ℕ) (result : Result T E) → before ≤ mid → mid ≤ now → Rose mid now → HasCause before now result
cause_of {T} {E} before mid now result first second rose = record { later = omega (arith, first, second); failed = by result }
  where
    by : (r : Result T E) → OnErr r (Rose before now)
    by (Ok x) = tt
    by (Err e) = omega (arith, first, rose)

pub cause_again : {T E : Type 0} (before mid now : ℕ) (result : Result T E) → before ≤ mid → HasCause mid now result → HasCause before now result
cause_again {T} {E} before mid now result first cause = record { later = omega (arith, first, cause.later); failed = by result cause.failed }
  where
    by : (r : Result T E) → OnErr r (Rose mid now) → OnErr r (Rose before now)
    by (Ok x) rose = rose
    by (Err e) rose = omega (arith, first, rose)
