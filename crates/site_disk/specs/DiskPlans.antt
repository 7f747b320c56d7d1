-- Which calls of a disk in memory fail: those that a list names, and all from a stop on.
use Rattle.std.specs.Prelude.{ℕ, zero, suc, ◌⊎◌, List, [], take}
use Rattle.site_disk.specs.declared.memory.plan.Stop.{Stop}
use Rattle.site_disk.specs.declared.memory.plan.Stop.TheVariants.{Never, After, Past}
use Rattle.site_disk.specs.declared.memory.plan.Fate.{Fate}
use Rattle.site_disk.specs.declared.memory.plan.Fate.TheVariants.{Goes, Fails, Stops}
use Rattle.site_disk.specs.declared.memory.plan.DiskPlan.{DiskPlan}
use Rattle.site_disk.specs.Plans.{planned_from_now, FailsNext, counted_on}

-- the next call is the one that stops, or a later one
abbrev pub IsStopped : Stop → Type 0
IsStopped Never = ⊥
IsStopped (After zero bytes) = Unit {0}
IsStopped (After (suc calls) bytes) = ⊥
IsStopped Past = Unit {0}

-- the next call is one that fails
abbrev pub CallFails : DiskPlan → Type 0
CallFails plan = FailsNext plan.fail ⊎ IsStopped plan.stop

-- no call fails
abbrev pub no_failures : DiskPlan
no_failures = record { fail = planned_from_now []; stop = Never }

-- a stop at a call, counted from 1
abbrev pub stop_from_now : ℕ → ℕ → Stop
stop_from_now zero bytes = Past
stop_from_now (suc calls) bytes = After calls bytes

-- the stop once the next call was made
abbrev pub stop_after : Stop → Stop
stop_after Never = Never
stop_after (After zero bytes) = Past
stop_after (After (suc calls) bytes) = After calls bytes
stop_after Past = Past

-- the plan once the next call was made
abbrev pub plan_after : DiskPlan → DiskPlan
plan_after plan = record { fail = counted_on plan.fail; stop = stop_after plan.stop }

-- what the next call puts if it is a write that fails by plan
abbrev pub front_put : Stop → List ℕ → List ℕ
front_put Never piece = []
front_put (After zero bytes) piece = take bytes piece
front_put (After (suc calls) bytes) piece = []
front_put Past piece = []

-- the same of how a call goes
abbrev pub IsFailing : Fate → Type 0
IsFailing Goes = ⊥
IsFailing Fails = Unit {0}
IsFailing (Stops bytes) = Unit {0}

abbrev pub front_of : Fate → List ℕ → List ℕ
front_of Goes piece = []
front_of Fails piece = []
front_of (Stops bytes) piece = take bytes piece
