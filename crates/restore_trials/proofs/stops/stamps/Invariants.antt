use Rattle.std.proofs.Common.{◌≡◌}
use Rattle.site_disk.specs.Ledger.{MayUse}
use Rattle.site_disk.specs.MemDisk.{disk_ledger}
use Rattle.space_lane.specs.Lanes.{count_of, disk_of}
use Rattle.restore_trials.proofs.stops.stamps.Given as goal

abbrev pub invariant-loop-page : goal.invariant-loop-page
invariant-loop-page l = record { may : MayUse l.era (disk_ledger (disk_of l.job.lane)); count : count_of l.job.lane ≡ 4 }
