-- What the calls of a lane answer.
use Rattle.std.specs.Prelude.{◌≡◌, ℕ}
use Rattle.site_disk.specs.Causes.{Rose}
use Rattle.space_lane.specs.declared.faults.LaneFault.{LaneFault}
use Rattle.space_lane.specs.declared.faults.LaneFault.TheVariants.{ChunkLost, BadMark, BadPage, Failed}

-- what the opening may answer
abbrev pub IsOpening : LaneFault → Type 0
IsOpening ChunkLost = Unit {0}
IsOpening BadMark = Unit {0}
IsOpening (BadPage page) = ⊥
IsOpening Failed = Unit {0}

-- what the reading of a page may answer
abbrev pub IsReading : ℕ → LaneFault → Type 0
IsReading page ChunkLost = ⊥
IsReading page BadMark = ⊥
IsReading page (BadPage other) = other ≡ page
IsReading page Failed = Unit {0}

-- decided by the bytes
abbrev pub IsRefusal : LaneFault → Type 0
IsRefusal ChunkLost = Unit {0}
IsRefusal BadMark = Unit {0}
IsRefusal (BadPage page) = Unit {0}
IsRefusal Failed = ⊥

-- the disk failed only where its count rose
abbrev pub FailsOn : ℕ → ℕ → LaneFault → Type 0
FailsOn before now ChunkLost = Unit {0}
FailsOn before now BadMark = Unit {0}
FailsOn before now (BadPage page) = Unit {0}
FailsOn before now Failed = Rose before now
