-- A disk in a clause, by the members of its type.
use Rattle.site_disk.specs.declared.disk.Disk.{Ghosts}
use Rattle.site_disk.specs.Images.{Seen}

-- in a clause of a function over a `D: Disk`: `seen D.Disk disk.old`
abbrev pub seen : {D : Type 0} → Ghosts D → D → Seen
seen g disk = record { last = (g.ledger disk).last; bytes = g.bytes disk; images = g.image disk }
