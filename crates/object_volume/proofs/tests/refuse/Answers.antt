use Rattle.std.proofs.Common.{Err, ap, sym, subst}
use Rattle.std.specs.Prelude.{true}
use Rattle.site_disk.specs.MemDisk.{disk_bytes}
use Rattle.object_volume.specs.Volumes.{IsSending}
use Rattle.object_volume.proofs.tests.refuse.Goals as goal

pub returns-in-Err-StoreFull-clause-begun : goal.returns-in-Err-StoreFull-clause-begun
returns-in-Err-StoreFull-clause-begun c =
    subst (λ v. IsSending true disk_bytes v) (sym (c.in-Err-StoreFull.ensures.refused (ap Err c.in-Err-StoreFull.field-0-is))) c.requires.begun
