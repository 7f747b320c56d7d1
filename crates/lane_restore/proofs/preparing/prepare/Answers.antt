use Rattle.std.specs.Prelude.{Result, Ok, Err, OnOk}
use Rattle.std.specs.Result.{is_err}
use Rattle.std.proofs.Common.{◌≡◌, false, sym, ◌∙◌}
use Rattle.site_disk.specs.Images.{OnlyAfter}
use Rattle.site_disk.specs.declared.faults.Failed.{Failed}
use Rattle.space_lane.specs.Lanes.{disk_of}
use Rattle.lane_restore.proofs.preparing.prepare.Goals as goal

at_ok : (r : Result (Unit {0}) Failed) (P : Type 0) → false ≡ is_err r → OnOk r P → P
at_ok (Ok x) P is holds = holds
at_ok (Err e) P is holds = absurd (let no : ⊥ = cc in no)

pub returns-else-is_err-clause-durable : goal.returns-else-is_err-clause-durable
returns-else-is_err-clause-durable g c tells going =
    at_ok c.format.result (OnlyAfter c.args.era.now.number (g.D.Disk.bytes (disk_of c.format.new.self)) (g.D.Disk.image (disk_of c.format.new.self)))
    (sym c.if-is_err.false ∙ c.is_err.ensures.value) (c.format.ensures.durable tells)
