use Rattle.std.proofs.Common.{◌∙◌}
use Rattle.site_headers.specs.Views.{head_of}
use Rattle.catalogue_replay.specs.Places.{area_of}
use Rattle.catalogue_journal.specs.Catalogues.{cat_of, spare_of, capacity_of}
use Rattle.init_command.proofs.LookLemmas.{told_tells, opened_tells, of_sync, quiet_twice}
use Rattle.init_command.proofs.entering.has_header.Goals as goal
use Rattle.init_command.proofs.entering.has_header.Goals.{in-Ok, in-Err-open}

pub returns-clause-told : goal.returns-clause-told
returns-clause-told g c tells =
    let bytes = g.D.Disk.bytes (cat_of c.sync.new.self) in
    let spare = g.D.Disk.bytes (spare_of c.sync.new.self) in
    elim c.match-open.branch [
      | in-Ok w ↦ of_sync _ c.match-open.result bytes _ w.result-is c.in_default.ensures.bytes
          (opened_tells (head_of w.in-Ok.field-0) bytes (w.in-Ok.ensures.head tells).0 (w.in-Ok.ensures.head tells).1)
      | in-Err-open w ↦ of_sync _ c.match-open.result bytes _ (w.result-is ∙ w.told-in-Err-open.ensures) c.in_default.ensures.bytes
          (told_tells (area_of (capacity_of c.sync.new.self)) bytes spare w.in-Err-open.fault (w.in-Err-open.ensures.bad tells))
    ]

pub returns-clause-crash : goal.returns-clause-crash
returns-clause-crash g c =
    quiet_twice c.args.era.now.number _ (g.D.Disk.image (cat_of c.args.cat.now)) (g.D.Disk.image (cat_of c.sync.new.self)) (g.D.Disk.image (cat_of c.open.new.self))
    c.requires.era.not_past (g.met.D.Disk.now_counts (cat_of c.args.cat.now)) c.sync.ensures.crash c.open.ensures.crash

pub returns-clause-spare_crash : goal.returns-clause-spare_crash
returns-clause-spare_crash g c =
    quiet_twice c.args.era.now.number _ (g.D.Disk.image (spare_of c.args.cat.now)) (g.D.Disk.image (spare_of c.sync.new.self)) (g.D.Disk.image (spare_of c.open.new.self))
    c.requires.spare_era.not_past (g.met.D.Disk.now_counts (spare_of c.args.cat.now)) c.sync.ensures.spare_crash c.open.ensures.spare_crash
