use Rattle.std.proofs.Common.{ℕ}
use Rattle.site_disk.specs.Images.{Seen}
use Rattle.site_disk.specs.Seen.{seen}
use Rattle.log_record.specs.Entry.{history_of}
use Rattle.log_files.specs.Files.{LogFiles, appended}
use Rattle.log_files.specs.Held.{Tells}
use Rattle.logical_log.specs.Rings.{TellsOf, Stands}
use Rattle.logical_log.specs.declared.ring.LogRing.{LogRing}
use Rattle.log_files.specs.declared.held.HeldFiles.{HeldFiles}
use Rattle.logical_log.proofs.ring.LogRing.put.Goals as goal

-- with room made for a span it tells the same, and stands where it stood
told_with : {D : Type 0} (files : LogFiles) (ring : LogRing D) (held : HeldFiles) → Tells files held → TellsOf files ring → TellsOf files (record ring { held = held })
told_with files ring held told tells = record { fits = tells.fits; held = told; area = tells.area; used = tells.used }

stands_with : {D : Type 0} (site : ℕ) (files : LogFiles) (disk : Seen) (ring : LogRing D) (held : HeldFiles) → Tells files held → Stands site files disk ring
    → Stands site files disk (record ring { held = held })
stands_with site files disk ring held told stands = record {
  made = record { mark = stands.made.mark };
  tells = told_with files ring held told stands.tells;
  knows = stands.knows;
  synced = stands.synced;
  now = stands.now;
}

pub returns-in_err-put_bytes-clause-bound : goal.returns-in_err-put_bytes-clause-bound
returns-in_err-put_bytes-clause-bound g c tells site files stands =
    c.put_bytes.ensures.bound tells site files
    (stands_with site files (seen g.D.Disk c.args.self.now.disk) c.args.self.now c.reserve.new.self (c.reserve.ensures.told files stands.tells.held) stands)

pub returns-clause-end : goal.returns-clause-end
returns-clause-end g c files tells =
    c.end.ensures (appended files (history_of c.args.batch.now))
    (c.in_ok-put_bytes.ensures.told files (told_with files c.args.self.now c.reserve.new.self (c.reserve.ensures.told files tells.held) tells)).held

pub returns-clause-stands : goal.returns-clause-stands
returns-clause-stands g c tells site files stands =
    c.in_ok-put_bytes.ensures.stands tells site files
    (stands_with site files (seen g.D.Disk c.args.self.now.disk) c.args.self.now c.reserve.new.self (c.reserve.ensures.told files stands.tells.held) stands)

pub returns-clause-bound : goal.returns-clause-bound
returns-clause-bound g c tells site files stands =
    c.put_bytes.ensures.bound tells site files
    (stands_with site files (seen g.D.Disk c.args.self.now.disk) c.args.self.now c.reserve.new.self (c.reserve.ensures.told files stands.tells.held) stands)
