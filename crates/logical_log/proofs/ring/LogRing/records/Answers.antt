use Rattle.site_disk.specs.Seen.{seen}
use Rattle.log_record.specs.Entry.{history_of}
use Rattle.logical_log.proofs.RecordsLemmas.{same_records, only_failures, both_if_ok, still}
use Rattle.logical_log.proofs.ring.LogRing.records.Goals as goal

pub returns-in-Some-clause-records : goal.returns-in-Some-clause-records
returns-in-Some-clause-records g c tells site files stands =
    let placed = c.in-Some.ensures.placed files stands.tells.fits stands.tells.held in
    both_if_ok c.read_file.result (λ records fits spelled. same_records site files _ stands.now c.args.file c.in-Some.first c.in-Some.count placed (history_of records.items) fits spelled)
    c.read_file.ensures.fits (c.read_file.ensures.spelled tells)

pub returns-in-Some-clause-stands : goal.returns-in-Some-clause-stands
returns-in-Some-clause-stands g c tells site files stands =
    still c.read_file.result site files (seen g.D.Disk c.args.self.now.disk) (seen g.D.Disk c.read_file.new.disk) c.args.self.now c.read_file.new.disk stands
    c.read_file.ensures.ledger.no_earlier c.read_file.ensures.bytes c.read_file.ensures.images

pub returns-in-Some-clause-sound : goal.returns-in-Some-clause-sound
returns-in-Some-clause-sound g c tells site files stands =
    let placed = c.in-Some.ensures.placed files stands.tells.fits stands.tells.held in
    only_failures site files _ stands.now c.args.file c.in-Some.first c.in-Some.count placed c.read_file.result c.read_file.ensures.only (c.read_file.ensures.bad tells)
