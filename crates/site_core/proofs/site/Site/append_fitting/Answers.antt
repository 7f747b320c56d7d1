use Rattle.log_record.specs.Entry.{history_of}
use Rattle.walks.specs.Courses.{make}
use Rattle.site_courses.specs.Appending.{append_course, fits}
use Rattle.site_core.specs.AppendLaws.{takes_fitting}
use Rattle.site_core.specs.Appending.{MayMake, TakesBatch, batch_moves}
use Rattle.site_core.specs.CallLaws.{by_another}
use Rattle.site_core.specs.Faults.{fault_of}
use Rattle.site_core.specs.Layers.{layers}
use Rattle.site_core.proofs.site.Site.append_fitting.Goals as goal

pub returns-clause-appends : goal.returns-clause-appends
returns-clause-appends g c tells =
    let records = history_of c.args.batch.now in
    by_another (layers g.D.Disk) (MayMake (batch_moves records)) (TakesBatch fits records) 2 c.args.era.now.number c.put_batch.new.era.number c.args.self.now c.put_batch.new.self
    (λ site. make (batch_moves records site)) (append_course records) (fault_of c.put_batch.result) (takes_fitting records) (c.put_batch.ensures.appends tells)
