use Rattle.log_record.specs.Entry.{history_of}
use Rattle.walks.specs.Courses.{make}
use Rattle.site_courses.specs.Appending.{append_course, wants_next}
use Rattle.site_core.specs.AppendLaws.{takes_next}
use Rattle.site_core.specs.Appending.{MayMake, TakesBatch, next_batch_moves}
use Rattle.site_core.specs.CallLaws.{by_another}
use Rattle.site_core.specs.Faults.{fault_of}
use Rattle.site_core.specs.Layers.{layers}
use Rattle.site_core.proofs.site.Site.append_to_next.Goals as goal

pub returns-clause-appends : goal.returns-clause-appends
returns-clause-appends g c tells =
    let records = history_of c.args.batch.now in
    by_another (layers g.D.Disk) (MayMake (next_batch_moves records)) (TakesBatch wants_next records) 2 c.args.era.now.number c.put_in_next.new.era.number c.args.self.now c.put_in_next.new.self
    (λ site. make (next_batch_moves records site)) (append_course records) (fault_of c.put_in_next.result) (takes_next records) (c.put_in_next.ensures.appends tells)
