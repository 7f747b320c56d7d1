use Rattle.std.proofs.lemmas.Result.{err_from_is_err_and}
use Rattle.log_files.specs.Files.{with_next, with_place}
use Rattle.log_record.specs.Entry.{history_of}
use Rattle.site_core.specs.AppendLaws.{next_cut, next_done, next_room}
use Rattle.site_core.specs.Faults.{fault_of}
use Rattle.site_core.specs.Layers.{layers}
use Rattle.site_core.proofs.site.Site.put_in_next.Goals as goal

pub returns-in_err-open_next_file-clause-appends : goal.returns-in_err-open_next_file-clause-appends
returns-in_err-open_next_file-clause-appends g c tells =
    let fault = c.in_err-open_next_file.field-0.0 in
    let p = err_from_is_err_and c.from_residual.result c.from_residual.ensures.1 in
    next_cut (layers g.D.Disk) (history_of c.args.batch.now) 2 c.args.era.now.number c.open_next_file.new.era.number c.args.self.now c.open_next_file.new.self
    fault c.from_residual.result p.0 p.1 p.2
    (c.in_err-open_next_file.ensures.opens tells)

pub put_batch-requires-clause-room : goal.put_batch-requires-clause-room
put_batch-requires-clause-room g c others told =
    let files = c.requires.opened.files in
    let tells = c.requires.opened.tells in
    next_room files others c.open_next_file.new.self.log _ c.requires.few (c.requires.positions files tells) (c.in_ok-open_next_file.ensures.told files tells) told

pub returns-clause-told : goal.returns-clause-told
returns-clause-told g c files tells = c.put_batch.ensures.told (with_next (with_place files)) (c.in_ok-open_next_file.ensures.told files tells)

pub returns-clause-appends : goal.returns-clause-appends
returns-clause-appends g c tells =
    next_done (layers g.D.Disk) (history_of c.args.batch.now) 2 c.args.era.now.number c.open_next_file.new.era.number c.args.self.now c.open_next_file.new.self
    c.put_batch.new.era.number c.put_batch.new.self (fault_of c.put_batch.result)
    (c.in_ok-open_next_file.ensures.opens tells) (c.put_batch.ensures.appends tells)
