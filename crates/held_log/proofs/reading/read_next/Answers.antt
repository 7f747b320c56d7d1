use Rattle.std.proofs.Common.{◌*◌, ◌%◌, List, length, arith, ap, subst, ◌∙◌}
use Rattle.std.proofs.lemmas.Result.{err_from_is_err_and}
use Rattle.log_history.specs.History.{History}
use Rattle.log_record.specs.declared.records.Record.{Record}
use Rattle.log_record.specs.Entry.{history_of}
use Rattle.log_files.specs.Files.{records_of}
use Rattle.held_log.specs.Readers.{FileIs}
use Rattle.held_log.proofs.AnswerLemmas.{file_of}
use Rattle.held_log.proofs.FilesLemmas.{few_records}
use Rattle.held_log.proofs.reading.read_next.Goals as goal

pub take_file-requires-clause-few : goal.take_file-requires-clause-few
take_file-requires-clause-few g c =
    let told = c.requires.opened.tells in
    omega (
      arith,
      ap (λ (l : List Record). length l) c.deref.ensures.value,
      c.in_ok-records.ensures.counted c.requires.opened.files told,
      few_records c.requires.opened.files told.fits c.args.file,
    )

pub returns-in_err-records-clause-taken : goal.returns-in_err-records-clause-taken
returns-in_err-records-clause-taken g c tells site files stands before past has at =
    let p = err_from_is_err_and c.from_residual.result c.from_residual.ensures.1 in
    rw (p.1, p.2) (file_of before past (256 * (c.args.file % 8)) (records_of files c.args.file) c.args.reader.now c.in_err-records.field-0.0
    (c.in_err-records.ensures.sound tells site files stands))

pub returns-clause-taken : goal.returns-clause-taken
returns-clause-taken g c tells site files stands before past has at =
    subst (λ (l : History). FileIs before past (256 * (c.args.file % 8)) l c.take_file.new.self c.take_file.result)
    (ap history_of c.deref.ensures.value ∙ c.in_ok-records.ensures.records tells site files stands)
    (c.take_file.ensures.taken before past has at)
