use Rattle.std.proofs.Common.{◌≡◌, ℕ, ◌+◌, ◌-◌, ◌*◌, ◌<◌, ◌≤◌, List, length, map, get_or, None, false, arith, ap, refl, sym, ◌∙◌}
use Rattle.std.proofs.lemmas.List.{length-map}
use Rattle.txn_table.specs.Table.{change_of}
use Rattle.std.proofs.lemmas.Result.{err_from_is_err_and}
use Rattle.backup_lines.specs.declared.lines.FileSpan.{FileSpan}
use Rattle.site_disk.specs.CallsLaws.{may_use_again, unchanged_again, unchanged_same, uses_again, uses_more, uses_nothing}
use Rattle.logical_log.specs.Rings.{disk_of, with_disk}
use Rattle.held_log.specs.Strays.{held_files}
use Rattle.held_log.proofs.AnswerLemmas.{same_fault}
use Rattle.held_log.proofs.FilesLemmas.{changes_are, changes_are_few, changes_are_good, count_spans, few_files, first_within, none_left, none_read, one_file_more, place_is, span_file, span_first, stopped_by, table_is}
use Rattle.held_log.proofs.reading.read_changes.Goals as goal

pub loop-i-init : goal.loop-i-init
loop-i-init g c = record {
  opened = c.requires.opened;
  told = λ files told. told;
  value = refl;
  read = record { bytes = refl; images = unchanged_same; uses = uses_nothing c.requires.era };
  stands = λ tells site files stands. stands;
  part = λ tells site files stands. none_read files c.new-reader.result (c.new-reader.ensures (files.first - 1));
}

pub read_next-requires : goal.read_next-requires
read_next-requires g c =
    let was = c.loop-i.invariant in
    let files = c.requires.opened.files in
    let told = c.requires.opened.tells in
    let lt : c.loop-i.i < length (held_files files) =
    omega (arith, c.loop-i-test.true, count_spans files c.files-i-end.result.now (c.files-i-end.ensures files told)) in
    record {
      era = may_use_again c.requires.era was.read.uses;
      opened = was.opened;
      position = omega (
        arith,
        span_first files c.files.result.now (c.files.ensures files (was.told files told)) c.loop-i.i
            (record { file = 0; first = 0; last = 0; reset = None; before = 0; time = 0; copy = 0; gone = false }) lt,
        first_within files told.fits c.loop-i.i,
      );
    }

pub loop-i-preserved : goal.loop-i-preserved
loop-i-preserved g c =
    let was = c.loop-i.invariant in
    let call = c.in_ok-read_next.ensures in
    record {
      opened = call.opened;
      told = λ files told. call.told files (was.told files told);
      value = call.value ∙ ap (λ ring. with_disk ring (disk_of c.read_next.new.log)) was.value;
      read = record {
        bytes = call.bytes ∙ was.read.bytes;
        images = unchanged_again was.read.images call.images;
        uses = uses_again was.read.uses call.ledger (omega arith);
      };
      stands = λ tells site files stands. call.stands tells site files (was.stands tells site files stands);
      part = λ tells site files stands.
          let fits = stands.tells.fits in
          let part = was.part tells site files stands in
          let now = was.stands tells site files stands in
          let lt : c.loop-i.i < length (held_files files) =
          omega (arith, c.loop-i-test.true, count_spans files c.files-i-end.result.now (c.files-i-end.ensures files stands.tells)) in
          let none : FileSpan = record { file = 0; first = 0; last = 0; reset = None; before = 0; time = 0; copy = 0; gone = false } in
          let file_is = span_file files c.files.result.now (c.files.ensures files now.tells) c.loop-i.i none lt in
          let first_is = span_first files c.files.result.now (c.files.ensures files now.tells) c.loop-i.i none lt in
          let file = (get_or c.files.result.now c.loop-i.i none).file in
          let first = (get_or c.files.result.now c.loop-i.i none).first in
          one_file_more files fits c.loop-i.i lt c.loop-i.reader part file first file_is first_is c.read_next.new.reader
          (call.taken tells site files now (files.first - 1) part.past part.taken (place_is files fits c.loop-i.i lt c.loop-i.reader part file first file_is first_is));
    }

pub returns-in_err-read_next-clause-refused : goal.returns-in_err-read_next-clause-refused
returns-in_err-read_next-clause-refused g c tells site files slot stands is =
    let p = err_from_is_err_and c.from_residual.result c.from_residual.ensures.1 in
    let was = c.loop-i.invariant in
    let fits = stands.tells.fits in
    let part = was.part tells site files stands in
    let now = was.stands tells site files stands in
    let lt : c.loop-i.i < length (held_files files) =
    omega (arith, c.loop-i-test.true, count_spans files c.files-i-end.result.now (c.files-i-end.ensures files stands.tells)) in
    let none : FileSpan = record { file = 0; first = 0; last = 0; reset = None; before = 0; time = 0; copy = 0; gone = false } in
    let file_is = span_file files c.files.result.now (c.files.ensures files now.tells) c.loop-i.i none lt in
    let first_is = span_first files c.files.result.now (c.files.ensures files now.tells) c.loop-i.i none lt in
    let file = (get_or c.files.result.now c.loop-i.i none).file in
    let first = (get_or c.files.result.now c.loop-i.i none).first in
    stopped_by files fits c.loop-i.i lt c.loop-i.reader part file first file_is first_is c.read_next.new.reader c.in_err-read_next.field-0.0 slot
    (c.in_err-read_next.ensures.taken tells site files now (files.first - 1) part.past part.taken (place_is files fits c.loop-i.i lt c.loop-i.reader part file first file_is first_is))
    (same_fault c.from_residual.result c.in_err-read_next.field-0.0 _ _ p.1 p.2 is)

pub returns-in_err-read_next-clause-ledger : goal.returns-in_err-read_next-clause-ledger
returns-in_err-read_next-clause-ledger g c =
    let files = c.requires.opened.files in
    let told = c.requires.opened.tells in
    let few : c.loop-i.i < 8 =
    omega (arith, c.loop-i-test.true, count_spans files c.files-i-end.result.now (c.files-i-end.ensures files told), few_files files told.fits) in
    uses_again c.loop-i.invariant.read.uses c.in_err-read_next.ensures.ledger (omega (arith, few))

pub returns-clause-table : goal.returns-clause-table
returns-clause-table g c tells site files stands =
    let done : c.loop-i.i ≡ length (held_files files) =
    omega (arith, c.loop-i-test.false, c.loop-i.auto.i-end, count_spans files c.files-i-end.result.now (c.files-i-end.ensures files stands.tells)) in
    c.finish.ensures.table ∙ table_is files stands.tells.fits c.loop-i.i done c.loop-i.reader (c.loop-i.invariant.part tells site files stands)

pub returns-clause-changes : goal.returns-clause-changes
returns-clause-changes g c tells site files stands =
    let done : c.loop-i.i ≡ length (held_files files) =
    omega (arith, c.loop-i-test.false, c.loop-i.auto.i-end, count_spans files c.files-i-end.result.now (c.files-i-end.ensures files stands.tells)) in
    c.finish.ensures.changes
    ∙ changes_are files stands.tells.fits c.loop-i.i done c.loop-i.reader (c.loop-i.invariant.part tells site files stands) c.end.result
    (c.end.ensures files (c.loop-i.invariant.told files stands.tells))

pub returns-clause-good : goal.returns-clause-good
returns-clause-good g c tells site files stands =
    let done : c.loop-i.i ≡ length (held_files files) =
    omega (arith, c.loop-i-test.false, c.loop-i.auto.i-end, count_spans files c.files-i-end.result.now (c.files-i-end.ensures files stands.tells)) in
    let part = c.loop-i.invariant.part tells site files stands in
    changes_are_good files stands.tells.fits c.loop-i.i done c.loop-i.reader part _
    (c.finish.ensures.changes
    ∙ changes_are files stands.tells.fits c.loop-i.i done c.loop-i.reader part c.end.result (c.end.ensures files (c.loop-i.invariant.told files stands.tells)))

pub returns-clause-few : goal.returns-clause-few
returns-clause-few g c tells site files stands =
    let done : c.loop-i.i ≡ length (held_files files) =
    omega (arith, c.loop-i-test.false, c.loop-i.auto.i-end, count_spans files c.files-i-end.result.now (c.files-i-end.ensures files stands.tells)) in
    let part = c.loop-i.invariant.part tells site files stands in
    omega (
      arith,
      length-map c.finish.result.changes.items change_of,
      changes_are_few files stands.tells.fits c.loop-i.i done c.loop-i.reader part (map change_of c.finish.result.changes.items)
          (c.finish.ensures.changes
          ∙ changes_are files stands.tells.fits c.loop-i.i done c.loop-i.reader part c.end.result (c.end.ensures files (c.loop-i.invariant.told files stands.tells))),
    )

pub returns-clause-in_order : goal.returns-clause-in_order
returns-clause-in_order g c tells site files stands =
    let done : c.loop-i.i ≡ length (held_files files) =
    omega (arith, c.loop-i-test.false, c.loop-i.auto.i-end, count_spans files c.files-i-end.result.now (c.files-i-end.ensures files stands.tells)) in
    none_left files stands.tells.fits c.loop-i.i done c.loop-i.reader (c.loop-i.invariant.part tells site files stands)

pub returns-clause-ledger : goal.returns-clause-ledger
returns-clause-ledger g c =
    let files = c.requires.opened.files in
    let told = c.requires.opened.tells in
    let few : c.loop-i.i ≤ 8 =
    omega (arith, c.loop-i.auto.i-end, count_spans files c.files-i-end.result.now (c.files-i-end.ensures files told), few_files files told.fits) in
    uses_more c.loop-i.invariant.read.uses (omega (arith, few)) (omega arith)
