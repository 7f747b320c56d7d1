use Rattle.std.proofs.Common.{◌≡◌, ◌∙◌, List, length, map, sym, ap, subst, arith}
use Rattle.std.specs.Prelude.{Err}
use Rattle.std.proofs.lemmas.List.{length-map}
use Rattle.std.proofs.lemmas.Result.{err_from_is_err_and}
use Rattle.site_disk.specs.Causes.{Rose}
use Rattle.site_disk.specs.CallsLaws.{may_use_again}
use Rattle.site_model.specs.declared.disk_name.DiskName.{DiskName}
use Rattle.site_model.specs.declared.disk_name.DiskName.TheVariants.{Chunk, Log}
use Rattle.txn_table.specs.Table.{change_of}
use Rattle.txn_table.specs.declared.changes.Change.{Change}
use Rattle.log_files.specs.Files.{end_of}
use Rattle.held_log.specs.Logs.{AreChanges}
use Rattle.held_log.specs.declared.faults.HeldFault.{HeldFault}
use Rattle.site_core.specs.BatchLaws.{made_behind}
use Rattle.site_core.specs.Checkpoints.{of_held}
use Rattle.site_core.specs.Disks.{faults_on}
use Rattle.site_core.specs.FrameLaws.{faults_behind, may_behind, may_later}
use Rattle.show_command.proofs.BringLemmas.{brought_by, chunk_named, goes_by, goes_none, held_checks, held_fails, held_names, read_images, read_written, rose_later, same_fault}
use Rattle.show_command.proofs.FrameLemmas.{as_many, counted_one, is_there, later_one, made_one, may_each, may_one, rest_images, rest_written, rose_one}
use Rattle.show_command.proofs.advancing.bring_lane.Goals as goal

pub read_changes-requires-clause-era : goal.read_changes-requires-clause-era
read_changes-requires-clause-era g c = c.requires.may Log

pub returns-in_err-held-clause-goes : goal.returns-in_err-held-clause-goes
returns-in_err-held-clause-goes g c tells at stands one may =
    goes_none g.D.Disk c.args.era.now.number c.args.space at c.args.site.now (record c.args.site.now { log = c.read_changes.new.log }) (read_images g.D.Disk (λ d f h b le lt image. g.met.D.Disk.now_counts d f h b le lt image) c.args.era.now c.args.site.now c.read_changes.new.log (c.requires.may Log) c.read_changes.ensures.crash)

pub returns-in_err-held-clause-brought : goal.returns-in_err-held-clause-brought
returns-in_err-held-clause-brought g c tells at stands one may =
    let p = err_from_is_err_and c.from_residual.result c.from_residual.ensures.1 in
    rw (p.1, p.2) (held_fails g.D.Disk c.args.space c.args.era.now.number c.args.site.now at stands may c.in_err-held.field-0.0
    (λ site files slot stood is. c.in_err-held.ensures.refused tells site files slot stood (ap (λ (f : HeldFault). Err f) is)))

pub returns-in_err-held-clause-only : goal.returns-in_err-held-clause-only
returns-in_err-held-clause-only g c =
    let p = err_from_is_err_and c.from_residual.result c.from_residual.ensures.1 in
    rw (p.1, p.2) (held_checks c.in_err-held.field-0.0)

pub returns-in_err-held-clause-failed : goal.returns-in_err-held-clause-failed
returns-in_err-held-clause-failed g c name is =
    let p = err_from_is_err_and c.from_residual.result c.from_residual.ensures.1 in
    let fault = c.in_err-held.field-0.0 in
    let named = held_names fault name (same_fault c.from_residual.result p.0 (of_held fault) _ p.1 p.2 is) in
    subst (λ (n : DiskName). Rose (faults_on g.D.Disk c.args.site.now n) (faults_on g.D.Disk (record c.args.site.now { log = c.read_changes.new.log }) n)) named.1
    (c.in_err-held.ensures.failed (ap (λ (f : HeldFault). Err f) named.0))

pub returns-in_err-held-clause-others : goal.returns-in_err-held-clause-others
returns-in_err-held-clause-others g c = record {
  images = λ f name bytes isnt image. (read_images g.D.Disk (λ d f h b le lt image. g.met.D.Disk.now_counts d f h b le lt image) c.args.era.now c.args.site.now c.read_changes.new.log (c.requires.may Log) c.read_changes.ensures.crash) f name bytes image;
  written = λ name isnt. (read_written g.D.Disk (λ d f h b le lt image. g.met.D.Disk.now_counts d f h b le lt image) c.args.era.now c.args.site.now c.read_changes.new.log (c.requires.may Log) c.read_changes.ensures.crash (omega (arith, c.read_changes.ensures.ledger.written))) name;
}

pub returns-in_err-held-clause-made : goal.returns-in_err-held-clause-made
returns-in_err-held-clause-made g c is = made_behind c.args.site.now c.read_changes.new.log is c.read_changes.ensures.opened.made

pub returns-in_err-held-clause-later : goal.returns-in_err-held-clause-later
returns-in_err-held-clause-later g c = faults_behind g.D.Disk c.args.site.now c.read_changes.new.log c.read_changes.ensures.ledger.faults

pub returns-in_err-held-clause-may : goal.returns-in_err-held-clause-may
returns-in_err-held-clause-may g c =
    may_behind g.D.Disk c.args.site.now c.read_changes.new.log c.args.era.now (may_use_again (c.requires.may Log) c.read_changes.ensures.ledger) c.requires.may

pub advance_space-requires-clause-may : goal.advance_space-requires-clause-may
advance_space-requires-clause-may g c =
    may_behind g.D.Disk c.args.site.now c.read_changes.new.log c.args.era.now (may_use_again (c.requires.may Log) c.read_changes.ensures.ledger) c.requires.may

pub advance_space-requires-clause-to : goal.advance_space-requires-clause-to
advance_space-requires-clause-to g c =
    let is = c.requires.log in
    omega (arith, c.end-to.ensures is.files is.tells, is.tells.fits.positions)

pub returns-in_err-advance_space-clause-goes : goal.returns-in_err-advance_space-clause-goes
returns-in_err-advance_space-clause-goes g c tells at stands one may =
    let told = c.in_ok-held.ensures in
    let read : List Change = c.in_ok-held.held.changes.items in
    let same : c.deref.result.now ≡ read = c.deref.ensures.value in
    goes_by g.D.Disk tells (λ d f le. g.met.D.Disk.reads_as d f tells le) (λ d f h b le lt image. g.met.D.Disk.now_counts d f h b le lt image) c.args.era.now c.args.space c.args.site.now c.read_changes.new.log
    c.advance_space.new.site (c.requires.may Log) c.read_changes.ensures.crash c.advance_space.ensures.others c.end-to.result (map change_of c.deref.result.now) at stands one may
    c.end-to.ensures
    (λ site files stood. ap (λ (l : List Change). map change_of l) same ∙ told.changes tells site files stood)
    (λ site files stood. subst (λ (l : List Change). AreChanges (end_of files) (map change_of l)) (sym same) (told.good tells site files stood))
    (λ site files stood. omega (arith, told.few tells site files stood, ap (λ (l : List Change). length l) same, length-map c.deref.result.now change_of))
    c.advance_space.ensures.works

pub returns-in_err-advance_space-clause-brought : goal.returns-in_err-advance_space-clause-brought
returns-in_err-advance_space-clause-brought g c tells at stands one may =
    let p = err_from_is_err_and c.from_residual-in_err-advance_space.result c.from_residual-in_err-advance_space.ensures.1 in
    rw (p.1, p.2, c.in_err-advance_space.ensures.failed.0) tt

pub returns-in_err-advance_space-clause-only : goal.returns-in_err-advance_space-clause-only
returns-in_err-advance_space-clause-only g c =
    let p = err_from_is_err_and c.from_residual-in_err-advance_space.result c.from_residual-in_err-advance_space.ensures.1 in
    rw (p.1, p.2, c.in_err-advance_space.ensures.failed.0) tt

pub returns-in_err-advance_space-clause-failed : goal.returns-in_err-advance_space-clause-failed
returns-in_err-advance_space-clause-failed g c name is =
    let p = err_from_is_err_and c.from_residual-in_err-advance_space.result c.from_residual-in_err-advance_space.ensures.1 in
    let change = c.advance_space.ensures.works in
    let named : Chunk c.args.space ≡ name = chunk_named c.args.space name
    (sym c.in_err-advance_space.ensures.failed.0 ∙ same_fault c.from_residual-in_err-advance_space.result p.0 c.in_err-advance_space.field-0.0 _ p.1 p.2 is) in
    let rose = rose_one g.D.Disk c.args.space (record c.args.site.now { log = c.read_changes.new.log }) c.advance_space.new.site c.advance_space.ensures.others change.was change.is change.there change.changed
    (c.in_err-advance_space.ensures.failed.1 change.was change.is change.there (is_there g.D.Disk c.args.space (record c.args.site.now { log = c.read_changes.new.log }) c.advance_space.new.site c.advance_space.ensures.others change.was change.is change.there change.changed)) in
    let before = faults_behind g.D.Disk c.args.site.now c.read_changes.new.log c.read_changes.ensures.ledger.faults (Chunk c.args.space) in
    subst (λ (n : DiskName). Rose (faults_on g.D.Disk c.args.site.now n) (faults_on g.D.Disk c.advance_space.new.site n)) named (rose_later _ _ _ before rose)

pub returns-in_err-advance_space-clause-others : goal.returns-in_err-advance_space-clause-others
returns-in_err-advance_space-clause-others g c =
    let change = c.advance_space.ensures.works in record {
      images = λ f name bytes isnt image. (read_images g.D.Disk (λ d f h b le lt image. g.met.D.Disk.now_counts d f h b le lt image) c.args.era.now c.args.site.now c.read_changes.new.log (c.requires.may Log) c.read_changes.ensures.crash) f name bytes
          (rest_images g.D.Disk c.args.space (record c.args.site.now { log = c.read_changes.new.log }) c.advance_space.new.site c.advance_space.ensures.others change.was change.is change.there change.changed f name bytes isnt image);
      written = λ name isnt. omega (
        arith,
        (read_written g.D.Disk (λ d f h b le lt image. g.met.D.Disk.now_counts d f h b le lt image) c.args.era.now c.args.site.now c.read_changes.new.log (c.requires.may Log) c.read_changes.ensures.crash (omega (arith, c.read_changes.ensures.ledger.written))) name,
        rest_written g.D.Disk c.args.space (record c.args.site.now { log = c.read_changes.new.log }) c.advance_space.new.site c.advance_space.ensures.others change.was change.is change.there change.changed name isnt,
      );
    }

pub returns-in_err-advance_space-clause-counted : goal.returns-in_err-advance_space-clause-counted
returns-in_err-advance_space-clause-counted g c =
    let change = c.advance_space.ensures.works in counted_one g.D.Disk c.args.space (record c.args.site.now { log = c.read_changes.new.log }) c.advance_space.new.site c.advance_space.ensures.others change.was change.is change.there change.changed change.by.count

pub returns-in_err-advance_space-clause-as_many : goal.returns-in_err-advance_space-clause-as_many
returns-in_err-advance_space-clause-as_many g c =
    let change = c.advance_space.ensures.works in as_many g.D.Disk c.args.space (record c.args.site.now { log = c.read_changes.new.log }) c.advance_space.new.site c.advance_space.ensures.others change.was change.is change.there change.changed

pub returns-in_err-advance_space-clause-made : goal.returns-in_err-advance_space-clause-made
returns-in_err-advance_space-clause-made g c is =
    let change = c.advance_space.ensures.works in
    made_one g.D.Disk c.args.space (record c.args.site.now { log = c.read_changes.new.log }) c.advance_space.new.site c.advance_space.ensures.others change.was change.is change.there change.changed
    (λ was. record { made = change.by.made; space = change.by.space ∙ was.space }) (made_behind c.args.site.now c.read_changes.new.log is c.read_changes.ensures.opened.made)

pub returns-in_err-advance_space-clause-later : goal.returns-in_err-advance_space-clause-later
returns-in_err-advance_space-clause-later g c name =
    let change = c.advance_space.ensures.works in
    omega (
      arith,
      faults_behind g.D.Disk c.args.site.now c.read_changes.new.log c.read_changes.ensures.ledger.faults name,
      later_one g.D.Disk c.args.space (record c.args.site.now { log = c.read_changes.new.log }) c.advance_space.new.site c.advance_space.ensures.others change.was change.is change.there change.changed change.by.ledger.faults name,
    )

pub returns-in_err-advance_space-clause-may : goal.returns-in_err-advance_space-clause-may
returns-in_err-advance_space-clause-may g c =
    let change = c.advance_space.ensures.works in
    may_one g.D.Disk c.args.space (record c.args.site.now { log = c.read_changes.new.log }) c.advance_space.new.site c.advance_space.ensures.others change.was change.is change.there change.changed c.args.era.now
    (may_use_again (may_each g.D.Disk c.args.era.now (record c.args.site.now { log = c.read_changes.new.log }) (may_behind g.D.Disk c.args.site.now c.read_changes.new.log c.args.era.now (may_use_again (c.requires.may Log) c.read_changes.ensures.ledger) c.requires.may) c.args.space change.was change.there) change.by.ledger)
    (may_behind g.D.Disk c.args.site.now c.read_changes.new.log c.args.era.now (may_use_again (c.requires.may Log) c.read_changes.ensures.ledger) c.requires.may)

pub returns-clause-goes : goal.returns-clause-goes
returns-clause-goes g c tells at stands one may =
    let told = c.in_ok-held.ensures in
    let read : List Change = c.in_ok-held.held.changes.items in
    let same : c.deref.result.now ≡ read = c.deref.ensures.value in
    goes_by g.D.Disk tells (λ d f le. g.met.D.Disk.reads_as d f tells le) (λ d f h b le lt image. g.met.D.Disk.now_counts d f h b le lt image) c.args.era.now c.args.space c.args.site.now c.read_changes.new.log
    c.advance_space.new.site (c.requires.may Log) c.read_changes.ensures.crash c.advance_space.ensures.others c.end-to.result (map change_of c.deref.result.now) at stands one may
    c.end-to.ensures
    (λ site files stood. ap (λ (l : List Change). map change_of l) same ∙ told.changes tells site files stood)
    (λ site files stood. subst (λ (l : List Change). AreChanges (end_of files) (map change_of l)) (sym same) (told.good tells site files stood))
    (λ site files stood. omega (arith, told.few tells site files stood, ap (λ (l : List Change). length l) same, length-map c.deref.result.now change_of))
    c.advance_space.ensures.works

pub returns-clause-brought : goal.returns-clause-brought
returns-clause-brought g c tells at stands one may =
    let told = c.in_ok-held.ensures in
    let read : List Change = c.in_ok-held.held.changes.items in
    let same : c.deref.result.now ≡ read = c.deref.ensures.value in
    let open_log = c.requires.log in
    brought_by g.D.Disk tells (λ d f le. g.met.D.Disk.reads_as d f tells le) (λ d f h b le lt image. g.met.D.Disk.now_counts d f h b le lt image) c.args.era.now c.args.space c.args.site.now c.read_changes.new.log
    c.advance_space.new.site (c.requires.may Log) c.read_changes.ensures.crash c.advance_space.ensures.others c.end-to.result (map change_of c.deref.result.now) at stands one may
    c.end-to.ensures
    (λ site files stood. ap (λ (l : List Change). map change_of l) same ∙ told.changes tells site files stood)
    (λ site files stood. subst (λ (l : List Change). AreChanges (end_of files) (map change_of l)) (sym same) (told.good tells site files stood))
    (λ site files stood. omega (arith, told.few tells site files stood, ap (λ (l : List Change). length l) same, length-map c.deref.result.now change_of))
    c.in_ok-advance_space.ensures.advanced (omega (arith, c.end-to.ensures open_log.files open_log.tells, open_log.tells.fits.positions))
    (λ site space count n state history bytes fits holds stand. c.the_pages_of_a_history_are_held.ensures.held site space count n state history bytes fits holds stand)
    c.next.new.self.number c.next.ensures.number

pub returns-clause-others : goal.returns-clause-others
returns-clause-others g c =
    let change = c.advance_space.ensures.works in record {
      images = λ f name bytes isnt image. (read_images g.D.Disk (λ d f h b le lt image. g.met.D.Disk.now_counts d f h b le lt image) c.args.era.now c.args.site.now c.read_changes.new.log (c.requires.may Log) c.read_changes.ensures.crash) f name bytes
          (rest_images g.D.Disk c.args.space (record c.args.site.now { log = c.read_changes.new.log }) c.advance_space.new.site c.advance_space.ensures.others change.was change.is change.there change.changed f name bytes isnt image);
      written = λ name isnt. omega (
        arith,
        (read_written g.D.Disk (λ d f h b le lt image. g.met.D.Disk.now_counts d f h b le lt image) c.args.era.now c.args.site.now c.read_changes.new.log (c.requires.may Log) c.read_changes.ensures.crash (omega (arith, c.read_changes.ensures.ledger.written))) name,
        rest_written g.D.Disk c.args.space (record c.args.site.now { log = c.read_changes.new.log }) c.advance_space.new.site c.advance_space.ensures.others change.was change.is change.there change.changed name isnt,
      );
    }

pub returns-clause-counted : goal.returns-clause-counted
returns-clause-counted g c =
    let change = c.advance_space.ensures.works in counted_one g.D.Disk c.args.space (record c.args.site.now { log = c.read_changes.new.log }) c.advance_space.new.site c.advance_space.ensures.others change.was change.is change.there change.changed change.by.count

pub returns-clause-as_many : goal.returns-clause-as_many
returns-clause-as_many g c =
    let change = c.advance_space.ensures.works in as_many g.D.Disk c.args.space (record c.args.site.now { log = c.read_changes.new.log }) c.advance_space.new.site c.advance_space.ensures.others change.was change.is change.there change.changed

pub returns-clause-made : goal.returns-clause-made
returns-clause-made g c is =
    let change = c.advance_space.ensures.works in
    made_one g.D.Disk c.args.space (record c.args.site.now { log = c.read_changes.new.log }) c.advance_space.new.site c.advance_space.ensures.others change.was change.is change.there change.changed
    (λ was. record { made = change.by.made; space = change.by.space ∙ was.space }) (made_behind c.args.site.now c.read_changes.new.log is c.read_changes.ensures.opened.made)

pub returns-clause-later : goal.returns-clause-later
returns-clause-later g c name =
    let change = c.advance_space.ensures.works in
    omega (
      arith,
      faults_behind g.D.Disk c.args.site.now c.read_changes.new.log c.read_changes.ensures.ledger.faults name,
      later_one g.D.Disk c.args.space (record c.args.site.now { log = c.read_changes.new.log }) c.advance_space.new.site c.advance_space.ensures.others change.was change.is change.there change.changed change.by.ledger.faults name,
    )

pub returns-clause-may : goal.returns-clause-may
returns-clause-may g c =
    let change = c.advance_space.ensures.works in
    may_later g.D.Disk c.args.era.now c.next.new.self c.advance_space.new.site (omega (arith, c.next.ensures.number)) c.next.ensures.key
    (may_one g.D.Disk c.args.space (record c.args.site.now { log = c.read_changes.new.log }) c.advance_space.new.site c.advance_space.ensures.others change.was change.is change.there change.changed c.args.era.now
    (may_use_again (may_each g.D.Disk c.args.era.now (record c.args.site.now { log = c.read_changes.new.log }) (may_behind g.D.Disk c.args.site.now c.read_changes.new.log c.args.era.now (may_use_again (c.requires.may Log) c.read_changes.ensures.ledger) c.requires.may) c.args.space change.was change.there) change.by.ledger)
    (may_behind g.D.Disk c.args.site.now c.read_changes.new.log c.args.era.now (may_use_again (c.requires.may Log) c.read_changes.ensures.ledger) c.requires.may))
