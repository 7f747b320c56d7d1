use Rattle.std.proofs.Common.{◌≡◌, Ok, Err, ap, subst}
use Rattle.xbsa_shell.proofs.ScriptLemmas.{keeps_first, keeps_next, taken_then, went_broken, went_end, went_first, went_next}
use Rattle.xbsa_shell.proofs.script.run_script.Goals as goal

pub script-init : goal.script-init
script-init g c =
    let left = g.S.Source.left c.args.source.now in
    record {
      keeps = keeps_first g.D.Disk c.args.era.now c.args.store.now c.new-shell.result c.new-lines.result g.S.Source.is_modelled left (g.S.Source.faults c.args.source.now)
          (g.K.Sink.faults c.args.out.now) c.requires.serves c.new-lines.ensures c.new-shell.ensures.session c.new-shell.ensures.volume;
      went = λ tells. went_first g.D.Disk c.args.moment c.args.store.now c.new-shell.result c.new-lines.result g.K.Sink.is_modelled left (g.K.Sink.taken c.args.out.now)
          c.new-lines.ensures c.new-shell.ensures.session c.new-shell.ensures.fields;
    }

pub script-preserved : goal.script-preserved
script-preserved g c =
    let keeps = c.script.invariant.keeps in
    let e = c.in-Ok-true.ensures in
    let is = ap Ok c.in-Ok-true.field-0-test in
    record {
      keeps = keeps_next g.D.Disk c.args.era.now c.script.era c.args.store.now c.script.store c.script.shell c.script.lines c.script.line g.S.Source.is_modelled
          (g.S.Source.left c.args.source.now) (g.S.Source.left c.script.source) (g.S.Source.faults c.args.source.now) (g.S.Source.faults c.script.source)
          (g.K.Sink.faults c.args.out.now) (g.K.Sink.faults c.script.out) keeps c.take_line.new.era c.take_line.new.store c.take_line.new.shell c.take_line.new.lines
          (g.S.Source.left c.take_line.new.source) (g.S.Source.faults c.take_line.new.source) (g.K.Sink.faults c.take_line.new.out) e.era e.serves e.capacity (e.advances is)
          e.script_limit e.taken e.source_later e.later;
      went = λ tells. went_next g.D.Disk c.args.era.now c.script.era c.args.store.now c.script.store c.script.shell c.script.lines c.script.line g.S.Source.is_modelled
          (g.S.Source.left c.args.source.now) (g.S.Source.left c.script.source) (g.S.Source.faults c.args.source.now) (g.S.Source.faults c.script.source)
          (g.K.Sink.faults c.args.out.now) (g.K.Sink.faults c.script.out) keeps c.args.moment g.K.Sink.is_modelled (g.K.Sink.taken c.args.out.now) (g.K.Sink.taken c.script.out)
          (c.script.invariant.went tells) c.take_line.new.lines (g.S.Source.left c.take_line.new.source) c.take_line.new.store c.take_line.new.shell
          (g.K.Sink.taken c.take_line.new.out) (rw c.in-Ok-true.field-0-test at e.takes tells);
    }

pub returns-in-Err-clause-runs : goal.returns-in-Err-clause-runs
returns-in-Err-clause-runs g c tells =
    let keeps = c.script.invariant.keeps in
    went_broken g.D.Disk c.args.era.now c.script.era c.args.store.now c.script.store c.script.shell c.script.lines c.script.line g.S.Source.is_modelled
    (g.S.Source.left c.args.source.now) (g.S.Source.left c.script.source) (g.S.Source.faults c.args.source.now) (g.S.Source.faults c.script.source)
    (g.K.Sink.faults c.args.out.now) (g.K.Sink.faults c.script.out) keeps c.args.moment g.K.Sink.is_modelled (g.K.Sink.taken c.args.out.now) (g.K.Sink.taken c.script.out)
    (c.script.invariant.went tells) c.take_line.new.lines (g.S.Source.left c.take_line.new.source) c.take_line.new.store c.take_line.new.shell
    (g.K.Sink.taken c.take_line.new.out) c.in-Err.status (c.in-Err.ensures.takes tells)

pub returns-in-Err-clause-taken : goal.returns-in-Err-clause-taken
returns-in-Err-clause-taken g c tells =
    taken_then g.D.Disk c.args.era.now c.script.era c.args.store.now c.script.store c.script.shell c.script.lines c.script.line g.S.Source.is_modelled
    (g.S.Source.left c.args.source.now) (g.S.Source.left c.script.source) (g.S.Source.faults c.args.source.now) (g.S.Source.faults c.script.source)
    (g.K.Sink.faults c.args.out.now) (g.K.Sink.faults c.script.out) c.script.invariant.keeps (g.S.Source.left c.take_line.new.source) c.in-Err.ensures.taken tells

pub returns-clause-taken : goal.returns-clause-taken
returns-clause-taken g c tells =
    taken_then g.D.Disk c.args.era.now c.script.era c.args.store.now c.script.store c.script.shell c.script.lines c.script.line g.S.Source.is_modelled
    (g.S.Source.left c.args.source.now) (g.S.Source.left c.script.source) (g.S.Source.faults c.args.source.now) (g.S.Source.faults c.script.source)
    (g.K.Sink.faults c.args.out.now) (g.K.Sink.faults c.script.out) c.script.invariant.keeps (g.S.Source.left c.take_line.new.source) c.in-Ok-false.ensures.taken tells
