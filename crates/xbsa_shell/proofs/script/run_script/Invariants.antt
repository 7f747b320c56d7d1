use Rattle.std.proofs.Common.{◌-◌, IsTrue}
use Rattle.xbsa_shell.proofs.ScriptLemmas.{KeepsRun, WentRun}
use Rattle.xbsa_shell.proofs.script.run_script.Given as goal

abbrev pub invariant-script : goal.invariant-script
invariant-script g l = record {
  keeps : KeepsRun g.D.Disk l.fn.era l.era l.fn.store l.store l.shell l.lines l.line g.S.Source.is_modelled (g.S.Source.left l.fn.source) (g.S.Source.left l.source)
      (g.S.Source.faults l.fn.source) (g.S.Source.faults l.source) (g.K.Sink.faults l.fn.out) (g.K.Sink.faults l.out);
  went : IsTrue g.S.Source.is_modelled → WentRun g.D.Disk l.moment l.fn.store l.store l.shell l.lines l.line g.K.Sink.is_modelled (g.S.Source.left l.fn.source)
      (g.S.Source.left l.source) (g.K.Sink.taken l.fn.out) (g.K.Sink.taken l.out);
}

abbrev pub decreases-script : goal.decreases-script
decreases-script g l = 16777216 - l.lines.begun
