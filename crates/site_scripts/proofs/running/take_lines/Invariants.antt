use Rattle.std.proofs.Common.{◌-◌, ◌++◌, length, IsTrue}
use Rattle.log_history.specs.History.{History}
use Rattle.site_headers.specs.Views.{head_of}
use Rattle.site_scripts.specs.Stages.{HasLeft, in_use, run_course}
use Rattle.site_scripts.proofs.LinesLemmas.{KeepsOn}
use Rattle.site_scripts.proofs.running.take_lines.Given as goal

abbrev pub invariant-lines : goal.invariant-lines
invariant-lines g l = record {
  keeps : KeepsOn g.D.Disk (length l.head.spaces.items) g.S.Source.is_modelled l.fn.era l.era l.fn.work l.work l.fn.site l.site
      (g.S.Source.left l.fn.source) (g.S.Source.left l.source) (g.S.Source.faults l.fn.source) (g.S.Source.faults l.source);
  way : IsTrue g.D.Disk.is_modelled → IsTrue g.S.Source.is_modelled → (first : History)
      → HasLeft g.D.Disk (head_of l.head) first l.fn.era.number l.era.number (in_use l.fn.site l.fn.work) (in_use l.site l.work)
      (run_course l.moment (l.fn.work.progress.lines.held ++ g.S.Source.left l.fn.source) l.fn.work.progress)
      (run_course l.moment (l.work.progress.lines.held ++ g.S.Source.left l.source) l.work.progress);
}

abbrev pub decreases-lines : goal.decreases-lines
decreases-lines g l = 16777216 - l.work.progress.lines.begun
