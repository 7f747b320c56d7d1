use Rattle.std.proofs.Common.{◌-◌, ◌≤◌, length, take}
use Rattle.script_lines.specs.Cutting.{HasNoLineFeed, Gains}
use Rattle.script_lines.proofs.cutting.Lines.find_line.Given as goal

-- the bytes that came so far are held, and those searched have no line feed
abbrev pub invariant-loop-line : goal.invariant-loop-line
invariant-loop-line g l = record {
  gains : Gains g.S.Source.is_modelled l.initial.self l.self (g.S.Source.left l.initial.source) (g.S.Source.left l.source);
  later : g.S.Source.faults l.initial.source ≤ g.S.Source.faults l.source;
  within : l.searched ≤ length l.self.held;
  searched : HasNoLineFeed (take l.searched l.self.held);
}

abbrev pub decreases-loop-line : goal.decreases-loop-line
decreases-loop-line g l = 8257 - length l.self.held
