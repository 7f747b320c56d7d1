use Rattle.std.proofs.Common.{◌≡◌, ◌∙◌, ◌∷◌, [], ◌++◌, ℕ, List, map, length, ap, sym, arith}
use Rattle.std.proofs.lemmas.List.{map-append}
use Rattle.backup_lines.specs.Lines.{Line}
use Rattle.backup_lines.specs.Views.{line_of}
use Rattle.backup_lines.specs.declared.lines.Line.{Line as RustLine}
use Rattle.boot_lines.specs.LineLayout.{lines_of}
use Rattle.boot_file.proofs.ReadingLemmas.{partway_none, partway_more, all_taken}
use Rattle.boot_file.proofs.reading.take_run.Goals as goal

pushed : (lines : List RustLine) (line : RustLine) (new : List RustLine) → new ≡ lines ++ line ∷ [] → lines_of new ≡ lines_of lines ++ line_of line ∷ []
pushed lines line new is = ap lines_of is ∙ map-append line_of lines (line ∷ [])

pub loop-slot-init : goal.loop-slot-init
loop-slot-init c = record { whole = c.requires; way = partway_none (lines_of c.args.lines.now.items) c.args.run.now }

pub loop-slot-preserved : goal.loop-slot-preserved
loop-slot-preserved c = record {
  whole = omega (arith, c.loop-slot.invariant.whole, c.in-Some.ensures.cases.2);
  way = partway_more (lines_of c.args.lines.now.items) (lines_of c.loop-slot.lines.items) (lines_of c.push.new.self.items) c.args.run.now c.loop-slot.rest.now c.in-Some.slot.now c.in-Some.others.now
      (line_of c.in-Some-decode_line.line) c.loop-slot.invariant.way (pushed c.loop-slot.lines.items c.in-Some-decode_line.line c.push.new.self.items c.in_ok-push.ensures.items)
      c.in-Some-decode_line.ensures.found.0 c.in-Some-decode_line.ensures.found.1 c.in-Some.ensures.cases.0 c.in-Some.ensures.cases.1;
}
