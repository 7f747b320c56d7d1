use Rattle.std.proofs.Common.{◌∙◌}
use Rattle.site_disk.proofs.RecordedLemmas.{with_write, start_of-some}
use Rattle.site_disk.proofs.memory.recording.Recording.put.Goals as goal

pub invariant_of-self : goal.invariant_of-self
invariant_of-self c =
    let e = c.write_and_note.ensures in
    record {
      sound = with_write c.write_and_note.result c.keep_start.new.self.start c.keep_start.new.self.bytes.items c.write_and_note.new.bytes.items
          c.keep_start.new.self.pieces.items c.write_and_note.new.pieces.items c.args.piece.now c.keep_start.new.self.calls.items c.write_and_note.new.calls.items
          c.args.era c.args.at c.in_ok-keep_start.ensures.kept c.keep_start.new.self.sound e.ok e.err e.noted e.not_noted e.still_there;
    }

pub returns-clause-start : goal.returns-clause-start
returns-clause-start c = start_of-some c.keep_start.new.self.start _ _ c.in_ok-keep_start.ensures.kept ∙ c.in_ok-keep_start.ensures.start
