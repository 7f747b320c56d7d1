use Rattle.site_disk.proofs.RecordedLemmas.{with_sync}
use Rattle.site_disk.proofs.memory.recording.Recording.sync.Goals as goal

pub invariant_of-self : goal.invariant_of-self
invariant_of-self c = record {
  sound = with_sync c.push.result c.args.self.now.start c.args.self.now.bytes.items c.args.self.now.pieces.items c.args.self.now.calls.items _ c.args.era
      c.args.self.now.sound c.push.ensures.items;
}
