use Rattle.std.proofs.Common.{◌∙◌, ap}
use Rattle.site_disk.specs.Recorded.{calls_up_to}
use Rattle.site_disk.specs.Recording.{first_bytes}
use Rattle.site_disk.proofs.Replays.{moment_there, moment_in_order, moment_pending}
use Rattle.site_disk.proofs.memory.recording.Recording.torn.Goals as goal

pub torn_bytes-requires-clause-there : goal.torn_bytes-requires-clause-there
torn_bytes-requires-clause-there c = moment_there c.args.era c.args.calls _ (first_bytes c.args.self.now) c.start.result.now
    c.args.self.now.pieces.items c.deref-2.result.now c.args.self.now.calls.items c.deref-3.result.now
    c.start.ensures c.deref-2.ensures.value c.deref-3.ensures.value
    (c.calls_before-count.ensures ∙ ap (calls_up_to c.args.era c.args.calls) c.deref.ensures.value) c.args.self.now.sound.there

pub torn_bytes-requires-clause-in_order : goal.torn_bytes-requires-clause-in_order
torn_bytes-requires-clause-in_order c = moment_in_order c.args.era c.args.calls _ (first_bytes c.args.self.now) c.start.result.now
    c.args.self.now.pieces.items c.deref-2.result.now c.args.self.now.calls.items c.deref-3.result.now
    c.start.ensures c.deref-2.ensures.value c.deref-3.ensures.value
    (c.calls_before-count.ensures ∙ ap (calls_up_to c.args.era c.args.calls) c.deref.ensures.value) c.requires

pub returns : goal.returns
returns c = moment_pending c.args.era c.args.calls c.calls_before-count.result (first_bytes c.args.self.now) c.start.result.now
    c.args.self.now.pieces.items c.deref-2.result.now c.args.self.now.calls.items c.deref-3.result.now
    c.start.ensures c.deref-2.ensures.value c.deref-3.ensures.value
    (c.calls_before-count.ensures ∙ ap (calls_up_to c.args.era c.args.calls) c.deref.ensures.value)
    c.in_ok-torn_bytes.field-0.items c.in_ok-torn_bytes.ensures
