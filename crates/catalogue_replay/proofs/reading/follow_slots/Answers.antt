use Rattle.std.proofs.Common.{◌≡◌, ◌+◌, ◌*◌, ◌/◌, ◌≤◌, ℕ, List, length, take, length-take, ap, subst, sym, ◌∙◌, inl, inr, arith}
use Rattle.site_disk.specs.CallsLaws.{unchanged_again, uses_again}
use Rattle.catalogue_replay.specs.Journal.{Reads, StopsAt}
use Rattle.catalogue_replay.specs.Places.{slots_on}
use Rattle.catalogue_replay.specs.Replays.{state_of}
use Rattle.catalogue_replay.proofs.ReadingLemmas.{followed_none, all_read, stopped_at}
use Rattle.catalogue_replay.proofs.reading.follow_slots.Goals as goal

pub loop-replay-init : goal.loop-replay-init
loop-replay-init g c = followed_none c.args.disk.now c.new-replay.result c.requires.era c.new-replay.ensures

pub loop-replay-preserved : goal.loop-replay-preserved
loop-replay-preserved g c =
    let before = c.loop-replay.invariant in
    let call = c.in_ok-follow_next_run.ensures in
    let count = c.min-count.result in
    let at = c.loop-replay.replay.read in
    let slots = c.args.slots.now.used in
    let file = g.D.Disk.bytes c.args.disk.now in
    let mid = g.D.Disk.bytes c.loop-replay.disk in
    let new = c.follow_next_run.new.replay in
    let len = length (take (4096 * count) c.loop-replay.buffer) in
    let fits : at + count ≤ c.args.held = omega (arith, c.min-count.ensures, before.within) in
    let whole : len ≡ 4096 * count = omega (arith, length-take (4096 * count) c.loop-replay.buffer, c.min-count.ensures) in
    let end : new.read ≡ at + len / 4096 = call.all c.if-not-branch.false in
    record {
      within = omega (arith, end, whole, fits);
      reads = λ tells long.
          let here : 73728 + 4096 * at + len ≤ length mid = omega (arith, long, ap length before.content, fits, whole) in
          let was = subst (λ (l : List ℕ). Reads slots (slots_on l) (state_of c.loop-replay.replay)) (sym before.content) (before.reads tells long) in
          subst (λ (l : List ℕ). Reads slots (slots_on l) (state_of new)) before.content
          (all_read slots (slots_on mid) (at + len / 4096) (state_of new) c.in_ok-follow_next_run.field-0 c.if-not-branch.false (call.followed tells here was));
      sound = call.sound before.sound c.if-not-branch.false;
      content = call.bytes ∙ before.content;
      images = unchanged_again before.images call.images;
      uses = uses_again before.uses call.ledger (omega (arith, end, whole));
    }

pub returns-then-not-branch-clause-followed : goal.returns-then-not-branch-clause-followed
returns-then-not-branch-clause-followed g c tells long =
    let before = c.loop-replay.invariant in
    let call = c.in_ok-follow_next_run.ensures in
    let count = c.min-count.result in
    let at = c.loop-replay.replay.read in
    let slots = c.args.slots.now.used in
    let mid = g.D.Disk.bytes c.loop-replay.disk in
    let new = c.follow_next_run.new.replay in
    let len = length (take (4096 * count) c.loop-replay.buffer) in
    let fits : at + count ≤ c.args.held = omega (arith, c.min-count.ensures, before.within) in
    let whole : len ≡ 4096 * count = omega (arith, length-take (4096 * count) c.loop-replay.buffer, c.min-count.ensures) in
    let here : 73728 + 4096 * at + len ≤ length mid = omega (arith, long, ap length before.content, fits, whole) in
    let was = subst (λ (l : List ℕ). Reads slots (slots_on l) (state_of c.loop-replay.replay)) (sym before.content) (before.reads tells long) in
    let stopped = stopped_at slots (slots_on mid) (at + len / 4096) (state_of new) c.in_ok-follow_next_run.field-0 c.if-not-branch.true (call.followed tells here was) in
    inr (subst (λ (l : List ℕ). StopsAt slots (slots_on l) new.read) before.content stopped.0, omega (arith, stopped.1, fits, whole))

pub returns-then-not-branch-clause-sound : goal.returns-then-not-branch-clause-sound
returns-then-not-branch-clause-sound g c all =
    let before = c.loop-replay.invariant in
    let count = c.min-count.result in
    let len = length (take (4096 * count) c.loop-replay.buffer) in
    let fits : c.loop-replay.replay.read + count ≤ c.args.held = omega (arith, c.min-count.ensures, before.within) in
    let whole : len ≡ 4096 * count = omega (arith, length-take (4096 * count) c.loop-replay.buffer, c.min-count.ensures) in
    absurd (omega (arith, c.in_ok-follow_next_run.ensures.fewer before.sound c.if-not-branch.true, all, fits, whole))

pub returns-then-not-branch-clause-few : goal.returns-then-not-branch-clause-few
returns-then-not-branch-clause-few g c =
    let before = c.loop-replay.invariant in
    let count = c.min-count.result in
    let len = length (take (4096 * count) c.loop-replay.buffer) in
    let fits : c.loop-replay.replay.read + count ≤ c.args.held = omega (arith, c.min-count.ensures, before.within) in
    let whole : len ≡ 4096 * count = omega (arith, length-take (4096 * count) c.loop-replay.buffer, c.min-count.ensures) in
    omega (arith, c.in_ok-follow_next_run.ensures.fewer before.sound c.if-not-branch.true, fits, whole)

pub returns-clause-followed : goal.returns-clause-followed
returns-clause-followed g c tells long =
    inl (c.loop-replay.invariant.reads tells long, omega (arith, c.loop-replay.invariant.within, c.loop-replay-test.false))
