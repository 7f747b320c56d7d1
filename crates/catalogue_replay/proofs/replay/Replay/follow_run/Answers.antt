use Rattle.std.proofs.Common.{refl, ◌≡◌, ℕ, ◌+◌, ◌-◌, ◌*◌, ◌/◌, ◌<◌, List, length, take, drop, sym, ap, ◌∙◌, arith}
use Rattle.site_disk.specs.Bytes.{extent}
use Rattle.catalogue_slots.specs.Records.{Record, IsRecord}
use Rattle.catalogue_slots.specs.Layout.{spelling}
use Rattle.catalogue_slots.specs.Views.{record_of}
use Rattle.catalogue_slots.proofs.OnceLemmas.{record_once}
use Rattle.catalogue_replay.specs.Journal.{taken}
use Rattle.catalogue_replay.specs.Replays.{state_of}
use Rattle.catalogue_replay.proofs.FollowLemmas.{Reads-push, slot_in}
use Rattle.catalogue_replay.proofs.replay.Replay.follow_run.Goals as goal

-- the slot at this place
place : (bytes run : List ℕ) (r now i : ℕ) → now ≡ r + i → extent (4096 * r) (length run) bytes ≡ run → i < length run / 4096
    → extent (4096 * now) 4096 bytes ≡ take (4096 * i + 4096 - 4096 * i) (drop (4096 * i) run)
place bytes run r now i at stands lt = ap (λ (n : ℕ). extent (4096 * n) 4096 bytes) at ∙ sym (slot_in bytes run r i stands lt)

pub returns-in_default-clause-followed : goal.returns-in_default-clause-followed
returns-in_default-clause-followed c bytes reads stands = (
  record {
    state = state_of c.loop-i.self;
    reads = c.loop-i.invariant.followed bytes reads stands;
    at = refl;
    stuck = λ (entry : Record) (is : IsRecord entry) (e : extent (4096 * c.loop-i.self.read) 4096 bytes ≡ spelling entry).
        absurd (rw c.in_default.is at (c.in_ok-found.ensures.only entry is (sym (place bytes c.args.run.now c.args.self.now.read c.loop-i.self.read c.loop-i.i c.loop-i.invariant.at stands c.loop-i-test.true) ∙ e)));
  },
  omega (arith, c.loop-i.invariant.at),
)

pub returns-then-not-branch-clause-followed : goal.returns-then-not-branch-clause-followed
returns-then-not-branch-clause-followed c bytes reads stands =
    let found = rw c.in-Some.is at c.in_ok-found.ensures.found in
    let said = rw c.if-not-branch.true at c.in_ok-take.ensures.said in (
      record {
        state = state_of c.loop-i.self;
        reads = c.loop-i.invariant.followed bytes reads stands;
        at = sym c.in_ok-take.ensures.read;
        stuck = λ (entry : Record) (is : IsRecord entry) (e : extent (4096 * c.take.new.self.read) 4096 bytes ≡ spelling entry).
            let here = ap (λ (n : ℕ). extent (4096 * n) 4096 bytes) (sym c.in_ok-take.ensures.read) in
            let same : record_of c.in-Some.found ≡ entry = record_once (record_of c.in-Some.found) entry found.0 is
            (sym found.1 ∙ sym (place bytes c.args.run.now c.args.self.now.read c.loop-i.self.read c.loop-i.i c.loop-i.invariant.at stands c.loop-i-test.true) ∙ here ∙ e) in
            ap (taken c.args.used (state_of c.loop-i.self)) (sym same) ∙ said;
      },
      omega (arith, c.loop-i.invariant.at, c.in_ok-take.ensures.read),
    )

pub loop-i-preserved : goal.loop-i-preserved
loop-i-preserved c =
    let found = rw c.in-Some.is at c.in_ok-found.ensures.found in
    let said = rw c.if-not-branch.false at c.in_ok-take.ensures.said in
    record {
      followed = λ (bytes : List ℕ) reads stands.
          Reads-push c.args.used bytes (state_of c.loop-i.self) (state_of c.take.new.self) (record_of c.in-Some.found) (c.loop-i.invariant.followed bytes reads stands) found.0
          (place bytes c.args.run.now c.args.self.now.read c.loop-i.self.read c.loop-i.i c.loop-i.invariant.at stands c.loop-i-test.true ∙ found.1) said c.in_ok-take.ensures.read;
      at = omega (arith, c.loop-i.invariant.at, c.in_ok-take.ensures.read);
    }
