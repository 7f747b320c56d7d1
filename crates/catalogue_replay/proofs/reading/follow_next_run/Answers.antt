use Rattle.std.proofs.Common.{◌≡◌, ◌+◌, ◌*◌, ◌/◌, ℕ, length, ap, subst, sym, ◌∙◌, arith}
use Rattle.site_disk.specs.Bytes.{extent}
use Rattle.gated_slots.specs.Slots.{place_of}
use Rattle.catalogue_replay.specs.Journal.{Reads, ReadsOn}
use Rattle.catalogue_replay.specs.Places.{slots_on}
use Rattle.catalogue_replay.specs.Replays.{state_of}
use Rattle.catalogue_replay.proofs.ReadingLemmas.{ok_value, run_stands, read_on, all_read, stopped_at}
use Rattle.catalogue_replay.proofs.reading.follow_next_run.Goals as goal

pub returns-clause-followed : goal.returns-clause-followed
returns-clause-followed g c tells within reads =
    let file = g.D.Disk.bytes c.args.disk.now in
    let n = length c.args.run.now in
    let at = c.args.replay.now.read in
    let found = ok_value _ _ _ c.read_run.result c.in_ok-map_err.field-0 c.in_ok-map_err.ensures.cases c.in_ok-map_err.ensures.variant (c.read_run.ensures.found tells) in
    let place : place_of c.args.slots.now.area at ≡ 73728 + 4096 * at =
    ap (λ (k : ℕ). k + c.args.slots.now.area.size * at) c.requires.place ∙ ap (λ (k : ℕ). 73728 + k * at) c.requires.area in
    let run : c.read_run.new.into ≡ extent (73728 + 4096 * at) n file = found c.if-not-branch.false ∙ ap (λ (k : ℕ). extent k n file) place in
    let long : length c.read_run.new.into ≡ n = omega arith in
    let stands : extent (4096 * at) (length c.read_run.new.into) (slots_on file) ≡ c.read_run.new.into =
    ap (λ (k : ℕ). extent (4096 * at) k (slots_on file)) long ∙ run_stands at n file ∙ sym run in
    subst (λ (k : ℕ). ReadsOn c.args.slots.now.used (slots_on file) (at + k / 4096) (state_of c.follow_run.new.self) c.in_ok-follow_run.field-0) long
    (subst (λ (u : ℕ). ReadsOn u (slots_on file) (at + length c.read_run.new.into / 4096) (state_of c.follow_run.new.self) c.in_ok-follow_run.field-0) c.used.ensures.used
    (c.in_ok-follow_run.ensures.followed (slots_on file) (subst (λ (u : ℕ). Reads u (slots_on file) (state_of c.args.replay.now)) (sym c.used.ensures.used) reads) stands))

pub returns-clause-sound : goal.returns-clause-sound
returns-clause-sound g c is all =
    let on = read_on c.args.slots.now.used (state_of c.args.replay.now) c.read_run.new.into is in record {
      bytes = on.bytes;
      reads = subst (λ (u : ℕ). Reads u on.bytes (state_of c.follow_run.new.self)) c.used.ensures.used
          (all_read c.used.result on.bytes (c.args.replay.now.read + length c.read_run.new.into / 4096) (state_of c.follow_run.new.self) c.in_ok-follow_run.field-0 all
          (c.in_ok-follow_run.ensures.followed on.bytes (subst (λ (u : ℕ). Reads u on.bytes (state_of c.args.replay.now)) (sym c.used.ensures.used) on.reads) on.stands));
    }

pub returns-clause-fewer : goal.returns-clause-fewer
returns-clause-fewer g c is few =
    let on = read_on c.args.slots.now.used (state_of c.args.replay.now) c.read_run.new.into is in
    let stopped = stopped_at c.used.result on.bytes (c.args.replay.now.read + length c.read_run.new.into / 4096) (state_of c.follow_run.new.self) c.in_ok-follow_run.field-0 few
    (c.in_ok-follow_run.ensures.followed on.bytes (subst (λ (u : ℕ). Reads u on.bytes (state_of c.args.replay.now)) (sym c.used.ensures.used) on.reads) on.stands) in
    omega (arith, stopped.1)
