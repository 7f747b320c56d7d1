use Rattle.std.proofs.Common.{◌≡◌, ◌-◌, ℕ, List, arith, refl, ⊎_elim, length, take, drop, length-take}
use Rattle.std.specs.Prelude.{◌%◌}
use Rattle.object_volume.specs.ObjectsLaws.{spares_less}
use Rattle.object_volume.proofs.TakingLemmas.{taken_free}
use Rattle.object_volume.proofs.SendingLemmas.{takes_for, rest_stored, same_stored}
use Rattle.object_volume.proofs.sending.put_rest.Goals as goal

pub returns-clause-taken : goal.returns-clause-taken
returns-clause-taken g c =
    let bytes = c.args.bytes.now in
    takes_for c.args.chains.now c.write_blocks.new.chains c.keep_part.new.chains c.args.object.now.list c.write_blocks.new.list c.keep_part.new.list g.D.Disk.is_modelled
    (g.D.Disk.bytes c.args.disk.now) (g.D.Disk.bytes c.write_blocks.new.disk) bytes (length bytes - length bytes % 4096) c.keep_part.new.last refl
    c.in_ok-write_blocks.ensures.put c.keep_part.ensures.takes

pub returns-clause-stored : goal.returns-clause-stored
returns-clause-stored g c message case so_far =
    let bytes = c.args.bytes.now in
    let whole : ℕ = length bytes - length bytes % 4096 in
    ⊎_elim
    (λ (aligned : length message % 4096 ≡ 0). rest_stored so_far bytes c.keep_part.new.part whole c.keep_part.new.last aligned refl c.in_ok-write_blocks.ensures.put c.keep_part.ensures.takes c.keep_part.ensures.kept)
    (λ (none : length bytes ≡ 0). let kept = c.keep_part.ensures.unused (no_rest whole bytes none) in
    same_stored so_far bytes c.keep_part.new.part whole c.keep_part.new.last none refl c.in_ok-write_blocks.ensures.put c.keep_part.ensures.takes kept.0 kept.1)
    case
  where
    no_rest : (whole : ℕ) (bytes : List ℕ) → length bytes ≡ 0 → length (take (length bytes - whole) (drop whole bytes)) ≡ 0
    no_rest whole bytes none = omega (arith, length-take (length bytes - whole) (drop whole bytes), none)

pub returns-clause-spared : goal.returns-clause-spared
returns-clause-spared g c tells =
    let puts = c.in_ok-write_blocks.ensures.put in
    let limit : ℕ = length (g.D.Disk.bytes c.args.disk.now) in
    spares_less puts.taken c.args.chains.now.free limit limit (g.D.Disk.bytes c.args.disk.now) (g.D.Disk.bytes c.write_blocks.new.disk)
    (taken_free c.args.chains.now c.write_blocks.new.chains c.args.object.now.list c.write_blocks.new.list puts.taken puts.takes) (omega arith) (puts.spared tells)
