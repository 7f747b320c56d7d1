use Rattle.std.proofs.Common.{ℕ, ◌<◌, length, slice_set, ap, arith}
use Rattle.site_votes.proofs.StoreLemmas.{there_of}
use Rattle.site_votes.proofs.voting.send_to_store.Goals as goal

pub returns-clause-ends : goal.returns-clause-ends
returns-clause-ends g c =
    let volumes = c.args.store.now.volumes.items in
    let lt : c.args.number < length volumes = omega (arith, c.requires.number, c.requires.settled.opened.count) in
    record {
      was = c.index_mut-volume.result.now;
      is = c.send_object.new.volume;
      there = there_of volumes c.from.result c.args.number _ c.index_mut-volume.result.now c.from.ensures lt c.index_mut-volume.ensures.value;
      changed = ap (λ (k : ℕ). slice_set volumes k c.send_object.new.volume) c.from.ensures;
      by = c.send_object.ensures;
    }
