use Rattle.std.proofs.Common.{◌≡◌, ◌<◌, List, [], ◌∷◌, length, get_or, map, arith, sym, ap, ◌∙◌, subst}
use Rattle.std.proofs.lemmas.List.{length-map, get_or-map}
use Rattle.block_chain.specs.declared.runs.Run.{Run}
use Rattle.object_store.specs.Reading.{ChangesOne}
use Rattle.object_store.specs.Returns.{place_of_blocks, CanRelease, GivesBack}
use Rattle.object_store.proofs.ReturnLemmas.{all_give_more, next_within, next_live}
use Rattle.object_store.proofs.releasing.release_blocks.Goals as goal

pub release_one-requires-clause-within : goal.release_one-requires-clause-within
release_one-requires-clause-within g c =
    let placed = map place_of_blocks c.args.blocks.now in
    let one = place_of_blocks c.object-item.result in
    let lt : c.loop-object.object-index < length (map place_of_blocks c.args.blocks.now) = simp length-map (omega arith) in
    let here : get_or (map place_of_blocks c.args.blocks.now) c.loop-object.object-index (place_of_blocks c.object-item.result) ≡ place_of_blocks c.object-item.result =
    get_or-map place_of_blocks c.args.blocks.now c.loop-object.object-index c.object-item.result (place_of_blocks c.object-item.result) (omega arith) ∙ ap place_of_blocks (sym c.object-item.is) in
    next_within g.D.Disk.is_modelled g.D.Disk.bytes placed c.loop-object.object-index one c.args.volumes.now c.loop-object.volumes lt here c.requires c.loop-object.invariant

pub release_one-requires-clause-live : goal.release_one-requires-clause-live
release_one-requires-clause-live g c place volume there same =
    let placed = map place_of_blocks c.args.blocks.now in
    let one = place_of_blocks c.object-item.result in
    let lt : c.loop-object.object-index < length (map place_of_blocks c.args.blocks.now) = simp length-map (omega arith) in
    let here : get_or (map place_of_blocks c.args.blocks.now) c.loop-object.object-index (place_of_blocks c.object-item.result) ≡ place_of_blocks c.object-item.result =
    get_or-map place_of_blocks c.args.blocks.now c.loop-object.object-index c.object-item.result (place_of_blocks c.object-item.result) (omega arith) ∙ ap place_of_blocks (sym c.object-item.is) in
    subst (λ (runs : List Run). CanRelease runs volume) (sym c.deref.ensures.value)
    (next_live g.D.Disk.is_modelled g.D.Disk.bytes placed c.loop-object.object-index one c.args.volumes.now c.loop-object.volumes lt here c.requires c.loop-object.invariant place volume there same)

pub loop-object-preserved : goal.loop-object-preserved
loop-object-preserved g c =
    let placed = map place_of_blocks c.args.blocks.now in
    let one = place_of_blocks c.object-item.result in
    let lt : c.loop-object.object-index < length (map place_of_blocks c.args.blocks.now) = simp length-map (omega arith) in
    let here : get_or (map place_of_blocks c.args.blocks.now) c.loop-object.object-index (place_of_blocks c.object-item.result) ≡ place_of_blocks c.object-item.result =
    get_or-map place_of_blocks c.args.blocks.now c.loop-object.object-index c.object-item.result (place_of_blocks c.object-item.result) (omega arith) ∙ ap place_of_blocks (sym c.object-item.is) in
    all_give_more g.D.Disk.is_modelled g.D.Disk.bytes placed c.loop-object.object-index one c.args.volumes.now c.loop-object.volumes c.release_one.new.volumes lt here c.loop-object.invariant
    (subst (λ (runs : List Run). ChangesOne (GivesBack g.D.Disk.is_modelled g.D.Disk.bytes (runs ∷ [])) one.volume c.loop-object.volumes c.release_one.new.volumes) c.deref.ensures.value c.release_one.ensures)
