use Rattle.std.proofs.Common.{◌≡◌, List, get_or, refl, ap, ◌∙◌, arith}
use Rattle.std.specs.declared.vec.Vec.{Vec}
use Rattle.std.specs.declared.alloc.Global.{Global}
use Rattle.block_chain.specs.declared.runs.Run.{Run}
use Rattle.catalogue_journal.specs.Catalogues.{objects_of}
use Rattle.catalogue_slots.specs.Views.{object_of}
use Rattle.object_store.specs.declared.releasing.ObjectBlocks.{ObjectBlocks}
use Rattle.object_store.proofs.ReturnLemmas.{placed_one, placed_none}
use Rattle.object_store.proofs.releasing.blocks_of_objects.Goals as goal
use Rattle.object_store.proofs.releasing.blocks_of_objects.Goals.{in-Some+in_ok-runs-in-Some+in_ok-push-in-Some, in-None}

pub loop-copy-preserved : goal.loop-copy-preserved
loop-copy-preserved g c =
    let objects = objects_of c.args.cat.now in
    let copies = c.args.copies.now in
    let i = c.loop-copy.copy-index in
    elim c.match-find_object.branch [
      | in-Some+in_ok-runs-in-Some+in_ok-push-in-Some w ↦
          placed_one copies i (get_or copies i 0) objects (omega arith) refl c.loop-copy.blocks.items c.loop-copy.invariant c.match-find_object.blocks.items
          (object_of w.in-Some.entry.now) (record { volume = w.in-Some.entry.now.volume; runs = w.in_ok-runs-in-Some.runs })
          w.in-Some.ensures.found
          (ap (λ (runs : List Run). record { volume = w.in-Some.entry.now.volume; runs = runs }) (let runs : w.in_ok-runs-in-Some.runs.items ≡ w.in-Some.entry.now.runs.items = cc (w.in_ok-runs-in-Some.ensures.items) in runs))
          (ap (λ (v : Vec ObjectBlocks Global). v.items) w.blocks-is ∙ w.in_ok-push-in-Some.ensures.items)
      | in-None w ↦
          placed_none copies i (get_or copies i 0) objects (omega arith) refl c.loop-copy.blocks.items c.loop-copy.invariant c.match-find_object.blocks.items
          (w.in-None.ensures.missing refl) (ap (λ (v : Vec ObjectBlocks Global). v.items) w.blocks-is)
    ]
