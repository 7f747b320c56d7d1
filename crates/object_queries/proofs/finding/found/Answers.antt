use Rattle.std.proofs.Common.{ℕ, ◌+◌, List, map, drop, sym, ap, ◌∙◌}
use Rattle.std.proofs.lemmas.List.{take_rest}
use Rattle.std.specs.declared.vec.Vec.{Vec}
use Rattle.std.specs.declared.alloc.Global.{Global}
use Rattle.catalogue_slots.specs.Views.{object_of}
use Rattle.catalogue_slots.specs.declared.entry.ObjectEntry.{ObjectEntry}
use Rattle.bsa_match.specs.Match.{is_match}
use Rattle.object_queries.specs.Queries.{with_status, found_by}
use Rattle.object_queries.proofs.QueryLemmas.{objects_from_place, finds_next, passes_next}
use Rattle.object_queries.proofs.finding.found.Goals as goal
use Rattle.object_queries.proofs.finding.found.Goals.{then-finds+in_ok-push, else-finds}

pub loop-i-preserved : goal.loop-i-preserved
loop-i-preserved c =
    let query = c.args.query.now in
    let objects = map object_of (drop c.loop-i.i c.args.objects.now) in
    let later = map object_of (drop (c.loop-i.i + 1) c.args.objects.now) in
    let all = found_by query (map object_of c.args.objects.now) in
    let here = objects_from_place c.args.objects.now c.loop-i.i c.index-objects-i.result c.loop-i-test.true c.index-objects-i.is in
    let finds = ap (λ (l : List ObjectEntry). is_match query (with_status (object_of c.index-objects-i.result) (map object_of l))) (sym (take_rest c.args.objects.now (c.loop-i.i + 1))) ∙ sym c.finds.ensures in
    elim c.if-finds.branch [
      | then-finds+in_ok-push w ↦
          let items = ap (λ (v : Vec ℕ Global). v.items) w.copies-is ∙ w.in_ok-push.ensures.items in
          rw items (finds_next query objects (object_of c.index-objects-i.result) later c.loop-i.copies.items all here c.loop-i.invariant (finds ∙ w.if-finds.true))
      | else-finds w ↦
          let items = ap (λ (v : Vec ℕ Global). v.items) w.copies-is in
          rw items (passes_next query objects (object_of c.index-objects-i.result) later c.loop-i.copies.items all here c.loop-i.invariant (finds ∙ w.if-finds.false))
    ]
