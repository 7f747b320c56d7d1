use Rattle.std.proofs.Common.{◌≡◌, ◌+◌, map, take, sym, ap, ◌∙◌, subst, arith}
use Rattle.std.specs.declared.vec.Vec.{Vec}
use Rattle.std.specs.declared.alloc.Global.{Global}
use Rattle.block_chain.specs.declared.runs.Run.{Run}
use Rattle.catalogue_slots.specs.Views.{object_of}
use Rattle.store_opening.specs.Opening.{live_on}
use Rattle.store_opening.proofs.LiveLemmas.{runs_in, live_more, live_same}
use Rattle.store_opening.proofs.live.live_runs.Goals as goal
use Rattle.store_opening.proofs.live.live_runs.Goals.{then-entry-number+in_ok-runs+in_ok-push, else-entry-number}

pub loop-entry-preserved : goal.loop-entry-preserved
loop-entry-preserved c =
    let i = c.loop-entry.entry-index in
    let entry = c.entry-item.result in
    elim c.if-entry-number.branch [
      | then-entry-number+in_ok-runs+in_ok-push w ↦
          live_more c.args.number c.args.objects.now i entry (omega arith) (sym c.entry-item.is) c.loop-entry.live.items c.if-entry-number.live.items w.in_ok-runs.runs
          (omega (arith, w.if-entry-number.true)) (let runs : w.in_ok-runs.runs.items ≡ entry.runs.items = cc (w.in_ok-runs.ensures.items, w.deref.ensures.value) in runs)
          (ap (λ (v : Vec (Vec Run Global) Global). v.items) w.live-is ∙ w.in_ok-push.ensures.items) c.loop-entry.invariant
      | else-entry-number w ↦
          subst (λ (v : Vec (Vec Run Global) Global). map runs_in v.items ≡ live_on c.args.number (map object_of (take (i + 1) c.args.objects.now))) (sym w.live-is)
          (live_same c.args.number c.args.objects.now i entry (omega arith) (sym c.entry-item.is) c.loop-entry.live.items
          (λ (e : entry.volume ≡ c.args.number). omega (arith, e, w.if-entry-number.false)) c.loop-entry.invariant)
    ]
