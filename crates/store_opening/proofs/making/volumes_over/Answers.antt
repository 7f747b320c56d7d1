use Rattle.std.proofs.Common.{◌≡◌, ℕ, List, [], ◌∷◌, ◌++◌, length, map, sym, ap, subst, ◌∙◌, arith, length-append}
use Rattle.std.proofs.lemmas.List.{length-map, map_push}
use Rattle.object_volume.specs.Volumes.{disk_of, number_of}
use Rattle.object_volume.specs.declared.volume.Volume.{Volume}
use Rattle.object_store.specs.Stores.{OfEach}
use Rattle.store_opening.proofs.MakingLemmas.{each_push}
use Rattle.store_opening.proofs.making.volumes_over.Goals as goal

pub loop-disk-preserved : goal.loop-disk-preserved
loop-disk-preserved g c =
    let items = c.loop-disk.volumes.items in
    let new = c.new.result in
    let pushed : c.push.new.self.items ≡ items ++ new ∷ [] = c.in_ok-push.ensures.items in
    let own : number_of new ≡ length items =
    c.new.ensures.number ∙ c.loop-disk.invariant.0 ∙ sym (ap (λ (l : List g.row.D.Denot). length l) c.loop-disk.invariant.1) ∙ length-map items (λ (v : Volume g.row.D.Denot). disk_of v) in (
      omega (arith, c.loop-disk.invariant.0, length-append c.loop-disk.yielded (c.in-Some.disk ∷ [])),
      ap (λ (l : List (Volume g.row.D.Denot)). map disk_of l) pushed ∙ map_push disk_of items new ∙ ap (λ (l : List g.row.D.Denot). l ++ disk_of new ∷ []) c.loop-disk.invariant.1
          ∙ ap (λ (d : g.row.D.Denot). c.loop-disk.yielded ++ d ∷ []) c.new.ensures.disk,
      subst (OfEach (λ place volume. number_of volume ≡ place)) (sym pushed)
          (each_push (λ (place : ℕ) (volume : Volume g.row.D.Denot). number_of volume ≡ place) items new c.loop-disk.invariant.2 own),
    )
