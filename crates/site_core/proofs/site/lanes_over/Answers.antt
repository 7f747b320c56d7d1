use Rattle.std.proofs.Common.{◌≡◌, ℕ, List, [], ◌∷◌, ◌++◌, length, map, sym, ap, subst, ◌∙◌, arith, length-append}
use Rattle.std.proofs.lemmas.List.{length-map, map_push}
use Rattle.space_lane.specs.Lanes.{disk_of as lane_disk}
use Rattle.space_lane.specs.declared.lane.Lane.{Lane}
use Rattle.site_core.specs.Made.{AreMade, IsMadeAt}
use Rattle.site_core.proofs.MadeLemmas.{each_push}
use Rattle.site_core.proofs.site.lanes_over.Goals as goal

pub loop-chunk-preserved : goal.loop-chunk-preserved
loop-chunk-preserved g c =
    let items = c.loop-chunk.lanes.items in
    let new = c.new.result in
    let pushed : c.push.new.self.items ≡ items ++ new ∷ [] = c.in_ok-push.ensures.items in
    let count : c.loop-chunk.space ≡ length items =
    c.loop-chunk.invariant.0 ∙ sym (ap (λ (l : List g.row.D.Denot). length l) c.loop-chunk.invariant.1) ∙ length-map items (λ (v : Lane g.row.D.Denot). lane_disk v) in (
      omega (arith, c.loop-chunk.invariant.0, length-append c.loop-chunk.yielded (c.in-Some.chunk ∷ [])),
      ap (λ (l : List (Lane g.row.D.Denot)). map lane_disk l) pushed ∙ map_push lane_disk items new ∙ ap (λ (l : List g.row.D.Denot). l ++ lane_disk new ∷ []) c.loop-chunk.invariant.1
          ∙ ap (λ (d : g.row.D.Denot). c.loop-chunk.yielded ++ d ∷ []) c.new.ensures.disk,
      subst AreMade (sym pushed)
          (each_push (λ (place : ℕ) (lane : Lane g.row.D.Denot). IsMadeAt place lane) items new c.loop-chunk.invariant.2
          (record { made = c.new.ensures.made; space = c.new.ensures.space ∙ count })),
    )
