use Rattle.std.proofs.Common.{◌≡◌, ◌++◌, ℕ, List, take, drop, set, ap, ◌∙◌}
use Rattle.std.specs.Prelude.{replicate}
use Rattle.twin_mark.specs.Marks.{formatted}
use Rattle.twin_mark.proofs.slots.lay_region.Goals as goal

laid : (region content copy : List ℕ) → region ≡ replicate 1024 0 → copy ≡ content
    → take 257 (set region 0 1) ++ (copy ++ drop 255 (drop 257 (set region 0 1))) ≡ formatted content
unfolding formatted
laid region content copy zeros is =
    ap (λ (l : List ℕ). take 257 (set l 0 1) ++ (copy ++ drop 255 (drop 257 (set l 0 1)))) zeros
    ∙ ap (λ (l : List ℕ). take 257 (set (replicate 1024 0) 0 1) ++ (l ++ drop 255 (drop 257 (set (replicate 1024 0) 0 1)))) is

pub returns : goal.returns
returns c = laid c.args.region.now c.args.content.now c.copy_from_slice.new.self c.requires.region c.copy_from_slice.ensures.after
