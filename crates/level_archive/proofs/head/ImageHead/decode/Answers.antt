use Rattle.std.proofs.Common.{◌≡◌, Bool, true, Some, sym, ap, subst, ◌∙◌}
use Rattle.std.specs.Bool.{then_some}
use Rattle.std.proofs.lemmas.Bool.{both_ways}
use Rattle.level_archive.specs.declared.head.ImageHead.{ImageHead}
use Rattle.level_archive.specs.Image.{IsImageHead, head_at, head_bytes}
use Rattle.level_archive.proofs.HeadLemmas.{head_at-head_bytes}
use Rattle.level_archive.proofs.head.ImageHead.decode.Goals as goal
use Rattle.level_archive.proofs.head.ImageHead.decode.Goals.{then-is_image_head, else-is_image_head}

pub returns-clause-only : goal.returns-clause-only
returns-clause-only c head ok spelt =
    let same : c.read-head.result ≡ head = c.read-head.ensures ∙ ap head_at spelt ∙ head_at-head_bytes head ok in
    let is : c.if-is_image_head.then_some ≡ true = elim c.if-is_image_head.branch [
      | then-is_image_head w ↦ w.then_some-is ∙ w.is_spelled_by.ensures.1 (spelt ∙ ap head_bytes (sym same))
      | else-is_image_head w ↦ absurd (both_ways c.is_image_head.result w.if-is_image_head.false (c.is_image_head.ensures.1 (subst IsImageHead (sym same) ok)))
    ] in
    c.then_some.ensures ∙ ap (λ (b : Bool). then_some b c.read-head.result) is ∙ ap (λ (h : ImageHead). Some h) same
