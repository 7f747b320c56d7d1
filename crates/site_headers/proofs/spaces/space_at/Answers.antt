use Rattle.std.proofs.Common.{◌≡◌, ℕ, List, Some, ap, ◌∙◌}
use Rattle.site_headers.specs.declared.heads.SpaceHead.{SpaceHead}
use Rattle.site_headers.proofs.spaces.space_at.Goals as goal

abbrev head_with : List ℕ → ℕ → SpaceHead
head_with name pages = record { name = name; pages = pages }

-- a space with this name and these pages is the same
same_head : (name : List ℕ) (pages : ℕ) (space : SpaceHead) → Some name ≡ Some space.name → pages ≡ space.pages → Some (head_with name pages) ≡ Some space
same_head name pages space names counts =
    let same : name ≡ space.name = cc in
    ap (λ (text : List ℕ). Some (head_with text pages)) same ∙ ap (λ (n : ℕ). Some (head_with space.name n)) counts

pub returns-then-matches-clause-only : goal.returns-then-matches-clause-only
returns-then-matches-clause-only c space has =
    same_head c.in_ok-name.name c.u32_at-pages.result space (c.in_ok-name.ensures.only space.name has.name_stands) (c.u32_at-pages.ensures.only space.pages has.pages_stand)
