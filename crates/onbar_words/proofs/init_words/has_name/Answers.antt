use Rattle.std.proofs.Common.{nat_eq, rules, tests, ◌∙◌}
use Rattle.std.proofs.lemmas.Iterator.{YieldsList-from_slice}
use Rattle.std.proofs.lemmas.Iterator.Search.{any_from_yields_List}
use Rattle.std.specs.Cmp.Lexicographic.{pointwise}
use Rattle.site_headers.specs.declared.heads.SpaceHead.{SpaceHead}
use Rattle.onbar_words.proofs.InitLemmas.{has_space-any}
use Rattle.onbar_words.proofs.init_words.has_name.Goals as goal

pub returns : goal.returns
returns c =
    any_from_yields_List (λ (head : SpaceHead). pointwise nat_eq head.name c.args.name.now) _ _ _ c.any.ensures.ran
    (YieldsList-from_slice c.args.spaces.now cc) (λ x b q k. search (rules, tests))
    ∙ has_space-any c.args.name.now c.args.spaces.now
