use Rattle.std.proofs.Common.{◌≡◌, ap}
use Rattle.std.proofs.lemmas.Option.{same_Some}
use Rattle.site_headers.specs.declared.heads.SpaceHead.{SpaceHead}
use Rattle.site_headers.proofs.SpaceLemmas.{IsFresh-all, all-IsFresh}
use Rattle.site_headers.proofs.spaces.new_space_at.Goals as goal

pub returns-then-is_fresh-clause-found : goal.returns-then-is_fresh-clause-found
returns-then-is_fresh-clause-found c = record {
  has_space = c.in_ok-space.ensures.found;
  is_fresh = IsFresh-all c.in_ok-space.space.name c.args.before.now (c.is_fresh.ensures.0 c.if-is_fresh.true);
}

pub returns-else-is_fresh-clause-only : goal.returns-else-is_fresh-clause-only
returns-else-is_fresh-clause-only c space has =
    let names : c.in_ok-space.space.name ≡ space.name =
    ap (λ (head : SpaceHead). head.name) (same_Some c.in_ok-space.space space (c.in_ok-space.ensures.only space has.has_space)) in
    let fresh = all-IsFresh c.in_ok-space.space.name c.args.before.now (rw names has.is_fresh) in
    cc (c.is_fresh.ensures.1 fresh, c.if-is_fresh.false)
