use Rattle.std.proofs.Common.{◌≡◌, ℕ, List, length, drop, All, subst, arith}
use Rattle.std.proofs.lemmas.List.{length-drop}
use Rattle.std.proofs.lemmas.Option.{same_Some}
use Rattle.std.proofs.lemmas.Bool.{eqb-true, eq-eqb}
use Rattle.site_headers.specs.Headers.{no_own, plain_tail, HasHeader}
use Rattle.site_headers.specs.Kinds.{kind_code}
use Rattle.site_headers.specs.Parts.{HasFront}
use Rattle.site_headers.proofs.FrontLemmas.{HasHeader-front, HasFront-header, drop-header, zeros_no_own, no_own_zeros}
use Rattle.site_headers.proofs.plain.has_plain_header.Goals as goal

-- an open front and zeros behind it
is_header : (kind site : ℕ) (page : List ℕ) → length page ≡ 4096 → HasFront kind 0 page site → All (λ byte. byte ≡ 0) (drop 16 page) → HasHeader (plain_tail kind site) page
is_header kind site page fills front zeros =
    HasHeader-front kind 0 site no_own page fills front (zeros_no_own (drop 16 page) (omega (arith, length-drop 16 page, fills)) zeros)

pub returns-then-found-site : goal.returns-then-found-site
returns-then-found-site c = (
  λ zeros. is_header (kind_code c.args.kind) c.args.site c.args.page.now c.told-page
      (subst (λ (site : ℕ). HasFront (kind_code c.args.kind) 0 c.args.page.now site) c.if-found-site.true c.in-Some.ensures.found) (c.is_zero_from.ensures.0 zeros),
  λ has. c.is_zero_from.ensures.1 (no_own_zeros (drop 16 c.args.page.now) (drop-header (kind_code c.args.kind) 0 c.args.site no_own c.args.page.now c.told-page has)),
)

pub returns-else-found-site : goal.returns-else-found-site
returns-else-found-site c = (
  λ same. absurd (c.if-found-site.false (eqb-true c.in-Some.found c.args.site same)),
  λ has. eq-eqb c.in-Some.found c.args.site (same_Some c.in-Some.found c.args.site
      (c.in-Some.ensures.only c.args.site (HasFront-header (kind_code c.args.kind) 0 c.args.site no_own c.args.page.now c.told-page has c.ranges.site.fits))),
)

pub returns-in-None : goal.returns-in-None
returns-in-None c = (
  λ never. cc,
  λ has. cc (c.in-None.ensures.only c.args.site (HasFront-header (kind_code c.args.kind) 0 c.args.site no_own c.args.page.now c.told-page has c.ranges.site.fits)),
)
