use Rattle.std.proofs.Common.{◌≡◌, ℕ, List, length, subst, Option, Some, None}
use Rattle.std.specs.Prelude.{IfSome}
use Rattle.std.proofs.lemmas.Option.{same_Some}
use Rattle.site_headers.specs.Headers.{volume_own, volume_tail, IsVolumeSize, HasHeader}
use Rattle.site_headers.specs.Parts.{HasFront, HasVolumeSize}
use Rattle.site_headers.proofs.FrontLemmas.{HasHeader-front, HasFront-header, drop-header, HasVolumeSize-own, own-HasVolumeSize}
use Rattle.site_headers.proofs.volume.read_volume_header.Goals as goal

has_size : (number site blocks : ℕ) (page : List ℕ) → length page ≡ 4096 → IsVolumeSize blocks → HasHeader (volume_tail number site blocks) page → HasVolumeSize page blocks
has_size number site blocks page fills size has = own-HasVolumeSize page blocks size (drop-header 5 number site (volume_own blocks) page fills has)

-- what holds of the value, if there is one
if_some : {P Q : ℕ → Type 0} (read : Option ℕ) → ((n : ℕ) → P n → Q n) → IfSome read P → IfSome read Q
if_some (Some n) means is = means n is
if_some None means is = is

pub returns-in-Some-clause-found : goal.returns-in-Some-clause-found
returns-in-Some-clause-found c =
    let site = c.args.site in
    let front = subst (λ (n : ℕ). HasFront 5 c.args.number c.args.page.now n) c.if-found-site.true c.in-Some.ensures.found in
    if_some c.volume_size_of.result
    (λ blocks has. (
      record { some = has.some; few = has.few },
      HasHeader-front 5 c.args.number site (volume_own blocks) c.args.page.now c.told-page front (HasVolumeSize-own c.args.page.now blocks c.told-page has),
    )) c.volume_size_of.ensures.found

pub returns-in-Some-clause-only : goal.returns-in-Some-clause-only
returns-in-Some-clause-only c blocks size has =
    c.volume_size_of.ensures.only blocks (has_size c.args.number c.args.site blocks c.args.page.now c.told-page size has)

pub returns-in_default-clause-only : goal.returns-in_default-clause-only
returns-in_default-clause-only c blocks size has =
    absurd (c.if-found-site.false (same_Some c.in-Some.found c.args.site
    (c.in-Some.ensures.only c.args.site (HasFront-header 5 c.args.number c.args.site (volume_own blocks) c.args.page.now c.told-page has c.ranges.site.fits))))

pub returns-in_default-2-clause-only : goal.returns-in_default-2-clause-only
returns-in_default-2-clause-only c blocks size has =
    cc (c.in_default.ensures.only c.args.site (HasFront-header 5 c.args.number c.args.site (volume_own blocks) c.args.page.now c.told-page has c.ranges.site.fits))
