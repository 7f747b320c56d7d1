use Rattle.std.proofs.Common.{◌≡◌, ℕ, ◌+◌, ◌*◌, List, length, map, drop, All, Some, sym, ap, ◌∙◌}
use Rattle.std.proofs.lemmas.List.{length-map}
use Rattle.std.proofs.lemmas.Option.{same_Some}
use Rattle.site_headers.specs.declared.sizes.Sizes.{Sizes}
use Rattle.site_headers.specs.declared.heads.SpaceHead.{SpaceHead}
use Rattle.site_headers.specs.Heads.{Head}
use Rattle.site_headers.specs.Views.{space_of}
use Rattle.site_headers.proofs.CatalogueLemmas.{IsHead-parts, HasHeader-parts, HasFront-catalogue, HasSizes-catalogue, BeginsWithSpaces-catalogue, zeros-catalogue, sizes_in, only_header}
use Rattle.site_headers.proofs.catalogue.read_catalogue_header.Goals as goal

-- the count that was read is the header's
same_count : (sizes : Sizes) (head : Head) (count : ℕ) → count ≡ sizes.spaces → Some sizes ≡ Some (sizes_in head) → count ≡ length head.spaces
same_count sizes head count counted same = counted ∙ ap (λ (s : Sizes). s.spaces) (same_Some sizes (sizes_in head) same)

pub returns-in_default-clause-only : goal.returns-in_default-clause-only
returns-in_default-clause-only c h is has = cc (c.in_default.ensures.only h.site (HasFront-catalogue c.args.page.now h c.told-page is has))

pub returns-in_default-sizes_of-clause-only : goal.returns-in_default-sizes_of-clause-only
returns-in_default-sizes_of-clause-only c h is has = cc (c.in_default-sizes_of.ensures.only (sizes_in h) (HasSizes-catalogue c.args.page.now h c.told-page is has))

pub returns-then-not-is_zero_from-clause-only : goal.returns-then-not-is_zero_from-clause-only
returns-then-not-is_zero_from-clause-only c h is has =
    let counted = same_count c.in-Some-sizes_of.sizes h c.from-count.result c.from-count.ensures (c.in-Some-sizes_of.ensures.only (sizes_in h) (HasSizes-catalogue c.args.page.now h c.told-page is has)) in
    cc (c.is_zero_from.ensures.1 (zeros-catalogue c.args.page.now h c.told-page is has c.from-count.result counted), c.if-not-is_zero_from.true)

pub returns-in_default-2-clause-only : goal.returns-in_default-2-clause-only
returns-in_default-2-clause-only c h is has =
    let counted = same_count c.in-Some-sizes_of.sizes h c.from-count.result c.from-count.ensures (c.in-Some-sizes_of.ensures.only (sizes_in h) (HasSizes-catalogue c.args.page.now h c.told-page is has)) in
    let read = c.in_ok-spaces.ensures.only h.spaces (sym counted) (BeginsWithSpaces-catalogue c.args.page.now h c.told-page is has) in
    cc (rw c.in_default-2.is at read)

-- what was read, and how many spaces
counted_spaces : (heads : List SpaceHead) (count n : ℕ) → length heads ≡ count → count ≡ n → length (map space_of heads) ≡ n
counted_spaces heads count n so_many counted = length-map heads space_of ∙ so_many ∙ counted

-- the zeros behind the spaces
zeros_from : (page : List ℕ) (count n : ℕ) → count ≡ n → All (λ byte. byte ≡ 0) (drop (32 + 24 * count) page) → All (λ byte. byte ≡ 0) (drop (32 + 24 * n) page)
zeros_from page count n counted zeros = rw (sym counted) zeros

pub returns-clause-found : goal.returns-clause-found
returns-clause-found c =
    let read = rw c.in-Some-2.is at c.in_ok-spaces.ensures.found in
    let counted = counted_spaces c.in-Some-2.spaces.items c.from-count.result c.in-Some-sizes_of.sizes.spaces read.0 c.from-count.ensures in
    let zeros = zeros_from c.args.page.now c.from-count.result c.in-Some-sizes_of.sizes.spaces c.from-count.ensures (c.is_zero_from.ensures.0 c.if-not-is_zero_from.false) in (
      IsHead-parts c.args.page.now c.in-Some.site c.in-Some-sizes_of.sizes (map space_of c.in-Some-2.spaces.items) c.told-page counted
          c.in-Some.ensures.found c.in-Some-sizes_of.ensures.found read.1 zeros,
      HasHeader-parts c.args.page.now c.in-Some.site c.in-Some-sizes_of.sizes (map space_of c.in-Some-2.spaces.items) c.told-page counted
          c.in-Some.ensures.found c.in-Some-sizes_of.ensures.found read.1 zeros,
    )

pub returns-clause-only : goal.returns-clause-only
returns-clause-only c h is has =
    let read = rw c.in-Some-2.is at c.in_ok-spaces.ensures.found in
    let counted = counted_spaces c.in-Some-2.spaces.items c.from-count.result c.in-Some-sizes_of.sizes.spaces read.0 c.from-count.ensures in
    let zeros = zeros_from c.args.page.now c.from-count.result c.in-Some-sizes_of.sizes.spaces c.from-count.ensures (c.is_zero_from.ensures.0 c.if-not-is_zero_from.false) in
    only_header c.args.page.now c.in-Some.site c.in-Some-sizes_of.sizes (map space_of c.in-Some-2.spaces.items) h c.told-page counted
    c.in-Some.ensures.found c.in-Some-sizes_of.ensures.found read.1 zeros is has
