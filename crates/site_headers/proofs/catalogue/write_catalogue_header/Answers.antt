use Rattle.std.proofs.Common.{◌≡◌, ℕ, ◌+◌, ◌*◌, List, ◌++◌, length, map, take, ap, arith}
use Rattle.std.specs.List.{flat_map}
use Rattle.std.proofs.lemmas.List.{length-map}
use Rattle.site_headers.specs.declared.heads.SpaceHead.{SpaceHead}
use Rattle.site_headers.specs.Headers.{space_bytes}
use Rattle.site_headers.specs.Views.{head_of, space_of}
use Rattle.site_headers.proofs.CatalogueLemmas.{written_catalogue}
use Rattle.site_headers.proofs.catalogue.write_catalogue_header.Goals as goal

spaces_written : (heads seen : List SpaceHead) (count : ℕ) (before after : List ℕ) → seen ≡ heads → count ≡ length heads
    → take (32 + 24 * length seen) after ≡ before ++ flat_map space_bytes (map space_of seen)
    → take (32 + 24 * count) after ≡ before ++ flat_map space_bytes (map space_of heads)
spaces_written heads seen count before after same counted written = rw counted (rw same at written)

pub returns : goal.returns
returns c =
    let heads : List SpaceHead = c.args.head.now.spaces.items in
    let counted : c.len-count.result ≡ length heads = omega (arith, c.len-count.ensures, c.deref.ensures.len, ap length c.deref.ensures.value) in
    let spaces = spaces_written heads c.deref.result.now c.len-count.result (take 32 c.write_sizes.new.page) c.write_spaces.new.page c.deref.ensures.value counted c.write_spaces.ensures in
    written_catalogue (head_of c.args.head.now) c.len-count.result c.write_front.new.page c.write_sizes.new.page c.write_spaces.new.page c.write_zeros_from.new.into
    (omega (arith, counted, length-map heads space_of)) c.requires.few (omega arith) c.write_front.ensures c.write_sizes.ensures spaces c.write_zeros_from.ensures
