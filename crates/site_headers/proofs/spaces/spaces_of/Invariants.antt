use Rattle.std.proofs.Common.{◌≡◌, ℕ, length, map, List}
use Rattle.site_headers.specs.declared.heads.SpaceHead.{SpaceHead}
use Rattle.site_headers.specs.Parts.{BeginsWithSpaces}
use Rattle.site_headers.specs.Views.{space_of}
use Rattle.site_headers.proofs.spaces.spaces_of.Given as goal

-- the spaces that were read, up to here
pub record HasRead (bytes : List ℕ) (count : ℕ) (heads : List SpaceHead) : Type 0 where
  pub begins : BeginsWithSpaces bytes (map space_of heads)
  pub so_many : length heads ≡ count

abbrev pub invariant-loop-i : goal.invariant-loop-i
invariant-loop-i l = HasRead l.bytes l.i l.spaces.items
