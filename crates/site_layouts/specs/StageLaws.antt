-- What a stop within a move of a site leaves.
use Rattle.std.specs.Prelude.{[], ◌∷◌}
use Rattle.walks.specs.Courses.{PassedBy}
use Rattle.site_worlds.specs.Moves.{Move}
use Rattle.site_layouts.specs.Stages.{HeldSite, Layers, site_stage}

module _ {S : Type 0} (layers : Layers S) where
  -- what a stop within a move leaves, and the site behind it
  abbrev pub Passed : Move → HeldSite → HeldSite → Type 0
  Passed move at other = PassedBy (site_stage layers) (move ∷ []) at other
