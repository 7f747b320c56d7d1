-- The worlds of a formatting.
use Rattle.std.specs.Prelude.{◌≡◌, ℕ, ◌≤◌, List, [], ◌∷◌}
use Rattle.site_disk.specs.declared.disk.Disk.{Ghosts}
use Rattle.site_headers.specs.Heads.{Head}
use Rattle.catalogue_replay.specs.Answers.{HasNoHead}
use Rattle.catalogue_journal.specs.Catalogues.{cat_of}
use Rattle.walks.specs.Courses.{IsOnWay}
use Rattle.site_worlds.specs.Worlds.{unformatted, formatted, new_site}
use Rattle.site_worlds.specs.Moves.{format_site, world_rules}
use Rattle.site_layouts.specs.Layouts.{HeldWorld}
use Rattle.site_core.specs.declared.site.Site.{Site}

-- A world of a site that isn't formatted: no image of the catalogue from an era on has a header.
pub record IsUnformatted {D : Type 0} (disk : Ghosts D) (from : ℕ) (site : Site D) (at : HeldWorld) : Type 0 where
  pub world : at.world ≡ unformatted
  pub area : at.held.area ≡ 0
  pub none : (f : ℕ) (c : List ℕ) → from ≤ f → disk.image (cat_of site.store.cat) f c → HasNoHead c

-- the formatting passes it: nothing was formatted yet, or all was
abbrev pub IsBehind : Head → HeldWorld → HeldWorld → Type 0
IsBehind head at other = IsOnWay world_rules (format_site head ∷ []) at.world other.world

-- the new site
abbrev pub formatted_at : Head → HeldWorld → HeldWorld
formatted_at head at = record { world = formatted (new_site head); held = at.held }
