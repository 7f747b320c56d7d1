-- The program's types as the definitions have them.
use Rattle.std.specs.Prelude.{List, map}
use Rattle.onbar_grammar.specs.Script.{Space}
use Rattle.site_headers.specs.declared.heads.SpaceHead.{SpaceHead}
use Rattle.site_headers.specs.declared.heads.SiteHead.{SiteHead}
use Rattle.site_headers.specs.Heads.{Head}

abbrev pub space_of : SpaceHead → Space
space_of head = record { name = head.name; pages = head.pages }

abbrev pub spaces_of : List SpaceHead → List Space
spaces_of heads = map space_of heads

abbrev pub head_of : SiteHead → Head
head_of head = record { site = head.site; blocks = head.blocks; spaces = map space_of head.spaces.items }
