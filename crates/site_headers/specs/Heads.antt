-- What formatting fixes of a site.
use Rattle.std.specs.Prelude.{◌≡◌, ℕ, ◌<◌, ◌≤◌, ◌^◌, List, [], ◌∷◌, length, IsTrue}
use Rattle.std.specs.List.{AllByRecursion}
use Rattle.onbar_grammar.specs.Script.{Space}
use Rattle.onbar_grammar.specs.Numbers.{is_name}

-- the site's id, which is the moment of formatting, the blocks of a volume, the spaces
pub record Head : Type 0 where
  pub site : ℕ
  pub blocks : ℕ
  pub spaces : List Space

-- no space has this name
abbrev pub IsFresh : List ℕ → List Space → Type 0
IsFresh name [] = Unit {0}
IsFresh name (space ∷ spaces) = (space.name ≡ name → ⊥) × IsFresh name spaces

-- the names are distinct
abbrev pub AreDistinct : List Space → Type 0
AreDistinct [] = Unit {0}
AreDistinct (space ∷ spaces) = IsFresh space.name spaces × AreDistinct spaces

-- a space has a name and 1 to 65,536 pages
pub record IsSpace (space : Space) : Type 0 where
  pub named : IsTrue (is_name space.name)
  pub some : 1 ≤ space.pages
  pub few : space.pages ≤ 65536

-- a site has 1 to 16 spaces of distinct names, and 1 to 1,048,576 blocks a volume
pub record IsHead (head : Head) : Type 0 where
  pub site : head.site < 2 ^ 64
  pub some_blocks : 1 ≤ head.blocks
  pub few_blocks : head.blocks ≤ 1048576
  pub some : 1 ≤ length head.spaces
  pub few : length head.spaces ≤ 16
  pub each : AllByRecursion IsSpace head.spaces
  pub distinct : AreDistinct head.spaces
