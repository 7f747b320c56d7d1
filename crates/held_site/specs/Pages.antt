-- A change is of a page that its space has.
use Rattle.std.specs.Prelude.{◌≡◌, ◌<◌, List, slice_get, Some}
use Rattle.log_history.specs.Effects.{Change}
use Rattle.onbar_grammar.specs.Script.{Space}

abbrev pub IsOfPage : List Space → Change → Type 0
IsOfPage spaces change = (space : Space) × (slice_get spaces change.patch.space ≡ Some space) × (change.patch.page < space.pages)
