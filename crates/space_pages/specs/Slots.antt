-- The program's pages as the history has them: a place that was never written has no page.
use Rattle.std.specs.Prelude.{◌≡◌, ℕ, ◌+◌, ◌<◌, List, map, Option, Some, None, Box}
use Rattle.std.specs.declared.alloc.Global.{Global}
use Rattle.log_history.specs.Effects.{Page, empty_page}
use Rattle.plain_pages.specs.declared.page.Page.{Page as RustPage}
use Rattle.plain_pages.specs.Page.{page_of}

abbrev pub page_in : Option (Box RustPage Global) → Page
page_in None = empty_page
page_in (Some written) = page_of written.value

abbrev pub pages_in : List (Option (Box RustPage Global)) → List Page
pages_in slots = map page_in slots

-- a page with this number is the one at this index, of so many from the first number on
abbrev pub IsPlace : ℕ → ℕ → ℕ → ℕ → Type 0
IsPlace first count page index = (page ≡ first + index) × (index < count)
