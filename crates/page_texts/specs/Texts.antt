-- The texts of pages.
use Rattle.std.specs.Prelude.{ℕ, zero, suc, ◌+◌, List, [], ◌∷◌, ◌++◌, length, take, drop, codes, nat_lt, Bool, ◌==◌, if◌then◌else◌}
use Rattle.std.specs.Fmt.{decimal}
use Rattle.std.specs.List.{list_all}
use Rattle.std.specs.Int.{to_be_bytes, w16}
use Rattle.hex.specs.Hex.{encode_lower}
use Rattle.log_history.specs.Effects.{Page}
use Rattle.space_pages.specs.Layout.{space_digest}
use Rattle.space_pages.specs.Pages.{used}

-- the line of a page: its space's name, its number, its stamp
abbrev pub page_line : List ℕ → ℕ → ℕ → List ℕ
page_line name number stamp =
    codes "page " ++ (name ++ (32 ∷ (decimal number ++ (codes " stamp " ++ (decimal stamp ++ 10 ∷ [])))))

abbrev pub is_zero : List ℕ → Bool
is_zero bytes = list_all (λ byte. byte == 0) bytes

-- sixteen bytes behind their offset in four hex digits; nothing where all are zero
unfoldable pub row : ℕ → List ℕ → List ℕ
row offset bytes = if is_zero bytes then [] else encode_lower (to_be_bytes w16 offset) ++ (32 ∷ (encode_lower bytes ++ 10 ∷ []))

-- so many rows of a payload from an offset on
unfoldable pub rows : ℕ → ℕ → List ℕ → List ℕ
rows zero offset bytes = []
rows (suc count) offset bytes = row offset (take 16 bytes) ++ rows count (offset + 16) (drop 16 bytes)

-- a page: its line, and its payload in 255 rows
abbrev pub page_text : List ℕ → ℕ → Page → List ℕ
page_text name number page = page_line name number page.stamp ++ rows 255 0 page.payload

-- the line of a page, if it was written
abbrev pub used_line : List ℕ → ℕ → ℕ → List ℕ
used_line name number stamp = if nat_lt 0 stamp then page_line name number stamp else []

-- the lines of pages that were written, the first of which has a number
unfoldable pub used_lines : List ℕ → ℕ → List Page → List ℕ
used_lines name number [] = []
used_lines name number (page ∷ pages) =
    used_line name number page.stamp ++ used_lines name (number + 1) pages

-- a space: the lines of its written pages, and its own with the digest of all its pages
abbrev pub pages_text : ℕ → List ℕ → List Page → List ℕ
pages_text space name pages =
    used_lines name 0 pages
    ++ (codes "space " ++ (name ++ (codes " pages " ++ (decimal (length pages) ++ (codes " used " ++ (decimal (used pages)
    ++ (codes " digest " ++ (encode_lower (space_digest space pages) ++ 10 ∷ []))))))))
