-- The 4,096 bytes of a page, and the digest of pages that stand one after another.
use Rattle.std.specs.Prelude.{ℕ, ◌+◌, List, [], ◌∷◌, ◌++◌}
use Rattle.std.specs.Int.{w16, w32, w64, to_be_bytes}
use Rattle.log_history.specs.Effects.{Page}
use Rattle.sha2.specs.Sha256.{sha256}

-- the stamp, the space, two zeros, the page's number, and the payload from 16 on; numbers are big-endian
unfoldable pub page_bytes : ℕ → ℕ → Page → List ℕ
page_bytes space number page =
    to_be_bytes w64 page.stamp ++ (to_be_bytes w16 space ++ (0 ∷ 0 ∷ (to_be_bytes w32 number ++ page.payload)))

-- the bytes of pages, the first of which has a number
abbrev pub all_bytes : ℕ → ℕ → List Page → List ℕ
all_bytes space number [] = []
all_bytes space number (page ∷ pages) = page_bytes space number page ++ all_bytes space (number + 1) pages

-- the SHA-256 of those bytes
abbrev pub digest_from : ℕ → ℕ → List Page → List ℕ
digest_from space number pages = sha256 (all_bytes space number pages)

-- that of all pages of a space
abbrev pub space_digest : ℕ → List Page → List ℕ
space_digest space pages = digest_from space 0 pages
