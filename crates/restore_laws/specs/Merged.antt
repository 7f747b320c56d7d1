-- What merging the archives of a chain makes of a page.
use Rattle.std.specs.Prelude.{◌≡◌, ℕ, List, [], ◌∷◌, true, nat_lt, if◌then◌else◌}
use Rattle.log_history.specs.History.{History}
use Rattle.log_history.specs.Live.{live}
use Rattle.log_history.specs.Effects.{Page, page_at}
use Rattle.backup_lines.specs.Lines.{Archive}

-- a page behind an archive: as that has it, if it has it at all
abbrev pub merged : History → ℕ → Page → Archive → Page
merged history number page archive =
    if nat_lt archive.base (page_at history archive.at archive.space number).stamp then page_at history archive.at archive.space number else page

-- Each archive is of the space and builds on the one before it, whose position is live at its own; the first builds on a position.
abbrev pub BuildUp : History → ℕ → ℕ → List Archive → Type 0
BuildUp history space from [] = Unit {0}
BuildUp history space from (archive ∷ chain) =
    (archive.space ≡ space) × (archive.base ≡ from) × (live history archive.at from ≡ true) × BuildUp history space archive.at chain

-- the position of the last archive
abbrev pub top_at : ℕ → List Archive → ℕ
top_at from [] = from
top_at from (archive ∷ chain) = top_at archive.at chain
