-- What a restore needs: of each space a chain of archives, and the log behind it.
use Rattle.std.specs.Prelude.{◌≡◌, ℕ, ◌≤◌, List, [], ◌∷◌, Bool, true, ◌&&◌, ◌||◌, ◌==◌, nat_lt, nat_le, if◌then◌else◌, filter, fold, Option, None, Some}
use Rattle.std.specs.List.{list_any}
use Rattle.log_history.specs.Live.{ResetPoint, live_by}
use Rattle.backup_lines.specs.Lines.{Archive, Span}
use Rattle.backup_lines.specs.declared.stretches.Stretch.{Stretch}

-- an archive of a space and level, on the archive with this copy id, whose position is live at a position
abbrev pub is_link : List ResetPoint → ℕ → ℕ → ℕ → ℕ → Archive → Bool
is_link resets space level base q archive =
    (archive.space == space) && (archive.level == level) && (archive.base_copy == base) && live_by resets q archive.at

-- of two archives the one at the greater position, and of equal ones that with the greater copy id
abbrev pub is_later : Archive → Option Archive → Bool
is_later archive None = true
is_later archive (Some best) = nat_lt best.at archive.at || ((best.at == archive.at) && nat_lt best.copy archive.copy)

abbrev pub later_of : Option Archive → Archive → Option Archive
later_of best archive = if is_later archive best then Some archive else best

abbrev pub last_of : List Archive → Option Archive
last_of archives = fold later_of None archives

abbrev pub last_link : List ResetPoint → ℕ → ℕ → ℕ → ℕ → List Archive → Option Archive
last_link resets space level base q archives = last_of (filter (is_link resets space level base q) archives)

-- an archive, and those that are built on it
abbrev pub and_on : Option Archive → (Archive → List Archive) → List Archive
and_on None on = []
and_on (Some archive) on = archive ∷ on archive

-- The chain of a space for a position: the last level 0 that is live there, then the last level 1 on that one, then the last level 2 on
-- that one.
abbrev pub chain_of : List Archive → List ResetPoint → ℕ → ℕ → List Archive
chain_of archives resets space q =
    and_on (last_link resets space 0 0 q archives) (λ zero. and_on (last_link resets space 1 zero.copy q archives)
    (λ one. and_on (last_link resets space 2 one.copy q archives) (λ two. [])))

-- the last archive of a chain
abbrev pub top_of : List Archive → Option Archive
top_of chain = fold (λ last archive. Some archive) None chain

-- a position from `low` on lies in a file and is live at q
pub record IsNeededFrom (resets : List ResetPoint) (low q : ℕ) (span : Span) : Type 0 where
  pub position : ℕ
  pub first : span.first ≤ position
  pub last : position ≤ span.last
  pub from : low ≤ position
  pub live : live_by resets q position ≡ true

-- what is live at a position, in stretches of positions, the last first
abbrev pub live_stretches : List ResetPoint → ℕ → List Stretch
live_stretches [] n = record { from = 0; to = n } ∷ []
live_stretches (point ∷ older) n =
    if nat_lt n point.at then live_stretches older n
    else record { from = point.at; to = n } ∷ (if nat_lt point.target point.at then live_stretches older point.target else [])

-- a stretch has a position from one up to another
abbrev pub reaches : ℕ → ℕ → Stretch → Bool
reaches from to stretch = nat_le from to && (nat_le stretch.from to && nat_le from stretch.to)

-- a position from one up to another is live at n
abbrev pub is_live_between : List ResetPoint → ℕ → ℕ → ℕ → Bool
is_live_between resets n from to = list_any (reaches from to) (live_stretches resets n)
