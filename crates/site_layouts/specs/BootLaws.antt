-- How a call of the boot file comes to be a move of a site.
use Rattle.std.specs.Prelude.{◌≡◌, ◌⊎◌, ℕ, suc, List, ◌++◌, Bool, false, Option, Some, None}
use Rattle.std.specs.Option.{option_map}
use mathlib.Core.Logic.{inl, inr}
use Rattle.std.proofs.Common.{sym, ap, subst, ⊎_elim}
use Rattle.boot_file.specs.Numbers.{number_after}
use Rattle.boot_file.specs.Places.{HoldsBoot, MayBecome}
use Rattle.site_model.specs.declared.disk_name.DiskName.TheVariants.{Boot}
use Rattle.backup_lines.specs.Lines.{Line}
use Rattle.backup_lines.specs.Spans.{Active, Point}
use Rattle.site_worlds.specs.Worlds.{Site}
use Rattle.site_worlds.specs.Fitness.{IsFitSite}
use Rattle.site_worlds.specs.Moves.{Move, append_lines, begin_restore, end_restore, set_prepared, site_after, with_prepared}
use Rattle.site_layouts.specs.Stores.{Held}
use Rattle.site_layouts.specs.Layouts.{ShowsSite}

-- a call of the boot file may add these lines
abbrev pub MayAppend : Site → List Line → List ℕ → List ℕ → Type 0
MayAppend site more old new =
    MayBecome (HoldsBoot site.head.site site.lines site.number site.active) (HoldsBoot site.head.site (site.lines ++ more) site.number site.active) old new

-- or put this restore, or none, into the place of the one that is under way
abbrev pub MayRecord : Site → Option Active → List ℕ → List ℕ → Type 0
MayRecord site active old new =
    MayBecome (HoldsBoot site.head.site site.lines site.number site.active) (HoldsBoot site.head.site site.lines (number_after site.number active) active) old new

-- the restore that begins: it has the next number
abbrev pub begun : Site → Point → ℕ → Active
begun site point to = record { number = suc site.number; point = point; to = to; prepared = false }

-- an image that comes of one that shows the site shows it still, or shows it behind the move
abbrev pub ShowsMoved : Move → Site → Held → List ℕ → List ℕ → Type 0
ShowsMoved move site held old new = ShowsSite Boot site held old → ShowsSite Boot site held new ⊎ ShowsSite Boot (site_after move site) held new

pub lines_move : (more : List Line) (site : Site) (held : Held) (old new : List ℕ) → MayAppend site more old new → ShowsMoved (append_lines more) site held old new
lines_move more site held old new may shows = may shows

pub begin_moves : (point : Point) (to : ℕ) (site : Site) (held : Held) (old new : List ℕ) → MayRecord site (Some (begun site point to)) old new
    → ShowsMoved (begin_restore point to) site held old new
begin_moves point to site held old new may shows = may shows

-- a restore that is under way has the last number
pub prepared_moves : (prepared : Bool) (restore : Active) (site : Site) (held : Held) (old new : List ℕ) → IsFitSite site → site.active ≡ Some restore
    → MayRecord site (Some (with_prepared prepared restore)) old new → ShowsMoved (set_prepared prepared) site held old new
prepared_moves prepared restore site held old new fit is may shows = ⊎_elim
    (λ still. inl still)
    (λ moved. inr (subst (λ (active : Option Active). HoldsBoot site.head.site site.lines site.number active new) (sym (ap (option_map (with_prepared prepared)) is))
    (subst (λ (n : ℕ). HoldsBoot site.head.site site.lines n (Some (with_prepared prepared restore)) new) (fit.restore.fits restore is).same moved)))
    (may shows)

pub end_moves : (site : Site) (held : Held) (old new : List ℕ) → MayRecord site None old new → ShowsMoved end_restore site held old new
end_moves site held old new may shows = may shows
