-- Each move that may be made leads from a fit site to a fit one, and so does a stop within it.
use Rattle.std.specs.Prelude.{◌≡◌, List, [], ◌∷◌, ◌++◌}
use mathlib.Core.Logic.{inl, inr}
use Rattle.std.proofs.Common.{sym, subst}
use Rattle.walks.specs.Courses.{after_all, IsOnWay}
use Rattle.site_worlds.specs.Worlds.{Site}
use Rattle.site_worlds.specs.Fitness.{IsFitSite}
use Rattle.site_worlds.specs.Moves.{Move, append_batch, append_reset, close_file, drop_oldest, next_file, mark_backed, format_log, commit_objects, append_lines, begin_restore, set_prepared, end_restore, move_lanes, site_after, StopsAt, site_rules}
use Rattle.site_worlds.specs.Allowed.{CanMove}
use Rattle.world_laws.specs.RingLaws.{kept_close, kept_drop, kept_mark}
use Rattle.world_laws.specs.OpenLaws.{kept_next, kept_format}
use Rattle.world_laws.specs.AppendLaws.{kept_batch}
use Rattle.world_laws.specs.ResetLaws.{kept_reset}
use Rattle.world_laws.specs.StoreLaws.{kept_commit}
use Rattle.world_laws.specs.BootLaws.{kept_lines, kept_begin, kept_prepared, kept_end}
use Rattle.world_laws.specs.PhaseLaws.{kept_amid, kept_lanes}

-- A move that may be made keeps a site fit.
pub kept : (move : Move) (site : Site) → CanMove move site → IsFitSite site → IsFitSite (site_after move site)
kept (append_batch records) site can fit = kept_batch records site can fit
kept (append_reset restore target time) site can fit = kept_reset restore target time site can fit
kept close_file site can fit = kept_close site can fit
kept drop_oldest site can fit = kept_drop site can fit
kept next_file site can fit = kept_next site can fit
kept (mark_backed file) site can fit = kept_mark file site can fit
kept format_log site can fit = kept_format site can fit
kept (commit_objects added deleted) site can fit = kept_commit added deleted site can fit
kept (append_lines more) site can fit = kept_lines more site can fit
kept (begin_restore point to) site can fit = kept_begin point to site can fit
kept (set_prepared prepared) site can fit = kept_prepared prepared site can fit
kept end_restore site can fit = kept_end site can fit
kept (move_lanes goals) site can fit = kept_lanes goals site can fit

stopped_same : (site other : Site) → other ≡ site → IsFitSite site → IsFitSite other
stopped_same site other is fit = subst IsFitSite (sym is) fit

-- So does a stop within it.
pub kept_within : (move : Move) (site other : Site) → CanMove move site → StopsAt move site other → IsFitSite site → IsFitSite other
kept_within (append_batch records) site other can is fit = stopped_same site other is fit
kept_within (append_reset restore target time) site other can is fit = stopped_same site other is fit
kept_within close_file site other can is fit = stopped_same site other is fit
kept_within drop_oldest site other can is fit = stopped_same site other is fit
kept_within next_file site other can is fit = stopped_same site other is fit
kept_within (mark_backed file) site other can is fit = stopped_same site other is fit
kept_within format_log site other can is fit = stopped_same site other is fit
kept_within (commit_objects added deleted) site other can is fit = stopped_same site other is fit
kept_within (append_lines more) site other can is fit = stopped_same site other is fit
kept_within (begin_restore point to) site other can is fit = stopped_same site other is fit
kept_within (set_prepared prepared) site other can is fit = stopped_same site other is fit
kept_within end_restore site other can is fit = stopped_same site other is fit
kept_within (move_lanes goals) site other can (inl is) fit = stopped_same site other is fit
kept_within (move_lanes goals) site other can (inr amid) fit = subst IsFitSite (sym amid.is) (kept_amid goals amid.mids site can amid.ways fit)

-- each move of a list may be made behind those before it
abbrev pub CanAll : List Move → Site → Type 0
CanAll [] site = Unit {0}
CanAll (move ∷ moves) site = CanMove move site × CanAll moves (site_after move site)

pub fit_after_all : (moves : List Move) (site : Site) → CanAll moves site → IsFitSite site → IsFitSite (after_all site_rules moves site)
unfolding site_rules
fit_after_all [] site can fit = fit
fit_after_all (move ∷ moves) site can fit = fit_after_all moves (site_after move site) can.1 (kept move site can.0 fit)

-- A stop anywhere within moves that may be made one after another leaves a fit site.
pub fit_on_way : (moves : List Move) (site other : Site) → CanAll moves site → IsFitSite site → IsOnWay site_rules moves site other → IsFitSite other
unfolding site_rules
fit_on_way [] site other can fit is = subst IsFitSite (sym is) fit
fit_on_way (move ∷ moves) site other can fit (inl within) = kept_within move site other can.0 within fit
fit_on_way (move ∷ moves) site other can fit (inr later) = fit_on_way moves (site_after move site) other can.1 (kept move site can.0 fit) later

pub can_append : (moves more : List Move) (site : Site) → CanAll moves site → CanAll more (after_all site_rules moves site) → CanAll (moves ++ more) site
unfolding site_rules
can_append [] more site can rest = rest
can_append (move ∷ moves) more site can rest = (can.0, can_append moves more (site_after move site) can.1 rest)
