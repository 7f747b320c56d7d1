-- How a call of the log's disk comes to be moves of a site.
use Rattle.std.specs.Prelude.{◌≡◌, ◌⊎◌, ℕ, suc, List, [], ◌∷◌, length, Option, None, Some}
use Rattle.std.specs.Option.{option_map}
use mathlib.Core.Logic.{inl, inr}
use Rattle.std.proofs.Common.{sym, ap, subst, ◌∙◌}
use Rattle.log_history.specs.History.{History}
use Rattle.log_history.specs.Transactions.{last_time}
use Rattle.log_files.specs.Files.{LogFiles, new_files}
use Rattle.log_files.specs.Ring.{HoldsRing, HoldsOneOf, MayPass}
use Rattle.walks.specs.Courses.{IsOnWay}
use Rattle.site_headers.specs.Heads.{Head}
use Rattle.site_model.specs.declared.disk_name.DiskName.TheVariants.{Log}
use Rattle.site_worlds.specs.Worlds.{Ring, Site}
use Rattle.site_worlds.specs.Fitness.{IsFitSite}
use Rattle.site_worlds.specs.Moves.{Move, format_log, site_after, site_rules}
use Rattle.site_worlds.specs.Allowed.{CanMove}
use Rattle.world_laws.specs.KeptLaws.{CanAll}
use Rattle.world_laws.specs.ListLaws.{none_some, some_same}
use Rattle.ring_laws.specs.Rings.{files_of, files_in, files_after, files_on_way}
use Rattle.ring_laws.specs.MovesLaws.{files_behind, files_behind_format}
use Rattle.ring_laws.specs.TellsLaws.{one_ring}
use Rattle.ring_laws.specs.PassedLaws.{AreSteps, head_stays, way_holds}
use Rattle.site_layouts.specs.Stores.{Held}
use Rattle.site_layouts.specs.Rings.{ShowsRing}
use Rattle.site_layouts.specs.Layouts.{ShowsSite}

-- A disk shows the log of a site exactly where it holds the files that this holds.

pub log_shows : (site : Site) (held : Held) (files : LogFiles) (bytes : List ℕ) → files_in site ≡ Some files → HoldsRing site.head.site files bytes → ShowsSite Log site held bytes
log_shows site held files bytes is holds = by site.ring is
  where
    by : (ring : Option Ring) → option_map (files_of site.starts site.history) ring ≡ Some files → ShowsRing site.head.site site.starts site.history ring bytes
    by None same = absurd (none_some same)
    by (Some ring) same = subst (λ (f : LogFiles). HoldsRing site.head.site f bytes) (sym (some_same same)) holds

pub log_holds : (site : Site) (held : Held) (files : LogFiles) (bytes : List ℕ) → files_in site ≡ Some files → ShowsSite Log site held bytes → HoldsRing site.head.site files bytes
log_holds site held files bytes is shows = by site.ring is shows
  where
    by : (ring : Option Ring) → option_map (files_of site.starts site.history) ring ≡ Some files → ShowsRing site.head.site site.starts site.history ring bytes
        → HoldsRing site.head.site files bytes
    by None same there = absurd (none_some same)
    by (Some ring) same there = subst (λ (f : LogFiles). HoldsRing site.head.site f bytes) (some_same same) there

-- Where a call of the log may pass what a move makes of the files, each image that comes of one that shows the site shows it still, or
-- shows it behind the move.
pub move_shows : (move : Move) (site : Site) (held : Held) (files : LogFiles) (old new : List ℕ) → CanMove move site → IsFitSite site → (move ≡ format_log → ⊥)
    → files_in site ≡ Some files → MayPass site.head.site files (files_after move files ∷ []) old new → ShowsSite Log site held old
    → ShowsSite Log site held new ⊎ ShowsSite Log (site_after move site) held new
move_shows move site held files old new can fit isnt is may shows = by (may (log_holds site held files old is shows))
  where
    by : HoldsOneOf site.head.site (files ∷ files_after move files ∷ []) new → ShowsSite Log site held new ⊎ ShowsSite Log (site_after move site) held new
    by (inl here) = inl (log_shows site held files new is here)
    by (inr (inl there)) =
        inr (log_shows (site_after move site) held (files_after move files) new (files_behind move site can fit isnt ∙ ap (option_map (files_after move)) is)
        (subst (λ (h : Head). HoldsRing h.site (files_after move files) new) (sym (head_stays move site)) there))
    by (inr (inr none)) = absurd none

-- So it is with moves one after another: an image shows a site on their way.
pub moves_show : (moves : List Move) (site : Site) (held : Held) (files : LogFiles) (old new : List ℕ) → AreSteps moves → CanAll moves site → IsFitSite site
    → files_in site ≡ Some files → MayPass site.head.site files (files_on_way moves files) old new → ShowsSite Log site held old
    → (other : Site) × IsOnWay site_rules moves site other × ShowsSite Log other held new
moves_show moves site held files old new steps can fit is may shows =
    let found = way_holds moves site files new steps can fit is (may (log_holds site held files old is shows)) in
    (found.0, found.2, log_shows found.0 held found.1 new found.4 (subst (λ (h : Head). HoldsRing h.site found.1 new) (sym found.3) found.5))

-- A new log behind all that is known of a lost one shows the site behind its formatting.
pub format_shows : (site : Site) (held : Held) (bytes : List ℕ) → IsFitSite site
    → HoldsRing site.head.site (new_files (suc (length site.starts)) (suc (length site.history)) (last_time site.history)) bytes
    → ShowsSite Log (site_after format_log site) held bytes
format_shows site held bytes fit holds =
    log_shows (site_after format_log site) held (new_files (suc (length site.starts)) (suc (length site.history)) (last_time site.history)) bytes
    (files_behind_format site fit) holds

-- what a log tells

pub not_lost : (site : ℕ) (starts others : List ℕ) (history other : History) (ring : Ring) (bytes : List ℕ)
    → ShowsRing site starts history None bytes → ShowsRing site others other (Some ring) bytes → ⊥
not_lost site starts others history other ring bytes none holds = none holds.header

pub one_log : (site : ℕ) (starts others : List ℕ) (history other : History) (first second : Ring) (bytes : List ℕ)
    → ShowsRing site starts history (Some first) bytes → ShowsRing site others other (Some second) bytes → files_of starts history first ≡ files_of others other second
one_log site starts others history other first second bytes holds also = one_ring site (files_of starts history first) (files_of others other second) bytes holds also
