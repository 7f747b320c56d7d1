-- Laws of the current file closed.
use Rattle.std.specs.Prelude.{◌≡◌, ℕ, suc, ◌+◌, ◌≤◌, List, [], ◌∷◌, length, Bool, true, false, ◌&&◌, not, nat_le, if◌then◌else◌, Option, None, Some}
use Rattle.std.proofs.Common.{◌<◌, arith, inl, inr, refl, sym, ap, subst, ◌∙◌}
use Rattle.std.proofs.lemmas.Bool.{cases_lt}
use Rattle.std.proofs.lemmas.Bool.Decides.{nat_tests}
use Rattle.site_disk.specs.declared.disk.Disk.{Ghosts}
use Rattle.site_disk.specs.Images.{Leaves}
use Rattle.site_disk.specs.Seen.{seen}
use Rattle.log_files.specs.Files.{LogFiles, closed}
use Rattle.log_files.specs.Ring.{MayPass}
use Rattle.logical_log.specs.Rings.{disk_of as log_disk, Stands as LogStands, TellsOf}
use Rattle.logical_log.specs.declared.ring.LogRing.{LogRing}
use Rattle.site_worlds.specs.Worlds.{Ring, Site}
use Rattle.site_worlds.specs.Files.{first_of_file}
use Rattle.site_worlds.specs.Fitness.{IsFitSite, FitRing}
use Rattle.site_worlds.specs.Moves.{Move, close_file}
use Rattle.world_laws.specs.RingLaws.{ring_of}
use Rattle.walks.specs.Courses.{Does, make}
use Rattle.site_courses.specs.Courses.{close_current, is_closable}
use Rattle.site_layouts.specs.Stages.{site_stage}
use Rattle.ring_laws.specs.Rings.{files_of, files_on_way}
use Rattle.ring_laws.specs.PartsLaws.{first_behind, length-file_records}
use Rattle.site_core.specs.declared.site.Site.{Site as Values}
use Rattle.site_core.specs.Appending.{MayMake}
use Rattle.site_core.specs.Calls.{CallFrom}
use Rattle.site_core.specs.CallLaws.{nothing_to_do}
use Rattle.site_core.specs.Layers.{layers}
use Rattle.site_core.specs.LogCalls.{AreLogMoves, files_behind_all}
use Rattle.log_calls.specs.Closing.{close_moves, close_by, takes_closing, with_closed}

-- the moves are the log's
pub are_close : (site : Site) → AreLogMoves (close_moves site)
are_close site = by (is_closable site site.ring)
  where
    by : (is : Bool) → AreLogMoves (if is then close_file ∷ [] else [])
    by true = (tt, tt)
    by false = tt

-- a site and the files of its log tell the same of it
same_closable : (site : Site) (ring : Ring) → site.ring ≡ Some ring → IsFitSite site
    → (ring.is_open && nat_le (first_of_file site.starts site.history (length site.starts)) (length site.history)) ≡ takes_closing (files_of site.starts site.history ring)
same_closable site ring is fit =
    ap (λ (b : Bool). b && nat_le (first_of_file site.starts site.history (length site.starts)) (length site.history)) (sym (twice ring.is_open))
    ∙ ap (λ (b : Bool). not (not ring.is_open) && b) (by (length files.current) (length site.history) (first_of_file site.starts site.history (length site.starts)) (omega (
      arith,
      length-file_records site.head.spaces site.history site.starts fit.history (length site.starts) (omega (arith, holds.oldest, holds.held)),
      first_behind site.head.spaces site.history site.starts fit.history (length site.starts + 1) (omega arith),
    )))
  where
    files : LogFiles
    files = files_of site.starts site.history ring

    holds : FitRing site.history site.starts site.lines ring
    holds = ring_of site ring is fit

    twice : (b : Bool) → not (not b) ≡ b
    twice true = refl
    twice false = refl

    by : (used end first : ℕ) → used + first ≡ suc end → nat_le first end ≡ nat_le 1 used
    by used end first is = grind (arith, nat_tests, is)

pub close_by_files : (site : Site) (ring : Ring) → site.ring ≡ Some ring → IsFitSite site → close_moves site ≡ close_by (files_of site.starts site.history ring)
close_by_files site ring is fit =
    ap (λ (r : Option Ring). if is_closable site r then close_file ∷ [] else []) is
    ∙ ap (λ (b : Bool). if b then close_file ∷ [] else []) (same_closable site ring is fit)

-- where there is something to close
pub takes_it : (files : LogFiles) → files.is_closed ≡ false → 1 ≤ length files.current → takes_closing files ≡ true
takes_it files opened some =
    let is : nat_le 1 (length files.current) ≡ true = grind (arith, nat_tests, some) in
    ap (λ (b : Bool). not b && nat_le 1 (length files.current)) opened ∙ is

pub close_leaves : (site : ℕ) (files : LogFiles) (e : ℕ) (old new : ℕ → List ℕ → Type 0) → takes_closing files ≡ true → Leaves e (MayPass site files (closed files ∷ [])) old new
    → Leaves e (MayPass site files (files_on_way (close_by files) files)) old new
close_leaves site files e old new is leaves =
    subst (λ (b : Bool). Leaves e (MayPass site files (files_on_way (if b then close_file ∷ [] else []) files)) old new) (sym is) leaves

pub close_stands : {D : Type 0} (disk : Ghosts D) (site : ℕ) (files : LogFiles) (log : LogRing D) → takes_closing files ≡ true → LogStands site (closed files) (seen disk (log_disk log)) log
    → LogStands site (files_behind_all (close_by files) files) (seen disk (log_disk log)) log
close_stands disk site files log is stands =
    subst (λ (b : Bool). LogStands site (files_behind_all (if b then close_file ∷ [] else []) files) (seen disk (log_disk log)) log) (sym is) stands

-- where there is nothing to close
pub takes_not : (files : LogFiles) → ((files.is_closed ≡ false) × (1 ≤ length files.current) → ⊥) → takes_closing files ≡ false
takes_not files not_so = by files.is_closed refl
  where
    by : (b : Bool) → files.is_closed ≡ b → takes_closing files ≡ false
    by true is = ap (λ (b : Bool). not b && nat_le 1 (length files.current)) is
    by false is = elim (cases_lt 0 (length files.current)) [
      | inl some ↦ absurd (not_so (is, omega (arith, some)))
      | inr none ↦
          let isnt : nat_le 1 (length files.current) ≡ false = grind (arith, nat_tests, none) in
          ap (λ (b : Bool). not b && nat_le 1 (length files.current)) is ∙ isnt
    ]

-- nothing is done
pub close_nothing : {D : Type 0} (disk : Ghosts D) (old : Values D) (log : LogRing D) (e : ℕ) → log ≡ old.log
    → ((files : LogFiles) → TellsOf files old.log → takes_closing files ≡ false)
    → CallFrom (site_stage (layers disk)) (MayMake close_moves) 2 e e old (record old { log = log }) close_current None
unfolding site_stage
close_nothing {D} disk old log e same isnt opened at enough stands may =
    subst (λ (l : LogRing D). Does (site_stage (layers disk)) opened e e old (record old { log = l }) at (close_current at.site) None) (sym same)
    (subst (λ (moves : List Move). Does (site_stage (layers disk)) opened e e old old at (make moves) None) (sym none)
    (nothing_to_do (site_stage (layers disk)) opened e e old old at (λ f name bytes image. image) (omega arith) None stands))
  where
    files : LogFiles
    files = files_of at.site.starts at.site.history may.has.ring

    tells : TellsOf files old.log
    tells = ((stands.agree.log enough).stands may.has.ring may.has.is).tells

    none : close_moves at.site ≡ []
    none = close_by_files at.site may.has.ring may.has.is stands.fits ∙ ap (λ (b : Bool). if b then close_file ∷ [] else []) (isnt files tells)
