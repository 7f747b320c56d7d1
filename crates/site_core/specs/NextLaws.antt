-- The next file of a site's log.
use Rattle.std.specs.Prelude.{◌≡◌, ℕ, ◌+◌, ◌-◌, ◌<◌, ◌≤◌, ◌==◌, List, [], ◌∷◌, length, nat_le, Bool, true, false, if◌then◌else◌, Option, None, Some}
use Rattle.std.proofs.Common.{arith, refl, ap, subst, ◌∙◌, inl, inr}
use Rattle.std.proofs.lemmas.Bool.Decides.{nat_tests}
use Rattle.site_disk.specs.declared.disk.Disk.{Ghosts}
use Rattle.site_disk.specs.Images.{Leaves}
use Rattle.site_disk.specs.Seen.{seen}
use Rattle.log_files.specs.Files.{LogFiles, is_full, with_next, with_place, without_oldest}
use Rattle.log_files.specs.Ring.{MayPass}
use Rattle.logical_log.specs.Rings.{disk_of as log_disk, Stands as LogStands}
use Rattle.logical_log.specs.declared.ring.LogRing.{LogRing}
use Rattle.site_worlds.specs.Worlds.{Ring, Site}
use Rattle.site_worlds.specs.Fitness.{IsFitSite, FitRing}
use Rattle.world_laws.specs.RingLaws.{ring_of}
use Rattle.site_courses.specs.Appending.{is_ring_full}
use Rattle.ring_laws.specs.Rings.{files_of, files_on_way, opening}
use Rattle.ring_laws.specs.PartsLaws.{length-records_by_file}
use Rattle.ring_laws.specs.PassedLaws.{opened_passes}
use Rattle.site_core.specs.Appending.{next_of_ring, next_moves}
use Rattle.site_core.specs.LogCalls.{AreLogMoves, files_behind_all}

-- the moves are the log's

are_opening : (full : Bool) → AreLogMoves (opening full)
are_opening true = (tt, (tt, tt))
are_opening false = (tt, tt)

pub are_next : (site : Site) → AreLogMoves (next_moves site)
are_next site = by site.ring
  where
    by : (ring : Option Ring) → AreLogMoves (next_of_ring site.starts ring)
    by None = tt
    by (Some ring) = are_opening (is_ring_full site.starts ring)

-- eight files are held by the whole history where the log's value tells of eight
full_by_files : (site : Site) (ring : Ring) → site.ring ≡ Some ring → IsFitSite site → is_ring_full site.starts ring ≡ is_full (files_of site.starts site.history ring)
full_by_files site ring is fit =
    by (length (files_of site.starts site.history ring).past) (length site.starts) ring.oldest
    (length-records_by_file site.head.spaces site.history site.starts fit.history ring.oldest (length site.starts - ring.oldest)) holds.held holds.few
  where
    holds : FitRing site.history site.starts site.lines ring
    holds = ring_of site ring is fit

    by : (count begun oldest : ℕ) → count ≡ begun - oldest → oldest ≤ begun → begun < oldest + 8 → nat_le (oldest + 7) begun ≡ (count == 7)
    by count begun oldest is held few = grind (arith, nat_tests, is, held, few)

pub next_by_files : (site : Site) (ring : Ring) → site.ring ≡ Some ring → IsFitSite site → next_moves site ≡ opening (is_full (files_of site.starts site.history ring))
next_by_files site ring is fit = ap (next_of_ring site.starts) is ∙ ap opening (full_by_files site ring is fit)

-- what a stop leaves
pub next_leaves : (site : ℕ) (files : LogFiles) (e : ℕ) (old new : ℕ → List ℕ → Type 0) → Leaves e (MayPass site files (with_place files ∷ with_next (with_place files) ∷ [])) old new
    → Leaves e (MayPass site files (files_on_way (opening (is_full files)) files)) old new
next_leaves site files e old new leaves = record {
  earlier = leaves.earlier;
  during = λ c image. elim (leaves.during c image) [ inl was ↦ inl was | inr stepped ↦ inr (stepped.0, stepped.1, opened_passes site files stepped.0 c stepped.2) ];
  later = λ f c lt image. let stepped = leaves.later f c lt image in (stepped.0, stepped.1, opened_passes site files stepped.0 c stepped.2);
}

-- and what the log holds behind the moves
opened_files : (files : LogFiles) → with_next (with_place files) ≡ files_behind_all (opening (is_full files)) files
opened_files files = by (is_full files)
  where
    by : (full : Bool) → with_next (if full then without_oldest files else files) ≡ files_behind_all (opening full) files
    by true = refl
    by false = refl

pub next_stands : {D : Type 0} (disk : Ghosts D) (site : ℕ) (files : LogFiles) (log : LogRing D) → LogStands site (with_next (with_place files)) (seen disk (log_disk log)) log
    → LogStands site (files_behind_all (opening (is_full files)) files) (seen disk (log_disk log)) log
next_stands disk site files log stands = subst (λ (k : LogFiles). LogStands site k (seen disk (log_disk log)) log) (opened_files files) stands
