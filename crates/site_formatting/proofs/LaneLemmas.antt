-- The chunk of a space that is formatted.
use Rattle.std.proofs.Common.{◌≡◌, ◌+◌, ◌*◌, ◌<◌, ◌∙◌, ℕ, zero, suc, List, [], ◌∷◌, length, map, get_or, IsTrue, refl, sym, ap, subst, arith}
use Rattle.std.specs.List.{AllByRecursion}
use Rattle.site_disk.specs.Causes.{Rose}
use Rattle.site_disk.specs.CallsLaws.{may_use_again}
use Rattle.site_disk.specs.Images.{Leaves, OnlyAfter}
use Rattle.site_disk.specs.Ledger.{EraView, MayUse, Uses}
use Rattle.site_disk.specs.Seen.{seen}
use Rattle.site_disk.specs.declared.disk.Disk.{Ghosts}
use Rattle.site_headers.specs.Heads.{Head, IsSpace}
use Rattle.site_headers.specs.Views.{space_of as space_view}
use Rattle.site_headers.specs.declared.heads.SpaceHead.{SpaceHead}
use Rattle.space_pages.specs.Pages.{empty_pages}
use Rattle.lane_ways.specs.Pictures.{Stand}
use Rattle.backup_lines.specs.declared.lanes.LaneState.TheVariants.{At}
use Rattle.space_lane.specs.Chunks.{IsCount}
use Rattle.space_lane.specs.Lanes.{disk_of, space_of, IsMade, Stands}
use Rattle.space_lane.specs.Stops.{MayFormat}
use Rattle.space_lane.specs.declared.lane.Lane.{Lane}
use Rattle.site_model.specs.declared.disk_name.DiskName.TheVariants.{Chunk}
use Rattle.site_worlds.specs.Lanes.{pages_of_space}
use Rattle.site_core.specs.declared.faults.SiteFault.TheVariants.{DiskFault}
use Rattle.site_core.specs.Made.{IsMadeAt}
use Rattle.site_formatting.specs.Steps.{FirstFrom, OfEach}
use Rattle.site_formatting.specs.Lanes.{FormatsLane, MissesLane}
use Rattle.site_formatting.proofs.StepLemmas.{each_now, first_each}

-- the pages of a space by its place

pub space_at : (spaces : List SpaceHead) (place : ℕ) (x : SpaceHead) → place < length spaces → x ≡ get_or spaces place x → x.pages ≡ pages_of_space (map space_view spaces) place
space_at [] place x lt is = absurd (omega arith)
space_at (s ∷ spaces) zero x lt is = ap (λ (h : SpaceHead). h.pages) is
space_at (s ∷ spaces) (suc place) x lt is = space_at spaces place x (omega arith) is

pub count_at : (spaces : List SpaceHead) (place : ℕ) (x : SpaceHead) → AllByRecursion IsSpace (map space_view spaces) → place < length spaces → x ≡ get_or spaces place x → IsCount x.pages
count_at [] place x each lt is = absurd (omega arith)
count_at (s ∷ spaces) zero x each lt is = subst (λ (h : SpaceHead). IsCount h.pages) (sym is) (record { some = each.0.some; few = each.0.few })
count_at (s ∷ spaces) (suc place) x each lt is = count_at spaces place x each.1 (omega arith) is

module _ {D : Type 0} (disk : Ghosts D) (era : EraView) (head : Head) where
  module _ (place pages : ℕ) (was is : Lane D) (count : pages ≡ pages_of_space head.spaces place) (made : IsMadeAt place was) (still : IsMade is) (space : space_of is ≡ space_of was)
      (crash : IsTrue disk.is_modelled → Leaves era.number (MayFormat head.site (space_of was) pages (At 0 0)) (disk.image (disk_of was)) (disk.image (disk_of is)))
      (uses : Uses era 2 (87043 + 4096 * pages) (disk.ledger (disk_of was)) (disk.ledger (disk_of is))) where
    uses_space : Uses era 2 (87043 + 4096 * pages_of_space head.spaces place) (disk.ledger (disk_of was)) (disk.ledger (disk_of is))
    uses_space = subst (λ (n : ℕ). Uses era 2 (87043 + 4096 * n) (disk.ledger (disk_of was)) (disk.ledger (disk_of is))) count uses

    pub formats_lane : (IsTrue disk.is_modelled → Stands head.site pages (At 0 0) (seen disk (disk_of is)) is)
        → (IsTrue disk.is_modelled → Stand (space_of was) 0 (empty_pages pages) (disk.bytes (disk_of is)))
        → (IsTrue disk.is_modelled → OnlyAfter era.number (disk.bytes (disk_of is)) (disk.image (disk_of is))) → FormatsLane disk era head place was is
    formats_lane stands stand durable = record {
      made = record { made = still; space = space ∙ made.space };
      stands = λ tells. subst (λ (n : ℕ). Stands head.site n (At 0 0) (seen disk (disk_of is)) is) count (stands tells);
      pages = λ tells. subst (λ (n : ℕ). Stand place 0 (empty_pages n) (disk.bytes (disk_of is))) count
          (subst (λ (s : ℕ). Stand s 0 (empty_pages pages) (disk.bytes (disk_of is))) made.space (stand tells));
      durable = durable;
      touched = record { earlier = λ tells. (crash tells).earlier; ledger = uses_space };
    }

    pub misses_lane : Rose (disk.ledger (disk_of was)).faults (disk.ledger (disk_of is)).faults → MissesLane disk era head place (DiskFault (Chunk place)) was is
    misses_lane rose = record {
      own = refl;
      made = record { made = still; space = space ∙ made.space };
      rose = rose;
      touched = record { earlier = λ tells. (crash tells).earlier; ledger = uses_space };
    }

  -- lanes that were gone over in part
  module _ (n : ℕ) (old now : List (Lane D)) (first : FirstFrom (FormatsLane disk era head) n old now) where
    pub lanes_made : OfEach IsMadeAt old → OfEach IsMadeAt now
    lanes_made made =
        each_now (λ place (a b : Lane D). IsMadeAt place a → IsMadeAt place b) IsMadeAt old now
        (first_each (FormatsLane disk era head) (λ place (a b : Lane D). IsMadeAt place a → IsMadeAt place b) (λ place a b by was. by.made) n old now first (λ place x there was. was))
        (λ place a b there by. by (made place a there))

    pub lanes_may : OfEach (λ place lane. MayUse era (disk.ledger (disk_of lane))) old → OfEach (λ place lane. MayUse era (disk.ledger (disk_of lane))) now
    lanes_may may =
        each_now (λ place (a b : Lane D). MayUse era (disk.ledger (disk_of a)) → MayUse era (disk.ledger (disk_of b))) (λ place lane. MayUse era (disk.ledger (disk_of lane))) old now
        (first_each (FormatsLane disk era head) (λ place (a b : Lane D). MayUse era (disk.ledger (disk_of a)) → MayUse era (disk.ledger (disk_of b)))
        (λ place a b by was. may_use_again was by.touched.ledger) n old now first (λ place x there was. was))
        (λ place a b there by. by (may place a there))
