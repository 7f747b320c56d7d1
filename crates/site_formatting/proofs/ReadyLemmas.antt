-- Disks that are ready for the header of the catalogue.
use Rattle.std.proofs.Common.{◌≡◌, ◌<◌, ℕ, List, [], ◌∷◌, length, IsTrue, Some, inl, inr, refl, sym, ap, subst, ◌+◌}
use Rattle.std.specs.Prelude.{Option, None, slice_get, IfSome}
use Rattle.std.specs.Option.{option_map}
use Rattle.std.proofs.lemmas.Bool.{cases_lt}
use Rattle.std.proofs.lemmas.Option.{slice_get-map}
use Rattle.log_history.specs.Effects.{Page}
use Rattle.onbar_grammar.specs.Script.{Space}
use Rattle.site_disk.specs.Images.{OnlyAfter}
use Rattle.site_disk.specs.Ledger.{EraView}
use Rattle.site_disk.specs.declared.disk.Disk.{Ghosts}
use Rattle.site_headers.specs.Heads.{Head}
use Rattle.space_pages.specs.Pages.{brought, empty_pages}
use Rattle.lane_ways.specs.Ways.{lane_pages}
use Rattle.lane_ways.specs.Pictures.{Stand}
use Rattle.backup_lines.specs.declared.lanes.LaneState.TheVariants.{At}
use Rattle.object_volume.specs.Volumes.{disk_of as volume_disk}
use Rattle.boot_file.specs.Boots.{disk_of as boot_disk}
use Rattle.logical_log.specs.Rings.{disk_of as log_disk}
use Rattle.space_lane.specs.Chunks.{HoldsState}
use Rattle.space_lane.specs.Lanes.{disk_of as lane_disk}
use Rattle.space_lane.specs.declared.lane.Lane.{Lane}
use Rattle.store_opening.specs.Disks.{IsDurable}
use Rattle.store_opening.specs.Formatting.{IsFormattedStore}
use Rattle.site_model.specs.declared.disk_name.DiskName.{DiskName}
use Rattle.site_model.specs.declared.disk_name.DiskName.TheVariants.{Cat, Spare, Boot, Log, Volume as OfVolume, Chunk}
use Rattle.site_worlds.specs.Lanes.{pages_of_space}
use Rattle.site_worlds.specs.Worlds.{LaneState, stands}
use Rattle.site_layouts.specs.Chunks.{HoldsLane, ShowsChunk}
use Rattle.site_layouts.specs.LaneLaws.{place_shows}
use Rattle.site_core.specs.declared.site.Site.{Site}
use Rattle.site_core.specs.Disks.{disk_named}
use Rattle.site_formatting.specs.Steps.{FirstFrom}
use Rattle.site_formatting.specs.Lanes.{FormatsLane}
use Rattle.site_formatting.specs.Prepared.{IsReady, ShowsNew}
use Rattle.site_formatting.proofs.StepLemmas.{some_map, both_now}
use Rattle.site_formatting.proofs.WorldLemmas.{no_space}

-- a space into which nothing was written has empty pages

brought_none : (space first : ℕ) (pages : List Page) → brought space first [] pages ≡ pages
brought_none space first [] = refl
brought_none space first (page ∷ pages) = ap (λ (rest : List Page). page ∷ rest) (brought_none space (first + 1) pages)

new_pages : (space count : ℕ) → lane_pages [] 0 space 0 0 count ≡ empty_pages count
new_pages space count = brought_none space 0 (empty_pages count)

module _ {D : Type 0} (disk : Ghosts D) (era : EraView) (head : Head) where
  -- what a read gives is what a crash leaves
  pub ready : (name : DiskName) (it : D) → OnlyAfter era.number (disk.bytes it) (disk.image it) → ShowsNew head name (disk.bytes it) → IsReady disk era head name it
  ready name it only now = record { now = now; later = λ f c lt image. subst (ShowsNew head name) (sym (only f c lt image)) now }

  -- a chunk at the first place, with empty pages
  chunk_shows : (n : ℕ) (bytes : List ℕ) → n < length head.spaces → HoldsLane head.site (pages_of_space head.spaces n) [] [] 0 None n (stands 0 0) bytes → ShowsNew head (Chunk n) bytes
  chunk_shows n bytes lt holds =
      subst (λ (lane : Option LaneState). ShowsChunk head [] [] 0 None n lane bytes) (sym (slice_get-map (λ (s : Space). stands 0 0) head.spaces n)) (by (slice_get head.spaces n))
    where
      by : (space : Option Space) → ShowsChunk head [] [] 0 None n (option_map (λ s. stands 0 0) space) bytes
      by None = tt
      by (Some space) = holds

  lane_ready : IsTrue disk.is_modelled → (n : ℕ) → n < length head.spaces → (was is : Lane D) → FormatsLane disk era head n was is → IsReady disk era head (Chunk n) (lane_disk is)
  lane_ready tells n lt was is formats =
      let count : ℕ = pages_of_space head.spaces n in
      let bytes = disk.bytes (lane_disk is) in
      let there = formats.stands tells in
      let holds : HoldsState head.site n count (At 0 0) bytes = subst (λ (s : ℕ). HoldsState head.site s count (At 0 0) bytes) formats.made.space there.agrees.holds in
      ready (Chunk n) (lane_disk is) (formats.durable tells)
      (chunk_shows n bytes lt (place_shows head.site count [] [] 0 None n 0 0 (At 0 0) bytes refl holds there.settled
      (subst (λ (pages : List Page). Stand n 0 pages bytes) (sym (new_pages n count)) (formats.pages tells))))

  lanes_ready : IsTrue disk.is_modelled → (old new : List (Lane D)) → FirstFrom (FormatsLane disk era head) (length head.spaces) old new → (n : ℕ)
      → IfSome (option_map lane_disk (slice_get new n)) (IsReady disk era head (Chunk n))
  lanes_ready tells old new first n = elim (cases_lt n (length head.spaces)) [
    | inl less ↦ some_map lane_disk (IsReady disk era head (Chunk n)) (slice_get new n) (λ lane there.
        subst (λ (o : Option (Lane D)). IfSome o (λ l. IsReady disk era head (Chunk n) (lane_disk l))) there
        (both_now (FormatsLane disk era head n) (λ l. IsReady disk era head (Chunk n) (lane_disk l)) (slice_get old n) (slice_get new n)
        (λ a b is formats. lane_ready tells n less a b formats) (first.done n less)))
    | inr most ↦ some_map lane_disk (IsReady disk era head (Chunk n)) (slice_get new n) (λ lane there.
        record { now = no_space head n (disk.bytes (lane_disk lane)) most; later = λ f c lt image. no_space head n c most })
  ]

  -- all disks
  pub each_ready : IsTrue disk.is_modelled → (old new : Site D) → IsFormattedStore disk head new.store → IsDurable disk era new.store
      → ShowsNew head Boot (disk.bytes (boot_disk new.boot)) → OnlyAfter era.number (disk.bytes (boot_disk new.boot)) (disk.image (boot_disk new.boot))
      → ShowsNew head Log (disk.bytes (log_disk new.log)) → OnlyAfter era.number (disk.bytes (log_disk new.log)) (disk.image (log_disk new.log))
      → FirstFrom (FormatsLane disk era head) (length head.spaces) old.lanes.items new.lanes.items
      → (name : DiskName) → IfSome (disk_named new name) (IsReady disk era head name)
  each_ready tells old new store durable boot boot_only log log_only lanes Cat = record { now = tt; later = λ f c lt image. tt }
  each_ready tells old new store durable boot boot_only log log_only lanes Spare = ready Spare _ durable.spare store.spare
  each_ready tells old new store durable boot boot_only log log_only lanes Boot = ready Boot (boot_disk new.boot) boot_only boot
  each_ready tells old new store durable boot boot_only log log_only lanes Log = ready Log (log_disk new.log) log_only log
  each_ready tells old new store durable boot boot_only log log_only lanes (OfVolume n) =
      some_map volume_disk (IsReady disk era head (OfVolume n)) (slice_get new.store.volumes.items n)
      (λ volume there. ready (OfVolume n) (volume_disk volume) (durable.volumes n volume there) (λ le. record { header = store.volumes n volume there; objects = tt }))
  each_ready tells old new store durable boot boot_only log log_only lanes (Chunk n) = lanes_ready tells old.lanes.items new.lanes.items lanes n
