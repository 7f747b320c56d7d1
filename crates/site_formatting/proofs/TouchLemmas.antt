-- What the first era of a formatting does to the disks of a site.
use Rattle.std.proofs.Common.{◌≡◌, ◌≤◌, ◌∙◌, ℕ, List, length, IsTrue, Result, Some, refl, sym, ap, subst, arith}
use Rattle.std.specs.Prelude.{slice_get, Option, None, MatchResult}
use Rattle.std.specs.Option.{option_map}
use Rattle.std.specs.declared.vec.Vec.{Vec}
use Rattle.std.specs.declared.alloc.Global.{Global}
use Rattle.std.specs.Vec.{with_items}
use Rattle.object_store.proofs.ReturnLemmas.{get-within}
use Rattle.object_store.proofs.EndingLemmas.{written_back}
use Rattle.site_disk.specs.Causes.{Rose}
use Rattle.site_disk.specs.Images.{Leaves}
use Rattle.site_disk.specs.Ledger.{EraView, MayUse}
use Rattle.site_disk.specs.declared.disk.Disk.{Ghosts}
use Rattle.site_headers.specs.Heads.{Head}
use Rattle.site_headers.specs.Headers.{spare_tail, volume_tail}
use Rattle.catalogue_journal.specs.Catalogues.{cat_of, spare_of}
use Rattle.catalogue_journal.specs.Formats.{MayUnformat, MayFormat}
use Rattle.object_volume.specs.Headers.{MayFormat as MayFormatVolumeTo}
use Rattle.object_volume.specs.Volumes.{disk_of as volume_disk}
use Rattle.object_volume.specs.declared.volume.Volume.{Volume}
use Rattle.boot_file.specs.Boots.{disk_of as boot_disk}
use Rattle.logical_log.specs.Rings.{disk_of as log_disk}
use Rattle.space_lane.specs.Lanes.{disk_of as lane_disk}
use Rattle.space_lane.specs.declared.lane.Lane.{Lane}
use Rattle.store_opening.specs.Disks.{EachFrom, MayUseStore, UsesStore}
use Rattle.store_opening.specs.Formatting.{MayFormatVolume}
use Rattle.store_opening.proofs.StepLemmas.{either_of}
use Rattle.site_model.specs.declared.disk_name.DiskName.TheVariants.{Cat, Spare, Volume as OfVolume, Chunk}
use Rattle.site_core.specs.declared.faults.SiteFault.{SiteFault}
use Rattle.site_core.specs.declared.site.Site.{Site}
use Rattle.site_core.specs.Disks.{MayUseAll, may_or, faults_or}
use Rattle.site_core.specs.Made.{IsMadeAt}
use Rattle.site_formatting.specs.Steps.{Both, FirstFrom, OfEach, StopsAt}
use Rattle.site_formatting.specs.Disks.{EachDisk, Touches, UsesIn, writes_of}
use Rattle.site_formatting.specs.Faults.{HasCauseOn}
use Rattle.site_formatting.specs.Lanes.{FormatsLane, MissesLane}
use Rattle.site_formatting.proofs.StepLemmas.{both_same, each_both, each_now, first_each, stops_each, stops_count, stops_rest}
use Rattle.site_formatting.proofs.LaneLemmas.{lanes_made}
use Rattle.site_formatting.proofs.DiskLemmas.{each_disk, untouched, used_in}

module _ {D : Type 0} (disk : Ghosts D) (era : EraView) where
  pub lanes_may_of : (site : Site D) → MayUseAll disk era site → OfEach (λ place lane. MayUse era (disk.ledger (lane_disk lane))) site.lanes.items
  lanes_may_of site may place lane there = subst (λ (o : Option (Lane D)). may_or disk era (option_map lane_disk o)) there (may (Chunk place))

  pub store_may_of : (site : Site D) → MayUseAll disk era site → MayUseStore disk.ledger era site.store
  store_may_of site may = record {
    cat = may Cat;
    spare = may Spare;
    volumes = λ place volume there. subst (λ (o : Option (Volume D)). may_or disk era (option_map volume_disk o)) there (may (OfVolume place));
  }

  module _ (head : Head) where
    -- the lanes

    abbrev TouchedLanes : List (Lane D) → List (Lane D) → Type 0
    TouchedLanes old new = (n : ℕ) → Both (λ a b. Touches disk era head (Chunk n) (lane_disk a) (lane_disk b)) (slice_get old n) (slice_get new n)

    pub lanes_untouched : (lanes : List (Lane D)) → OfEach (λ place lane. MayUse era (disk.ledger (lane_disk lane))) lanes → TouchedLanes lanes lanes
    lanes_untouched lanes may n = both_same (λ a b. Touches disk era head (Chunk n) (lane_disk a) (lane_disk b)) (slice_get lanes n)
        (λ lane there. untouched disk era 2 (writes_of head (Chunk n)) (lane_disk lane) (may n lane there))

    module _ {T : Type 0} (old new : List (Lane D)) (result : Result T SiteFault)
        (is : MatchResult result (λ _. FirstFrom (FormatsLane disk era head) (length head.spaces) old new)
        (λ fault. StopsAt (FormatsLane disk era head) (λ place. MissesLane disk era head place fault) (length head.spaces) old new)) where
      pub lanes_touched : OfEach (λ place lane. MayUse era (disk.ledger (lane_disk lane))) old → TouchedLanes old new
      lanes_touched may = either_of result is
          (λ first. first_each (FormatsLane disk era head) (λ place (a b : Lane D). Touches disk era head (Chunk place) (lane_disk a) (lane_disk b)) (λ place a b by. by.touched)
          (length head.spaces) old new first same)
          (λ fault stops. stops_each (FormatsLane disk era head) (λ place (a b : Lane D). Touches disk era head (Chunk place) (lane_disk a) (lane_disk b)) (λ place a b by. by.touched)
          (λ place. MissesLane disk era head place fault) (length head.spaces) old new stops (λ place a b by. by.touched) same)
        where
          same : OfEach (λ place (lane : Lane D). Touches disk era head (Chunk place) (lane_disk lane) (lane_disk lane)) old
          same place lane there = untouched disk era 2 (writes_of head (Chunk place)) (lane_disk lane) (may place lane there)

      pub lanes_still_made : OfEach IsMadeAt old → OfEach IsMadeAt new
      lanes_still_made made = either_of result is
          (λ first. lanes_made disk era head (length head.spaces) old new first made)
          (λ fault stops. each_now (λ place (a b : Lane D). IsMadeAt place a → IsMadeAt place b) IsMadeAt old new
          (stops_each (FormatsLane disk era head) (λ place (a b : Lane D). IsMadeAt place a → IsMadeAt place b) (λ place a b by was. by.made)
          (λ place. MissesLane disk era head place fault) (length head.spaces) old new stops (λ place a b by was. by.made) (λ place x there was. was))
          (λ place a b there by. by (made place a there)))

      pub lanes_count : length new ≡ length old
      lanes_count = either_of result is (λ first. first.count)
          (λ fault stops. stops_count (FormatsLane disk era head) (λ place. MissesLane disk era head place fault) (length head.spaces) old new stops)

      pub lanes_rest : (n : ℕ) → length head.spaces ≤ n → slice_get new n ≡ slice_get old n
      lanes_rest n le = either_of result is (λ first. first.rest n le)
          (λ fault stops. stops_rest (FormatsLane disk era head) (λ place. MissesLane disk era head place fault) (length head.spaces) old new stops n le)

    -- as the lanes were lent, and written back
    pub lanes_back : {T : Type 0} (v : Vec (Lane D) Global) (slice new : List (Lane D)) (result : Result T SiteFault) (n : ℕ) → slice ≡ v.items → n ≡ length head.spaces
        → MatchResult result (λ _. FirstFrom (FormatsLane disk era head) n slice new)
        (λ fault. StopsAt (FormatsLane disk era head) (λ place. MissesLane disk era head place fault) n slice new)
        → MatchResult result (λ _. FirstFrom (FormatsLane disk era head) (length head.spaces) v.items (with_items v new).items)
        (λ fault. StopsAt (FormatsLane disk era head) (λ place. MissesLane disk era head place fault) (length head.spaces) v.items (with_items v new).items)
    lanes_back {T} v slice new result n lent same is =
        subst (λ (l : List (Lane D)). Gone v.items l) (sym (written_back v new (lanes_count slice new result counted ∙ ap length lent)))
        (subst (λ (l : List (Lane D)). Gone l new) lent counted)
      where
        Gone : List (Lane D) → List (Lane D) → Type 0
        Gone was now = MatchResult result (λ _. FirstFrom (FormatsLane disk era head) (length head.spaces) was now)
            (λ fault. StopsAt (FormatsLane disk era head) (λ place. MissesLane disk era head place fault) (length head.spaces) was now)

        counted : Gone slice new
        counted = subst (λ (k : ℕ). MatchResult result (λ _. FirstFrom (FormatsLane disk era head) k slice new)
            (λ fault. StopsAt (FormatsLane disk era head) (λ place. MissesLane disk era head place fault) k slice new)) same is

    -- all disks
    pub touched : (old new : Site D)
        → (IsTrue disk.is_modelled → Leaves era.number MayUnformat (disk.image (cat_of old.store.cat)) (disk.image (cat_of new.store.cat)))
        → (IsTrue disk.is_modelled → Leaves era.number (MayFormat (spare_tail head.site)) (disk.image (spare_of old.store.cat)) (disk.image (spare_of new.store.cat)))
        → EachFrom (λ place was is. MayFormatVolume disk era place head.site head.blocks (volume_disk was) (volume_disk is)) old.store.volumes.items new.store.volumes.items
        → UsesStore disk.ledger era 1 78849 1 77826 1 4098 old.store new.store
        → UsesIn disk era 1 82946 (boot_disk old.boot) (boot_disk new.boot) → UsesIn disk era 1 248834 (log_disk old.log) (log_disk new.log)
        → TouchedLanes old.lanes.items new.lanes.items → EachDisk (Touches disk era head) old new
    touched old new cat spare volumes uses boot log lanes =
        each_disk (Touches disk era head) old new
        (used_in disk MayUnformat era 1 78849 (cat_of old.store.cat) (cat_of new.store.cat) cat uses.cat)
        (used_in disk (MayFormat (spare_tail head.site)) era 1 77826 (spare_of old.store.cat) (spare_of new.store.cat) spare uses.spare)
        (each_both (λ n (a b : Volume D). Touches disk era head (OfVolume n) (volume_disk a) (volume_disk b)) old.store.volumes.items new.store.volumes.items
        (record {
          count = volumes.count;
          each = λ place was is there behind. used_in disk (MayFormatVolumeTo (volume_tail place head.site head.blocks)) era 1 4098 (volume_disk was) (volume_disk is)
              (volumes.each place was is there behind) (uses.volumes.each place was is there behind);
        }))
        boot log lanes

    -- the failure of a chunk
    pub lane_cause : (old new : Site D) (fault : SiteFault) → length head.spaces ≤ length old.lanes.items
        → StopsAt (FormatsLane disk era head) (λ place. MissesLane disk era head place fault) (length head.spaces) old.lanes.items new.lanes.items → HasCauseOn disk old new fault
    lane_cause old new fault room stops =
        by (slice_get old.lanes.items stops.number) (slice_get new.lanes.items stops.number) refl refl
        (subst (λ (o : Option (Lane D)). Both (MissesLane disk era head stops.number fault) o (slice_get new.lanes.items stops.number)) (stops.first.rest stops.number (omega arith)) stops.one.here)
      where
        faults_of : Option (Lane D) → ℕ
        faults_of o = faults_or disk (option_map lane_disk o)

        by : (x y : Option (Lane D)) → slice_get old.lanes.items stops.number ≡ x → slice_get new.lanes.items stops.number ≡ y → Both (MissesLane disk era head stops.number fault) x y
            → HasCauseOn disk old new fault
        by None y none there misses =
            let found = get-within old.lanes.items stops.number (omega (arith, room, stops.within)) in
            absurd (let e : None ≡ Some found.0 = sym none ∙ found.1 in cc)
        by (Some a) None was none misses = absurd misses
        by (Some a) (Some b) was is misses =
            subst (HasCauseOn disk old new) (sym misses.own)
            (subst (λ (o : Option (Lane D)). Rose (faults_of o) (faults_of (slice_get new.lanes.items stops.number))) (sym was)
            (subst (λ (o : Option (Lane D)). Rose (disk.ledger (lane_disk a)).faults (faults_of o)) (sym is) misses.rose))
